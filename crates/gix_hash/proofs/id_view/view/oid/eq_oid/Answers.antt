use Rattle.gix_hash.proofs.ByteLists.{viewed-Decides}
use Rattle.gix_hash.proofs.id_view.view.oid.eq_oid.Goals as goal

pub returns : goal.returns
returns c = viewed-Decides c.args.self.now.bytes.now c.args.other.bytes.now c.eq.result c.eq.ensures
