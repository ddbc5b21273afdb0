use Rattle.gix_hash.specs.Id.{id_of}
use Rattle.gix_hash.proofs.ReadBack.{read_id}
use Rattle.gix_hash.proofs.laws.ids.text_of_id_is_read.Goals as goal

pub returns : goal.returns
returns c = read_id c.args.text.now (id_of c.args.id.now) c.from_hex.result c.requires c.from_hex.ensures
