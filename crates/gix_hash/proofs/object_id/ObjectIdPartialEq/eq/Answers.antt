use Rattle.gix_hash.proofs.ByteLists.{ids-Decides}
use Rattle.gix_hash.proofs.object_id.ObjectIdPartialEq.eq.Goals as goal

pub returns : goal.returns
returns c = ids-Decides _ _ _ _ c.eq.result c.as_slice.ensures c.as_slice-2.ensures c.eq.ensures
