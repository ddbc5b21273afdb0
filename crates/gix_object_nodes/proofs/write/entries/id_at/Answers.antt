use Rattle.gix_object_nodes.proofs.WrittenEntries.{id_read}
use Rattle.gix_object_nodes.proofs.write.entries.id_at.Goals as goal

pub returns : goal.returns
returns c = id_read c.args.ids.now c.args.tree.0
