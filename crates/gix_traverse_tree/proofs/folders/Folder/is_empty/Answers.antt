use Rattle.gix_traverse_tree.proofs.Numbering.{tells_empty}
use Rattle.gix_traverse_tree.proofs.folders.Folder.is_empty.Goals as goal

pub returns : goal.returns
returns c = tells_empty c.args.self.now.names.entries c.is_empty.result c.is_empty.ensures
