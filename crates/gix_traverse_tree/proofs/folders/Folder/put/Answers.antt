use Rattle.gix_traverse_tree.proofs.Numbering.{others_kept}
use Rattle.gix_traverse_tree.proofs.folders.Folder.put.Goals as goal

pub returns-clause-others : goal.returns-clause-others
returns-clause-others c = λ other ne. others_kept c.args.name.now other c.args.self.now.names.entries c.insert.new.self.entries c.in_ok-insert.ensures.updates.3 ne
