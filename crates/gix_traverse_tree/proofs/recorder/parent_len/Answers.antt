use Rattle.gix_traverse_tree.proofs.Paths.{parent_taken, parent_untaken}
use Rattle.gix_traverse_tree.proofs.recorder.parent_len.Goals as goal

pub returns-in-Some : goal.returns-in-Some
returns-in-Some c = parent_taken _ _ _ c.in-Some.ensures.0 c.in-Some.ensures.1

pub returns-in-None : goal.returns-in-None
returns-in-None c = parent_untaken c.args.path.now c.in-None.ensures
