use Rattle.history_files.proofs.TreesKept.{one_kept}
use Rattle.history_files.proofs.read_trees.ReadTrees.keep.Goals as goal

pub returns : goal.returns
returns c = λ table kept stands. one_kept table c.args.self.now.contents c.insert.new.self c.args.id c.args.content c.in_ok-insert.ensures.updates stands kept
