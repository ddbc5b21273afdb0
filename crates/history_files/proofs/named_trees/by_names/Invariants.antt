use Rattle.std.proofs.Common.{Option, take}
use Rattle.gix_hash.specs.Id.{Id}
use Rattle.history_model.specs.Bytes.{Bytes}
use Rattle.history_files.specs.NamedTrees.{AreAt}
use Rattle.history_files.proofs.NamesKept.{SoFar}
use Rattle.history_files.proofs.named_trees.by_names.Given as goal

-- what is under the names so far is kept
abbrev pub invariant-names : goal.invariant-names
invariant-names l = (at : Bytes → Option (Bytes × Id)) → AreAt at l.names l.found → SoFar at (take l.place l.names) l.named
