use Rattle.std.proofs.Common.{◌≡◌, ◌≤◌, true, List, [], ◌∷◌, ℕ, length, arith}
use Rattle.std.specs.Prelude.{IsSome, nat_le}
use Rattle.std.specs.List.{list_all, slice_split}
use Rattle.std.proofs.lemmas.Bool.Decides.{nat_tests}
use Rattle.gix_ref_file.specs.Tree.{Tree, node_at, is_slash, is_component, IsRooted}
use Rattle.gix_ref_file.proofs.Rooted.{first}
use Rattle.gix_ref_file.proofs.laws.paths_are_short.Goals as goal

short : (tree : Tree) (path : List ℕ) → IsRooted tree → IsSome (node_at tree path) → length path ≤ 4096
short tree [] rooted there = omega arith
short tree (b ∷ path) rooted there = let is : nat_le (length (b ∷ path)) 4096 ≡ true = first _ (list_all is_component (slice_split is_slash (b ∷ path))) (rooted (b ∷ path) there).0 in grind (arith, nat_tests)

pub returns : goal.returns
returns c = short
