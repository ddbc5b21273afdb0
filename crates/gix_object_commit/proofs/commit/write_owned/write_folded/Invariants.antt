use Rattle.std.proofs.Common.{ℕ, List, [], ◌∷◌, ◌≡◌, ◌++◌, length, Ok}
use Rattle.gix_object_commit.specs.Commit.{folded}
use Rattle.gix_object_commit.specs.OwnedText.{text_piece}
use Rattle.gix_object_lines.specs.Pieces.{WritesPieces}
use Rattle.gix_object_commit.proofs.commit.write_owned.write_folded.Given as goal

abbrev pub invariant-lines : goal.invariant-lines
invariant-lines g l = (done : List ℕ) × (done ++ folded l.rest ≡ folded l.fn.value) × WritesPieces {U = Unit {0}} (g.W.Write.contents l.fn.out) (g.W.Write.contents l.out) (text_piece done ∷ []) (Ok tt)

abbrev pub decreases-lines : goal.decreases-lines
decreases-lines g l = length l.rest
