use Rattle.std.proofs.Common.{◌∷◌, take, map, Ok}
use Rattle.gix_object_commit.specs.OwnedText.{own_digits}
use Rattle.gix_object_commit.specs.Writing.{tree_piece, parent_piece}
use Rattle.gix_object_lines.specs.Pieces.{WritesPieces}
use Rattle.gix_object_commit.proofs.commit.write_owned.write_own_id_lines.Given as goal

abbrev pub invariant-loop-parent : goal.invariant-loop-parent
invariant-loop-parent g l = WritesPieces {U = Unit {0}} (g.W.Write.contents l.fn.out) (g.W.Write.contents l.out) (tree_piece l.tree ∷ map (parent_piece l.tree) (map own_digits (take l.parent-index l.parents))) (Ok tt)
