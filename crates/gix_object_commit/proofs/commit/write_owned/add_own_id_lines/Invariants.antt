use Rattle.std.proofs.Common.{◌≡◌, ◌+◌, ◌∷◌, length, take, map}
use Rattle.gix_object_commit.specs.OwnedText.{own_digits}
use Rattle.gix_object_commit.specs.Writing.{tree_piece, parent_piece}
use Rattle.gix_object_lines.specs.Pieces.{pieces_text}
use Rattle.gix_object_commit.proofs.commit.write_owned.add_own_id_lines.Given as goal

abbrev pub invariant-loop-parent : goal.invariant-loop-parent
invariant-loop-parent l = l.total ≡ l.before + length (pieces_text (tree_piece l.tree ∷ map (parent_piece l.tree) (map own_digits (take l.parent-index l.parents))))
