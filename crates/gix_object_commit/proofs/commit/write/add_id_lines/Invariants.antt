use Rattle.std.proofs.Common.{◌≡◌, ◌+◌, ◌∷◌, length, take, map}
use Rattle.bstr.specs.BStr.{bstr_bytes}
use Rattle.gix_object_commit.specs.Writing.{tree_piece, parent_piece}
use Rattle.gix_object_lines.specs.Pieces.{pieces_text}
use Rattle.gix_object_commit.proofs.commit.write.add_id_lines.Given as goal

abbrev pub invariant-loop-parent : goal.invariant-loop-parent
invariant-loop-parent l = l.total ≡ l.before + length (pieces_text (tree_piece l.tree ∷ map (parent_piece l.tree) (map bstr_bytes (take l.parent-index l.parents))))
