use Rattle.std.proofs.Common.{[], ◌∷◌, ◌<◌, length, arith}
use Rattle.bstr.specs.declared.bstr.BStr.{BStr}
use Rattle.bstr.specs.BStr.{bstr_bytes}
use Rattle.gix_object_commit.specs.Writing.{tree_piece, parent_piece}
use Rattle.gix_object_lines.proofs.Pieces.{loop_less}
use Rattle.gix_object_commit.proofs.commit.write.add_id_lines.Goals as goal

pub returns-in_err-total-2 : goal.returns-in_err-total-2
returns-in_err-total-2 c =
    let below : c.loop-parent.parent-index < length c.args.parents.now = omega arith in
    let none : BStr = record { bytes = record { ref_ptr = (0, 0); now = [] } } in
    rw c.from_residual-in_err-total-2.ensures (omega (arith, loop_less (tree_piece c.args.tree.now ∷ []) (parent_piece c.args.tree.now) bstr_bytes c.args.parents.now c.loop-parent.parent-index none below, c.loop-parent.invariant, c.in_err-total-2.ensures))
