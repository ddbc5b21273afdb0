use Rattle.std.proofs.Common.{[], ◌∷◌, ◌<◌, length, arith}
use Rattle.gix_hash.specs.declared.object_id.ObjectId.{ObjectId}
use Rattle.gix_hash.specs.declared.object_id.ObjectId.TheVariants.{Sha1}
use Rattle.gix_object_commit.specs.OwnedText.{own_digits}
use Rattle.gix_object_commit.specs.Writing.{tree_piece, parent_piece}
use Rattle.gix_object_lines.proofs.Pieces.{loop_less}
use Rattle.gix_object_commit.proofs.commit.write_owned.add_own_id_lines.Goals as goal

pub returns-in_err-total-2 : goal.returns-in_err-total-2
returns-in_err-total-2 c =
    let below : c.loop-parent.parent-index < length c.args.parents.now = omega arith in
    let none : ObjectId = Sha1 [] in
    rw c.from_residual-in_err-total-2.ensures (omega (arith, loop_less (tree_piece c.args.tree.now ∷ []) (parent_piece c.args.tree.now) own_digits c.args.parents.now c.loop-parent.parent-index none below, c.loop-parent.invariant, c.in_err-total-2.ensures))
