use Rattle.std.proofs.Common.{[], ◌∷◌, ◌<◌, length, map, arith}
use Rattle.std.proofs.lemmas.Result.{err_from_is_err_and}
use Rattle.gix_object_commit.specs.OwnedText.{own_digits}
use Rattle.gix_object_commit.specs.Writing.{tree_piece, parent_piece}
use Rattle.gix_object_lines.proofs.Pieces.{loop_stop, loop_more, pieces_stop}
use Rattle.gix_object_commit.proofs.commit.write_owned.write_own_id_lines.Goals as goal

pub returns-in_err-write_tree : goal.returns-in_err-write_tree
returns-in_err-write_tree g c =
    let p = err_from_is_err_and c.from_residual.result c.from_residual.ensures.1 in
    rw (p.1, p.2) (pieces_stop _ _ (tree_piece c.args.tree.now ∷ []) (map (parent_piece c.args.tree.now) (map own_digits c.args.parents.now)) c.in_err-write_tree.field-0.0 c.in_err-write_tree.ensures)

pub returns-in_err-write_own_parent : goal.returns-in_err-write_own_parent
returns-in_err-write_own_parent g c =
    let p = err_from_is_err_and c.from_residual-in_err-write_own_parent.result c.from_residual-in_err-write_own_parent.ensures.1 in
    let below : c.loop-parent.parent-index < length c.args.parents.now = omega arith in
    rw (p.1, p.2) (loop_stop (tree_piece c.args.tree.now ∷ []) (parent_piece c.args.tree.now) own_digits c.args.parents.now c.loop-parent.parent-index _ below _ _ _ c.in_err-write_own_parent.field-0.0 c.loop-parent.invariant c.in_err-write_own_parent.ensures)

pub loop-parent-preserved : goal.loop-parent-preserved
loop-parent-preserved g c =
    let below : c.loop-parent.parent-index < length c.args.parents.now = omega arith in
    loop_more (tree_piece c.args.tree.now ∷ []) (parent_piece c.args.tree.now) own_digits c.args.parents.now c.loop-parent.parent-index _ below _ _ _ c.loop-parent.invariant c.in_ok-write_own_parent.ensures
