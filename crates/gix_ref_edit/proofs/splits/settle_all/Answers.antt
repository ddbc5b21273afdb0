use Rattle.std.proofs.Common.{◌≡◌, ◌<◌, ◌∙◌, sym, ap, length, get_or, set, take, arith, add-one, length-set, false}
use Rattle.gix_ref_edit.specs.Splits.{settled_by, settled_as}
use Rattle.gix_ref_edit.proofs.SplitLemmas.{settled_more, settled_whole}
use Rattle.gix_ref_edit.proofs.splits.settle_all.Goals as goal

pub loop-i-preserved : goal.loop-i-preserved
loop-i-preserved c =
    let i = c.loop-i.i in
    let marks = c.args.marks.now in
    let edits = c.args.edits.now.items in
    let d = c.index_mut-edit.result.now in
    let inside : i < length marks = omega arith in
    let within : i < length edits = omega arith in
    let edit : c.settle.new.edit ≡ settled_as (get_or marks i false) (get_or (settled_by (take i marks) edits) i d) =
    c.settle.ensures ∙ ap (settled_as (get_or marks i false)) (c.index_mut-edit.ensures.value ∙ ap (λ l. get_or l i d) c.loop-i.invariant.0) in (
      (λ j. set (c.loop-i.invariant.0 j) i (edit j)) ∙ sym (ap (λ n. settled_by (take n marks) edits) (add-one i) ∙ settled_more marks edits i d inside within),
      length-set c.loop-i.edits.items i c.settle.new.edit ∙ c.loop-i.invariant.1,
    )

pub returns : goal.returns
returns c =
    c.loop-i.invariant.0 ∙ settled_whole c.args.marks.now c.args.edits.now.items c.loop-i.i (omega arith)
