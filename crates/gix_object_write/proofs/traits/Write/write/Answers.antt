use Rattle.std.proofs.Common.{◌∙◌, ap, ◌++◌, Some}
use Rattle.gix_object_write.proofs.Kept.{keeps_too, unwritten}
use Rattle.gix_object_write.proofs.traits.Write.write.Goals as goal

pub returns-in-Ok-clause-kept : goal.returns-in-Ok-clause-kept
returns-in-Ok-clause-kept g c =
    let content = g.T.WriteTo.text c.args.object.now in
    let text = c.as_slice.ensures.value ∙ c.in-Ok.ensures.1 ∙ ap (λ front. front ++ content) c.new-content.ensures.items in
    keeps_too _ _ _ _ _ _ _ c.write_buf.result (rw (text, c.kind.ensures) at c.write_buf.ensures.kept)

pub returns-clause-kept : goal.returns-clause-kept
returns-clause-kept g c =
    let before = Some c.new-content.result.items in
    let after = Some c.write_to.new.out.items in
    rw c.unwritten.ensures (unwritten (Unit {0}) _ _ _ _ _ before after _ _ c.in-Err.error c.in-Err.ensures)
