use Rattle.std.proofs.Common.{◌∙◌, ap, sym, refl, ◌∷◌, ◌++◌}
use Rattle.std.proofs.lemmas.Bool.{false≢true}
use Rattle.gix_object_lines.specs.HexLine.{is_id}
use Rattle.gix_object_lines.proofs.Cuts.{cut_once}
use Rattle.gix_object_lines.proofs.CutLemmas.{lacks_it}
use Rattle.gix_object_lines.proofs.HexDigits.{id_lacks}
use Rattle.gix_ref_log.proofs.line.decode.cut_ids.Goals.{else-is_id-via-then-is_id+else-is_id-2, else-is_id-via-else-is_id}
use Rattle.gix_ref_log.proofs.line.decode.cut_ids.Goals as goal

pub returns-in_err-after : goal.returns-in_err-after
returns-in_err-after c = rw c.from_residual-in_err-after.ensures (λ b a x is.
    let first = cut_once 32 _ _ b (a ++ 32 ∷ x) c.in_ok-before.ensures.1 (id_lacks 32 b refl is.before_is_id) (sym c.in_ok-before.ensures.0 ∙ is.spelled) in
    lacks_it 32 _ a x first.1 c.in_err-after.ensures)

pub returns-else-is_id : goal.returns-else-is_id
returns-else-is_id c = λ b a x is.
    let first = cut_once 32 _ _ b (a ++ 32 ∷ x) c.in_ok-before.ensures.1 (id_lacks 32 b refl is.before_is_id) (sym c.in_ok-before.ensures.0 ∙ is.spelled) in
    let second = cut_once 32 _ _ a x c.in_ok-after.ensures.1 (id_lacks 32 a refl is.after_is_id) (sym c.in_ok-after.ensures.0 ∙ first.1) in
    elim c.else-is_id.branch [
      | else-is_id-via-then-is_id+else-is_id-2 w ↦ false≢true (sym w.if-is_id-2.false ∙ w.is_id-then-is_id.ensures ∙ ap is_id second.0 ∙ is.after_is_id)
      | else-is_id-via-else-is_id w ↦ false≢true (sym w.if-is_id.false ∙ c.is_id.ensures ∙ ap is_id first.0 ∙ is.before_is_id)
    ]
