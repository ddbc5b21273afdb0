use Rattle.std.proofs.Common.{◌∙◌, ap, sym, bytes_eq, true, false}
use Rattle.std.proofs.lemmas.Bool.Decides.{Decides-eqb}
use Rattle.std.proofs.lemmas.Slice.Eq.{slice_eq-Decides}
use Rattle.history_model.proofs.PlaceLemmas.{text_itself, texts_apart}
use Rattle.history_plans.proofs.SwitchCauses.{name_refused, same_refused, none_refused}
use Rattle.history_plans.proofs.switching.test_switch.Goals as goal

pub returns-then-not-is_branch : goal.returns-then-not-is_branch
returns-then-not-is_branch g c = λ r h. name_refused r c.args.name.now (sym c.is_branch.ensures ∙ c.if-not-is_branch.true)

pub returns-then-eq : goal.returns-then-eq
returns-then-eq g c = λ r h.
    let same = (slice_eq-Decides Decides-eqb _ _ _ c.eq.ensures).0 c.if-eq.true ∙ c.as_slice.ensures.value ∙ h.branch in
    same_refused r c.args.name.now (sym c.is_branch.ensures ∙ c.if-not-is_branch.false) (ap (bytes_eq c.args.name.now) (sym same) ∙ text_itself c.args.name.now)

pub returns : goal.returns
returns g c = λ r h.
    none_refused r c.args.name.now (sym c.is_branch.ensures ∙ c.if-not-is_branch.false)
    (texts_apart c.args.name.now r.branch (λ same. absurd (cc ((slice_eq-Decides Decides-eqb _ _ _ c.eq.ensures).1 (same ∙ sym h.branch ∙ sym c.as_slice.ensures.value), c.if-eq.false))))
