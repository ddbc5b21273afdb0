use Rattle.std.proofs.Common.{sym, ◌∙◌, ap, Err, bytes_eq}
use Rattle.std.proofs.lemmas.Bool.Decides.{Decides-eqb}
use Rattle.std.proofs.lemmas.Result.{err_from_is_err_and}
use Rattle.std.proofs.lemmas.Slice.Eq.{slice_eq-Decides}
use Rattle.history_model.specs.Forms.{is_name}
use Rattle.history_model.specs.Words.{head_word}
use Rattle.history_model.proofs.PlaceLemmas.{text_itself, texts_apart}
use Rattle.history_plans.specs.CommitCauses.{IsNamed, name_form_causes}
use Rattle.history_repository.specs.NameForms.{form_cause}
use Rattle.history_repository.specs.declared.stopped.Stopped.TheVariants.{Refused}
use Rattle.history_plans.proofs.NamesTold.{head_named, other_named, head_means, other_means, branch_formed}
use Rattle.history_repository.proofs.NamesFormed.{formed_of}
use Rattle.history_plans.proofs.Tested.{ends_told}
use Rattle.history_model.specs.Commands.{Commit}
use Rattle.history_plans.proofs.base.name_of.Goals as goal

pub returns-then-eq : goal.returns-then-eq
returns-then-eq g c = λ r sent stand named.
    let head = (slice_eq-Decides Decides-eqb c.args.name.now head_word c.eq.result c.eq.ensures).0 c.if-eq.true in
    let e = ap (λ w. bytes_eq w head_word) (sym named ∙ head) ∙ text_itself head_word in
    let is = c.in_ok-from_slice.ensures.items ∙ c.deref.ensures.value ∙ stand.branch in
    (head_named r sent e, record { named = is ∙ sym (head_means r sent e); formed = ap is_name is ∙ branch_formed r stand.whole.written })

pub returns-in_err-test_name : goal.returns-in_err-test_name
returns-in_err-test_name g c = λ r sent stand named.
    let other = texts_apart c.args.name.now head_word (λ same. absurd (cc ((slice_eq-Decides Decides-eqb c.args.name.now head_word c.eq.result c.eq.ensures).1 same, c.if-eq.false))) in
    let e = ap (λ w. bytes_eq w head_word) (sym named) ∙ other in
    let stopped = err_from_is_err_and c.from_residual-in_err-test_name.result c.from_residual-in_err-test_name.ensures.1 in
    ends_told g.F.Files.reading_may_fail r (Commit sent) name_form_causes (IsNamed r sent) c.from_residual-in_err-test_name.result (Refused c.in_err-test_name.field-0.0) (stopped.1 ∙ ap Err stopped.2)
    (other_named r sent e ∙ ap form_cause (sym named) ∙ c.in_err-test_name.ensures)

pub returns : goal.returns
returns g c = λ r sent stand named.
    let other = texts_apart c.args.name.now head_word (λ same. absurd (cc ((slice_eq-Decides Decides-eqb c.args.name.now head_word c.eq.result c.eq.ensures).1 same, c.if-eq.false))) in
    let e = ap (λ w. bytes_eq w head_word) (sym named) ∙ other in
    let is = c.in_ok-from_slice-2.ensures.items ∙ named in
    (other_named r sent e ∙ ap form_cause (sym named) ∙ c.in_ok-test_name.ensures, record { named = is ∙ sym (other_means r sent e); formed = ap is_name c.in_ok-from_slice-2.ensures.items ∙ formed_of c.args.name.now c.in_ok-test_name.ensures })
