use Rattle.std.proofs.Common.{◌∙◌, sym, ap, subst}
use Rattle.history_model.specs.Bytes.{Bytes}
use Rattle.history_model.specs.Commands.{Past}
use Rattle.history_model.specs.Repository.{moves_at}
use Rattle.history_model.proofs.WholeForms.{moves_formed}
use Rattle.history_store.specs.Packing.{NameReads}
use Rattle.history_repository.specs.NameForms.{form_cause}
use Rattle.history_repository.specs.Face.{names_part}
use Rattle.history_queries.proofs.Answered.{handed_on}
use Rattle.history_repository.proofs.NamesFormed.{formed_of}
use Rattle.history_queries.proofs.PastLemmas.{absent_refused, form_refused, past_answered}
use Rattle.history_repository.proofs.WordReads.{name_stands}
use Rattle.history_queries.proofs.pasts.past.Goals as goal

pub returns-in_err-test_name : goal.returns-in_err-test_name
returns-in_err-test_name g c = λ r s.
    let asked = c.deref.ensures.value ∙ c.in_ok-name.ensures r s in
    handed_on g.F.Files.reading_may_fail r (Past c.args.word.now) c.from_residual-in_err-test_name.result _ c.from_residual-in_err-test_name.ensures.1
    (form_refused r s.whole.written c.args.word.now c.deref.result.now asked c.in_err-test_name.field-0.0 c.in_err-test_name.ensures)

pub returns-then-is_none : goal.returns-then-is_none
returns-then-is_none g c = λ r s.
    let asked = c.deref-2.ensures.value ∙ c.in_ok-name.ensures r s in
    let formed = ap form_cause (c.deref-2.ensures.value ∙ sym c.deref.ensures.value) ∙ c.in_ok-test_name.ensures in
    let there = name_stands g.F.Files.is_honest g.F.Files.history c.args.repository.now r s c.deref-2.result.now (formed_of c.deref-2.result.now formed) c.in_ok-find.field-0 (c.in_ok-find.ensures.found s.honest_names s.records) in
    absent_refused r s.whole.written c.args.word.now c.deref-2.result.now asked formed (there ∙ c.if-is_none.ensures)

pub returns : goal.returns
returns g c = λ r s.
    let name = c.deref-3.result.now in
    let asked = c.deref-3.ensures.value ∙ c.in_ok-name.ensures r s in
    let formed = ap form_cause (c.deref-3.ensures.value ∙ sym c.deref.ensures.value) ∙ c.in_ok-test_name.ensures in
    let holds = subst (λ (n : Bytes). NameReads c.args.repository.now.names.kind (g.F.Files.history (names_part c.args.repository.now)).tree n c.in_ok-find.field-0) (c.deref-2.ensures.value ∙ sym c.deref-3.ensures.value) (c.in_ok-find.ensures.found s.honest_names s.records) in
    let there = name_stands g.F.Files.is_honest g.F.Files.history c.args.repository.now r s name (formed_of name formed) c.in_ok-find.field-0 holds in
    let is_log = c.deref-4.ensures.value ∙ c.in_ok-log.ensures.found s.honest_names ∙ s.whole.stands.logs name in
    past_answered r s.whole.written c.args.word.now name asked g.F.Files.reading_may_fail c.in_ok-past_text.field-0 formed (there ∙ c.if-is_none.ensures)
    (c.in_ok-past_text.ensures r.kind (moves_at r name) (moves_formed r s.whole.written name) is_log)
