use Rattle.std.proofs.Common.{◌∙◌, ap, map, subst, sym, Err}
use Rattle.std.specs.List.{flat_map, list_any}
use Rattle.std.proofs.lemmas.Result.{err_from_is_err_and}
use Rattle.history_repository.specs.Meanings.{words_cause, meaning_of}
use Rattle.history_plans.specs.Moving.{AreLines, PlansMoves, is_there, line_meanings, lines_cause, names_cause, to_name, TestsNames}
use Rattle.history_plans.proofs.LineLemmas.{all_named, by_held, by_teller, by_there, by_words, each_named, names_planned, fault_planned, held_told, name_of, names_sent, names_told, none_told, places_planned, refusal_planned, there_told, words_told}
use Rattle.history_repository.proofs.ReadingFaults.{gave_fault}
use Rattle.history_plans.proofs.moving.plan_moves.Goals as goal

pub returns-in_err-test_names : goal.returns-in_err-test_names
returns-in_err-test_names g c = λ r sent h is.
    let told = names_sent c.args.command.to.items sent.to is.to in
    let stopped = err_from_is_err_and c.from_residual.result c.from_residual.ensures.1 in
    names_planned r sent g.F.Files.reading_may_fail c.test_names.result c.from_residual.result c.in_err-test_names.field-0.0 c.in_err-test_names.was (stopped.1 ∙ ap Err stopped.2)
    (subst (λ names. TestsNames names c.test_names.result) (ap (map to_name) c.deref.ensures.value ∙ told) c.test_names.ensures)

pub returns-in_err-lines : goal.returns-in_err-lines
returns-in_err-lines g c = λ r sent h is.
    let names = names_told r sent ∙ ap names_cause (sym (names_sent c.args.command.to.items sent.to is.to)) ∙ ap (λ tos. names_cause (map to_name tos)) (sym c.deref.ensures.value) ∙ c.in_ok-test_names.ensures in
    let named = each_named sent.to (all_named (map name_of sent.to) (sym (names_told r sent) ∙ names)) in
    let stopped = err_from_is_err_and c.from_residual-in_err-lines.result c.from_residual-in_err-lines.ensures.1 in
    subst (PlansMoves g.F.Files.reading_may_fail r sent) (sym (stopped.1 ∙ ap Err stopped.2)) (fault_planned g.F.Files.reading_may_fail r sent c.in_err-lines.field-0.0
    (gave_fault g.F.Files.reading_may_fail (λ lines. AreLines r sent.to lines.items) c.read_lines.result c.in_err-lines.field-0.0 c.in_err-lines.was (c.read_lines.ensures r sent.to h is.to)))

pub returns-in_err-meanings_in : goal.returns-in_err-meanings_in
returns-in_err-meanings_in g c = λ r sent h is.
    let stopped = err_from_is_err_and c.from_residual-in_err-meanings_in.result c.from_residual-in_err-meanings_in.ensures.1 in
    subst (PlansMoves g.F.Files.reading_may_fail r sent) (sym (stopped.1 ∙ ap Err stopped.2)) tt

pub returns-in_err-test_words : goal.returns-in_err-test_words
returns-in_err-test_words g c = λ r sent h is.
    let w = h.whole.whole.names in
    let names = names_told r sent ∙ ap names_cause (sym (names_sent c.args.command.to.items sent.to is.to)) ∙ ap (λ tos. names_cause (map to_name tos)) (sym c.deref.ensures.value) ∙ c.in_ok-test_names.ensures in
    let named = each_named sent.to (all_named (map name_of sent.to) (sym (names_told r sent) ∙ names)) in
    let lines = c.in_ok-lines.ensures r sent.to h is.to in
    let words = words_told r sent c.in_ok-lines.lines.items lines ∙ ap words_cause (sym (ap (map meaning_of) c.deref-3.ensures.value ∙ c.in_ok-meanings_in.ensures ∙ ap (flat_map line_meanings) c.deref-2.ensures.value)) in
    let stopped = err_from_is_err_and c.from_residual-in_err-test_words.result c.from_residual-in_err-test_words.ensures.1 in
    refusal_planned g.F.Files.reading_may_fail r sent c.from_residual-in_err-test_words.result c.in_err-test_words.field-0.0 (stopped.1 ∙ ap Err stopped.2) (by_words r sent names c.in_err-test_words.field-0.0 (words ∙ c.in_err-test_words.ensures))

pub returns-in_err-test_held : goal.returns-in_err-test_held
returns-in_err-test_held g c = λ r sent h is.
    let w = h.whole.whole.names in
    let names = names_told r sent ∙ ap names_cause (sym (names_sent c.args.command.to.items sent.to is.to)) ∙ ap (λ tos. names_cause (map to_name tos)) (sym c.deref.ensures.value) ∙ c.in_ok-test_names.ensures in
    let named = each_named sent.to (all_named (map name_of sent.to) (sym (names_told r sent) ∙ names)) in
    let lines = c.in_ok-lines.ensures r sent.to h is.to in
    let words = words_told r sent c.in_ok-lines.lines.items lines ∙ ap words_cause (sym (ap (map meaning_of) c.deref-3.ensures.value ∙ c.in_ok-meanings_in.ensures ∙ ap (flat_map line_meanings) c.deref-2.ensures.value)) ∙ c.in_ok-test_words.ensures in
    let held = held_told r sent c.in_ok-lines.lines.items lines ∙ ap lines_cause (sym c.deref-4.ensures.value) in
    let stopped = err_from_is_err_and c.from_residual-in_err-test_held.result c.from_residual-in_err-test_held.ensures.1 in
    refusal_planned g.F.Files.reading_may_fail r sent c.from_residual-in_err-test_held.result c.in_err-test_held.field-0.0 (stopped.1 ∙ ap Err stopped.2) (by_held r sent names words c.in_err-test_held.field-0.0 (held ∙ c.in_err-test_held.ensures))

pub returns-in_err-test_places : goal.returns-in_err-test_places
returns-in_err-test_places g c = λ r sent h is.
    let w = h.whole.whole.names in
    let names = names_told r sent ∙ ap names_cause (sym (names_sent c.args.command.to.items sent.to is.to)) ∙ ap (λ tos. names_cause (map to_name tos)) (sym c.deref.ensures.value) ∙ c.in_ok-test_names.ensures in
    let named = each_named sent.to (all_named (map name_of sent.to) (sym (names_told r sent) ∙ names)) in
    let lines = c.in_ok-lines.ensures r sent.to h is.to in
    let words = words_told r sent c.in_ok-lines.lines.items lines ∙ ap words_cause (sym (ap (map meaning_of) c.deref-3.ensures.value ∙ c.in_ok-meanings_in.ensures ∙ ap (flat_map line_meanings) c.deref-2.ensures.value)) ∙ c.in_ok-test_words.ensures in
    let held = held_told r sent c.in_ok-lines.lines.items lines ∙ ap lines_cause (sym c.deref-4.ensures.value) ∙ c.in_ok-test_held.ensures in
    let stopped = err_from_is_err_and c.from_residual-in_err-test_places.result c.from_residual-in_err-test_places.ensures.1 in
    places_planned r sent names words held g.F.Files.reading_may_fail c.test_places.result c.from_residual-in_err-test_places.result c.in_err-test_places.field-0.0 c.in_err-test_places.was (stopped.1 ∙ ap Err stopped.2)
    (c.test_places.ensures r sent h (subst (λ ls. AreLines r sent.to ls) (sym c.deref-5.ensures.value) lines) named)

pub returns-in_err-actor : goal.returns-in_err-actor
returns-in_err-actor g c = λ r sent h is.
    let w = h.whole.whole.names in
    let names = names_told r sent ∙ ap names_cause (sym (names_sent c.args.command.to.items sent.to is.to)) ∙ ap (λ tos. names_cause (map to_name tos)) (sym c.deref.ensures.value) ∙ c.in_ok-test_names.ensures in
    let named = each_named sent.to (all_named (map name_of sent.to) (sym (names_told r sent) ∙ names)) in
    let lines = c.in_ok-lines.ensures r sent.to h is.to in
    let words = words_told r sent c.in_ok-lines.lines.items lines ∙ ap words_cause (sym (ap (map meaning_of) c.deref-3.ensures.value ∙ c.in_ok-meanings_in.ensures ∙ ap (flat_map line_meanings) c.deref-2.ensures.value)) ∙ c.in_ok-test_words.ensures in
    let held = held_told r sent c.in_ok-lines.lines.items lines ∙ ap lines_cause (sym c.deref-4.ensures.value) ∙ c.in_ok-test_held.ensures in
    let places = (c.in_ok-test_places.ensures r sent h (subst (λ ls. AreLines r sent.to ls) (sym c.deref-5.ensures.value) lines) named).0 in
    let stopped = err_from_is_err_and c.from_residual-in_err-actor.result c.from_residual-in_err-actor.ensures.1 in
    refusal_planned g.F.Files.reading_may_fail r sent c.from_residual-in_err-actor.result c.in_err-actor.field-0.0 (stopped.1 ∙ ap Err stopped.2)
    (by_teller r sent names words held places c.in_err-actor.field-0.0 (c.in_err-actor.ensures r sent is.actor is.message))

pub returns-then-have_there : goal.returns-then-have_there
returns-then-have_there g c = λ r sent h is.
    let w = h.whole.whole.names in
    let names = names_told r sent ∙ ap names_cause (sym (names_sent c.args.command.to.items sent.to is.to)) ∙ ap (λ tos. names_cause (map to_name tos)) (sym c.deref.ensures.value) ∙ c.in_ok-test_names.ensures in
    let named = each_named sent.to (all_named (map name_of sent.to) (sym (names_told r sent) ∙ names)) in
    let lines = c.in_ok-lines.ensures r sent.to h is.to in
    let words = words_told r sent c.in_ok-lines.lines.items lines ∙ ap words_cause (sym (ap (map meaning_of) c.deref-3.ensures.value ∙ c.in_ok-meanings_in.ensures ∙ ap (flat_map line_meanings) c.deref-2.ensures.value)) ∙ c.in_ok-test_words.ensures in
    let held = held_told r sent c.in_ok-lines.lines.items lines ∙ ap lines_cause (sym c.deref-4.ensures.value) ∙ c.in_ok-test_held.ensures in
    let places = (c.in_ok-test_places.ensures r sent h (subst (λ ls. AreLines r sent.to ls) (sym c.deref-5.ensures.value) lines) named).0 in
    let teller = c.in_ok-actor.ensures r sent is.actor is.message in
    by_there r sent names words held places teller.0 (there_told r sent.to c.in_ok-lines.lines.items lines ∙ sym (c.have_there.ensures ∙ ap (list_any is_there) c.deref-6.ensures.value) ∙ c.if-have_there.true)

pub returns-in_err-moves_of : goal.returns-in_err-moves_of
returns-in_err-moves_of g c = λ r sent h is.
    let stopped = err_from_is_err_and c.from_residual-in_err-moves_of.result c.from_residual-in_err-moves_of.ensures.1 in
    subst (PlansMoves g.F.Files.reading_may_fail r sent) (sym (stopped.1 ∙ ap Err stopped.2)) tt

pub returns : goal.returns
returns g c = λ r sent h is.
    let w = h.whole.whole.names in
    let names = names_told r sent ∙ ap names_cause (sym (names_sent c.args.command.to.items sent.to is.to)) ∙ ap (λ tos. names_cause (map to_name tos)) (sym c.deref.ensures.value) ∙ c.in_ok-test_names.ensures in
    let named = each_named sent.to (all_named (map name_of sent.to) (sym (names_told r sent) ∙ names)) in
    let lines = c.in_ok-lines.ensures r sent.to h is.to in
    let words = words_told r sent c.in_ok-lines.lines.items lines ∙ ap words_cause (sym (ap (map meaning_of) c.deref-3.ensures.value ∙ c.in_ok-meanings_in.ensures ∙ ap (flat_map line_meanings) c.deref-2.ensures.value)) ∙ c.in_ok-test_words.ensures in
    let held = held_told r sent c.in_ok-lines.lines.items lines ∙ ap lines_cause (sym c.deref-4.ensures.value) ∙ c.in_ok-test_held.ensures in
    let places = (c.in_ok-test_places.ensures r sent h (subst (λ ls. AreLines r sent.to ls) (sym c.deref-5.ensures.value) lines) named).0 in
    let teller = c.in_ok-actor.ensures r sent is.actor is.message in
    let moving = there_told r sent.to c.in_ok-lines.lines.items lines ∙ sym (c.have_there.ensures ∙ ap (list_any is_there) c.deref-6.ensures.value) ∙ c.if-have_there.false in (
      none_told r sent names words held places teller.0 moving,
      c.in_ok-moves_of.ensures r sent lines (c.kind.ensures ∙ h.names_kind) (record { actor_is = teller.1.actor_is; message_is = c.kept-message.ensures ∙ teller.1.message_is }),
    )
