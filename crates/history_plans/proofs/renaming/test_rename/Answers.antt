use Rattle.std.proofs.Common.{◌≡◌, [], ◌∷◌, ◌∙◌, ap, cond, None, Some, subst, sym, Err, is_some, option_map, true}
use Rattle.std.proofs.lemmas.Result.{err_from_is_err_and}
use Rattle.gix_hash.specs.Id.{id_of}
use Rattle.history_model.specs.Bytes.{Bytes}
use Rattle.history_model.specs.Repository.{id_at}
use Rattle.history_model.specs.declared.Cause.TheVariants.{Collides}
use Rattle.history_store.specs.AllNames.{TellsMeeting}
use Rattle.history_repository.specs.Face.{names_part}
use Rattle.history_plans.specs.Moving.{names_cause}
use Rattle.history_plans.proofs.PlaceLemmas.{collision_told}
use Rattle.history_plans.proofs.RenameCauses.{are_named, by_missing, by_names, by_place, by_taken, free_told, held_at, refusal_told, stands_told}
use Rattle.history_plans.proofs.renaming.test_rename.Goals as goal

pub returns-in_err-test_both : goal.returns-in_err-test_both
returns-in_err-test_both g c = λ r from to h is.
    let cause = c.in_err-test_both.field-0.0 in
    let stopped = err_from_is_err_and c.from_residual.result c.from_residual.ensures.1 in
    let named : names_cause (from ∷ to ∷ []) ≡ Some cause = (λ i. names_cause (sym (c.deref.ensures.value ∙ is.from_is) i ∷ sym (c.deref-2.ensures.value ∙ is.to_is) i ∷ [])) ∙ c.in_err-test_both.ensures in
    refusal_told g.F.Files.reading_may_fail r from to c.from_residual.result cause (stopped.1 ∙ ap Err stopped.2) (by_names r from to cause named)

pub returns-in_default : goal.returns-in_default
returns-in_default g c = λ r from to h is.
    let named : names_cause (from ∷ to ∷ []) ≡ None = (λ i. names_cause (sym (c.deref.ensures.value ∙ is.from_is) i ∷ sym (c.deref-2.ensures.value ∙ is.to_is) i ∷ [])) ∙ c.in_ok-test_both.ensures in
    let are = are_named r from to named in
    let old = held_at g.F.Files.is_honest g.F.Files.history c.args.repository.now r h from c.deref-3.result.now (c.deref-3.ensures.value ∙ is.from_is) are.0 c.in_ok-id.field-0 (c.in_ok-id.ensures.found h.honest_names h.records) in
    by_missing r from to named (old ∙ ap (option_map id_of) c.in_default.is)

pub returns-then-is_some : goal.returns-then-is_some
returns-then-is_some g c = λ r from to h is.
    let named : names_cause (from ∷ to ∷ []) ≡ None = (λ i. names_cause (sym (c.deref.ensures.value ∙ is.from_is) i ∷ sym (c.deref-2.ensures.value ∙ is.to_is) i ∷ [])) ∙ c.in_ok-test_both.ensures in
    let are = are_named r from to named in
    let old = held_at g.F.Files.is_honest g.F.Files.history c.args.repository.now r h from c.deref-3.result.now (c.deref-3.ensures.value ∙ is.from_is) are.0 c.in_ok-id.field-0 (c.in_ok-id.ensures.found h.honest_names h.records) in
    let there : is_some (id_at r from) ≡ true = ap is_some (old ∙ ap (option_map id_of) c.in-Some.is) in
    let new = held_at g.F.Files.is_honest g.F.Files.history c.args.repository.now r h to c.deref-4.result.now (c.deref-4.ensures.value ∙ is.to_is) are.1 c.in_ok-find.field-0 (c.in_ok-find.ensures.found h.honest_names h.records) in
    by_taken r from to named there (stands_told _ c.in_ok-find.field-0 new (sym c.is_some.ensures ∙ c.if-is_some.true))

pub returns-then-branch : goal.returns-then-branch
returns-then-branch g c = λ r from to h is.
    let named : names_cause (from ∷ to ∷ []) ≡ None = (λ i. names_cause (sym (c.deref.ensures.value ∙ is.from_is) i ∷ sym (c.deref-2.ensures.value ∙ is.to_is) i ∷ [])) ∙ c.in_ok-test_both.ensures in
    let are = are_named r from to named in
    let old = held_at g.F.Files.is_honest g.F.Files.history c.args.repository.now r h from c.deref-3.result.now (c.deref-3.ensures.value ∙ is.from_is) are.0 c.in_ok-id.field-0 (c.in_ok-id.ensures.found h.honest_names h.records) in
    let there : is_some (id_at r from) ≡ true = ap is_some (old ∙ ap (option_map id_of) c.in-Some.is) in
    let new = held_at g.F.Files.is_honest g.F.Files.history c.args.repository.now r h to c.deref-4.result.now (c.deref-4.ensures.value ∙ is.to_is) are.1 c.in_ok-find.field-0 (c.in_ok-find.ensures.found h.honest_names h.records) in
    let free = free_told _ c.in_ok-find.field-0 new (sym c.is_some.ensures ∙ c.if-is_some.false) in
    let place : c.deref-5.result.now ≡ to = c.deref-5.ensures.value ∙ is.to_is in
    let found = c.in_ok-collides_any.ensures.found h.honest_names h.records in
    let told = collision_told g.F.Files.is_honest g.F.Files.history c.args.repository.now r h to are.1 c.in_ok-collides_any.field-0
    (subst (λ (n : Bytes). TellsMeeting c.args.repository.now.names.kind n (g.F.Files.history (names_part c.args.repository.now)).tree c.in_ok-collides_any.field-0) place found) in
    let first = by_place r from to named there free c.in_ok-collides_any.field-0 told in
    first ∙ ap (λ b. cond b (Some Collides) None) c.if-branch.true

pub returns : goal.returns
returns g c = λ r from to h is.
    let named : names_cause (from ∷ to ∷ []) ≡ None = (λ i. names_cause (sym (c.deref.ensures.value ∙ is.from_is) i ∷ sym (c.deref-2.ensures.value ∙ is.to_is) i ∷ [])) ∙ c.in_ok-test_both.ensures in
    let are = are_named r from to named in
    let old = held_at g.F.Files.is_honest g.F.Files.history c.args.repository.now r h from c.deref-3.result.now (c.deref-3.ensures.value ∙ is.from_is) are.0 c.in_ok-id.field-0 (c.in_ok-id.ensures.found h.honest_names h.records) in
    let there : is_some (id_at r from) ≡ true = ap is_some (old ∙ ap (option_map id_of) c.in-Some.is) in
    let new = held_at g.F.Files.is_honest g.F.Files.history c.args.repository.now r h to c.deref-4.result.now (c.deref-4.ensures.value ∙ is.to_is) are.1 c.in_ok-find.field-0 (c.in_ok-find.ensures.found h.honest_names h.records) in
    let free = free_told _ c.in_ok-find.field-0 new (sym c.is_some.ensures ∙ c.if-is_some.false) in
    let place : c.deref-5.result.now ≡ to = c.deref-5.ensures.value ∙ is.to_is in
    let found = c.in_ok-collides_any.ensures.found h.honest_names h.records in
    let told = collision_told g.F.Files.is_honest g.F.Files.history c.args.repository.now r h to are.1 c.in_ok-collides_any.field-0
    (subst (λ (n : Bytes). TellsMeeting c.args.repository.now.names.kind n (g.F.Files.history (names_part c.args.repository.now)).tree c.in_ok-collides_any.field-0) place found) in
    let first = by_place r from to named there free c.in_ok-collides_any.field-0 told in
    (first ∙ ap (λ b. cond b (Some Collides) None) c.if-branch.false, old ∙ ap (option_map id_of) c.in-Some.is)
