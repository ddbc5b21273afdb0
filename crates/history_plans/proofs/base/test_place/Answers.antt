use Rattle.std.proofs.Common.{sym, ◌∙◌, ap, subst, Err, true, false, Option, None, Some}
use Rattle.std.proofs.lemmas.Result.{err_from_is_err_and}
use Rattle.std.specs.Prelude.{⊤}
use Rattle.history_model.specs.Bytes.{Bytes}
use Rattle.history_model.specs.Forms.{is_name}
use Rattle.history_model.specs.Meaning.{branch_or_name}
use Rattle.history_store.specs.AllNames.{TellsMeeting}
use Rattle.history_plans.specs.CommitCauses.{place_causes}
use Rattle.history_repository.specs.Face.{names_part}
use Rattle.history_repository.specs.Held.{IsHeld}
use Rattle.history_repository.specs.declared.held.Held.{Held}
use Rattle.history_plans.proofs.BaseLemmas.{file_told}
use Rattle.history_plans.proofs.Collisions.{standing_free, place_told}
use Rattle.history_repository.proofs.HeldLemmas.{held_stands, tag_told, untagged}
use Rattle.history_plans.proofs.PlaceLemmas.{place_collides}
use Rattle.history_plans.proofs.base.test_place.Goals as goal

pub returns-then-is_tag : goal.returns-then-is_tag
returns-then-is_tag g c = λ r sent stand named formed held_is.
    let name = branch_or_name r sent.name in
    let held = subst (λ (o : Option Held). IsHeld r name o) c.in-Some.is held_is in
    place_told r sent false true (standing_free r name (held_stands r name (Some c.in-Some.held) held)) (tag_told r stand.whole.whole.store name c.in-Some.held held ∙ sym c.is_tag.ensures ∙ c.if-is_tag.true)

pub returns-in-Some : goal.returns-in-Some
returns-in-Some g c = λ r sent stand named formed held_is.
    let name = branch_or_name r sent.name in
    let held = subst (λ (o : Option Held). IsHeld r name o) c.in-Some.is held_is in
    (place_told r sent false false (standing_free r name (held_stands r name (Some c.in-Some.held) held)) (tag_told r stand.whole.whole.store name c.in-Some.held held ∙ sym c.is_tag.ensures ∙ c.if-is_tag.false), tt)

pub returns-in_err-collides_any : goal.returns-in_err-collides_any
returns-in_err-collides_any g c = λ r sent stand named formed held_is.
    let stopped = err_from_is_err_and c.from_residual.result c.from_residual.ensures.1 in
    file_told g.F.Files.reading_may_fail place_causes r sent (λ done. ⊤) c.collides_any.result c.from_residual.result c.in_err-collides_any.field-0.0 c.in_err-collides_any.was (stopped.1 ∙ ap Err stopped.2) c.collides_any.ensures.failed

pub returns-then-branch : goal.returns-then-branch
returns-then-branch g c = λ r sent stand named formed held_is.
    let name = branch_or_name r sent.name in
    let none = subst (λ (o : Option Held). IsHeld r name o) c.in_default.is held_is in
    let tree = (g.F.Files.history (names_part c.args.repository.now)).tree in
    let found = c.in_ok-collides_any.ensures.found stand.honest_names stand.records in
    let told = subst (λ b. TellsMeeting c.args.repository.now.names.kind name tree b) c.if-branch.true (subst (λ (n : Bytes). TellsMeeting c.args.repository.now.names.kind n tree c.in_ok-collides_any.field-0) named found) in
    place_told r sent true false (place_collides g.F.Files.is_honest g.F.Files.history c.args.repository.now r stand name (ap is_name (sym named) ∙ formed) (held_stands r name None none) true told) (untagged r name none)

pub returns : goal.returns
returns g c = λ r sent stand named formed held_is.
    let name = branch_or_name r sent.name in
    let none = subst (λ (o : Option Held). IsHeld r name o) c.in_default.is held_is in
    let tree = (g.F.Files.history (names_part c.args.repository.now)).tree in
    let found = c.in_ok-collides_any.ensures.found stand.honest_names stand.records in
    let told = subst (λ b. TellsMeeting c.args.repository.now.names.kind name tree b) c.if-branch.false (subst (λ (n : Bytes). TellsMeeting c.args.repository.now.names.kind n tree c.in_ok-collides_any.field-0) named found) in
    (place_told r sent false false (place_collides g.F.Files.is_honest g.F.Files.history c.args.repository.now r stand name (ap is_name (sym named) ∙ formed) (held_stands r name None none) false told) (untagged r name none), tt)
