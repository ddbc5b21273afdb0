use Rattle.std.proofs.Common.{◌≡◌, sym, subst, ℕ, List, [], ◌∷◌, ◌++◌, false, Option, None, Some, Result, Ok, Err}
use Rattle.std.specs.Prelude.{codes}
use Rattle.std.proofs.lemmas.Result.{err_from_is_err_and}
use Rattle.gix_object_lines.specs.Actor.{IsSpellable, actor_text}
use Rattle.gix_object_lines.specs.Writes.{Writes}
use Rattle.gix_object_lines.specs.declared.lines.actor.Actor.{Actor}
use Rattle.gix_object_lines.specs.declared.write.Error.{Error}
use Rattle.gix_object_tag.specs.OwnedText.{own_tagger, is_bad_actor}
use Rattle.gix_object_tag.specs.TagText.{tagger_line, tagger_refusal}
use Rattle.gix_object_tag.proofs.ActorLines.{from_line, same_text}
use Rattle.gix_object_tag.proofs.PieceLemmas.{first_stops, then_writes}
use Rattle.gix_object_tag.proofs.tag.write_owned.write_own_tagger.Goals as goal

abbrev line_of : Actor → List ℕ
line_of actor = codes "tagger " ++ (actor_text actor.name actor.email actor.time ++ 10 ∷ [])

-- the three parts are the line, and it isn't refused
whole : (tagger : Option Actor) (actor : Actor) (a b : Option (List ℕ)) (result : Result (Unit {0}) Error) → tagger ≡ Some actor → is_bad_actor (Some actor) ≡ false
    → Writes {U = Unit {0}} a b (line_of actor) None result → Writes {U = Unit {0}} a b (tagger_line (own_tagger tagger)) (tagger_refusal (is_bad_actor tagger)) result
whole tagger actor a b result is good h =
    rw is (subst (λ bad. Writes {U = Unit {0}} a b (tagger_line (own_tagger (Some actor))) (tagger_refusal bad) result) (sym good)
    (subst (λ t. Writes {U = Unit {0}} a b (codes "tagger " ++ (t ++ 10 ∷ [])) None result) (same_text actor.name actor.email actor.time) h))

pub returns-in_err-write_all : goal.returns-in_err-write_all
returns-in_err-write_all g c =
    let actor = c.in-Some.actor in
    let told = c.is_spellable.ensures.yes c.if-not-is_spellable.false in
    let p = err_from_is_err_and c.from_residual.result c.from_residual.ensures.1 in
    rw (p.1, p.2) (whole c.args.tagger.now actor _ _ (Err c.in_err-write_all.field-0.0) c.in-Some.is told.0
    (first_stops _ _ (codes "tagger ") None (actor_text actor.name actor.email actor.time ++ 10 ∷ []) None c.in_err-write_all.field-0.0 c.in_err-write_all.ensures))

pub returns-in_err-write_actor : goal.returns-in_err-write_actor
returns-in_err-write_actor g c =
    let actor = c.in-Some.actor in
    let told = c.is_spellable.ensures.yes c.if-not-is_spellable.false in
    let p = err_from_is_err_and c.from_residual-in_err-write_actor.result c.from_residual-in_err-write_actor.ensures.1 in
    let text = actor_text actor.name actor.email actor.time in
    let e = c.in_err-write_actor.field-0.0 in
    rw (p.1, p.2) (whole c.args.tagger.now actor _ _ (Err e) c.in-Some.is told.0
    (then_writes _ _ _ (codes "tagger ") None (text ++ 10 ∷ []) None tt (Err e) c.in_ok-write_all.ensures
    (first_stops _ _ text None (10 ∷ []) None e (from_line (IsSpellable actor.name actor.email actor.time) _ _ text (Err e) told.1 c.in_err-write_actor.ensures.written))))

pub returns : goal.returns
returns g c =
    let actor = c.in-Some.actor in
    let told = c.is_spellable.ensures.yes c.if-not-is_spellable.false in
    let text = actor_text actor.name actor.email actor.time in
    whole c.args.tagger.now actor _ _ c.write_all-2.result c.in-Some.is told.0
    (then_writes _ _ _ (codes "tagger ") None (text ++ 10 ∷ []) None tt c.write_all-2.result c.in_ok-write_all.ensures
    (then_writes _ _ _ text None (10 ∷ []) None tt c.write_all-2.result (from_line (IsSpellable actor.name actor.email actor.time) _ _ text (Ok tt) told.1 c.in_ok-write_actor.ensures.written) c.write_all-2.ensures))
