use Rattle.std.proofs.Common.{◌≡◌, ◌∙◌, refl, subst, sym, ◌≤◌, ◌==◌, false, true, length, [], ◌∷◌, is_some}
use Rattle.std.specs.Prelude.{IsFalse, IsTrue, MatchOption, Option, None, Some}
use Rattle.std.proofs.lemmas.Result.{IfOk-weaker}
use Rattle.history_model.specs.Bytes.{Bytes, is_empty}
use Rattle.history_model.specs.Forms.{is_actor, max_title}
use Rattle.history_model.specs.Objects.{Actor, actor_text}
use Rattle.history_texts.specs.Formats.{actor_of}
use Rattle.history_texts.specs.declared.actor.Actor as actors
use Rattle.history_texts.proofs.written.tags.TagTexts.are_written.Goals as goal

actor_there : (None_so : Type 0) (text : Bytes) (found : Option actors.Actor) → MatchOption found None_so (λ actor. (text ≡ actor_text (actor_of actor)) × IsTrue (is_actor (actor_of actor))) → is_some found ≡ true
    → (actor : Actor) × IsTrue (is_actor actor) × (text ≡ actor_text actor)
actor_there none_so text None told some = cc
actor_there none_so text (Some actor) told some = (actor_of actor, told.1, told.0)

some_byte : (text : Bytes) → (length text == 0) ≡ false → IsFalse (is_empty text)
some_byte [] h = cc
some_byte (b ∷ text) h = refl

pub returns : goal.returns
returns c =
    let tagger = actor_there _ _ c.in_ok-parse.field-0 c.in_ok-parse.ensures (cc (c.is_none.ensures, c.if-is_none.false)) in
    let titled = subst (λ t. length t ≤ max_title) c.title.ensures c.if-title-gt-MAX_TITLE.false in
    IfOk-weaker c.is_tag_name.result _ _ (λ are is. (
      λ h. record { actor = tagger.0; actor_is = tagger.1; tagger = tagger.2; name = sym is ∙ h; some = some_byte _ (sym c.is_empty.ensures ∙ c.if-is_empty.false); titled = titled },
      λ parts. is ∙ parts.name,
    )) c.is_tag_name.ensures
