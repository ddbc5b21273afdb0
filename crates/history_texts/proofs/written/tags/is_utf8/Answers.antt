use Rattle.std.proofs.Common.{◌≡◌, ◌∙◌, sym, refl, Bool, true, false, ℕ, List, is_ok}
use Rattle.std.specs.Prelude.{MatchResult, Result, Ok, Err}
use Rattle.std.specs.Str.{is_utf8, IsUtf8}
use Rattle.std.proofs.lemmas.Str.{IsUtf8-from_is_utf8, is_utf8-from_IsUtf8}
use Rattle.history_texts.proofs.written.tags.is_utf8.Goals as goal

told : {S E : Type 0} (P : S → Type 0) (Q : E → Type 0) (text : List ℕ) (r : Result S E) → MatchResult r (λ s. P s × IsUtf8 text) (λ e. (¬ IsUtf8 text) × Q e) → is_ok r ≡ is_utf8 text
told P Q text (Ok s) h = sym (is_utf8-from_IsUtf8 text h.1)
told P Q text (Err e) h = sym (by_test (is_utf8 text) refl)
  where
    by_test : (b : Bool) → is_utf8 text ≡ b → b ≡ false
    by_test true is = absurd (h.0 (IsUtf8-from_is_utf8 text is))
    by_test false is = refl

pub returns : goal.returns
returns c = c.is_ok.ensures.value ∙ told _ _ c.args.text.now c.from_utf8.result c.from_utf8.ensures.cases
