use Rattle.std.proofs.Common.{◌≡◌, ◌∙◌, ap, sym, subst, ℕ, ◌∷◌, [], List, get_or, drop}
use Rattle.std.specs.Prelude.{◌==◌}
use Rattle.std.specs.Int.{w64}
use Rattle.std.specs.Str.{IsUtf8}
use Rattle.std.specs.Str.Parse.{ParsesSigned}
use Rattle.std.proofs.lemmas.Bool.Decides.{Decides-eqb}
use Rattle.std.proofs.lemmas.Slice.Eq.{starts_is}
use Rattle.gix_object_lines.specs.Time.{SpellsSeconds}
use Rattle.gix_object_lines.proofs.Refusals.{is_text, is_no_text}
use Rattle.gix_object_lines.proofs.SecondsLemmas.{seconds_no_plus, seconds_parsed, seconds_some, seconds_text}
use Rattle.gix_object_lines.proofs.lines.digits.read_seconds.Goals as goal

pub returns-then-starts_with : goal.returns-then-starts_with
returns-then-starts_with c z fits spells =
    let plus = starts_is {E = λ (x : ℕ) (y : ℕ). x == y} Decides-eqb c.args.text.now (43 ∷ []) c.starts_with.result c.starts_with.ensures.value in
    seconds_no_plus (drop 1 c.args.text.now) z (subst (λ t. SpellsSeconds t z) (plus.0 c.if-starts_with.true) spells)

pub returns-in_err-ok : goal.returns-in_err-ok
returns-in_err-ok c = rw c.from_residual.ensures (λ z fits spells.
    is_no_text c.from_utf8.result _ (IsUtf8 c.args.text.now) _ (sym c.ok.ensures.value ∙ c.in_err-ok.was) c.from_utf8.ensures.cases (seconds_text c.args.text.now z spells))

plus_first : (text : List ℕ) → get_or text 0 0 ≡ 43 → text ≡ 43 ∷ drop 1 text
plus_first [] e = cc
plus_first (b ∷ text) e = ap (λ x. x ∷ text) e

pub returns : goal.returns
returns c =
    let text = is_text c.from_utf8.result c.in_ok-ok.field-0 c.args.text.now _ _ (sym c.ok.ensures.value ∙ c.in_ok-ok.was) c.from_utf8.ensures.cases in
    let plus = starts_is {E = λ (x : ℕ) (y : ℕ). x == y} Decides-eqb c.args.text.now (43 ∷ []) c.starts_with.result c.starts_with.ensures.value in
    seconds_some c.args.text.now c.parse.result c.ok-2.result c.ok-2.ensures.value
    (seconds_parsed c.args.text.now c.parse.result (subst (λ t. ParsesSigned w64 10 t c.parse.result) text c.parse.ensures.value.0) (λ e. cc (plus.1 (drop 1 c.args.text.now) (plus_first c.args.text.now e), c.if-starts_with.false)))
