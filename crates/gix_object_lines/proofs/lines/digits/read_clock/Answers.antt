use Rattle.std.proofs.Common.{◌≡◌, ◌∙◌, ap, arith, ℕ, [], ◌∷◌, ◌++◌}
use Rattle.std.proofs.lemmas.Int.{ints}
use Rattle.gix_object_lines.specs.Time.{two_digits}
use Rattle.gix_object_lines.proofs.lines.digits.read_clock.Goals as goal

front_half : (a b c d h m : ℕ) → a ∷ b ∷ c ∷ d ∷ [] ≡ two_digits h ++ two_digits m → a ∷ b ∷ [] ≡ two_digits h
front_half a b c d h m e = cc

back_half : (a b c d h m : ℕ) → a ∷ b ∷ c ∷ d ∷ [] ≡ two_digits h ++ two_digits m → c ∷ d ∷ [] ≡ two_digits m
back_half a b c d h m e = cc

joined : (a b c d h m : ℕ) → a ∷ b ∷ [] ≡ two_digits h → c ∷ d ∷ [] ≡ two_digits m → a ∷ b ∷ c ∷ d ∷ [] ≡ two_digits h ++ two_digits m
joined a b c d h m e f = ap (λ t. t ++ (c ∷ d ∷ [])) e ∙ ap (λ t. two_digits h ++ t) f

pub returns-in_err-hours : goal.returns-in_err-hours
returns-in_err-hours c = rw c.from_residual.ensures (λ h m hl ml e. c.in_err-hours.ensures h hl (front_half _ _ _ _ h m e))

pub returns-in_err-minutes : goal.returns-in_err-minutes
returns-in_err-minutes c = rw c.from_residual-in_err-minutes.ensures (λ h m hl ml e. c.in_err-minutes.ensures m ml (back_half _ _ _ _ h m e))

pub returns : goal.returns
returns c = record {
  hours = c.in_ok-hours.hours;
  minutes = c.in_ok-minutes.minutes;
  hours_low = c.in_ok-hours.ensures.0;
  minutes_low = c.in_ok-minutes.ensures.0;
  spelled = joined c.args.a c.args.b c.args.c c.args.d _ _ c.in_ok-hours.ensures.1 c.in_ok-minutes.ensures.1;
  amount_is = let h = c.in_ok-hours.ensures.0 in omega (arith, ints, h);
}
