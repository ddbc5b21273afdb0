-- Which bytes a decimal number has.
use Rattle.std.proofs.Common.{ℕ, ◌+◌, ◌%◌, ◌<◌, ◌^◌, [], ◌∷◌, ◌||◌, false, ap, ◌∙◌, arith}
use Rattle.std.specs.Prelude.{◌==◌, decimal}
use Rattle.std.specs.List.{list_any}
use Rattle.std.proofs.lemmas.Bool.{ne_eqb}
use Rattle.std.proofs.lemmas.Fmt.{decimal_by_steps}
use Rattle.std.proofs.lemmas.List.Folds.{list_any-append}
use Rattle.gix_object_lines.specs.Bytes.{Lacks}

one_digit : (byte d : ℕ) → byte < 48 → Lacks byte ((48 + d) ∷ [])
one_digit byte d low = ap (λ b. b || false) (ne_eqb (48 + d) byte (λ is. omega arith))

-- no byte below `0`, as a space or a zero byte
pub decimal_lacks : (byte n : ℕ) → byte < 48 → n < 2 ^ 64 → Lacks byte (decimal n)
decimal_lacks byte n low fits = decimal_by_steps (λ m ds. Lacks byte ds) (λ m below. one_digit byte m low)
    (λ m ds above lacks. list_any-append (λ other. other == byte) ds ((48 + m % 10) ∷ []) ∙ ap (λ b. b || list_any (λ other. other == byte) ((48 + m % 10) ∷ [])) lacks ∙ one_digit byte (m % 10) low)
    n fits
