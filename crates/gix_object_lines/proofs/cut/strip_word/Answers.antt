use Rattle.std.proofs.Common.{◌≡◌, ◌∙◌, ap, sym, ◌++◌, ◌∷◌, Some, None, Option, Bor, List, ℕ}
use Rattle.std.specs.Prelude.{◌≢◌, MatchOption}
use Rattle.std.proofs.lemmas.List.{append_cancel_left}
use Rattle.gix_object_lines.proofs.cut.strip_word.Goals as goal

pub returns-in_err-rest : goal.returns-in_err-rest
returns-in_err-rest c = rw c.from_residual.ensures (λ rest is. c.in_err-rest.ensures (32 ∷ rest) is)

-- what follows the word, and then the space
stripped_both : (input word middle : List ℕ) (r : Option (Bor (List ℕ))) → input ≡ word ++ middle → MatchOption r ((rest : List ℕ) → middle ≢ 32 ∷ rest) (λ x. middle ≡ 32 ∷ x.now)
    → MatchOption r ((rest : List ℕ) → input ≢ word ++ 32 ∷ rest) (λ x. input ≡ word ++ 32 ∷ x.now)
stripped_both input word middle None front h = λ rest is. h rest (append_cancel_left word middle (32 ∷ rest) (sym front ∙ is))
stripped_both input word middle (Some x) front h = front ∙ ap (λ m. word ++ m) h

pub returns : goal.returns
returns c = stripped_both c.args.bytes.now c.args.word.now c.in_ok-rest.rest.now c.strip_prefix-2.result c.in_ok-rest.ensures c.strip_prefix-2.ensures
