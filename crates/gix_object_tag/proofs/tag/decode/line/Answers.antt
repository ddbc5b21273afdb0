use Rattle.std.proofs.Common.{◌≡◌, ◌∙◌, sym, ◌++◌, ◌∷◌, Ok, Err, Result, Option, Some, None, List, ℕ, Bor}
use Rattle.std.specs.Prelude.{IsOkAnd, MatchOption}
use Rattle.std.specs.Result.{result_ok}
use Rattle.gix_object_lines.specs.Bytes.{Lacks}
use Rattle.std.proofs.lemmas.List.{append_cancel_left}
use Rattle.gix_object_lines.proofs.CutLemmas.{lacks_it}
use Rattle.gix_object_tag.specs.Tag.{IsLine}
use Rattle.gix_object_tag.proofs.TagLemmas.{one_line}
use Rattle.gix_object_tag.proofs.tag.decode.line.Goals as goal

every : {E : Type 0} (word input rest : List ℕ) (cut : Option (Bor (List ℕ) × Bor (List ℕ))) (result : Result (Bor (List ℕ) × Bor (List ℕ)) E) → input ≡ word ++ rest → cut ≡ result_ok result
    → MatchOption cut (Lacks 10 rest) (λ cut. (rest ≡ cut.0.now ++ 10 ∷ cut.1.now) × Lacks 10 cut.0.now)
    → (value after : List ℕ) → IsLine word input value after → IsOkAnd result (λ cut. (cut.0.now ≡ value) × (cut.1.now ≡ after))
every word input rest None (Ok x) is same h value after line = absurd cc
every word input rest None (Err e) is same h value after line =
    absurd (lacks_it 10 rest value after (append_cancel_left word rest (value ++ 10 ∷ after) (sym is ∙ line.spelled)) h)
every word input rest (Some x) (Ok y) is same h value after line =
    let found : y ≡ x = cc in
    rw found (one_line word input x.0.now x.1.now value after (record { spelled = is ∙ (λ i. word ++ h.0 i); in_line = h.1 }) line)
every word input rest (Some x) (Err e) is same h value after line = absurd cc

pub returns-clause-every : goal.returns-clause-every
returns-clause-every c = every c.args.word.now c.args.input.now c.in_ok-rest.rest.now c.split_once.result c.ok_or-2.result (rw c.in_ok-rest.ensures.ok_part at c.strip_prefix.ensures) c.ok_or-2.ensures.ok_part c.split_once.ensures
