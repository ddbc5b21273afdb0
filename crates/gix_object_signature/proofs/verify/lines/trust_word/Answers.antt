use Rattle.std.proofs.Common.{◌≡◌, ◌∙◌, ◌-◌, ap, sym, refl, ℕ, Bool, true, false, cond, List, length, take, drop, length-drop, arith, nat_lt, rules, tests}
use Rattle.std.specs.Prelude.{◌==◌, Some, None, unwrap_or}
use Rattle.std.specs.List.{position, position_or_len}
use Rattle.std.proofs.lemmas.Iterator.{YieldsList-from_slice}
use Rattle.std.proofs.lemmas.Iterator.Search.{position_from_yields_List}
use Rattle.std.proofs.lemmas.List.{take_all}
use borrow.Author.Tests.{ltb-false}
use Rattle.gix_object_signature.specs.Status.{trust_word}
use Rattle.gix_object_signature.proofs.verify.lines.trust_word.Goals as goal

-- all, if nothing passes
cut : (p : ℕ → Bool) (xs : List ℕ) → take (unwrap_or (position p xs) (length xs)) xs ≡ take (position_or_len p xs) xs
cut p xs = by_test (nat_lt (position_or_len p xs) (length xs)) refl
  where
    by_test : (b : Bool) → nat_lt (position_or_len p xs) (length xs) ≡ b → take (unwrap_or (cond b (Some (position_or_len p xs)) None) (length xs)) xs ≡ take (position_or_len p xs) xs
    by_test true told = refl
    by_test false told = take_all (length xs) xs (omega arith) ∙ sym (take_all (position_or_len p xs) xs (omega (arith, ltb-false _ _ told)))

pub returns : goal.returns
unfolding trust_word
returns c =
    let rest = take (length c.args.line.now - 15) (drop 15 c.args.line.now) in
    let at = position_from_yields_List (λ b. b == 32) _ _ c.position.result c.position.ensures.ran (YieldsList-from_slice rest cc) (λ x b q k. search (rules, tests)) in
    let all : rest ≡ drop 15 c.args.line.now = take_all _ _ (omega (arith, length-drop 15 c.args.line.now)) in
    let begins : c.starts_with.result ≡ true = search rules in
    rw (sym c.starts_with.ensures.value ∙ begins)
    (ap Some
    (ap (λ n. take n rest) (c.unwrap_or-end.ensures ∙ ap (λ o. unwrap_or o (length rest)) at)
    ∙ cut (λ b. b == 32) rest
    ∙ ap (λ t. take (position_or_len (λ b. b == 32) t) t) all))
