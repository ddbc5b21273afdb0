-- The place of the first element of a list that passes a test.
use Rattle.std.proofs.Common.{◌≡◌, ◌∙◌, ap, sym, ℕ, ◌+◌, ◌≤◌, Bool, true, false, List, length, drop, Some, None, inl, inr}
use Rattle.std.specs.Prelude.{position, cond}
use Rattle.std.specs.List.{slice_get, position_from}
use Rattle.std.proofs.lemmas.Iterator.Adapters.{position_from-zero}
use Rattle.std.proofs.lemmas.List.{at_drop_more, at_drop_all}
use Rattle.std.proofs.lemmas.Option.{slice_get_within, get_or_from_slice_get, slice_get_cases}

pub none_within : {X : Type 0} (xs : List X) (place : ℕ) → slice_get xs place ≡ None → length xs ≤ place
none_within xs place none = elim (slice_get_cases xs place).1 [ inl h ↦ absurd (let clash : Some h.0 ≡ None = sym h.2 ∙ none in cc) | inr h ↦ h.0 ]

module _ {X : Type 0} (test : X → Bool) (xs : List X) where
  pub from_start : position test xs ≡ position_from test 0 xs
  from_start = position_from-zero test xs

  step : (place : ℕ) (x : X) → slice_get xs place ≡ Some x → position_from test place (drop place xs) ≡ cond (test x) (Some place) (position_from test (place + 1) (drop (place + 1) xs))
  step place x is =
      at_drop_more (position_from test place) xs place x (slice_get_within xs place x is)
      ∙ ap (λ y. cond (test y) (Some place) (position_from test (place + 1) (drop (place + 1) xs))) (get_or_from_slice_get xs place x x is)

  pub found_here : (place : ℕ) (x : X) → slice_get xs place ≡ Some x → test x ≡ true → position_from test place (drop place xs) ≡ Some place
  found_here place x is passes = step place x is ∙ ap (λ b. cond b (Some place) (position_from test (place + 1) (drop (place + 1) xs))) passes

  pub found_later : (place : ℕ) (x : X) → slice_get xs place ≡ Some x → test x ≡ false → position_from test place (drop place xs) ≡ position_from test (place + 1) (drop (place + 1) xs)
  found_later place x is fails = step place x is ∙ ap (λ b. cond b (Some place) (position_from test (place + 1) (drop (place + 1) xs))) fails

  pub found_nowhere : (place : ℕ) → slice_get xs place ≡ None → position_from test place (drop place xs) ≡ None
  found_nowhere place none = at_drop_all (position_from test place) xs place (none_within xs place none)
