-- Where a text's armors may begin.
use Rattle.std.proofs.Common.{◌≡◌, ◌∙◌, ap, sym, subst, ℕ, suc, true, ◌+◌, ◌<◌, ◌≤◌, List, [], ◌∷◌, ◌++◌, length, take, drop, length-append, length-take-le, append_assoc, inl, inr, arith}
use Rattle.std.specs.Prelude.{slice_index, ◌⊎◌, ◌==◌}
use Rattle.std.proofs.Math.Nat.{eq-or-lt_of_le}
use Rattle.std.proofs.Math.Seq.{get_or-append_seam, take-suc}
use Rattle.std.proofs.lemmas.Bool.Decides.{Decides-eqb}
use Rattle.std.proofs.lemmas.Bool.{cases_lt}
use Rattle.std.proofs.lemmas.List.{drop_at, get_or-take}
use Rattle.gix_object_signature.specs.Armor.{BeginsArmor, BeginsNoArmor}
use Rattle.gix_object_signature.specs.declared.format.Format.{Format}
use Rattle.gix_object_tag.specs.Signature.{IsArmored, IsSigned}

-- the line feed before an armor's line
feed_at : (text front signature other : List ℕ) → text ≡ front ++ signature → front ≡ other ++ 10 ∷ [] → slice_index text (length other) ≡ 10
feed_at text front signature other whole ends =
    ap (λ t. slice_index t (length other)) (whole ∙ ap (λ f. f ++ signature) ends ∙ append_assoc other (10 ∷ []) signature)
    ∙ get_or-append_seam other 10 signature 0

one_more : (front other : List ℕ) → front ≡ other ++ 10 ∷ [] → length front ≡ length other + 1
one_more front other ends = omega (arith, ap length ends, length-append other (10 ∷ []))

-- with no line feed from `past` on and below `end`, no armor begins after `past` and up to `end`
pub none_behind : (text : List ℕ) (past end : ℕ) → ((j : ℕ) → past ≤ j → j < end → slice_index text j ≡ 10 → ⊥)
    → (front signature : List ℕ) → IsArmored text front signature → length front ≤ end → length front ≤ past
none_behind text past end nowhere front signature armored below = by_start armored.line_begins
  where
    by_place : (other : List ℕ) → front ≡ other ++ 10 ∷ [] → (length other < past) ⊎ (past ≤ length other) → length front ≤ past
    by_place other ends (inl before) = omega (arith, one_more front other ends)
    by_place other ends (inr behind) = absurd (nowhere (length other) behind (omega (arith, one_more front other ends)) (feed_at text front signature other armored.spelled ends))

    by_start : (front ≡ []) ⊎ ((other : List ℕ) × (front ≡ other ++ 10 ∷ [])) → length front ≤ past
    by_start (inl none) = omega (arith, ap length none)
    by_start (inr ends) = by_place ends.0 ends.1 (cases_lt (length ends.0) past)

-- what follows a front of this length
pub behind_front : (text front signature : List ℕ) (at : ℕ) → text ≡ front ++ signature → length front ≡ at → signature ≡ drop at text
behind_front text front signature at whole is = sym (ap (drop at) whole ∙ drop_at front signature at is)

-- no armor begins at a place where there is none
pub not_at : (text : List ℕ) (at : ℕ) → BeginsNoArmor (drop at text) → (front signature : List ℕ) → IsArmored text front signature → length front ≡ at → ⊥
not_at text at none front signature armored is =
    none armored.format (subst (λ t. BeginsArmor t armored.format) (behind_front text front signature at armored.spelled is) armored.armor)

-- nor after it
pub none_from : (text : List ℕ) (at : ℕ) → BeginsNoArmor (drop (at + 1) text) → (front signature : List ℕ) → IsArmored text front signature → length front ≤ at + 1 → length front ≤ at
none_from text at none front signature armored below = by (eq-or-lt_of_le below)
  where
    by : (length front ≡ at + 1) ⊎ (length front < at + 1) → length front ≤ at
    by (inl is) = absurd (not_at text (at + 1) none front signature armored is)
    by (inr before) = omega arith

-- after a line feed
pub line_at : (text : List ℕ) (at : ℕ) → at < length text → slice_index text at ≡ 10 → take (at + 1) text ≡ take at text ++ 10 ∷ []
line_at text at below is =
    let next : at + 1 ≡ suc at = omega arith in
    ap (λ n. take n text) next ∙ take-suc text at 0 below ∙ ap (λ b. take at text ++ b ∷ []) is

-- a search backwards over what comes before `end`
pub nowhere_behind : (text : List ℕ) (end at : ℕ) → end ≤ length text → ((k : ℕ) → at ≤ k → k < length (take end text) → (slice_index (take end text) k == 10) ≡ true → ⊥)
    → (j : ℕ) → at ≤ j → j < end → slice_index text j ≡ 10 → ⊥
nowhere_behind text end at within nowhere j from below is =
    nowhere j from (omega (arith, length-take-le end text within)) ((Decides-eqb (slice_index (take end text) j) 10).1 (get_or-take end text j 0 below ∙ is))

pub signed_at : (text front signature : List ℕ) → text ≡ front ++ signature → (front ≡ []) ⊎ ((other : List ℕ) × (front ≡ other ++ 10 ∷ [])) → (format : Format) × BeginsArmor signature format
    → ((other rest : List ℕ) → IsArmored text other rest → length other ≤ length front) → IsSigned text front signature
signed_at text front signature whole begins told last = record { armored = record { spelled = whole; line_begins = begins; format = told.0; armor = told.1 }; last = last }
