-- The folders of a name, one after another.
use Rattle.std.proofs.Common.{◌≡◌, inl, inr, ℕ, ◌+◌, ◌<◌, ◌≤◌, Bool, true, false, ◌||◌, [], ◌∷◌, ◌++◌, take, drop, length, get_or, refl, sym, ◌∙◌, ap, subst, append_assoc, arith, codes}
use Rattle.std.specs.Prelude.{nat_le}
use Rattle.std.proofs.lemmas.Bool.{or_cases, or_parts}
use Rattle.std.proofs.lemmas.Bool.Decides.{nat_tests}
use borrow.Author.Tests.{leb-true}
use Rattle.history_model.specs.Bytes.{Bytes, begins}
use Rattle.history_model.specs.FileMap.{is_below}
use Rattle.history_model.specs.Forms.{is_private}
use Rattle.history_model.proofs.WholePaths.{begins_front, begins_parts}
use Rattle.gix_ref_way.specs.Ways.{IsAbove}
use Rattle.gix_ref_way.proofs.FoldersMade.{above_shorter, front_of}

clash : {A : Type 0} {b : Bool} → b ≡ true → b ≡ false → A
clash t f = absurd (cc (sym t ∙ f))

above_it : (place path : Bytes) → is_below place path ≡ true → IsAbove place path
above_it place path h = (drop (length (place ++ 47 ∷ [])) path, begins_parts (place ++ 47 ∷ []) path h ∙ append_assoc place (47 ∷ []) (drop (length (place ++ 47 ∷ [])) path))

pub is_below_it : (place path : Bytes) → IsAbove place path → is_below place path ≡ true
is_below_it place path (rest, is) = ap (begins (place ++ 47 ∷ [])) (is ∙ sym (append_assoc place (47 ∷ []) rest)) ∙ begins_front (place ++ 47 ∷ []) rest

-- ---- names of one worktree

-- what begins a folder of a name begins the name
front_kept : (front folder name : Bytes) → is_below folder name ≡ true → begins front folder ≡ true → begins front name ≡ true
front_kept front folder name below is =
    let above = above_it folder name below in
    ap (begins front) (above.1 ∙ ap (λ f. f ++ 47 ∷ above.0) (begins_parts front folder is) ∙ append_assoc front (drop (length front) folder) (47 ∷ above.0))
    ∙ begins_front front (drop (length front) folder ++ 47 ∷ above.0)

-- a folder of a name that is no worktree's own is none either
pub folder_common : (folder name : Bytes) → is_below folder name ≡ true → is_private name ≡ false → is_private folder ≡ false
folder_common folder name below common = by_test (is_private folder) refl
  where
    two : ((begins (codes "refs/bisect/") name || begins (codes "refs/worktree/") name) ≡ false) × (begins (codes "refs/rewritten/") name ≡ false)
    two = or_parts (begins (codes "refs/bisect/") name || begins (codes "refs/worktree/") name) (begins (codes "refs/rewritten/") name) common

    one : (begins (codes "refs/bisect/") name ≡ false) × (begins (codes "refs/worktree/") name ≡ false)
    one = or_parts (begins (codes "refs/bisect/") name) (begins (codes "refs/worktree/") name) two.0

    by_test : (b : Bool) → is_private folder ≡ b → is_private folder ≡ false
    by_test false is = is
    by_test true is = elim (or_cases (begins (codes "refs/bisect/") folder || begins (codes "refs/worktree/") folder) (begins (codes "refs/rewritten/") folder) is) [
      | inl first ↦ elim (or_cases (begins (codes "refs/bisect/") folder) (begins (codes "refs/worktree/") folder) first) [
        | inl h ↦ clash (front_kept (codes "refs/bisect/") folder name below h) one.0
        | inr h ↦ clash (front_kept (codes "refs/worktree/") folder name below h) one.1
      ]
      | inr h ↦ clash (front_kept (codes "refs/rewritten/") folder name below h) two.1
    ]

-- ---- all folders of a name

-- of each folder that ends before this place in the name this holds
abbrev pub AreBefore : (Bytes → Type 0) → ℕ → Bytes → Type 0
AreBefore P end name = (place : Bytes) → IsAbove place name → length place < end → P place

pub one_passed : (P : Bytes → Type 0) (end : ℕ) (name : Bytes) → AreBefore P end name → (get_or name end 0 ≡ 47 → P (take end name)) → AreBefore P (end + 1) name
one_passed P end name before here place above below = by_test (nat_le end (length place)) refl
  where
    by_test : (b : Bool) → nat_le end (length place) ≡ b → P place
    by_test true far =
        let at : length place ≡ end = omega (arith, below, leb-true _ _ far) in
        subst P (sym ((front_of place name above).0 ∙ ap (λ n. take n name) at)) (here (ap (λ n. get_or name n 0) (sym at) ∙ (front_of place name above).1))
    by_test false near =
        let less : length place < end = grind (arith, nat_tests) in
        before place above less

pub all_passed : (P : Bytes → Type 0) (end : ℕ) (name : Bytes) → length name ≤ end → AreBefore P end name → (place : Bytes) → is_below place name ≡ true → P place
all_passed P end name far before place below =
    let above = above_it place name below in
    before place above (omega (arith, far, above_shorter place name above))
