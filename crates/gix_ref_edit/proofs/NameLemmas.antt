-- Names that are twice in a list.
use Rattle.std.proofs.Common.{◌≡◌, ◌≢◌, ◌∙◌, refl, sym, ap, subst, ℕ, zero, suc, ◌+◌, ◌<◌, ◌≤◌, Bool, true, false, cond, List, [], ◌∷◌, map, length, get_or, Option, Some, None, arith}
use Rattle.std.proofs.lemmas.List.{length-map}
use Rattle.std.specs.Prelude.{bytes_eq, count_by}
use Rattle.std.specs.Option.{MatchOption}
use Rattle.std.specs.List.Sorted.{IsPermutation, IsSorted}
use Rattle.std.specs.Ordering.{is_lt, is_eq, nat_cmp, ordering_reverse}
use Rattle.std.specs.declared.cmp.Ordering.{Ordering}
use Rattle.std.specs.declared.cmp.Ordering.TheVariants.{Less, Equal, Greater}
use Rattle.std.specs.Cmp.Lexicographic.{slice_cmp}
use Rattle.std.proofs.lemmas.Cmp.{nat_list_cmp_total}
use Rattle.std.proofs.lemmas.Slice.Eq.{bytes_eq-Decides}
use Rattle.std.proofs.lemmas.Map.Text.{is_eq-slice_cmp}
use Rattle.std.proofs.lemmas.List.Sums.{sum_by-cons}
use Rattle.std.proofs.lemmas.List.Sorted.{sum_by-IsPermutation, sorted_far, ranks_by}
use Rattle.gix_ref_edit.specs.Names.{StandsTwice, AllOnce, IsLeastTwice, IsArranged, first_twice}

-- ---- sorted lists through a function

at : {X : Type 0} (f : X → List ℕ) (xs : List X) (k : ℕ) (d : List ℕ) (e : X) → k < length xs → get_or (map f xs) k d ≡ f (get_or xs k e)
at f [] k d e inside = absurd (omega (arith, inside))
at f (x ∷ xs) zero d e inside = refl
at f (x ∷ xs) (suc k) d e inside = at f xs k d e (omega (arith, inside))

pub sorted_now : {X : Type 0} (f : X → List ℕ) (xs : List X) → IsSorted (λ x y. slice_cmp nat_cmp (f x) (f y)) xs → IsSorted (slice_cmp nat_cmp) (map f xs)
sorted_now f [] sorted = λ k d low high. absurd (omega (arith, high))
sorted_now f (x ∷ xs) sorted = λ k d low high.
    let short : k + 1 < length (x ∷ xs) = omega (arith, high, length-map (x ∷ xs) f) in
    (λ i. is_lt (slice_cmp nat_cmp (at f (x ∷ xs) (k + 1) d x short i) (at f (x ∷ xs) k d x (omega (arith, short)) i))) ∙ sorted k x low short

-- ---- how often a name is there

abbrev times : List (List ℕ) → List ℕ → ℕ
times names name = count_by (λ other. bytes_eq other name) names

times_cons : (x : List ℕ) (xs : List (List ℕ)) (name : List ℕ) → times (x ∷ xs) name ≡ cond (bytes_eq x name) 1 0 + times xs name
times_cons x xs name = sum_by-cons (λ other. cond (bytes_eq other name) 1 0) x xs

times_here : (x : List ℕ) (xs : List (List ℕ)) (name : List ℕ) → bytes_eq x name ≡ true → times (x ∷ xs) name ≡ 1 + times xs name
times_here x xs name h = times_cons x xs name ∙ ap (λ b. cond b 1 0 + times xs name) h

times_other : (x : List ℕ) (xs : List (List ℕ)) (name : List ℕ) → bytes_eq x name ≡ false → times (x ∷ xs) name ≡ times xs name
times_other x xs name h = times_cons x xs name ∙ ap (λ b. cond b 1 0 + times xs name) h ∙ omega arith

-- no element of the list comes before the name
abbrev AllFrom : List ℕ → List (List ℕ) → Type 0
AllFrom low xs = (j : ℕ) (d : List ℕ) → j < length xs → is_lt (slice_cmp nat_cmp (get_or xs j d) low) ≡ false

no_less : (low x : List ℕ) → is_lt (slice_cmp nat_cmp x low) ≡ false → slice_cmp nat_cmp x low ≢ Less
no_less low x h e = clash (sym (ap is_lt e) ∙ h)
  where
    clash : true ≡ false → ⊥
    clash p = cc

-- what is in the list isn't below
stands_from : (low : List ℕ) (xs : List (List ℕ)) (name : List ℕ) → AllFrom low xs → 1 ≤ times xs name → slice_cmp nat_cmp name low ≢ Less
stands_from low [] name from some = absurd (omega (arith, some))
stands_from low (x ∷ xs) name from some = go (bytes_eq x name) refl (λ more. stands_from low xs name (λ j d inside. from (suc j) d (omega (arith, inside))) more)
  where
    go : (b : Bool) → bytes_eq x name ≡ b → (1 ≤ times xs name → slice_cmp nat_cmp name low ≢ Less) → slice_cmp nat_cmp name low ≢ Less
    go true is rest =
        let same : x ≡ name = (bytes_eq-Decides x name).0 is in
        subst (λ (n : List ℕ). slice_cmp nat_cmp n low ≢ Less) same (no_less low x (from 0 x (omega arith)))
    go false is rest = rest (omega (arith, some, times_other x xs name is))

-- what comes before all of a list isn't in it
absent : (low : List ℕ) (xs : List (List ℕ)) (name : List ℕ) → AllFrom low xs → slice_cmp nat_cmp name low ≡ Less → times xs name ≡ 0
absent low [] name from less = refl
absent low (x ∷ xs) name from less = go (bytes_eq x name) refl (absent low xs name (λ j d inside. from (suc j) d (omega (arith, inside))) less)
  where
    go : (b : Bool) → bytes_eq x name ≡ b → times xs name ≡ 0 → times (x ∷ xs) name ≡ 0
    go true is rest =
        let same : x ≡ name = (bytes_eq-Decides x name).0 is in
        absurd (no_less low x (from 0 x (omega arith)) (ap (λ n. slice_cmp nat_cmp n low) same ∙ less))
    go false is rest = times_other x xs name is ∙ rest

-- ---- sorted lists

abbrev cmp : List ℕ → List ℕ → Ordering
cmp = slice_cmp nat_cmp

from_head : (x : List ℕ) (xs : List (List ℕ)) → IsSorted cmp (x ∷ xs) → AllFrom x (x ∷ xs)
from_head x xs sorted j d inside = sorted_far (λ a b. is_lt (cmp a b)) (ranks_by nat_list_cmp_total (λ n. n)) (x ∷ xs) sorted 0 j d (omega arith) inside

tail_sorted : (x : List ℕ) (xs : List (List ℕ)) → IsSorted cmp (x ∷ xs) → IsSorted cmp xs
tail_sorted x xs sorted k d low high =
    let next : suc k + 1 ≡ suc (k + 1) = omega arith in
    subst (λ (n : ℕ). is_lt (cmp (get_or (x ∷ xs) n d) (get_or xs k d)) ≡ false) next (sorted (suc k) d (omega arith) (omega (arith, high)))

less_than : (x y : List ℕ) → is_lt (cmp y x) ≡ false → bytes_eq x y ≡ false → cmp x y ≡ Less
less_than x y not_below differs = go (cmp x y) refl
  where
    clash : {A : Type 0} → true ≡ false → A
    clash p = absurd (apart p)
      where
        apart : true ≡ false → ⊥
        apart e = cc

    go : (o : Ordering) → cmp x y ≡ o → cmp x y ≡ Less
    go Less is = is
    go Equal is = clash (sym (ap is_eq is) ∙ is_eq-slice_cmp x y ∙ differs)
    go Greater is = clash (sym (ap (λ o. is_lt (ordering_reverse o)) is) ∙ sym (ap is_lt (nat_list_cmp_total.antisymm y x)) ∙ not_below)

-- a name that comes before all of a list adds none that is there twice
down : (x y : List ℕ) (rest : List (List ℕ)) → cmp x y ≡ Less → AllFrom y (y ∷ rest) → (name : List ℕ) → StandsTwice (x ∷ y ∷ rest) name → StandsTwice (y ∷ rest) name
down x y rest less from name twice = go (bytes_eq x name) refl
  where
    go : (b : Bool) → bytes_eq x name ≡ b → StandsTwice (y ∷ rest) name
    go true is =
        let same : x ≡ name = (bytes_eq-Decides x name).0 is in
        absurd (omega (arith, twice, times_here x (y ∷ rest) name is, absent y (y ∷ rest) name from (sym (ap (λ n. cmp n y) same) ∙ less)))
    go false is = omega (arith, twice, times_other x (y ∷ rest) name is)

up : (x : List ℕ) (xs : List (List ℕ)) (name : List ℕ) → StandsTwice xs name → StandsTwice (x ∷ xs) name
up x xs name twice = go (bytes_eq x name) refl
  where
    go : (b : Bool) → bytes_eq x name ≡ b → StandsTwice (x ∷ xs) name
    go true is = omega (arith, twice, times_here x xs name is)
    go false is = omega (arith, twice, times_other x xs name is)

alone : (x name : List ℕ) → ¬ StandsTwice (x ∷ []) name
alone x name twice = go (bytes_eq x name) refl
  where
    go : (b : Bool) → bytes_eq x name ≡ b → ⊥
    go true is = omega (arith, twice, times_here x [] name is)
    go false is = omega (arith, twice, times_other x [] name is)

pair : (x y : List ℕ) (rest : List (List ℕ)) → IsSorted cmp (x ∷ y ∷ rest) → bytes_eq x y ≡ true → IsLeastTwice (x ∷ y ∷ rest) x
pair x y rest sorted is =
    let same : x ≡ y = (bytes_eq-Decides x y).0 is in
    record {
      twice = omega (arith, times_here x (y ∷ rest) x ((bytes_eq-Decides x x).1 refl), times_here y rest x ((bytes_eq-Decides y x).1 (sym same)));
      least = λ other twice. stands_from x (x ∷ y ∷ rest) other (from_head x (y ∷ rest) sorted) (omega (arith, twice));
    }

found : (xs : List (List ℕ)) → IsSorted cmp xs → MatchOption (first_twice xs) (AllOnce xs) (IsLeastTwice xs)
found [] sorted = λ name twice. absurd (omega (arith, twice))
found (x ∷ []) sorted = λ name twice. alone x name twice
found (x ∷ y ∷ rest) sorted = go (bytes_eq x y) refl (found (y ∷ rest) (tail_sorted x (y ∷ rest) sorted))
  where
    further : (o : Option (List ℕ)) → cmp x y ≡ Less → MatchOption o (AllOnce (y ∷ rest)) (IsLeastTwice (y ∷ rest))
        → MatchOption o (AllOnce (x ∷ y ∷ rest)) (IsLeastTwice (x ∷ y ∷ rest))
    further None less once = λ name twice. once name (down x y rest less (from_head y rest (tail_sorted x (y ∷ rest) sorted)) name twice)
    further (Some n) less least = record {
      twice = up x (y ∷ rest) n least.twice;
      least = λ other twice. least.least other (down x y rest less (from_head y rest (tail_sorted x (y ∷ rest) sorted)) other twice);
    }

    go : (b : Bool) → bytes_eq x y ≡ b → MatchOption (first_twice (y ∷ rest)) (AllOnce (y ∷ rest)) (IsLeastTwice (y ∷ rest))
        → MatchOption (cond b (Some x) (first_twice (y ∷ rest))) (AllOnce (x ∷ y ∷ rest)) (IsLeastTwice (x ∷ y ∷ rest))
    go true is behind = pair x y rest sorted is
    go false is behind = further (first_twice (y ∷ rest)) (less_than x y (from_head x (y ∷ rest) sorted 1 y (omega arith)) is) behind

-- ---- names and their arrangement

as_often : (names arranged : List (List ℕ)) → IsPermutation names arranged → (name : List ℕ) → times arranged name ≡ times names name
as_often names arranged same name = sum_by-IsPermutation (λ other. cond (bytes_eq other name) 1 0) names arranged same

pub once_arranged : (names arranged : List (List ℕ)) → IsArranged names arranged → first_twice arranged ≡ None → AllOnce names
once_arranged names arranged is none name twice =
    let all : AllOnce arranged = subst (λ (o : Option (List ℕ)). MatchOption o (AllOnce arranged) (IsLeastTwice arranged)) none (found arranged is.ascending) in
    all name (subst (λ (n : ℕ). 2 ≤ n) (sym (as_often names arranged is.same name)) twice)

pub twice_arranged : (names arranged : List (List ℕ)) (name : List ℕ) → IsArranged names arranged → first_twice arranged ≡ Some name → IsLeastTwice names name
twice_arranged names arranged name is some =
    let least : IsLeastTwice arranged name = subst (λ (o : Option (List ℕ)). MatchOption o (AllOnce arranged) (IsLeastTwice arranged)) some (found arranged is.ascending) in
    record {
      twice = subst (λ (n : ℕ). 2 ≤ n) (as_often names arranged is.same name) least.twice;
      least = λ other twice. least.least other (subst (λ (n : ℕ). 2 ≤ n) (sym (as_often names arranged is.same other)) twice);
    }
