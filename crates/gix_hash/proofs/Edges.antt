-- Where a prefix's matches begin and end in ascending ids.
use Rattle.std.proofs.Common.{◌≡◌, ℕ, zero, suc, ◌+◌, ◌*◌, ◌/◌, ◌-◌, ◌^◌, ◌<◌, ◌≤◌, List, [], ◌∷◌, ◌++◌, length, take, drop, get_or, refl, ap, sym, ◌∙◌, arith, inl, inr, nat_cmp, Bool, true, false, not, subst}
use Rattle.std.specs.Prelude.{◌↔◌}
use Rattle.std.specs.declared.cmp.Ordering.{Ordering}
use Rattle.std.specs.declared.cmp.Ordering.TheVariants.{Less, Equal, Greater}
use Rattle.std.specs.Ordering.{ordering_then, is_gt, is_ge}
use Rattle.std.specs.FinMap.{nat_cmp-IsAntisymmetric, slice_cmp-IsAntisymmetric}
use Rattle.std.proofs.lemmas.Bool.{cases_lt}
use Rattle.std.proofs.lemmas.Cmp.{upto, nat_list_cmp_total}
use Rattle.std.proofs.lemmas.List.{take-append-drop, take_at, get_or_default}
use Rattle.gix_hash.specs.declared.run.Edge.{Edge}
use Rattle.gix_hash.specs.declared.run.Edge.TheVariants.{First, Past}
use Rattle.gix_hash.specs.Order.{digits_cmp}
use Rattle.gix_hash.specs.Beginnings.{IsBeginningOf}
use Rattle.gix_hash.specs.declared.object_id.ObjectId.{ObjectId}
use Rattle.gix_hash.specs.Id.{Id, id_of, digits_of}
use Rattle.gix_hash.specs.Run.{comes_before, against, IsAscending, HasEnoughDigits, IsMatchingRun, FallsAt}
use Rattle.gix_hash.proofs.ByteLists.{length-digits_of}
use Rattle.gix_hash.proofs.Compared.{cmp_less, cmp_equal, cmp_greater}

-- the second answer is no later than the first
abbrev Falls : Ordering → Ordering → Type 0
Falls Less Less = Unit {0}
Falls Less Equal = ⊥
Falls Less Greater = ⊥
Falls Equal Less = Unit {0}
Falls Equal Equal = Unit {0}
Falls Equal Greater = ⊥
Falls Greater o = Unit {0}

falls_equal : (a b : Ordering) → Falls a b → (b ≡ Greater → a ≡ Greater) × (is_ge b ≡ true → is_ge a ≡ true)
falls_equal Less Less h = (λ e. cc, λ e. e)
falls_equal Less Equal h = absurd h
falls_equal Less Greater h = absurd h
falls_equal Equal Less h = (λ e. cc, λ e. refl)
falls_equal Equal Equal h = (λ e. e, λ e. e)
falls_equal Equal Greater h = absurd h
falls_equal Greater o h = (λ e. refl, λ e. refl)

falls_less : (a : Ordering) → Falls a Less
falls_less Less = tt
falls_less Equal = tt
falls_less Greater = tt

-- a later id compares no later
falls : (front xs ys : List ℕ) → length front ≤ length xs → length front ≤ length ys → is_gt (digits_cmp xs ys) ≡ false
    → Falls (digits_cmp front (take (length front) xs)) (digits_cmp front (take (length front) ys))
falls [] xs ys hx hy h = tt
falls (f ∷ fs) [] ys hx hy h = absurd (omega arith)
falls (f ∷ fs) (x ∷ xs) [] hx hy h = absurd (omega arith)
falls (f ∷ fs) (x ∷ xs) (y ∷ ys) hx hy h =
    elim (cases_lt x y) [
      | inl less ↦ elim (cases_lt f y) [
        | inl before ↦ rw (cmp_less f y before) (falls_less _)
        | inr later ↦ rw (cmp_greater f x (omega arith)) tt
      ]
      | inr others ↦ elim (cases_lt y x) [
        | inl greater ↦ absurd (not_greater (digits_cmp xs ys) (rw (cmp_greater x y greater) at h))
        | inr rest ↦
            let same : x ≡ y = omega arith in
            let more : is_gt (digits_cmp xs ys) ≡ false = rw (cmp_equal x y same) at h in
            same_head f x y fs xs ys same (falls fs xs ys (omega arith) (omega arith) more)
      ]
    ]
  where
    not_greater : (o : Ordering) → is_gt (ordering_then Greater o) ≡ false → ⊥
    not_greater o e = cc

    then_falls : (o a b : Ordering) → Falls a b → Falls (ordering_then o a) (ordering_then o b)
    then_falls Less a b h = tt
    then_falls Equal a b h = h
    then_falls Greater a b h = tt

    same_head : (f x y : ℕ) (fs xs ys : List ℕ) → x ≡ y
        → Falls (digits_cmp fs (take (length fs) xs)) (digits_cmp fs (take (length fs) ys))
        → Falls (digits_cmp (f ∷ fs) (take (length (f ∷ fs)) (x ∷ xs))) (digits_cmp (f ∷ fs) (take (length (f ∷ fs)) (y ∷ ys)))
    same_head f x y fs xs ys e h =
        subst (λ (z : ℕ). Falls (digits_cmp (f ∷ fs) (take (length (f ∷ fs)) (x ∷ xs))) (digits_cmp (f ∷ fs) (take (length (f ∷ fs)) (z ∷ ys)))) e
        (then_falls (nat_cmp f x) _ _ h)

-- an id ahead of one before the edge is before it too
pub before_edge : (edge : Edge) (front xs ys : List ℕ) → length front ≤ length xs → length front ≤ length ys → is_gt (digits_cmp xs ys) ≡ false
    → comes_before edge (digits_cmp front (take (length front) ys)) ≡ true
    → comes_before edge (digits_cmp front (take (length front) xs)) ≡ true
before_edge First front xs ys hx hy h e = is_greater (digits_cmp front (take (length front) xs)) ((falls_equal _ _ (falls front xs ys hx hy h)).0 (greater_is (digits_cmp front (take (length front) ys)) e))
  where
    greater_is : (o : Ordering) → is_gt o ≡ true → o ≡ Greater
    greater_is Less e = cc
    greater_is Equal e = cc
    greater_is Greater e = refl

    is_greater : (o : Ordering) → o ≡ Greater → is_gt o ≡ true
    is_greater o e = rw e refl
before_edge Past front xs ys hx hy h e = (falls_equal _ _ (falls front xs ys hx hy h)).1 e

-- and one after an id that is not before the edge is not before it either
pub after_edge : (edge : Edge) (front xs ys : List ℕ) → length front ≤ length xs → length front ≤ length ys → is_gt (digits_cmp xs ys) ≡ false
    → comes_before edge (digits_cmp front (take (length front) xs)) ≡ false
    → comes_before edge (digits_cmp front (take (length front) ys)) ≡ false
after_edge edge front xs ys hx hy h e =
    opposite (comes_before edge (digits_cmp front (take (length front) ys))) (λ held. true_false (sym (before_edge edge front xs ys hx hy h held) ∙ e))
  where
    true_false : true ≡ false → ⊥
    true_false e = cc

    opposite : (b : Bool) → (b ≡ true → ⊥) → b ≡ false
    opposite true f = absurd (f refl)
    opposite false f = refl

-- a prefix begins digits exactly if it compares as equal
pub begins_equal : (front digits : List ℕ) → digits_cmp front (take (length front) digits) ≡ Equal ↔ IsBeginningOf front digits
begins_equal front digits = (
  λ e. let same : front ≡ take (length front) digits = slice_cmp-IsAntisymmetric nat_cmp-IsAntisymmetric front (take (length front) digits) e in
      (drop (length front) digits, sym (ap (λ (z : List ℕ). z ++ drop (length front) digits) same ∙ take-append-drop (length front) digits)),
  λ h. rw (h.1, take_at front h.0 (length front) refl) (equal_itself front),
)
  where
    equal_itself : (xs : List ℕ) → digits_cmp xs xs ≡ Equal
    equal_itself [] = refl
    equal_itself (x ∷ xs) = rw (cmp_equal x x refl) (equal_itself xs)

-- neither edge passed over: equal
pub equal_between : (o : Ordering) → (o ≡ Equal) ↔ ((is_gt o ≡ false) × (is_ge o ≡ true))
equal_between Less = (λ e. cc, λ h. cc)
equal_between Equal = (λ e. (refl, refl), λ h. refl)
equal_between Greater = (λ e. cc, λ h. cc)

-- a half of what is left is below half the power
pub halved : (size rest j calls base k : ℕ) → 0 < size → rest ≤ size / 2 → calls + j ≡ base + k → size < 2 ^ j
    → (i : ℕ) × ((calls + 1) + i ≡ base + k) × (rest < 2 ^ i)
halved size rest zero calls base k some half e low = absurd (omega arith)
halved size rest (suc j) calls base k some half e low =
    let twice : 2 ^ suc j ≡ 2 * 2 ^ j = omega arith in
    (j, omega arith, omega arith)

-- the element at a place, whatever the default
pub at_default : (ids : List ObjectId) (i : ℕ) (d e : ObjectId) (P : ObjectId → Type 0) → i < length ids → P (get_or ids i d) → P (get_or ids i e)
at_default ids i d e P h p = subst (λ (x : ObjectId). P x) (get_or_default ids i d e h) p

-- all up to one before the edge are before it
pub keep_before : (edge : Edge) (ids : List ObjectId) (prefix : Id) (middle : ℕ) (d : ObjectId) → IsAscending ids → HasEnoughDigits ids prefix → middle < length ids
    → comes_before edge (against prefix (get_or ids middle d)) ≡ true
    → (i : ℕ) (id : ObjectId) → i < middle + 1 → comes_before edge (against prefix (get_or ids i id)) ≡ true
keep_before edge ids prefix middle d ascending enough h held i id low =
    at_default ids i d id (λ x. comes_before edge (against prefix x) ≡ true) (omega arith) (
    elim (cases_lt i middle) [
      | inl under ↦ before_edge edge prefix.digits (id_of (get_or ids i d)).digits (id_of (get_or ids middle d)).digits
          (enough i d (omega arith)) (enough middle d h) (ascending i middle d under h) held
      | inr over ↦
          let same : i ≡ middle = omega arith in
          subst (λ (k : ℕ). comes_before edge (against prefix (get_or ids k d)) ≡ true) (sym same) held
    ]
    )

-- all from one that is not before the edge are not
pub keep_after : (edge : Edge) (ids : List ObjectId) (prefix : Id) (middle : ℕ) (d : ObjectId) → IsAscending ids → HasEnoughDigits ids prefix → middle < length ids
    → comes_before edge (against prefix (get_or ids middle d)) ≡ false
    → (i : ℕ) (id : ObjectId) → middle ≤ i → i < length ids → comes_before edge (against prefix (get_or ids i id)) ≡ false
keep_after edge ids prefix middle d ascending enough h failed i id low high =
    at_default ids i d id (λ x. comes_before edge (against prefix x) ≡ false) high (
    elim (cases_lt middle i) [
      | inl over ↦ after_edge edge prefix.digits (id_of (get_or ids middle d)).digits (id_of (get_or ids i d)).digits
          (enough middle d h) (enough i d high) (ascending middle i d over high) failed
      | inr under ↦
          let same : middle ≡ i = omega arith in
          subst (λ (k : ℕ). comes_before edge (against prefix (get_or ids k d)) ≡ false) same failed
    ]
    )

-- the ids that the prefix begins are between the edges
pub between_edges : (ids : List ObjectId) (prefix : Id) (first past : ℕ)
    → ((i : ℕ) (id : ObjectId) → i < first → comes_before First (against prefix (get_or ids i id)) ≡ true)
    → ((i : ℕ) (id : ObjectId) → first ≤ i → i < length ids → comes_before First (against prefix (get_or ids i id)) ≡ false)
    → ((i : ℕ) (id : ObjectId) → i < past → comes_before Past (against prefix (get_or ids i id)) ≡ true)
    → ((i : ℕ) (id : ObjectId) → past ≤ i → i < length ids → comes_before Past (against prefix (get_or ids i id)) ≡ false)
    → IsMatchingRun ids prefix first past
between_edges ids prefix first past before_first after_first before_past after_past i id h is =
    let equal = begins_equal prefix.digits (id_of id).digits in
    let flat = equal_between (against prefix id) in (
      λ begins.
          let o = flat.0 (equal.1 begins) in (
            not_before (λ low. clash (sym (subst (λ (x : ObjectId). comes_before First (against prefix x) ≡ true) is (before_first i id low)) ∙ o.0)),
            under (λ high. clash (sym o.1 ∙ subst (λ (x : ObjectId). comes_before Past (against prefix x) ≡ false) is (after_past i id high h))),
          ),
      λ there. equal.0 (flat.1 (
        subst (λ (x : ObjectId). comes_before First (against prefix x) ≡ false) is (after_first i id there.0 h),
        subst (λ (x : ObjectId). comes_before Past (against prefix x) ≡ true) is (before_past i id there.1),
      )),
    )
  where
    clash : true ≡ false → ⊥
    clash e = cc

    not_before : (i < first → ⊥) → first ≤ i
    not_before f = elim (cases_lt i first) [ inl low ↦ absurd (f low) | inr high ↦ high ]

    under : (past ≤ i → ⊥) → i < past
    under f = elim (cases_lt i past) [ inl low ↦ low | inr high ↦ absurd (f high) ]

-- and so how the prefix compares before the edges, between and after them
pub falls_at : (ids : List ObjectId) (prefix : Id) (first past : ℕ) → past ≤ length ids
    → ((i : ℕ) (id : ObjectId) → i < first → comes_before First (against prefix (get_or ids i id)) ≡ true)
    → ((i : ℕ) (id : ObjectId) → first ≤ i → i < length ids → comes_before First (against prefix (get_or ids i id)) ≡ false)
    → ((i : ℕ) (id : ObjectId) → i < past → comes_before Past (against prefix (get_or ids i id)) ≡ true)
    → ((i : ℕ) (id : ObjectId) → past ≤ i → i < length ids → comes_before Past (against prefix (get_or ids i id)) ≡ false)
    → FallsAt ids prefix first past
falls_at ids prefix first past within before_first after_first before_past after_past = record {
  greater = λ i id low. greater_is (against prefix (get_or ids i id)) (before_first i id low);
  equal = λ i id from low. equal_is (against prefix (get_or ids i id)) (after_first i id from (omega arith)) (before_past i id low);
  less = λ i id from low. less_is (against prefix (get_or ids i id)) (after_past i id from low);
}
  where
    greater_is : (o : Ordering) → is_gt o ≡ true → o ≡ Greater
    greater_is Less e = cc
    greater_is Equal e = cc
    greater_is Greater e = refl

    equal_is : (o : Ordering) → is_gt o ≡ false → is_ge o ≡ true → o ≡ Equal
    equal_is Less e f = cc
    equal_is Equal e f = refl
    equal_is Greater e f = cc

    less_is : (o : Ordering) → is_ge o ≡ false → o ≡ Less
    less_is Less e = refl
    less_is Equal e = cc
    less_is Greater e = cc

-- the run's ends are in order
pub edges_in_order : (ids : List ObjectId) (prefix : Id) (first past : ℕ) (d : ObjectId) → first ≤ length ids
    → ((i : ℕ) (id : ObjectId) → i < first → comes_before First (against prefix (get_or ids i id)) ≡ true)
    → ((i : ℕ) (id : ObjectId) → past ≤ i → i < length ids → comes_before Past (against prefix (get_or ids i id)) ≡ false)
    → first ≤ past
edges_in_order ids prefix first past d within before_first after_past =
    elim (cases_lt past first) [
      | inl crossed ↦ absurd (both (against prefix (get_or ids past d)) (before_first past d crossed) (after_past past d (omega arith) (omega arith)))
      | inr ordered ↦ ordered
    ]
  where
    both : (o : Ordering) → is_gt o ≡ true → is_ge o ≡ false → ⊥
    both Less a b = cc
    both Equal a b = cc
    both Greater a b = cc

-- one id more, which comes no earlier than its neighbour
pub ascending_more : (ids : List ObjectId) (n : ℕ) → n < length ids
    → ((i j : ℕ) (d : ObjectId) → i < j → j < n → is_gt (digits_cmp (id_of (get_or ids i d)).digits (id_of (get_or ids j d)).digits) ≡ false)
    → (0 < n → (d : ObjectId) → is_gt (digits_cmp (id_of (get_or ids (n - 1) d)).digits (id_of (get_or ids n d)).digits) ≡ false)
    → (i j : ℕ) (d : ObjectId) → i < j → j < n + 1 → is_gt (digits_cmp (id_of (get_or ids i d)).digits (id_of (get_or ids j d)).digits) ≡ false
ascending_more ids n room so_far next i j d low high =
    elim (cases_lt j n) [
      | inl under ↦ so_far i j d low under
      | inr over ↦
          let last : n ≡ j = omega arith in
          subst (λ (k : ℕ). is_gt (digits_cmp (id_of (get_or ids i d)).digits (id_of (get_or ids k d)).digits) ≡ false) last (
          elim (cases_lt i (n - 1)) [
            | inl first ↦ upto nat_list_cmp_total (id_of (get_or ids i d)).digits (id_of (get_or ids (n - 1) d)).digits (id_of (get_or ids n d)).digits
                (so_far i (n - 1) d first (omega arith)) (next (omega arith) d)
            | inr neighbour ↦
                let same : n - 1 ≡ i = omega arith in
                subst (λ (k : ℕ). is_gt (digits_cmp (id_of (get_or ids k d)).digits (id_of (get_or ids n d)).digits) ≡ false) same (next (omega arith) d)
          ]
          )
    ]

-- a neighbour's test, whatever the defaults
pub neighbour_test : (ids : List ObjectId) (n : ℕ) (a b d : ObjectId) (r : Bool) → 0 < n → n < length ids
    → r ≡ not (is_gt (digits_cmp (id_of (get_or ids (n - 1) a)).digits (id_of (get_or ids n b)).digits)) → r ≡ true
    → is_gt (digits_cmp (id_of (get_or ids (n - 1) d)).digits (id_of (get_or ids n d)).digits) ≡ false
neighbour_test ids n a b d r some room e h =
    at_default ids n b d (λ x. is_gt (digits_cmp (id_of (get_or ids (n - 1) d)).digits (id_of x).digits) ≡ false) room (
    at_default ids (n - 1) a d (λ x. is_gt (digits_cmp (id_of x).digits (id_of (get_or ids n b)).digits) ≡ false) (omega arith) (
    opposite_of _ (sym e ∙ h)
    )
    )
  where
    opposite_of : (t : Bool) → not t ≡ true → t ≡ false
    opposite_of true e = cc
    opposite_of false e = refl

-- an id with fewer digits than the prefix, whatever the default
pub too_few_digits : (ids : List ObjectId) (prefix : Id) (n : ℕ) (d : ObjectId) (bytes : List ℕ) → HasEnoughDigits ids prefix → n < length ids
    → digits_of bytes ≡ (id_of (get_or ids n d)).digits → 2 * length bytes < length prefix.digits → ⊥
too_few_digits ids prefix n d bytes enough room is few =
    let here : length prefix.digits ≤ length (id_of (get_or ids n d)).digits = enough n d room in
    let same = ap (λ (ds : List ℕ). length ds) is in
    let count = length-digits_of bytes in
    omega arith
