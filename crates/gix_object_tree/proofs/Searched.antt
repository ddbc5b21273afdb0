-- Entries found by their names among entries in order.
use Rattle.std.proofs.Common.{◌≡◌, ◌∙◌, ap, refl, sym, subst, ◌⊎◌, ℕ, zero, suc, ◌<◌, ◌≤◌, Bool, true, false, List, [], ◌∷◌, length, map, get_or, Ordering, Result, Ok, Err, Option, Some, None, inl, inr, arith}
use Rattle.std.specs.Prelude.{IfSome, IfNone, is_some}
use Rattle.std.specs.Result.{result_ok}
use Rattle.std.specs.declared.cmp.Ordering.TheVariants.{Less, Equal, Greater}
use Rattle.std.specs.Ordering.{ordering_index}
use Rattle.std.specs.List.{All, HoldsAt}
use Rattle.std.specs.List.Sorted.{IsNonDecreasingBy, IsPartitionPoint, IsBinarySearchResult}
use Rattle.std.proofs.lemmas.Bool.{cases_lt}
use Rattle.std.proofs.lemmas.Cmp.{nat_list_cmp_total, tied_itself}
use Rattle.std.proofs.lemmas.List.{get_or-map}
use Rattle.gix_hash.specs.Order.{digits_cmp}
use Rattle.gix_object_tree.specs.Entry.{Item}
use Rattle.gix_object_tree.specs.Order.{git_key, item_key}
use Rattle.gix_object_tree.specs.SameItem.{one_key}
use Rattle.gix_object_tree.specs.WellFormed.{IsInOrder, IsNamed}

-- an element of a list that is mapped
pub element : {T : Type 0} (item : T → Item) (xs : List T) (k : ℕ) → k < length xs → (x : T) × ((d : T) → get_or xs k d ≡ x) × ((e : Item) → get_or (map item xs) k e ≡ item x)
element item [] k within = absurd (omega arith)
element item (x ∷ xs) zero within = (x, λ d. refl, λ e. refl)
element item (x ∷ xs) (suc k) within = element item xs k (omega arith)

pub map_length : {T : Type 0} (item : T → Item) (xs : List T) → length (map item xs) ≡ length xs
map_length item [] = refl
map_length item (x ∷ xs) = ap suc (map_length item xs)

-- ---- keys

pub key_ties : (a b : List ℕ) → a ≡ b → digits_cmp a b ≡ Equal
key_ties a b e = subst (λ t. digits_cmp a t ≡ Equal) e (tied_itself nat_list_cmp_total a)

pub less_not : (a b : List ℕ) → digits_cmp a b ≡ Less → a ≡ b → ⊥
less_not a b less e = let tie = key_ties a b e in absurd cc

greater_not : (a b : List ℕ) → digits_cmp a b ≡ Greater → a ≡ b → ⊥
greater_not a b more e = let tie = key_ties a b e in absurd cc

low : (o : Ordering) (n : ℕ) → o ≡ Less → ordering_index o ≤ n
low o n is = let e = ap ordering_index is in omega arith

top : (o : Ordering) → ordering_index o ≤ 2
top Less = omega arith
top Equal = omega arith
top Greater = omega arith

index_by : (a b key : List ℕ) (o : Ordering) → digits_cmp b key ≡ o → digits_cmp a b ≡ Less → ordering_index (digits_cmp a key) ≤ ordering_index (digits_cmp b key)
index_by a b key Less e less = low (digits_cmp a key) (ordering_index (digits_cmp b key)) (nat_list_cmp_total.trans a b key less e)
index_by a b key Equal e less = low (digits_cmp a key) (ordering_index (digits_cmp b key)) (subst (λ t. digits_cmp a t ≡ Less) (one_key b key e) less)
index_by a b key Greater e less = let t = top (digits_cmp a key) in let g = ap ordering_index e in omega arith

-- of two keys in order, the second isn't before a third if the first is after it
index_rises : (a b key : List ℕ) → digits_cmp a b ≡ Less → ordering_index (digits_cmp a key) ≤ ordering_index (digits_cmp b key)
index_rises a b key = index_by a b key (digits_cmp b key) refl

-- a name and whether it is a tree's determine the key
pub key_named : (item : Item) (name : List ℕ) (of_tree : Bool) → IsNamed name of_tree item → item_key item ≡ git_key name of_tree
key_named item name of_tree is = ap (git_key item.name) is.1 ∙ ap (λ n. git_key n of_tree) is.0

-- ---- the search

module _ {T : Type 0} (item : T → Item) (xs : List T) (key : List ℕ) where
  rises_at : (i j : ℕ) (d : T) → (i < j) ⊎ (j ≤ i) → i ≤ j → j < length xs → IsInOrder (map item xs)
      → ordering_index (digits_cmp (item_key (item (get_or xs i d))) key) ≤ ordering_index (digits_cmp (item_key (item (get_or xs j d))) key)
  rises_at i j d (inr back) below within ordered =
      let same : i ≡ j = omega arith in
      let e = ap (λ n. ordering_index (digits_cmp (item_key (item (get_or xs n d))) key)) same in
      omega arith
  rises_at i j d (inl less) below within ordered =
      let long = map_length item xs in
      let before = ordered i j (item d) less (omega arith) in
      let at_i = get_or-map item xs i d (item d) (omega arith) in
      let at_j = get_or-map item xs j d (item d) within in
      index_rises (item_key (item (get_or xs i d))) (item_key (item (get_or xs j d))) key
      (subst (λ a. digits_cmp (item_key a) (item_key (item (get_or xs j d))) ≡ Less) at_i
      (subst (λ b. digits_cmp (item_key (get_or (map item xs) i (item d))) (item_key b) ≡ Less) at_j before))

  rises : IsInOrder (map item xs) → IsNonDecreasingBy (λ y. ordering_index (digits_cmp (item_key (item y)) key)) xs
  rises ordered i j d below within = rises_at i j d (cases_lt i j) below within ordered

  has_not : (at k : ℕ) (x : T) → (k < at) ⊎ (at ≤ k) → k < length xs → get_or xs k x ≡ x
      → IsPartitionPoint (λ y. digits_cmp (item_key (item y)) key ≡ Less) (λ y. digits_cmp (item_key (item y)) key ≡ Greater) xs at
      → item_key (item x) ≡ key → ⊥
  has_not at k x (inl before) within is parts has =
      less_not _ _ (parts.0 k x (omega arith) before) (ap (λ y. item_key (item y)) is ∙ has)
  has_not at k x (inr behind) within is parts has =
      greater_not _ _ (parts.1 k x behind within) (ap (λ y. item_key (item y)) is ∙ has)

  pub search_found : (o : Option ℕ) (r : Result ℕ ℕ) → o ≡ result_ok r → IsBinarySearchResult (λ y. digits_cmp (item_key (item y)) key) xs r
      → IfSome o (λ at. HoldsAt (λ y. item_key (item y) ≡ key) xs at)
  search_found o (Ok at) e h = subst (λ p. IfSome p (λ at. HoldsAt (λ y. item_key (item y) ≡ key) xs at)) (sym e) (λ d. one_key _ _ (h d))
  search_found o (Err at) e h = subst (λ p. IfSome p (λ at. HoldsAt (λ y. item_key (item y) ≡ key) xs at)) (sym e) tt

  pub search_missing : (o : Option ℕ) (r : Result ℕ ℕ) → o ≡ result_ok r → IsBinarySearchResult (λ y. digits_cmp (item_key (item y)) key) xs r
      → IsInOrder (map item xs) → IfNone o (All (λ i. ¬ (item_key i ≡ key)) (map item xs))
  search_missing o (Ok at) e h ordered = subst (λ p. IfNone p (All (λ i. ¬ (item_key i ≡ key)) (map item xs))) (sym e) tt
  search_missing o (Err at) e h ordered =
      subst (λ p. IfNone p (All (λ i. ¬ (item_key i ≡ key)) (map item xs))) (sym e)
      (λ k d within has.
      let long = map_length item xs in
      let one = element item xs k (omega arith) in
      has_not at k one.0 (cases_lt k at) (omega arith) (one.1 one.0) (h (rises ordered)) (ap item_key (sym (one.2 d)) ∙ has))

-- of entries in order that have one key, there is one place
apart_by : (items : List Item) (i j : ℕ) (d : Item) → (i < j) ⊎ (j ≤ i) → i < length items → j < length items → IsInOrder items → item_key (get_or items i d) ≡ item_key (get_or items j d) → i ≡ j
apart_by items i j d (inl less) in_i in_j ordered same = absurd (less_not _ _ (ordered i j d less in_j) same)
apart_by items i j d (inr more) in_i in_j ordered same = apart_back (cases_lt j i)
  where
    apart_back : (j < i) ⊎ (i ≤ j) → i ≡ j
    apart_back (inl less) = absurd (less_not _ _ (ordered j i d less in_i) (sym same))
    apart_back (inr back) = omega arith

pub one_place : (items : List Item) (i j : ℕ) (d : Item) → i < length items → j < length items → IsInOrder items → item_key (get_or items i d) ≡ item_key (get_or items j d) → i ≡ j
one_place items i j d = apart_by items i j d (cases_lt i j)

-- where the entry of the key has another name, no entry has the name
pub other_named : (items : List Item) (at : ℕ) (one : Item) (name : List ℕ) (of_tree : Bool) → at < length items → get_or items at one ≡ one → item_key one ≡ git_key name of_tree → (IsNamed name of_tree one → ⊥)
    → IsInOrder items → All (λ item. ¬ IsNamed name of_tree item) items
other_named items at one name of_tree within is key differs ordered = λ k d below named.
    let keys : item_key (get_or items k one) ≡ item_key (get_or items at one) =
    key_named (get_or items k one) name of_tree (subst (IsNamed name of_tree) (same_item k d one below) named) ∙ sym key ∙ ap item_key (sym is) in
    let same = one_place items k at one below within ordered keys in
    differs (subst (IsNamed name of_tree) (same_item k d one below ∙ ap (λ n. get_or items n one) same ∙ is) named)
  where
    same_item : (k : ℕ) (d e : Item) → k < length items → get_or items k d ≡ get_or items k e
    same_item k d e below = let found = element (λ (i : Item). i) items k below in found.1 d ∙ sym (found.1 e)

-- ---- what a test of an option returns

pub none_of : {Q : Type 0} (o : Option ℕ) → is_some o ≡ false → IfNone o Q → Q
none_of None none q = q
none_of (Some at) none q = absurd cc

pub some_of : {P Q : ℕ → Type 0} (o : Option ℕ) → is_some o ≡ true → IfSome o P → IfSome o Q → (at : ℕ) × P at × Q at
some_of None some p q = absurd cc
some_of (Some at) some p q = (at, p, q)

-- the element of a list that is mapped
pub item_at : {T : Type 0} (item : T → Item) (xs : List T) (at : ℕ) (x : T) → at < length xs → x ≡ get_or xs at x → get_or (map item xs) at (item x) ≡ item x
item_at item xs at x within is = get_or-map item xs at x (item x) within ∙ ap item (sym is)
