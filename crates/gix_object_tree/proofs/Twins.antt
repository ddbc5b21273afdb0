-- Trees and files of one name, and lists that are tested element by element.
use Rattle.std.proofs.Common.{◌≡◌, ◌∙◌, ap, refl, sym, subst, ◌⊎◌, ℕ, ◌+◌, ◌<◌, ◌≤◌, Bool, true, false, List, length, get_or, take, inl, inr, arith}
use Rattle.std.specs.List.{All}
use Rattle.std.proofs.lemmas.Bool.{cases_lt}
use Rattle.std.proofs.lemmas.Cmp.{nat_list_cmp_total}
use Rattle.std.proofs.lemmas.List.{get_or-take, length-take-le}
use Rattle.gix_object_tree.specs.Entry.{Item}
use Rattle.gix_object_tree.specs.Order.{git_key, is_tree, item_key}
use Rattle.gix_object_tree.specs.WellFormed.{IsInOrder, IsNamed, ComesBefore, HasNamesOnce}
use Rattle.gix_object_tree.proofs.Searched.{element, less_not}

-- no entry is a file of the name that a tree of these has
abbrev pub HasNoTwins : List Item → List Item → Type 0
HasNoTwins items trees = All (λ (tree : Item). is_tree tree ≡ true → All (λ (other : Item). ¬ IsNamed tree.name false other) items) trees

pub same_item : (items : List Item) (k : ℕ) (d e : Item) → k < length items → get_or items k d ≡ get_or items k e
same_item items k d e below = let found = element (λ (i : Item). i) items k below in found.1 d ∙ sym (found.1 e)

-- ---- one element more

more_by : (P : Item → Type 0) (items : List Item) (at k : ℕ) (one d : Item) → (k < at) ⊎ (at ≤ k) → k < at + 1 → at < length items → get_or items at one ≡ one → All P (take at items) → P one → P (get_or items k d)
more_by P items at k one d (inl before) below within is old new =
    let long = length-take-le at items (omega arith) in
    subst P (get_or-take at items k d before) (old k d (omega arith))
more_by P items at k one d (inr behind) below within is old new =
    let same : k ≡ at = omega arith in
    subst P (sym (ap (λ n. get_or items n d) same ∙ same_item items at d one within ∙ is)) new

pub all_more : (P : Item → Type 0) (items : List Item) (at : ℕ) (one : Item) → at < length items → get_or items at one ≡ one → All P (take at items) → P one → All P (take (at + 1) items)
all_more P items at one within is old new = λ k d below.
    let long = length-take-le (at + 1) items (omega arith) in
    let less : k < at + 1 = omega arith in
    subst P (sym (get_or-take (at + 1) items k d less)) (more_by P items at k one d (cases_lt k at) less within is old new)

-- ---- order

-- the last of entries in order, and one that comes after it
before_by : (items : List Item) (at k : ℕ) (last one d : Item) → (k < at) ⊎ (at ≤ k) → k < at + 1 → at + 1 < length items → get_or items at last ≡ last
    → IsInOrder (take (at + 1) items) → ComesBefore last one → ComesBefore (get_or items k d) one
before_by items at k last one d (inl before) below within is ordered next =
    let long = length-take-le (at + 1) items (omega arith) in
    let pair = ordered k at d before (omega arith) in
    let at_k = get_or-take (at + 1) items k d below in
    let at_last = get_or-take (at + 1) items at d (omega arith) ∙ same_item items at d last (omega arith) ∙ is in
    nat_list_cmp_total.trans (item_key (get_or items k d)) (item_key last) (item_key one) (subst (λ x. ComesBefore x last) at_k (subst (λ y. ComesBefore (get_or (take (at + 1) items) k d) y) at_last pair)) next
before_by items at k last one d (inr behind) below within is ordered next =
    let same : k ≡ at = omega arith in
    subst (λ x. ComesBefore x one) (sym (ap (λ n. get_or items n d) same ∙ same_item items at d last (omega arith) ∙ is)) next

order_by : (items : List Item) (at i j : ℕ) (last one d : Item) → (j < at + 1) ⊎ (at + 1 ≤ j) → i < j → j < at + 2 → at + 1 < length items → get_or items at last ≡ last → get_or items (at + 1) one ≡ one
    → IsInOrder (take (at + 1) items) → ComesBefore last one → ComesBefore (get_or items i d) (get_or items j d)
order_by items at i j last one d (inl before) less below within is_last is_one ordered next =
    let long = length-take-le (at + 1) items (omega arith) in
    subst (λ x. ComesBefore x (get_or items j d)) (get_or-take (at + 1) items i d (omega arith))
    (subst (λ y. ComesBefore (get_or (take (at + 1) items) i d) y) (get_or-take (at + 1) items j d before) (ordered i j d less (omega arith)))
order_by items at i j last one d (inr behind) less below within is_last is_one ordered next =
    let same : j ≡ at + 1 = omega arith in
    subst (λ y. ComesBefore (get_or items i d) y) (sym (ap (λ n. get_or items n d) same ∙ same_item items (at + 1) d one within ∙ is_one))
    (before_by items at i last one d (cases_lt i at) (omega arith) within is_last ordered next)

pub order_more : (items : List Item) (at : ℕ) (last one : Item) → at + 1 < length items → get_or items at last ≡ last → get_or items (at + 1) one ≡ one
    → IsInOrder (take (at + 1) items) → ComesBefore last one → IsInOrder (take (at + 2) items)
order_more items at last one within is_last is_one ordered next = λ i j d less below.
    let long = length-take-le (at + 2) items (omega arith) in
    let in_j : j < at + 2 = omega arith in
    subst (λ x. ComesBefore x (get_or (take (at + 2) items) j d)) (sym (get_or-take (at + 2) items i d (omega arith)))
    (subst (λ y. ComesBefore (get_or items i d) y) (sym (get_or-take (at + 2) items j d in_j))
    (order_by items at i j last one d (cases_lt j (at + 1)) less in_j within is_last is_one ordered next))

-- ---- names

tree_by : (items : List Item) (i j : ℕ) (d : Item) (a b : Bool) → is_tree (get_or items i d) ≡ a → is_tree (get_or items j d) ≡ b → i < j → j < length items → IsInOrder items → HasNoTwins items items
    → (get_or items i d).name ≡ (get_or items j d).name → ⊥
tree_by items i j d true true is_a is_b less within ordered twins same =
    less_not _ _ (ordered i j d less within) (ap (git_key (get_or items i d).name) (is_a ∙ sym is_b) ∙ ap (λ n. git_key n (is_tree (get_or items j d))) same)
tree_by items i j d false false is_a is_b less within ordered twins same =
    less_not _ _ (ordered i j d less within) (ap (git_key (get_or items i d).name) (is_a ∙ sym is_b) ∙ ap (λ n. git_key n (is_tree (get_or items j d))) same)
tree_by items i j d true false is_a is_b less within ordered twins same = twins i d (omega arith) is_a j d within (sym same, is_b)
tree_by items i j d false true is_a is_b less within ordered twins same = twins j d within is_b i d (omega arith) (same, is_a)

pub once_by : (items : List Item) → IsInOrder items → HasNoTwins items items → HasNamesOnce items
once_by items ordered twins = λ i j d less within. tree_by items i j d _ _ refl refl less within ordered twins

-- two entries of one name, of which one is a tree and the other none
twins_by : (items : List Item) (i j : ℕ) (d : Item) → (i < j) ⊎ (j ≤ i) → i < length items → j < length items → HasNamesOnce items → is_tree (get_or items i d) ≡ true → is_tree (get_or items j d) ≡ false
    → (get_or items i d).name ≡ (get_or items j d).name → ⊥
twins_by items i j d (inl less) in_i in_j once is_a is_b same = once i j d less in_j same
twins_by items i j d (inr more) in_i in_j once is_a is_b same = back (cases_lt j i)
  where
    back : (j < i) ⊎ (i ≤ j) → ⊥
    back (inl less) = once j i d less in_i (sym same)
    back (inr no_less) =
        let one : i ≡ j = omega arith in
        let both = sym is_a ∙ ap (λ n. is_tree (get_or items n d)) one ∙ is_b in
        absurd cc

pub twins_not : (items : List Item) (i j : ℕ) (d : Item) → i < length items → j < length items → HasNamesOnce items → is_tree (get_or items i d) ≡ true → is_tree (get_or items j d) ≡ false
    → (get_or items i d).name ≡ (get_or items j d).name → ⊥
twins_not items i j d = twins_by items i j d (cases_lt i j)
