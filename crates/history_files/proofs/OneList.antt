-- Well-formed trees with the same entry under each name are one.
use Rattle.std.proofs.Common.{◌≡◌, ◌∙◌, ap, refl, sym, subst, ℕ, zero, suc, ◌<◌, Bool, true, false, cond, List, [], ◌∷◌, length, get_or, Option, Some, None, arith, inl, inr, bytes_eq, Less, Greater}
use Rattle.std.specs.List.{AllPairs}
use Rattle.std.specs.Ordering.{ordering_reverse}
use Rattle.std.proofs.lemmas.Cmp.{nat_list_cmp_total}
use Rattle.gix_object_tree.specs.Entry.{Item}
use Rattle.gix_object_tree.specs.Order.{item_key}
use Rattle.gix_object_nodes.specs.Files.{named}
use Rattle.gix_object_tree.specs.WellFormed.{ComesBefore, IsInOrder, HasNamesOnce}
use Rattle.history_model.specs.Bytes.{Bytes}
use Rattle.history_model.proofs.WholeLists.{In, same_text, text_itself, texts_differ, none_is_some}
use Rattle.std.proofs.lemmas.Option.{same_Some}

pairs_head : {X : Type 0} (R : X → X → Type 0) (x : X) (xs : List X) → AllPairs R (x ∷ xs) → (y : X) → In y xs → R x y
pairs_head {X = X} R x xs all y i = let at = index xs i in subst (R x) at.2 (all zero (suc at.0) x (omega arith) (omega (arith, at.1)))
  where
    index : (ys : List X) → In y ys → (k : ℕ) × (k < length ys) × (get_or ys k x ≡ y)
    index [] j = absurd j
    index (z ∷ ys) (inl e) = (zero, omega arith, sym e)
    index (z ∷ ys) (inr j) = let rest = index ys j in (suc rest.0, omega (arith, rest.1), rest.2)

pairs_tail : {X : Type 0} (R : X → X → Type 0) (x : X) (xs : List X) → AllPairs R (x ∷ xs) → AllPairs R xs
pairs_tail R x xs all i j d less within = all (suc i) (suc j) d (omega arith) (omega arith)

-- what is found under a name has it, and is in the list
pub named_is : (name : Bytes) (items : List Item) (item : Item) → named name items ≡ Some item → (item.name ≡ name) × In item items
named_is name [] item e = none_is_some item e
named_is name (x ∷ items) item e = go (bytes_eq name x.name) refl e (named_is name items item)
  where
    go : (b : Bool) → bytes_eq name x.name ≡ b → cond b (Some x) (named name items) ≡ Some item → (named name items ≡ Some item → (item.name ≡ name) × In item items)
        → (item.name ≡ name) × In item (x ∷ items)
    go true t k later = let same = same_Some x item k in (ap (λ (y : Item). y.name) (sym same) ∙ sym (same_text name x.name t), inl (sym same))
    go false t k later = let rest = later k in (rest.0, inr rest.1)

named_first : (item : Item) (items : List Item) → named item.name (item ∷ items) ≡ Some item
named_first item items = ap (λ b. cond b (Some item) (named item.name items)) (text_itself item.name)

named_other : (name : Bytes) (item : Item) (items : List Item) → (name ≡ item.name → ⊥) → named name (item ∷ items) ≡ named name items
named_other name item items differ = go (bytes_eq name item.name) refl
  where
    go : (b : Bool) → bytes_eq name item.name ≡ b → cond (bytes_eq name item.name) (Some item) (named name items) ≡ named name items
    go true t = absurd (differ (same_text name item.name t))
    go false t = ap (λ b. cond b (Some item) (named name items)) t

none_behind : (item : Item) (items : List Item) → HasNamesOnce (item ∷ items) → named item.name items ≡ None
none_behind item items once = go (named item.name items) refl
  where
    go : (o : Option Item) → named item.name items ≡ o → named item.name items ≡ None
    go None e = e
    go (Some other) e =
        let is = named_is item.name items other e in
        absurd (pairs_head (λ (a b : Item). a.name ≡ b.name → ⊥) item items once other is.1 (sym is.0))

not_both : (a b : Item) → ComesBefore a b → ComesBefore b a → ⊥
not_both a b h k = bad (sym h ∙ nat_list_cmp_total.antisymm (item_key a) (item_key b) ∙ ap ordering_reverse k)
  where
    bad : Less ≡ Greater → ⊥
    bad e = cc

-- the first entries of two such lists are one
heads : (x : Item) (xs : List Item) (y : Item) (ys : List Item) → IsInOrder (x ∷ xs) → IsInOrder (y ∷ ys) → In x (y ∷ ys) → In y (x ∷ xs) → x ≡ y
heads x xs y ys ox oy (inl e) j = e
heads x xs y ys ox oy (inr i) (inl e) = sym e
heads x xs y ys ox oy (inr i) (inr j) = absurd (not_both x y (pairs_head ComesBefore x xs ox y j) (pairs_head ComesBefore y ys oy x i))

pub one_list : (xs ys : List Item) → IsInOrder xs → HasNamesOnce xs → IsInOrder ys → HasNamesOnce ys → ((name : Bytes) → named name xs ≡ named name ys) → xs ≡ ys
one_list [] [] ox nx oy ny same = refl
one_list [] (y ∷ ys) ox nx oy ny same = none_is_some y (same y.name ∙ named_first y ys)
one_list (x ∷ xs) [] ox nx oy ny same = none_is_some x (sym (same x.name) ∙ named_first x xs)
one_list (x ∷ xs) (y ∷ ys) ox nx oy ny same =
    let rest : xs ≡ ys = one_list xs ys (pairs_tail ComesBefore x xs ox) (pairs_tail (λ (a b : Item). a.name ≡ b.name → ⊥) x xs nx)
    (pairs_tail ComesBefore y ys oy) (pairs_tail (λ (a b : Item). a.name ≡ b.name → ⊥) y ys ny) tails in
    λ i. first i ∷ rest i
  where
    first : x ≡ y
    first = heads x xs y ys ox oy
        (named_is x.name (y ∷ ys) x (sym (same x.name) ∙ named_first x xs)).1
        (named_is y.name (x ∷ xs) y (same y.name ∙ named_first y ys)).1

    tails : (name : Bytes) → named name xs ≡ named name ys
    tails name = go (bytes_eq name x.name) refl
      where
        go : (b : Bool) → bytes_eq name x.name ≡ b → named name xs ≡ named name ys
        go true t =
            let is = same_text name x.name t in
            ap (λ n. named n xs) is ∙ none_behind x xs nx ∙ sym (ap (λ n. named n ys) (is ∙ ap (λ (z : Item). z.name) first) ∙ none_behind y ys ny)
        go false t =
            sym (named_other name x xs (texts_differ name x.name t)) ∙ same name
            ∙ named_other name y ys (λ is. texts_differ name x.name t (is ∙ ap (λ (z : Item). z.name) (sym first)))
