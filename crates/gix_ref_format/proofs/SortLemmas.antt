-- Records in the order of their names, and the first of a name.
use Rattle.std.proofs.Common.{◌≡◌, ◌∙◌, ap, refl, sym, subst, ℕ, zero, suc, ◌<◌, ◌≤◌, Bool, true, false, cond, not, ◌&&◌, List, [], ◌∷◌, length, Option, Some, None, option_map, arith, get_or}
use Rattle.std.specs.Prelude.{find, bytes_eq}
use Rattle.std.specs.List.{filter, slice_get}
use Rattle.std.specs.List.Sorted.{IsPermutation, IsSortedBy, IsStableBy, IsNonDecreasingBy, IsPartitionPoint, IsPartitionedBy, ties}
use Rattle.std.specs.Ordering.{is_lt, is_eq, nat_cmp, ordering_index, ordering_reverse}
use Rattle.std.specs.declared.cmp.Ordering.{Ordering}
use Rattle.std.specs.declared.cmp.Ordering.TheVariants.{Less, Equal, Greater}
use Rattle.std.specs.Cmp.Lexicographic.{slice_cmp}
use Rattle.std.proofs.lemmas.Cmp.{nat_list_cmp_total}
use Rattle.std.proofs.lemmas.Map.Text.{is_eq-slice_cmp}
use Rattle.std.proofs.lemmas.Option.{slice_get_past}
use Rattle.std.proofs.lemmas.List.Sorted.{IsPermutation-map, searchable_from_sorted}
use Rattle.gix_hash.specs.declared.object_id.ObjectId.TheVariants as ids
use Rattle.gix_ref_format.specs.PackedBuffer.{entry_record, entry_records, hit, before, Holds}
use Rattle.gix_ref_format.specs.declared.packed.buffer.Entry.{Entry}

-- ---- neither name before the other: one name

both_ways : (o : Ordering) → (not (is_lt (ordering_reverse o)) && not (is_lt o)) ≡ is_eq o
both_ways Less = refl
both_ways Equal = refl
both_ways Greater = refl

tied : (x y : List ℕ) → (not (is_lt (slice_cmp nat_cmp x y)) && not (is_lt (slice_cmp nat_cmp y x))) ≡ bytes_eq y x
tied x y =
    ap (λ r. not (is_lt r) && not (is_lt (slice_cmp nat_cmp y x))) (nat_list_cmp_total.antisymm x y)
    ∙ both_ways (slice_cmp nat_cmp y x)
    ∙ is_eq-slice_cmp y x

-- ---- the first that passes, by those that pass

abbrev first : {X : Type 0} → List X → Option X
first [] = None
first (x ∷ xs) = Some x

find_filtered : {X : Type 0} (p : X → Bool) (xs : List X) → find p xs ≡ first (filter p xs)
find_filtered p [] = refl
find_filtered p (x ∷ xs) = go (p x) (find_filtered p xs)
  where
    go : (b : Bool) → find p xs ≡ first (filter p xs) → cond b (Some x) (find p xs) ≡ first (cond b (x ∷ filter p xs) (filter p xs))
    go true rest = refl
    go false rest = rest

filter_alike : {X : Type 0} (p q : X → Bool) → ((x : X) → p x ≡ q x) → (xs : List X) → filter p xs ≡ filter q xs
filter_alike p q same [] = refl
filter_alike p q same (x ∷ xs) =
    ap (λ b. cond b (x ∷ filter p xs) (filter p xs)) (same x) ∙ ap (λ l. cond (q x) (x ∷ l) l) (filter_alike p q same xs)

abbrev pub named : List ℕ → Entry → Bool
named name e = bytes_eq e.name name

pub hit_entries : (name : List ℕ) (xs : List Entry) → hit (entry_records xs) name ≡ option_map entry_record (find (named name) xs)
hit_entries name [] = refl
hit_entries name (x ∷ xs) = go (named name x) (hit_entries name xs)
  where
    go : (b : Bool) → hit (entry_records xs) name ≡ option_map entry_record (find (named name) xs)
        → cond b (Some (entry_record x)) (hit (entry_records xs) name) ≡ option_map entry_record (cond b (Some x) (find (named name) xs))
    go true rest = refl
    go false rest = rest

-- any entry of this name
abbrev probe : List ℕ → Entry
probe name = record { name = name; target = ids.Sha1 []; object = None }

named_tied : (name : List ℕ) (xs : List Entry) → filter (named name) xs ≡ filter (ties before (probe name)) xs
named_tied name = filter_alike (named name) (ties before (probe name)) (λ e. sym (tied name e.name))

hit_kept : (xs ys : List Entry) → IsStableBy before xs ys → (name : List ℕ) → hit (entry_records ys) name ≡ hit (entry_records xs) name
hit_kept xs ys stable name =
    let chosen : filter (named name) ys ≡ filter (named name) xs = named_tied name ys ∙ stable (probe name) ∙ sym (named_tied name xs) in
    let found : find (named name) ys ≡ find (named name) xs = find_filtered (named name) ys ∙ ap first chosen ∙ sym (find_filtered (named name) xs) in
    hit_entries name ys ∙ ap (option_map entry_record) found ∙ sym (hit_entries name xs)

pub holds_sorted : (xs ys : List Entry) → IsPermutation xs ys → IsStableBy before xs ys → Holds (entry_records xs) (entry_records ys)
holds_sorted xs ys moved stable = record {
  same = IsPermutation-map entry_record xs ys moved;
  first = hit_kept xs ys stable;
}

-- ---- where a search ends

abbrev pub rank : List ℕ → Entry → ℕ
rank key e = ordering_index (slice_cmp nat_cmp e.name key)

abbrev pub below : List ℕ → Entry → Bool
below key e = is_lt (slice_cmp nat_cmp e.name key)

abbrev pub pick : List ℕ → Option Entry → Option Entry
pick key None = None
pick key (Some e) = cond (named key e) (Some e) None

-- an entry whose name isn't the key
other : (key : List ℕ) (e : Entry) → is_eq (slice_cmp nat_cmp e.name key) ≡ false → named key e ≡ false
other key e h = sym (is_eq-slice_cmp e.name key) ∙ h

passed : (key : List ℕ) (x : Entry) (xs : List Entry) → named key x ≡ false → find (named key) (x ∷ xs) ≡ find (named key) xs
passed key x xs h = ap (λ b. cond b (Some x) (find (named key) xs)) h

greater : (o : Ordering) → ordering_index o ≡ 2 → is_eq o ≡ false
greater Less h = cc
greater Equal h = cc
greater Greater h = refl

less : (o : Ordering) → is_lt o ≡ true → is_eq o ≡ false
less Less h = refl
less Equal h = cc
less Greater h = refl

highest : (o : Ordering) → 2 ≤ ordering_index o → ordering_index o ≡ 2
highest Less h = absurd (omega (arith, h))
highest Equal h = absurd (omega (arith, h))
highest Greater h = refl

none_behind : (key : List ℕ) (xs : List Entry) → ((k : ℕ) (d : Entry) → k < length xs → rank key (get_or xs k d) ≡ 2) → find (named key) xs ≡ None
none_behind key [] high = refl
none_behind key (x ∷ xs) high =
    passed key x xs (other key x (greater (slice_cmp nat_cmp x.name key) (high 0 x (omega arith))))
    ∙ none_behind key xs (λ k d lt. high (suc k) d (omega (arith, lt)))

pub search_ends : (key : List ℕ) (xs : List Entry) (i : ℕ) → IsNonDecreasingBy (rank key) xs → IsPartitionPoint (λ y. below key y ≡ true) (λ y. below key y ≡ false) xs i
    → find (named key) xs ≡ pick key (slice_get xs i)
search_ends key [] i up parts = refl
search_ends key (x ∷ xs) (suc i) up parts =
    passed key x xs (other key x (less (slice_cmp nat_cmp x.name key) (parts.0 0 x (omega arith) (omega arith))))
    ∙ search_ends key xs i
    (λ k j d le lt. up (suc k) (suc j) d (omega (arith, le)) (omega (arith, lt)))
    (λ k d le lt. parts.0 (suc k) d (omega arith) (omega (arith, lt)), λ k d le lt. parts.1 (suc k) d (omega (arith, le)) (omega (arith, lt)))
search_ends key (x ∷ xs) zero up parts = go (slice_cmp nat_cmp x.name key) refl
  where
    go : (o : Ordering) → slice_cmp nat_cmp x.name key ≡ o → find (named key) (x ∷ xs) ≡ pick key (Some x)
    go Less is = absurd (clash (sym (ap is_lt is) ∙ parts.1 0 x (omega arith) (omega arith)))
      where
        clash : true ≡ false → ⊥
        clash e = cc
    go Equal is =
        let same : named key x ≡ true = sym (is_eq-slice_cmp x.name key) ∙ ap is_eq is in
        ap (λ b. cond b (Some x) (find (named key) xs)) same ∙ ap (λ b. cond b (Some x) None) (sym same)
    go Greater is =
        let differs : named key x ≡ false = sym (is_eq-slice_cmp x.name key) ∙ ap is_eq is in
        let high : (k : ℕ) (d : Entry) → k < length xs → rank key (get_or xs k d) ≡ 2 = λ k d lt.
        highest (slice_cmp nat_cmp (get_or xs k d).name key)
        (subst (λ (o : Ordering). ordering_index o ≤ rank key (get_or xs k d)) is (up 0 (suc k) d (omega arith) (omega (arith, lt)))) in
        passed key x xs differs ∙ none_behind key xs high ∙ sym (ap (λ b. cond b (Some x) None) differs)

lowest : (o : Ordering) → is_lt o ≡ true → ordering_index o ≡ 0
lowest Less h = refl
lowest Equal h = cc
lowest Greater h = cc

least : (o : Ordering) → ordering_index o ≤ 0 → is_lt o ≡ true
least Less h = refl
least Equal h = absurd (omega (arith, h))
least Greater h = absurd (omega (arith, h))

pub ranks_rise : (key : List ℕ) (xs : List Entry) → IsSortedBy before xs → IsNonDecreasingBy (rank key) xs
ranks_rise key xs order = searchable_from_sorted nat_list_cmp_total (λ e. e.name) xs key order

pub ranks_part : (key : List ℕ) (xs : List Entry) → IsSortedBy before xs → IsPartitionedBy (below key) xs
ranks_part key xs order i j d le lt h =
    let low = lowest (slice_cmp nat_cmp (get_or xs j d).name key) h in
    least (slice_cmp nat_cmp (get_or xs i d).name key) (subst (λ n. rank key (get_or xs i d) ≤ n) low (ranks_rise key xs order i j d le lt))

pub parted : (key : List ℕ) (ys xs : List Entry) → ys ≡ xs → IsSortedBy before xs → IsPartitionedBy (below key) ys
parted key ys xs same order = subst (IsPartitionedBy (below key)) (sym same) (ranks_part key xs order)

pub none_there : (ys xs : List Entry) (i : ℕ) → ys ≡ xs → length ys ≤ i → slice_get xs i ≡ None
none_there ys xs i same past = slice_get_past xs i (subst (λ (l : List Entry). length l ≤ i) same past)

get_there : (xs : List Entry) (i : ℕ) (d : Entry) → i < length xs → slice_get xs i ≡ Some (get_or xs i d)
get_there [] i d within = absurd (omega (arith, within))
get_there (x ∷ xs) zero d within = refl
get_there (x ∷ xs) (suc i) d within = get_there xs i d (omega (arith, within))

pub found_there : (ys xs : List Entry) (i : ℕ) (e : Entry) → ys ≡ xs → i < length ys → e ≡ get_or ys i e → slice_get xs i ≡ Some e
found_there ys xs i e same within is =
    get_there xs i e (subst (λ (l : List Entry). i < length l) same within) ∙ ap Some (sym (is ∙ ap (λ (l : List Entry). get_or l i e) same))

-- what a search over the entries in order finds
pub searched_hit : (key : List ℕ) (ys xs : List Entry) (i : ℕ) (found : Option Entry) → ys ≡ xs → IsSortedBy before xs
    → IsPartitionPoint (λ y. below key y ≡ true) (λ y. below key y ≡ false) ys i → slice_get xs i ≡ found → hit (entry_records xs) key ≡ option_map entry_record (pick key found)
searched_hit key ys xs i found same order parts is =
    let here = subst (λ l. IsPartitionPoint (λ y. below key y ≡ true) (λ y. below key y ≡ false) l i) same parts in
    hit_entries key xs ∙ ap (option_map entry_record) (search_ends key xs i (ranks_rise key xs order) here ∙ ap (pick key) is)
