-- Names that begin so are together among names in order.
use Rattle.std.proofs.Common.{◌≡◌, ◌∙◌, ap, refl, sym, subst, ℕ, zero, suc, ◌+◌, ◌<◌, ◌≤◌, Bool, true, false, cond, List, [], ◌∷◌, ◌++◌, take, drop, length, arith, get_or}
use Rattle.std.specs.List.{filter}
use Rattle.std.specs.List.Sorted.{IsSortedBy, IsPartitionPoint, IsPartitionedBy}
use Rattle.std.specs.Ordering.{is_lt, nat_cmp, ordering_index, ordering_then}
use Rattle.std.specs.declared.cmp.Ordering.{Ordering}
use Rattle.std.specs.declared.cmp.Ordering.TheVariants.{Less, Equal, Greater}
use Rattle.std.specs.Cmp.{nat_cmp_is}
use Rattle.std.specs.Cmp.Lexicographic.{slice_cmp}
use Rattle.std.proofs.lemmas.Cmp.{ranked}
use Rattle.std.proofs.lemmas.List.{get_or-drop, length-drop}
use Rattle.gix_object_lines.specs.Bytes.{IsBeginningOf}
use Rattle.gix_object_lines.specs.NameTest.{begins}
use Rattle.gix_object_lines.proofs.NameTests.{begins-Decides}
use Rattle.gix_ref_format.specs.PackedBuffer.{entry_record, entry_records, before, has_prefix}
use Rattle.gix_ref_format.specs.declared.packed.buffer.Entry.{Entry}
use Rattle.gix_ref_format.proofs.SortLemmas.{rank, below, ranks_rise}

-- ---- the order of names that begin alike

itself : (x : ℕ) → nat_cmp x x ≡ Equal
itself x = sym (nat_cmp_is x x Equal refl)

-- what begins with the front isn't before it
not_before : (front rest : List ℕ) → is_lt (slice_cmp nat_cmp (front ++ rest) front) ≡ false
not_before [] [] = refl
not_before [] (x ∷ rest) = refl
not_before (x ∷ front) rest = ap (λ o. is_lt (ordering_then o (slice_cmp nat_cmp (front ++ rest) front))) (itself x) ∙ not_before front rest

-- what is between the front and a name that begins with it begins with it
between : (front name rest : List ℕ) → is_lt (slice_cmp nat_cmp name front) ≡ false → is_lt (slice_cmp nat_cmp (front ++ rest) name) ≡ false → IsBeginningOf front name
between [] name rest low high = (name, refl)
between (x ∷ front) [] rest low high = cc
between (x ∷ front) (y ∷ name) rest low high = by_order (nat_cmp y x) refl (nat_cmp x y) refl (λ low' high'. between front name rest low' high')
  where
    by_order : (o : Ordering) → nat_cmp y x ≡ o → (p : Ordering) → nat_cmp x y ≡ p
        → (is_lt (slice_cmp nat_cmp name front) ≡ false → is_lt (slice_cmp nat_cmp (front ++ rest) name) ≡ false → IsBeginningOf front name) → IsBeginningOf (x ∷ front) (y ∷ name)
    by_order Less is p other again = absurd (clash (sym (ap (λ q. is_lt (ordering_then q (slice_cmp nat_cmp name front))) is) ∙ low))
      where
        clash : true ≡ false → ⊥
        clash e = cc
    by_order o is Less other again = absurd (clash (sym (ap (λ q. is_lt (ordering_then q (slice_cmp nat_cmp (front ++ rest) name))) other) ∙ high))
      where
        clash : true ≡ false → ⊥
        clash e = cc
    by_order Equal is p other again =
        let same : x ≡ y = sym (ranked y x Equal (sym is)) in
        let low_here = sym (ap (λ q. is_lt (ordering_then q (slice_cmp nat_cmp name front))) is) ∙ low in
        let equal : nat_cmp x y ≡ Equal = ap (λ z. nat_cmp z y) same ∙ itself y in
        let high_here = sym (ap (λ q. is_lt (ordering_then q (slice_cmp nat_cmp (front ++ rest) name))) equal) ∙ high in
        let r = again low_here high_here in
        (r.0, λ i. sym same i ∷ r.1 i)
    by_order Greater is Equal other again = absurd (omega (arith, ranked y x Greater (sym is), ranked x y Equal (sym other)))
    by_order Greater is Greater other again = absurd (omega (arith, ranked y x Greater (sym is), ranked x y Greater (sym other)))

-- ---- entries in order

pub low_fails : (front : List ℕ) (e : Entry) → below front e ≡ true → has_prefix front e ≡ false
low_fails front e low = by_test (begins front e.name) refl
  where
    by_test : (b : Bool) → begins front e.name ≡ b → b ≡ false
    by_test false is = refl
    by_test true is =
        let r = (begins-Decides front e.name).0 is in
        sym low ∙ ap (λ n. is_lt (slice_cmp nat_cmp n front)) r.1 ∙ not_before front r.0

-- of two entries in order the later isn't before the other
in_order : (xs : List Entry) → IsSortedBy before xs → (i j : ℕ) (d : Entry) → i ≤ j → j < length xs → is_lt (slice_cmp nat_cmp (get_or xs j d).name (get_or xs i d).name) ≡ false
in_order xs order i j d le lt = from_rank (slice_cmp nat_cmp (get_or xs j d).name (get_or xs i d).name) (subst (λ n. n ≤ rank (get_or xs i d).name (get_or xs j d)) (ap ordering_index (one_name (get_or xs i d).name)) (ranks_rise (get_or xs i d).name xs order i j d le lt))
  where
    one_name : (name : List ℕ) → slice_cmp nat_cmp name name ≡ Equal
    one_name [] = refl
    one_name (x ∷ name) = ap (λ o. ordering_then o (slice_cmp nat_cmp name name)) (itself x) ∙ one_name name

    from_rank : (o : Ordering) → 1 ≤ ordering_index o → is_lt o ≡ false
    from_rank Less h = absurd (omega (arith, h))
    from_rank Equal h = refl
    from_rank Greater h = refl

-- those that begin with the front come first of those that aren't before it
pub fronts_part : (front : List ℕ) (ys xs : List Entry) (n : ℕ) → ys ≡ drop n xs → IsSortedBy before xs → IsPartitionPoint (λ y. below front y ≡ true) (λ y. below front y ≡ false) xs n
    → IsPartitionedBy (has_prefix front) ys
fronts_part front ys xs n is order parts = subst (IsPartitionedBy (has_prefix front)) (sym is) (λ i j d le lt passes.
    let room : n + j < length xs = omega (arith, lt, length-drop n xs) in
    let at_i = get_or-drop n xs i d in
    let at_j = get_or-drop n xs j d in
    let r = (begins-Decides front (get_or xs (n + j) d).name).0 (sym (ap (has_prefix front) at_j) ∙ passes) in
    let low = parts.1 (n + i) d (omega arith) (omega (arith, room, le)) in
    let high = sym (ap (λ name. is_lt (slice_cmp nat_cmp name (get_or xs (n + i) d).name)) r.1) ∙ in_order xs order (n + i) (n + j) d (omega (arith, le)) room in
    ap (has_prefix front) at_i ∙ (begins-Decides front (get_or xs (n + i) d).name).1 (between front (get_or xs (n + i) d).name r.0 low high))

-- ---- what a filter leaves

filter_past : {X : Type 0} (p : X → Bool) (xs : List X) (n : ℕ) → ((k : ℕ) (d : X) → k < n → k < length xs → p (get_or xs k d) ≡ false) → filter p xs ≡ filter p (drop n xs)
filter_past p [] zero fails = refl
filter_past p [] (suc n) fails = refl
filter_past p (x ∷ xs) zero fails = refl
filter_past p (x ∷ xs) (suc n) fails =
    ap (λ b. cond b (x ∷ filter p xs) (filter p xs)) (fails 0 x (omega arith) (omega arith)) ∙ filter_past p xs n (λ k d lt room. fails (suc k) d (omega (arith, lt)) (omega (arith, room)))

filter_none : {X : Type 0} (p : X → Bool) (xs : List X) → ((k : ℕ) (d : X) → k < length xs → p (get_or xs k d) ≡ false) → filter p xs ≡ []
filter_none p [] fails = refl
filter_none p (x ∷ xs) fails = ap (λ b. cond b (x ∷ filter p xs) (filter p xs)) (fails 0 x (omega arith)) ∙ filter_none p xs (λ k d room. fails (suc k) d (omega (arith, room)))

pub filter_run : {X : Type 0} (p : X → Bool) (xs : List X) (n : ℕ) → IsPartitionPoint (λ y. p y ≡ true) (λ y. p y ≡ false) xs n → filter p xs ≡ take n xs
filter_run p [] zero parts = refl
filter_run p [] (suc n) parts = refl
filter_run p (x ∷ xs) zero parts = filter_none p (x ∷ xs) (λ k d room. parts.1 k d (omega arith) room)
filter_run p (x ∷ xs) (suc n) parts =
    ap (λ b. cond b (x ∷ filter p xs) (filter p xs)) (parts.0 0 x (omega arith) (omega arith))
    ∙ ap (λ l. x ∷ l) (filter_run p xs n (λ k d low lt. parts.0 (suc k) d (omega arith) (omega (arith, lt)), λ k d low lt. parts.1 (suc k) d (omega (arith, low)) (omega (arith, lt))))

records_filtered : (front : List ℕ) (xs : List Entry) → filter (λ r. begins front r.name) (entry_records xs) ≡ entry_records (filter (has_prefix front) xs)
records_filtered front [] = refl
records_filtered front (x ∷ xs) = by_test (has_prefix front x) (records_filtered front xs)
  where
    by_test : (b : Bool) → filter (λ r. begins front r.name) (entry_records xs) ≡ entry_records (filter (has_prefix front) xs)
        → cond b (entry_record x ∷ filter (λ r. begins front r.name) (entry_records xs)) (filter (λ r. begins front r.name) (entry_records xs)) ≡ entry_records (cond b (x ∷ filter (has_prefix front) xs) (filter (has_prefix front) xs))
    by_test true rest = ap (λ l. entry_record x ∷ l) rest
    by_test false rest = rest

pub fronts_part_of : (front : List ℕ) (zs ys xs : List Entry) (n : ℕ) → ys ≡ xs → zs ≡ drop n ys → IsSortedBy before xs → IsPartitionPoint (λ y. below front y ≡ true) (λ y. below front y ≡ false) ys n
    → IsPartitionedBy (has_prefix front) zs
fronts_part_of front zs ys xs n same zs_are order low =
    fronts_part front zs xs n (zs_are ∙ ap (drop n) same) order (subst (λ l. IsPartitionPoint (λ y. below front y ≡ true) (λ y. below front y ≡ false) l n) same low)

-- the first of those that aren't before the front are the records that begin so
pub prefixed : (front : List ℕ) (zs ys xs found : List Entry) (n : ℕ) → ys ≡ xs → zs ≡ drop n ys → IsSortedBy before xs → IsPartitionPoint (λ y. below front y ≡ true) (λ y. below front y ≡ false) ys n
    → (IsPartitionedBy (has_prefix front) zs → found ≡ filter (has_prefix front) zs) → entry_records found ≡ filter (λ r. begins front r.name) (entry_records xs)
prefixed front zs ys xs found n ys_are zs_are order low first =
    ap entry_records (first (fronts_part_of front zs ys xs n ys_are zs_are order low) ∙ ap (filter (has_prefix front)) zs_are
    ∙ sym (filter_past (has_prefix front) ys n (λ k d lt room. low_fails front (get_or ys k d) (low.0 k d (omega arith) lt))) ∙ ap (filter (has_prefix front)) ys_are)
    ∙ sym (records_filtered front xs)
