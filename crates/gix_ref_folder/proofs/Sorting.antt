-- A listing in any order, once it is sorted.
use Rattle.std.proofs.Common.{◌≡◌, ◌≢◌, ◌∙◌, refl, sym, ap, subst, ℕ, zero, suc, ◌+◌, ◌<◌, ◌≤◌, Bool, true, false, cond, List, [], ◌∷◌, map, length, get_or, arith}
use Rattle.std.proofs.lemmas.List.{length-map}
use Rattle.std.specs.Prelude.{⊤, bytes_eq, count_by, Vec}
use Rattle.std.specs.List.{AllByRecursion, filter}
use Rattle.std.specs.List.Sorted.{IsPermutation, IsSorted}
use Rattle.std.specs.Ordering.{is_lt, nat_cmp, ordering_reverse}
use Rattle.std.specs.declared.alloc.Global.{Global}
use Rattle.std.specs.declared.cmp.Ordering.{Ordering}
use Rattle.std.specs.declared.cmp.Ordering.TheVariants.{Less, Equal, Greater}
use Rattle.std.specs.Cmp.Lexicographic.{slice_cmp}
use Rattle.std.specs.FinMap.{slice_cmp-IsAntisymmetric, nat_cmp-IsAntisymmetric}
use Rattle.std.proofs.lemmas.Cmp.{nat_list_cmp_total}
use Rattle.std.proofs.lemmas.Slice.Eq.{bytes_eq-Decides}
use Rattle.std.proofs.lemmas.List.Sums.{sum_by-cons}
use Rattle.std.proofs.lemmas.List.Sorted.{IsPermutation-map, sum_by-IsPermutation, sorted_far, ranks_by}
use Rattle.gix_ref_file.specs.Tree.{path_cmp, IsAscending}

abbrev pub Key : Type 0
Key = Vec ℕ Global

abbrev pub items_of : List Key → List (List ℕ)
items_of names = map (λ (name : Key). name.items) names

-- ---- what a test leaves of names

pub filter_names : (keeps : List ℕ → Bool) (names : List Key) → items_of (filter (λ (name : Key). keeps name.items) names) ≡ filter keeps (items_of names)
filter_names keeps [] = refl
filter_names keeps (name ∷ names) = by_case (keeps name.items) (filter_names keeps names)
  where
    by_case : (b : Bool) → items_of (filter (λ (n : Key). keeps n.items) names) ≡ filter keeps (items_of names)
        → items_of (cond b (name ∷ filter (λ (n : Key). keeps n.items) names) (filter (λ (n : Key). keeps n.items) names))
        ≡ cond b (name.items ∷ filter keeps (items_of names)) (filter keeps (items_of names))
    by_case true rest = ap (λ ns. name.items ∷ ns) rest
    by_case false rest = rest

pub shown_names : (keeps : List ℕ → Bool) (names kept : List Key) (all : List (List ℕ)) → kept ≡ filter (λ (name : Key). keeps name.items) names
    → IsPermutation (filter keeps (items_of names)) all → IsPermutation (items_of kept) all
shown_names keeps names kept all is listed = subst (λ ns. IsPermutation ns all) (sym (ap items_of is ∙ filter_names keeps names)) listed

-- ---- how often a name is in a list

abbrev times : List (List ℕ) → List ℕ → ℕ
times names name = count_by (λ other. bytes_eq other name) names

times_cons : (x : List ℕ) (xs : List (List ℕ)) (name : List ℕ) → times (x ∷ xs) name ≡ cond (bytes_eq x name) 1 0 + times xs name
times_cons x xs name = sum_by-cons (λ other. cond (bytes_eq other name) 1 0) x xs

times_here : (x : List ℕ) (xs : List (List ℕ)) → times (x ∷ xs) x ≡ 1 + times xs x
times_here x xs = times_cons x xs x ∙ ap (λ b. cond b 1 0 + times xs x) ((bytes_eq-Decides x x).1 refl)

-- ---- lists in which no name is below one before it

abbrev NoneBelow : List ℕ → List (List ℕ) → Type 0
NoneBelow low xs = AllByRecursion (λ later. path_cmp later low ≢ Less) xs

abbrev Rises : List (List ℕ) → Type 0
Rises [] = ⊤
Rises (x ∷ xs) = NoneBelow x xs × Rises xs

not_below_itself : (x : List ℕ) → path_cmp x x ≢ Less
not_below_itself x is = clash (sym is ∙ nat_list_cmp_total.antisymm x x ∙ ap ordering_reverse is)
  where
    clash : Less ≡ Greater → ⊥
    clash e = cc

in_list : (low : List ℕ) (xs : List (List ℕ)) (name : List ℕ) → NoneBelow low xs → 1 ≤ times xs name → path_cmp name low ≢ Less
in_list low [] name none some = absurd (omega (arith, some))
in_list low (x ∷ xs) name none some = by_case (bytes_eq x name) refl (in_list low xs name none.1)
  where
    by_case : (b : Bool) → bytes_eq x name ≡ b → (1 ≤ times xs name → path_cmp name low ≢ Less) → path_cmp name low ≢ Less
    by_case true is rest = subst (λ (n : List ℕ). path_cmp n low ≢ Less) ((bytes_eq-Decides x name).0 is) none.0
    by_case false is rest = rest (omega (arith, some, times_cons x xs name ∙ ap (λ b. cond b 1 0 + times xs name) is))

-- neither is below the other
one_name : (x y : List ℕ) → path_cmp x y ≢ Less → path_cmp y x ≢ Less → x ≡ y
one_name x y not_x not_y = by_case (path_cmp x y) refl
  where
    by_case : (o : Ordering) → path_cmp x y ≡ o → x ≡ y
    by_case Less is = absurd (not_x is)
    by_case Equal is = slice_cmp-IsAntisymmetric nat_cmp-IsAntisymmetric x y is
    by_case Greater is = absurd (not_y (nat_list_cmp_total.antisymm y x ∙ ap ordering_reverse is))

-- two such lists with the same names are one
same_lists : (xs ys : List (List ℕ)) → Rises xs → Rises ys → ((name : List ℕ) → times xs name ≡ times ys name) → xs ≡ ys
same_lists [] [] up_x up_y same = refl
same_lists [] (y ∷ ys) up_x up_y same = absurd (omega (arith, same y, times_here y ys))
same_lists (x ∷ xs) [] up_x up_y same = absurd (omega (arith, same x, times_here x xs))
same_lists (x ∷ xs) (y ∷ ys) up_x up_y same =
    let head : x ≡ y = one_name x y
    (in_list y (y ∷ ys) x (not_below_itself y, up_y.0) (omega (arith, same x, times_here x xs)))
    (in_list x (x ∷ xs) y (not_below_itself x, up_x.0) (omega (arith, same y, times_here y ys))) in
    (λ i. head i ∷ same_lists xs ys up_x.1 up_y.1 (tail head) i)
  where
    tail : x ≡ y → (name : List ℕ) → times xs name ≡ times ys name
    tail head name =
        let first : ◌≡◌ {A = ℕ} (cond (bytes_eq x name) 1 0) (cond (bytes_eq y name) 1 0) = ap (λ n. cond (bytes_eq n name) 1 0) head in
        omega (arith, first, same name, times_cons x xs name, times_cons y ys name)

-- ---- sorted lists, and the names of a folder

no_less : (o : Ordering) → is_lt o ≡ false → o ≢ Less
no_less o is less = clash (sym (ap is_lt less) ∙ is)
  where
    clash : true ≡ false → ⊥
    clash e = cc

each : (P : List ℕ → Type 0) (xs : List (List ℕ)) → ((j : ℕ) (d : List ℕ) → j < length xs → P (get_or xs j d)) → AllByRecursion P xs
each P [] at = tt
each P (x ∷ xs) at = (at 0 x (omega arith), each P xs (λ j d inside. at (suc j) d (omega (arith, inside))))

sorted_rises : (xs : List (List ℕ)) → IsSorted path_cmp xs → Rises xs
sorted_rises [] sorted = tt
sorted_rises (x ∷ xs) sorted = (
  each _ xs (λ j d inside. no_less _ (sorted_far (λ a b. is_lt (path_cmp a b)) (ranks_by nat_list_cmp_total (λ n. n)) (x ∷ xs) sorted 0 (suc j) d (omega arith) (omega (arith, inside)))),
  sorted_rises xs (λ k d low high.
      let next : suc k + 1 ≡ suc (k + 1) = omega arith in
      subst (λ (n : ℕ). is_lt (path_cmp (get_or (x ∷ xs) n d) (get_or xs k d)) ≡ false) next (sorted (suc k) d (omega arith) (omega (arith, high)))),
)

ascending_rises : (xs : List (List ℕ)) → IsAscending xs → Rises xs
ascending_rises [] up = tt
ascending_rises (x ∷ xs) up = (later xs up.0, ascending_rises xs up.1)
  where
    later : (ys : List (List ℕ)) → AllByRecursion (λ y. path_cmp x y ≡ Less) ys → NoneBelow x ys
    later [] all = tt
    later (y ∷ ys) all = (λ is. clash (sym is ∙ nat_list_cmp_total.antisymm y x ∙ ap ordering_reverse all.0), later ys all.1)
      where
        clash : Less ≡ Greater → ⊥
        clash e = cc

at : (xs : List Key) (k : ℕ) (d : List ℕ) (e : Key) → k < length xs → get_or (map (λ (name : Key). name.items) xs) k d ≡ (get_or xs k e).items
at [] k d e inside = absurd (omega (arith, inside))
at (x ∷ xs) zero d e inside = refl
at (x ∷ xs) (suc k) d e inside = at xs k d e (omega (arith, inside))

sorted_items : (xs : List Key) → IsSorted (λ (x y : Key). slice_cmp nat_cmp x.items y.items) xs → IsSorted path_cmp (map (λ (name : Key). name.items) xs)
sorted_items [] sorted = λ k d low high. absurd (omega (arith, high))
sorted_items (x ∷ xs) sorted = λ k d low high.
    let short : k + 1 < length (x ∷ xs) = omega (arith, high, length-map (x ∷ xs) (λ (name : Key). name.items)) in
    (λ i. is_lt (slice_cmp nat_cmp (at (x ∷ xs) (k + 1) d x short i) (at (x ∷ xs) k d x (omega (arith, short)) i))) ∙ sorted k x low short

-- names that are all of a folder's, once they are sorted
pub sorted_names : (found sorted : List Key) (names : List (List ℕ)) → IsPermutation (map (λ (name : Key). name.items) found) names → IsAscending names
    → IsPermutation found sorted → IsSorted (λ (x y : Key). slice_cmp nat_cmp x.items y.items) sorted → map (λ (name : Key). name.items) sorted ≡ names
sorted_names found sorted names all up moved in_order =
    same_lists _ names (sorted_rises _ (sorted_items sorted in_order)) (ascending_rises names up) (λ name.
    sum_by-IsPermutation (λ other. cond (bytes_eq other name) 1 0) _ _ (IsPermutation-map (λ (n : Key). n.items) found sorted moved)
    ∙ sym (sum_by-IsPermutation (λ other. cond (bytes_eq other name) 1 0) _ names all))
