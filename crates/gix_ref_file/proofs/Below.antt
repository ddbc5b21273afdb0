-- The paths of a folder: they come together, between `folder/` and `folder0`.
use Rattle.std.proofs.Common.{◌≡◌, ◌≢◌, ◌⊎◌, inl, inr, ⊎_elim, ℕ, suc, ◌+◌, ◌-◌, ◌<◌, ◌≤◌, Bool, true, false, cond, not, ◌&&◌, T, List, [], ◌∷◌, ◌++◌, length, take, drop, filter_map, Option, Some, None, refl, sym, ◌∙◌, ap, subst, arith, length-append, append_assoc, reverse}
use Rattle.std.proofs.lemmas.Map.Views.{any-filter_same}
use Rattle.std.specs.List.{list_any, suffix_len, prefix_len, filter, after_last, cons_option}
use Rattle.std.specs.Ordering.{nat_cmp, is_eq, is_lt, is_le, is_gt, ordering_then, ordering_reverse}
use Rattle.std.specs.declared.cmp.Ordering.{Ordering}
use Rattle.std.specs.declared.cmp.Ordering.TheVariants.{Less, Equal, Greater}
use Rattle.std.specs.Cmp.{nat_cmp_is}
use Rattle.std.specs.BTreeMap.Comparable.{le_lt_trans}
use Rattle.std.proofs.lemmas.Cmp.{ranked}
use Rattle.std.proofs.lemmas.Bool.Decides.{Decides-eqb}
use Rattle.std.specs.declared.ops.Bound.{Bound}
use Rattle.std.specs.declared.ops.Bound.TheVariants.{Included, Excluded, Unbounded}
use Rattle.std.specs.Range.Bound.{IsForward}
use Rattle.std.specs.BTreeMap.Range.{is_from_start, is_past_end, range_contains, IsLeBy, IsLtBy}
use Rattle.gix_ref_file.specs.Below.{IsStart, IsEnd, IsBehind}
use Rattle.gix_ref_file.proofs.Entries.{Key, key_cmp, both_of, from_lt}
use Rattle.std.specs.FinMap.Entries.{below_all}
use Rattle.gix_ref_file.specs.declared.nodes.Entry.{Entry}
use Rattle.gix_ref_file.specs.Nodes.{nodes_of, IsInOrder}
use Rattle.std.specs.Cmp.Lexicographic.{nat_list_cmp_total}
use Rattle.std.proofs.Math.ListN.{get_or}
use Rattle.std.proofs.Math.Seq.{split_at}
use Rattle.std.proofs.lemmas.List.{get_or-reverse, reverse-append, length-reverse, length-take-le}
use Rattle.std.proofs.lemmas.List.Sums.{prefix_len_stops}
use Rattle.gix_ref_file.specs.Tree.{path_cmp, same_path, is_slash, parent, name_in}
use Rattle.gix_ref_file.proofs.Trees.{one_path, same_path_itself}
use Rattle.std.proofs.lemmas.Bool.{and_parts, not-true}

-- ---- the order of paths that begin alike
nat_cmp_itself : (x : ℕ) → nat_cmp x x ≡ Equal
nat_cmp_itself x = sym (nat_cmp_is x x Equal refl)

pub cmp_behind : (front xs ys : List ℕ) → path_cmp (front ++ xs) (front ++ ys) ≡ path_cmp xs ys
cmp_behind [] xs ys = refl
cmp_behind (x ∷ front) xs ys = ap (λ o. ordering_then o (path_cmp (front ++ xs) (front ++ ys))) (nat_cmp_itself x) ∙ cmp_behind front xs ys

-- what comes after `sub/rest` and before `sub0` begins with `sub/`
pub begins_so : (sub rest path : List ℕ) → path_cmp (sub ++ 47 ∷ rest) path ≡ Less → path_cmp (sub ++ 48 ∷ []) path ≡ Greater → (more : List ℕ) × (path ≡ sub ++ 47 ∷ more)
begins_so sub rest [] less greater = absurd (cc (sym less ∙ nothing_first sub 47 rest))
  where
    nothing_first : (sub : List ℕ) (x : ℕ) (xs : List ℕ) → path_cmp (sub ++ x ∷ xs) [] ≡ Greater
    nothing_first [] x xs = refl
    nothing_first (s ∷ sub) x xs = refl
begins_so [] rest (x ∷ path) less greater = (path, ap (λ b. b ∷ path) (from_orders (nat_cmp 47 x) (nat_cmp 48 x) refl refl less greater))
  where
    shorter : (path : List ℕ) → path_cmp [] path ≢ Greater
    shorter [] is = cc
    shorter (b ∷ bs) is = cc

    from_orders : (low high : Ordering) → low ≡ nat_cmp 47 x → high ≡ nat_cmp 48 x → ordering_then low (path_cmp rest path) ≡ Less → ordering_then high (path_cmp [] path) ≡ Greater → x ≡ 47
    from_orders low Less low_is high_is less greater = cc
    from_orders low Equal low_is high_is less greater = absurd (shorter path greater)
    from_orders Greater Greater low_is high_is less greater = cc
    from_orders Equal Greater low_is high_is less greater = sym (ranked 47 x Equal low_is)
    from_orders Less Greater low_is high_is less greater =
        let above = ranked 47 x Less low_is in
        let under = ranked 48 x Greater high_is in
        omega (arith, above, under)
begins_so (s ∷ sub) rest (x ∷ path) less greater = by_case (nat_cmp s x) refl (begins_so sub rest path)
  where
    same_head : nat_cmp s x ≡ Equal → x ≡ s
    same_head is = sym (ranked s x Equal (sym is))

    by_case : (o : Ordering) → nat_cmp s x ≡ o
        → (path_cmp (sub ++ 47 ∷ rest) path ≡ Less → path_cmp (sub ++ 48 ∷ []) path ≡ Greater → (more : List ℕ) × (path ≡ sub ++ 47 ∷ more))
        → (more : List ℕ) × (x ∷ path ≡ s ∷ sub ++ 47 ∷ more)
    by_case Less is inner = absurd (cc (sym greater ∙ ap (λ o. ordering_then o (path_cmp (sub ++ 48 ∷ []) path)) is))
    by_case Greater is inner = absurd (cc (sym less ∙ ap (λ o. ordering_then o (path_cmp (sub ++ 47 ∷ rest) path)) is))
    by_case Equal is inner =
        let found = inner (sym (ap (λ o. ordering_then o (path_cmp (sub ++ 47 ∷ rest) path)) is) ∙ less) (sym (ap (λ o. ordering_then o (path_cmp (sub ++ 48 ∷ []) path)) is) ∙ greater) in
        (found.0, λ i. same_head is i ∷ found.1 i)

-- ---- the folder of a path
abbrev pub inside : ℕ → Bool
inside byte = not (is_slash byte)

inside_len : (back front : List ℕ) → prefix_len (λ byte. not (is_slash byte)) (back ++ 47 ∷ front) ≤ length back
inside_len [] front = omega arith
inside_len (b ∷ back) front = by_case (not (is_slash b)) (inside_len back front)
  where
    by_case : (inside : Bool) → prefix_len (λ byte. not (is_slash byte)) (back ++ 47 ∷ front) ≤ length back → cond inside (1 + prefix_len (λ byte. not (is_slash byte)) (back ++ 47 ∷ front)) 0 ≤ suc (length back)
    by_case true h = omega (arith, h)
    by_case false h = omega arith

reversed : (sub more : List ℕ) → reverse (sub ++ 47 ∷ more) ≡ reverse more ++ 47 ∷ reverse sub
reversed sub more = reverse-append sub (47 ∷ more) ∙ ap (λ back. back ++ reverse sub) (reverse-append (47 ∷ []) more) ∙ append_assoc (reverse more) (47 ∷ []) (reverse sub)

-- the folder of what is below a folder is no shorter
pub parent_behind : (sub more : List ℕ) → length sub ≤ length (parent (sub ++ 47 ∷ more))
parent_behind sub more =
    let path = sub ++ 47 ∷ more in
    let skipped = suffix_len (λ byte. not (is_slash byte)) path in
    let few : skipped ≤ length more = subst (λ back. prefix_len (λ byte. not (is_slash byte)) back ≤ length more) (sym (reversed sub more)) (omega (arith, inside_len (reverse more) (reverse sub), length-reverse more)) in
    omega (arith, few, length-append sub (47 ∷ more), length-take-le (length path - skipped - 1) path (omega arith))

-- the byte before the last part is a slash
pub slash_before : (path : List ℕ) → suffix_len inside path < length path → get_or path (length path - suffix_len inside path - 1) 0 ≡ 47
slash_before path room =
    let skipped = suffix_len inside path in
    let stops : inside (get_or (reverse path) skipped 0) ≡ false = prefix_len_stops inside (reverse path) 0 (omega (arith, room, length-reverse path)) in
    let place : length path - 1 - skipped ≡ length path - skipped - 1 = omega (arith, room) in
    let byte : get_or (reverse path) skipped 0 ≡ get_or path (length path - skipped - 1) 0 = get_or-reverse path skipped 0 room ∙ ap (λ k. get_or path k 0) place in
    is_47 _ (sym (ap inside byte) ∙ stops)
  where
    is_47 : (b : ℕ) → not (is_slash b) ≡ false → b ≡ 47
    is_47 b h = by_case (is_slash b) refl h
      where
        by_case : (same : Bool) → is_slash b ≡ same → not same ≡ false → b ≡ 47
        by_case true is h = (Decides-eqb b 47).0 is
        by_case false is h = cc

-- a path whose folder isn't the root: the folder, a slash and the name
pub path_in_folder : (path : List ℕ) → 0 < length (parent path) → path ≡ parent path ++ 47 ∷ after_last is_slash path
path_in_folder path some =
    let skipped = suffix_len inside path in
    let at = length path - skipped - 1 in
    let room : skipped + 1 < length path = omega (arith, some, length-take-le (length path - skipped - 1) path (omega arith)) in
    let behind : suc at ≡ length path - skipped = omega (arith, room) in
    split_at path at 0 (omega (arith, room))
    ∙ ap (λ b. take at path ++ b ∷ drop (suc at) path) (slash_before path (omega (arith, room)))
    ∙ ap (λ k. take at path ++ 47 ∷ drop k path) behind

-- ---- a folder's paths lie between its bounds
-- the children of a folder
pub stands_within : (folder : List ℕ) (key : Key) (lo hi : Bound Key) → IsStart folder lo → IsEnd folder hi → parent key.items ≡ folder → (is_from_start key_cmp lo key ≡ true) × (is_past_end key_cmp hi key ≡ false)
stands_within [] key Unbounded Unbounded start end is = (refl, refl)
stands_within (b ∷ folder) key (Included first) (Excluded next) start end is =
    let name = after_last is_slash key.items in
    let form : key.items ≡ (b ∷ folder) ++ 47 ∷ name = path_in_folder key.items (omega (arith, ap length is)) ∙ ap (λ f. f ++ 47 ∷ name) is in (
      (λ i. is_le (path_cmp (start i) (form i))) ∙ ap is_le (cmp_behind (b ∷ folder) (47 ∷ []) (47 ∷ name)) ∙ from_nothing name,
      (λ i. is_le (path_cmp (end i) (form i))) ∙ ap is_le (cmp_behind (b ∷ folder) (48 ∷ []) (47 ∷ name)),
    )
  where
    from_nothing : (name : List ℕ) → is_le (path_cmp [] name) ≡ true
    from_nothing [] = refl
    from_nothing (x ∷ xs) = refl
stands_within [] key Unbounded (Included n) start end is = absurd end
stands_within [] key Unbounded (Excluded n) start end is = absurd end
stands_within [] key (Included first) hi start end is = absurd start
stands_within [] key (Excluded _) hi start end is = absurd start
stands_within (b ∷ folder) key (Included first) (Included n) start end is = absurd end
stands_within (b ∷ folder) key (Included first) Unbounded start end is = absurd end
stands_within (b ∷ folder) key (Excluded _) hi start end is = absurd start
stands_within (b ∷ folder) key Unbounded hi start end is = absurd start

-- ---- entries between bounds
abbrev pub Pair : Type 0
Pair = Key × Entry

abbrev pub name_here : List ℕ → Pair → Option (List ℕ)
name_here folder e = name_in folder e.0.items

abbrev pub is_within : Bound Key → Bound Key → Pair → Bool
is_within lo hi e = range_contains key_cmp lo hi e.0

-- the names in a folder are those of its paths between the bounds
pub names_between : (folder : List ℕ) (lo hi : Bound Key) → IsStart folder lo → IsEnd folder hi → (es : List Pair) → filter_map (name_here folder) (filter (is_within lo hi) es) ≡ filter_map (name_here folder) es
names_between folder lo hi start end [] = refl
names_between folder lo hi start end (e ∷ es) = by_case (is_within lo hi e) refl (same_path (parent e.0.items) folder) refl (names_between folder lo hi start end es)
  where
    by_case : (within : Bool) → is_within lo hi e ≡ within → (here : Bool) → same_path (parent e.0.items) folder ≡ here
        → filter_map (name_here folder) (filter (is_within lo hi) es) ≡ filter_map (name_here folder) es
        → filter_map (name_here folder) (cond within (e ∷ filter (is_within lo hi) es) (filter (is_within lo hi) es)) ≡ cons_option (name_here folder e) (filter_map (name_here folder) es)
    by_case true is here same rest = ap (cons_option (name_here folder e)) rest
    by_case false is true same rest =
        let inside = stands_within folder e.0 lo hi start end (one_path _ _ same) in
        absurd (cc (sym is ∙ (λ i. inside.0 i && not (inside.1 i))))
    by_case false is false same rest = rest ∙ ap (λ b. cons_option (cond b (Some (after_last is_slash e.0.items)) None) (filter_map (name_here folder) es)) (sym same)

-- and whether there are any
pub any_between : (folder : List ℕ) (lo hi : Bound Key) → IsStart folder lo → IsEnd folder hi → (es : List Pair) → list_any (λ (e : Pair). same_path (parent e.0.items) folder) (filter (is_within lo hi) es) ≡ list_any (λ (e : Pair). same_path (parent e.0.items) folder) es
any_between folder lo hi start end es = any-filter_same (λ (e : Pair). same_path (parent e.0.items) folder) (is_within lo hi) true (λ e same.
    let inside = stands_within folder e.0 lo hi start end (one_path _ _ same) in
    λ i. inside.0 i && not (inside.1 i)) es

-- ---- the next entries
itself : (path : List ℕ) → path_cmp path path ≡ Equal
itself path = from_is_eq (path_cmp path path) (same_path_itself path)
  where
    from_is_eq : (o : Ordering) → is_eq o ≡ true → o ≡ Equal
    from_is_eq Equal same = refl
    from_is_eq Less same = cc
    from_is_eq Greater same = cc

-- q' passes a part of what q does, and of what is after the first that q passes it leaves no name
-- out
module _ (folder : List ℕ) (q q' : Pair → Bool) where
  tail_names : (e : Pair) → ((x : Pair) → key_cmp e.0 x.0 ≡ Less → q x ≡ true → (q' x ≡ true) ⊎ (name_here folder x ≡ None)) → ((x : Pair) → q' x ≡ true → q x ≡ true)
      → (xs : List Pair) → T (below_all path_cmp e.0.items (nodes_of xs)) → filter_map (name_here folder) (filter q' xs) ≡ filter_map (name_here folder) (filter q xs)
  tail_names e keeps part [] below = refl
  tail_names e keeps part (x ∷ xs) below = by_case (q x) refl (q' x) refl (tail_names e keeps part xs (both_of _ _ below).1)
    where
      less : key_cmp e.0 x.0 ≡ Less
      less = from_lt (path_cmp e.0.items x.0.items) (both_of (is_lt (path_cmp e.0.items x.0.items)) (below_all path_cmp e.0.items (nodes_of xs)) below).0

      by_case : (a : Bool) → q x ≡ a → (b : Bool) → q' x ≡ b → filter_map (name_here folder) (filter q' xs) ≡ filter_map (name_here folder) (filter q xs)
          → filter_map (name_here folder) (cond b (x ∷ filter q' xs) (filter q' xs)) ≡ filter_map (name_here folder) (cond a (x ∷ filter q xs) (filter q xs))
      by_case true a true b rest = ap (cons_option (name_here folder x)) rest
      by_case true a false b rest = ⊎_elim (λ is. absurd (cc (sym is ∙ b))) (λ none. rest ∙ ap (λ o. cons_option o (filter_map (name_here folder) (filter q xs))) (sym none)) (keeps x less a)
      by_case false a true b rest = absurd (cc (sym (part x b) ∙ a))
      by_case false a false b rest = rest

  fewer : ((x : Pair) → q' x ≡ true → q x ≡ true) → (xs : List Pair) → length (filter q' xs) ≤ length (filter q xs)
  fewer part [] = omega arith
  fewer part (x ∷ xs) = by_case (q x) refl (q' x) refl (fewer part xs)
    where
      by_case : (a : Bool) → q x ≡ a → (b : Bool) → q' x ≡ b → length (filter q' xs) ≤ length (filter q xs) → length (cond b (x ∷ filter q' xs) (filter q' xs)) ≤ length (cond a (x ∷ filter q xs) (filter q xs))
      by_case true a true b rest = omega (arith, rest)
      by_case true a false b rest = omega (arith, rest)
      by_case false a true b rest = absurd (cc (sym (part x b) ∙ a))
      by_case false a false b rest = rest

  pub next_names : (e : Pair) (tail : List Pair) → ((x : Pair) → key_cmp e.0 x.0 ≡ Less → q x ≡ true → (q' x ≡ true) ⊎ (name_here folder x ≡ None)) → ((x : Pair) → q' x ≡ true → (q x ≡ true) × (key_cmp e.0 x.0 ≡ Less))
      → (es : List Pair) → IsInOrder es → filter q es ≡ e ∷ tail
      → (filter_map (name_here folder) (filter q' es) ≡ filter_map (name_here folder) tail) × (length (filter q' es) ≤ length tail)
  next_names e tail keeps part [] order is = cc
  next_names e tail keeps part (x ∷ xs) order is = by_case (q x) refl (q' x) refl is (next_names e tail keeps part xs (both_of _ _ order).1)
    where
      by_case : (a : Bool) → q x ≡ a → (b : Bool) → q' x ≡ b → cond a (x ∷ filter q xs) (filter q xs) ≡ e ∷ tail
          → (filter q xs ≡ e ∷ tail → (filter_map (name_here folder) (filter q' xs) ≡ filter_map (name_here folder) tail) × (length (filter q' xs) ≤ length tail))
          → (filter_map (name_here folder) (cond b (x ∷ filter q' xs) (filter q' xs)) ≡ filter_map (name_here folder) tail) × (length (cond b (x ∷ filter q' xs) (filter q' xs)) ≤ length tail)
      by_case false a true b is rest = absurd (cc (sym (part x b).0 ∙ a))
      by_case false a false b is rest = rest is
      by_case true a true b is rest =
          let same : x ≡ e = cc is in
          absurd (cc (sym (part x b).1 ∙ ap (λ y. key_cmp y.0 x.0) (sym same) ∙ itself x.0.items))
      by_case true a false b is rest =
          let same : x ≡ e = cc is in
          let tails : filter q xs ≡ tail = cc is in
          let below = (both_of _ _ order).0 in (
            tail_names e keeps (λ y. (λ there. (part y there).0)) xs (subst (λ y. T (below_all path_cmp y.0.items (nodes_of xs))) same below) ∙ ap (filter_map (name_here folder)) tails,
            subst (λ ys. length (filter q' xs) ≤ length ys) tails (fewer (λ y there. (part y there).0) xs),
          )

-- ---- after an entry
pub when_lt : (o : Ordering) → is_lt o ≡ true → o ≡ Less
when_lt Less h = refl
when_lt Equal h = cc
when_lt Greater h = cc

-- what is from a bound after a path is after the path
behind_less : (folder : List ℕ) (key : Key) (next : Bound Key) (x : Key) → IsBehind folder key.items next → is_from_start key_cmp next x ≡ true → key_cmp key x ≡ Less
behind_less folder key (Excluded last) x behind from = when_lt _ (sym (ap (λ k. is_lt (path_cmp k x.items)) behind) ∙ from)
behind_less folder key (Included next) x behind from = by_case (path_cmp next.items x.items) refl from
  where
    before_next : path_cmp key.items next.items ≡ Less
    before_next = (λ i. path_cmp (behind.2 i) (behind.3 i)) ∙ cmp_behind behind.0 (47 ∷ behind.1) (48 ∷ [])

    by_case : (o : Ordering) → path_cmp next.items x.items ≡ o → is_le o ≡ true → path_cmp key.items x.items ≡ Less
    by_case Less is h = nat_list_cmp_total.trans key.items next.items x.items before_next is
    by_case Equal is h = subst (λ k. path_cmp key.items k ≡ Less) (one_path next.items x.items (ap is_eq is)) before_next
    by_case Greater is h = cc
behind_less folder key Unbounded x behind from = absurd behind

-- what is after a path and not from the bound on isn't right in the folder
behind_none : (folder : List ℕ) (key : Key) (next : Bound Key) (x : Key) → IsBehind folder key.items next → key_cmp key x ≡ Less → (is_from_start key_cmp next x ≡ true) ⊎ (name_in folder x.items ≡ None)
behind_none folder key (Excluded last) x behind less = inl (ap (λ k. is_lt (path_cmp k x.items)) behind ∙ ap is_lt less)
behind_none folder key (Included next) x behind less = by_case (path_cmp next.items x.items) refl
  where
    deeper : (more : List ℕ) → x.items ≡ behind.0 ++ 47 ∷ more → (same : Bool) → same_path (parent x.items) folder ≡ same → cond same (Some (after_last is_slash x.items)) None ≡ None
    deeper more form false apart = refl
    deeper more form true same =
        let here : parent (behind.0 ++ 47 ∷ more) ≡ folder = ap parent (sym form) ∙ one_path (parent x.items) folder same in
        absurd (omega (arith, behind.4, parent_behind behind.0 more, ap length here))

    by_case : (o : Ordering) → path_cmp next.items x.items ≡ o → (is_le (path_cmp next.items x.items) ≡ true) ⊎ (name_in folder x.items ≡ None)
    by_case Less is = inl (ap is_le is)
    by_case Equal is = inl (ap is_le is)
    by_case Greater is =
        let found = begins_so behind.0 behind.1 x.items (sym (ap (λ k. path_cmp k x.items) behind.2) ∙ less) (sym (ap (λ k. path_cmp k x.items) behind.3) ∙ is) in
        inr (deeper found.0 found.1 (same_path (parent x.items) folder) refl)
behind_none folder key Unbounded x behind less = absurd behind

-- what is after a path that is from a bound on is so too
from_later : (lo : Bound Key) (key x : Key) → is_from_start key_cmp lo key ≡ true → key_cmp key x ≡ Less → is_from_start key_cmp lo x ≡ true
from_later Unbounded key x from less = refl
from_later (Included a) key x from less = ap is_le (le_lt_trans nat_list_cmp_total a.items key.items x.items from less)
from_later (Excluded a) key x from less = ap is_lt (nat_list_cmp_total.trans a.items key.items x.items (when_lt _ from) less)

-- ---- ranges run forward
before_end : (key next : Key) → is_le (key_cmp next key) ≡ false → key_cmp key next ≡ Less
before_end key next past = nat_list_cmp_total.antisymm key.items next.items ∙ by_case (path_cmp next.items key.items) past
  where
    by_case : (o : Ordering) → is_le o ≡ false → ordering_reverse o ≡ Less
    by_case Less h = cc
    by_case Equal h = cc
    by_case Greater h = refl

pub forward_next : (folder : List ℕ) (key : Key) (next hi : Bound Key) → IsEnd folder hi → IsBehind folder key.items next → is_past_end key_cmp hi key ≡ false → IsForward (IsLeBy key_cmp) (IsLtBy key_cmp) next hi
forward_next folder key Unbounded hi end behind past = absurd behind
forward_next [] key (Excluded last) Unbounded end behind past = tt
forward_next [] key (Included next) Unbounded end behind past = tt
forward_next [] key (Excluded last) (Included n) end behind past = absurd end
forward_next [] key (Included next) (Included n) end behind past = absurd end
forward_next [] key (Excluded last) (Excluded n) end behind past = absurd end
forward_next [] key (Included next) (Excluded n) end behind past = absurd end
forward_next (b ∷ folder) key (Excluded last) Unbounded end behind past = absurd end
forward_next (b ∷ folder) key (Included next) Unbounded end behind past = absurd end
forward_next (b ∷ folder) key (Excluded last) (Included n) end behind past = absurd end
forward_next (b ∷ folder) key (Included next) (Included n) end behind past = absurd end
forward_next (b ∷ folder) key (Excluded last) (Excluded n) end behind past = ap (λ k. path_cmp k n.items) behind ∙ before_end key n past
forward_next (b ∷ folder) key (Included next) (Excluded n) end behind past = by_case (path_cmp next.items n.items) refl
  where
    by_case : (o : Ordering) → path_cmp next.items n.items ≡ o → is_gt o ≡ false
    by_case Less is = refl
    by_case Equal is = refl
    by_case Greater is =
        let found = begins_so behind.0 behind.1 n.items (sym (ap (λ k. path_cmp k n.items) behind.2) ∙ before_end key n past) (sym (ap (λ k. path_cmp k n.items) behind.3) ∙ is) in
        let one : (b ∷ folder) ++ 48 ∷ [] ≡ behind.0 ++ 47 ∷ found.0 = sym end ∙ found.1 in
        absurd (omega (arith, behind.4, ap length one, length-append (b ∷ folder) (48 ∷ []), length-append behind.0 (47 ∷ found.0)))

pub forward_first : (folder : List ℕ) (lo hi : Bound Key) → IsStart folder lo → IsEnd folder hi → IsForward (IsLeBy key_cmp) (IsLtBy key_cmp) lo hi
forward_first [] Unbounded hi start end = tt
forward_first [] (Included first) hi start end = absurd start
forward_first [] (Excluded first) hi start end = absurd start
forward_first (b ∷ folder) (Included first) (Excluded n) start end = (λ i. is_gt (path_cmp (start i) (end i))) ∙ ap is_gt (cmp_behind (b ∷ folder) (47 ∷ []) (48 ∷ []))
forward_first (b ∷ folder) (Included first) (Included n) start end = absurd end
forward_first (b ∷ folder) (Included first) Unbounded start end = absurd end
forward_first (b ∷ folder) (Excluded first) hi start end = absurd start
forward_first (b ∷ folder) Unbounded hi start end = absurd start

-- ---- one step of a listing

first_passes : (q : Pair → Bool) (es tail : List Pair) (e : Pair) → filter q es ≡ e ∷ tail → q e ≡ true
first_passes q [] tail e is = cc
first_passes q (x ∷ xs) tail e is = by_case (q x) refl is (first_passes q xs tail e)
  where
    by_case : (a : Bool) → q x ≡ a → cond a (x ∷ filter q xs) (filter q xs) ≡ e ∷ tail → (filter q xs ≡ e ∷ tail → q e ≡ true) → q e ≡ true
    by_case false a is rest = rest is
    by_case true a is rest =
        let same : x ≡ e = cc is in
        sym (ap q same) ∙ a

pub listing_step : (folder : List ℕ) (lo hi next : Bound Key) (e : Pair) (tail es : List Pair) → IsEnd folder hi → IsBehind folder e.0.items next → IsInOrder es → filter (is_within lo hi) es ≡ e ∷ tail
    → (filter_map (name_here folder) (filter (is_within next hi) es) ≡ filter_map (name_here folder) tail) × (length (filter (is_within next hi) es) ≤ length tail) × IsForward (IsLeBy key_cmp) (IsLtBy key_cmp) next hi
listing_step folder lo hi next e tail es end behind order is =
    let here = and_parts (is_from_start key_cmp lo e.0) (not (is_past_end key_cmp hi e.0)) (first_passes (is_within lo hi) es tail e is) in
    let names = next_names folder (is_within lo hi) (is_within next hi) e tail
    (λ x less within. ⊎_elim (λ from. inl (λ i. from i && (and_parts (is_from_start key_cmp lo x.0) (not (is_past_end key_cmp hi x.0)) within).1 i)) inr (behind_none folder e.0 next x.0 behind less))
    (λ x within.
    let parts = and_parts (is_from_start key_cmp next x.0) (not (is_past_end key_cmp hi x.0)) within in
    let less = behind_less folder e.0 next x.0 behind parts.0 in
    ((λ i. from_later lo e.0 x.0 here.0 less i && parts.1 i), less))
    es order is in
    (names.0, names.1, forward_next folder e.0 next hi end behind (not-true _ here.1))

-- what a range gives is what lies between its bounds
pub run_is : (lo lo' hi hi' : Bound Key) (es run : List Pair) → lo' ≡ lo → hi' ≡ hi → run ≡ filter (is_within lo' hi') es → filter (is_within lo hi) es ≡ run
run_is lo lo' hi hi' es run same_lo same_hi is = sym (is ∙ (λ i. filter (is_within (same_lo i) (same_hi i)) es))

pub less_left : (lo hi next : Bound Key) (e : Pair) (tail es : List Pair) → filter (is_within lo hi) es ≡ e ∷ tail → length (filter (is_within next hi) es) ≤ length tail → length (filter (is_within next hi) es) < length (filter (is_within lo hi) es)
less_left lo hi next e tail es is few = omega (arith, few, ap length is)

-- the first of what is left is right in the folder, or not
pub name_listed : (folder : List ℕ) (e : Pair) (found found' rest tail all : List (List ℕ)) → same_path (parent e.0.items) folder ≡ true → found' ≡ found ++ after_last is_slash e.0.items ∷ [] → rest ≡ tail
    → found ++ cons_option (name_here folder e) tail ≡ all → found' ++ rest ≡ all
name_listed folder e found found' rest tail all same is left so_far =
    (λ i. is i ++ left i) ∙ append_assoc found (after_last is_slash e.0.items ∷ []) tail
    ∙ ap (λ b. found ++ cons_option (cond b (Some (after_last is_slash e.0.items)) None) tail) (sym same) ∙ so_far

pub name_passed : (folder : List ℕ) (e : Pair) (found found' rest tail all : List (List ℕ)) → same_path (parent e.0.items) folder ≡ false → found' ≡ found → rest ≡ tail
    → found ++ cons_option (name_here folder e) tail ≡ all → found' ++ rest ≡ all
name_passed folder e found found' rest tail all apart is left so_far =
    (λ i. is i ++ left i) ∙ ap (λ b. found ++ cons_option (cond b (Some (after_last is_slash e.0.items)) None) tail) (sym apart) ∙ so_far
