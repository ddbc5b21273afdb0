-- The entries of a map against the tree that they represent.
use Rattle.std.proofs.Common.{◌≡◌, ℕ, Bool, true, false, cond, not, ◌&&◌, ◌||◌, T, map, filter_map, List, [], ◌∷◌, Option, Some, None, Vec, refl, sym, ◌∙◌, ap, subst}
use Rattle.std.specs.Prelude.{option_map, option_copied, is_some, IsSome, IfSome}
use Rattle.std.specs.Borrow.{Bor, MutBor}
use Rattle.std.specs.Option.{option_copied_mut}
use Rattle.std.specs.Ordering.{is_eq, is_lt, match_ordering}
use Rattle.std.specs.declared.alloc.Global.{Global}
use Rattle.std.specs.declared.cmp.Ordering.{Ordering}
use Rattle.std.specs.declared.cmp.Ordering.TheVariants.{Less, Equal, Greater}
use Rattle.std.specs.Cmp.{eq_by_cmp_equiv}
use Rattle.std.specs.Cmp.Lexicographic.{nat_list_cmp_total}
use Rattle.std.specs.FinMap.{keys, insert, remove, get, same_entries_map, entries-from_sorted, entries-insert, get-from_sorted, get-remove, get-empty, empty, find, put, is_sorted}
use Rattle.std.specs.FinMap.Entries.{by_order, where_key, below_all, is_sorted-put, is_sorted-where_key, find-where_key}
use Rattle.std.specs.List.{list_any, cons_option}
use Rattle.std.specs.Map.{keys_of, lookup, remove_entry, set_value}
use Rattle.std.specs.BTreeMap.{insert_entry}
use Rattle.gix_ref_file.specs.Tree.{Node, path_cmp, same_path}
use Rattle.gix_ref_file.proofs.Trees.{same_tree, one_path}
use Rattle.gix_ref_file.specs.declared.nodes.Entry.{Entry}
use Rattle.gix_ref_file.specs.Nodes.{node_of, nodes_of, tree_of, IsInOrder}

abbrev pub Key : Type 0
Key = Vec ℕ Global

abbrev pub key_cmp : Key → Key → Ordering
key_cmp a b = path_cmp a.items b.items

abbrev pub is_path_of : List ℕ → Key → Bool
is_path_of path key = is_eq (path_cmp path key.items)

-- ---- what `get` finds
pub find_node : (es : List (Key × Entry)) (path : List ℕ) → option_map node_of (lookup (is_path_of path) es) ≡ find path_cmp path (nodes_of es)
find_node [] path = refl
find_node (e ∷ es) path = elim (is_path_of path e.0) as (λ b. option_map node_of (cond b (Some e.1) (lookup (is_path_of path) es)) ≡ cond b (Some (node_of e.1)) (find path_cmp path (nodes_of es))) [
  | true ↦ refl
  | false ↦ find_node es path
]

pub get_node : (es : List (Key × Entry)) (path : List ℕ) → IsInOrder es → option_map node_of (lookup (is_path_of path) es) ≡ get (tree_of es) path
get_node es path order = find_node es path ∙ sym (get-from_sorted path_cmp (nodes_of es) path order)

-- ---- what `insert` does
pub nodes_of-insert_entry : (es : List (Key × Entry)) (key : Key) (entry : Entry) → nodes_of (insert_entry key_cmp es key entry) ≡ put path_cmp key.items (node_of entry) (nodes_of es)
nodes_of-insert_entry [] key entry = refl
nodes_of-insert_entry (e ∷ es) key entry =
    elim (key_cmp key e.0) as (λ r. nodes_of (match_ordering r ((key, entry) ∷ e ∷ es) ((e.0, entry) ∷ es) (e ∷ insert_entry key_cmp es key entry))
    ≡ by_order r ((key.items, node_of entry) ∷ nodes_of (e ∷ es)) ((e.0.items, node_of entry) ∷ nodes_of es) ((e.0.items, node_of e.1) ∷ put path_cmp key.items (node_of entry) (nodes_of es))) [
      | Less ↦ refl
      | Equal ↦ refl
      | Greater ↦ ap (λ ns. (e.0.items, node_of e.1) ∷ ns) (nodes_of-insert_entry es key entry)
    ]

module _ (es fs : List (Key × Entry)) (path : List ℕ) (entry : Entry) (is : nodes_of fs ≡ put path_cmp path (node_of entry) (nodes_of es)) (order : IsInOrder es) where
  pub put_in_order : IsInOrder fs
  put_in_order = subst (λ ns. T (is_sorted path_cmp ns)) (sym is) (is_sorted-put path_cmp nat_list_cmp_total path (node_of entry) (nodes_of es) order)

  pub tree_put : tree_of fs ≡ insert (tree_of es) path (node_of entry)
  tree_put = same_entries_map _ _ (
      entries-from_sorted path_cmp (nodes_of fs) put_in_order ∙ is
      ∙ ap (put path_cmp path (node_of entry)) (sym (entries-from_sorted path_cmp (nodes_of es) order))
      ∙ sym (entries-insert nat_list_cmp_total (tree_of es) path (node_of entry)))

-- ---- what `remove` does
pub both_of : (a b : Bool) → T (a && b) → T a × T b
both_of true b h = (tt, h)
both_of false b h = absurd h

no_tie : (o : Ordering) → T (is_lt o) → not (is_eq o) ≡ true
no_tie Less h = refl
no_tie Equal h = absurd h
no_tie Greater h = absurd h

-- all that come after a path
all_kept : (path : List ℕ) (ns : List (List ℕ × Node)) → T (below_all path_cmp path ns) → where_key path_cmp (λ q. not (same_path path q)) ns ≡ ns
all_kept path [] below = refl
all_kept path (n ∷ ns) below =
    let parts = both_of _ _ below in
    ap (λ b. cond b (n ∷ where_key path_cmp (λ q. not (same_path path q)) ns) (where_key path_cmp (λ q. not (same_path path q)) ns)) (no_tie _ parts.0)
    ∙ ap (λ l. n ∷ l) (all_kept path ns parts.1)

pub nodes_of-remove_entry : (es : List (Key × Entry)) (path : List ℕ) → IsInOrder es → nodes_of (remove_entry (is_path_of path) es) ≡ where_key path_cmp (λ q. not (same_path path q)) (nodes_of es)
nodes_of-remove_entry [] path order = refl
nodes_of-remove_entry (e ∷ es) path order =
    let parts = both_of _ _ order in
    let kept = where_key path_cmp (λ q. not (same_path path q)) (nodes_of es) in
    elim (is_path_of path e.0) as (λ b. is_path_of path e.0 ≡ b → nodes_of (cond b es (e ∷ remove_entry (is_path_of path) es)) ≡ cond (not b) ((e.0.items, node_of e.1) ∷ kept) kept) [
      | true ↦ λ here. sym (all_kept path (nodes_of es) (subst (λ p. T (below_all path_cmp p (nodes_of es))) (sym (one_path path e.0.items here)) parts.0))
      | false ↦ λ _. ap (λ ns. (e.0.items, node_of e.1) ∷ ns) (nodes_of-remove_entry es path parts.1)
    ] refl

turned : {A : Type 0} (b : Bool) (x y : A) → cond (not b) x y ≡ cond b y x
turned true x y = refl
turned false x y = refl

module _ (es fs : List (Key × Entry)) (path : List ℕ) (is : fs ≡ remove_entry (is_path_of path) es) (order : IsInOrder es) where
  is_left : nodes_of fs ≡ where_key path_cmp (λ q. not (same_path path q)) (nodes_of es)
  is_left = ap nodes_of is ∙ nodes_of-remove_entry es path order

  pub left_in_order : IsInOrder fs
  left_in_order = subst (λ ns. T (is_sorted path_cmp ns)) (sym is_left) (is_sorted-where_key path_cmp (λ q. not (same_path path q)) (nodes_of es) order)

  pub tree_left : tree_of fs ≡ remove (tree_of es) path
  tree_left = same_tree _ _ (λ q.
      get-from_sorted path_cmp (nodes_of fs) q left_in_order
      ∙ ap (find path_cmp q) is_left
      ∙ find-where_key path_cmp (λ p. not (same_path path p)) q (λ x tie. ap (λ p. not (same_path path p)) (sym (one_path q x (ap is_eq tie)))) (nodes_of es)
      ∙ turned (same_path path q) _ _
      ∙ ap (λ b. cond b None (find path_cmp q (nodes_of es))) ((eq_by_cmp_equiv nat_list_cmp_total).symm path q)
      ∙ ap (cond (same_path q path) None) (sym (get-from_sorted path_cmp (nodes_of es) q order))
      ∙ sym (get-remove nat_list_cmp_total (tree_of es) path q))

pub option_map-copied : (o : Option (Bor Entry)) → option_map (λ entry. node_of entry.now) o ≡ option_map node_of (option_copied o)
option_map-copied None = refl
option_map-copied (Some entry) = refl

-- what is taken out, with its path
pub option_map-second : (o : Option (Key × Entry)) → option_map (λ e. node_of e.1) o ≡ option_map node_of (option_map (λ e. e.1) o)
option_map-second None = refl
option_map-second (Some e) = refl

pub key_taken : (path : List ℕ) (o : Option (Key × Entry)) → IfSome o (λ e. path_cmp path e.0.items ≡ Equal) → IfSome o (λ e. e.0.items ≡ path)
key_taken path None same = tt
key_taken path (Some e) same = sym (one_path path e.0.items (ap is_eq same))

pub tree_of_none : (es : List (Key × Entry)) → es ≡ [] → tree_of es ≡ empty
tree_of_none es none = ap tree_of none ∙ same_tree _ _ (λ q. get-from_sorted path_cmp [] q tt ∙ sym (get-empty path_cmp q))

-- ---- what a write through `get_mut` does
not_below : (o : Ordering) → T (is_lt o) → is_eq o ≡ false
not_below Less h = refl
not_below Equal h = absurd h
not_below Greater h = absurd h

-- nothing is found before the first
none_below : (path : List ℕ) (ns : List (List ℕ × Node)) → T (below_all path_cmp path ns) → find path_cmp path ns ≡ None
none_below path [] below = refl
none_below path (n ∷ ns) below =
    let parts = both_of _ _ below in
    ap (λ b. cond b (Some n.1) (find path_cmp path ns)) (not_below _ parts.0) ∙ none_below path ns parts.1

pub from_lt : (o : Ordering) → T (is_lt o) → o ≡ Less
from_lt Less h = refl
from_lt Equal h = absurd h
from_lt Greater h = absurd h

below_later : (path x : List ℕ) (ns : List (List ℕ × Node)) → path_cmp path x ≡ Less → T (below_all path_cmp x ns) → T (below_all path_cmp path ns)
below_later path x [] less below = tt
below_later path x (n ∷ ns) less below =
    let parts = both_of _ _ below in
    let first : path_cmp path n.0 ≡ Less = nat_list_cmp_total.trans path x n.0 less (from_lt _ parts.0) in
    subst (λ o. T (is_lt o && below_all path_cmp path ns)) (sym first) (below_later path x ns less parts.1)

pub nodes_of-set_value : (es : List (Key × Entry)) (path : List ℕ) (entry : Entry) → IsInOrder es → IsSome (find path_cmp path (nodes_of es))
    → nodes_of (set_value (is_path_of path) es entry) ≡ put path_cmp path (node_of entry) (nodes_of es)
nodes_of-set_value [] path entry order there = absurd (cc there)
nodes_of-set_value (e ∷ es) path entry order there = by_case (path_cmp path e.0.items) refl (nodes_of-set_value es path entry (both_of _ _ order).1)
  where
    by_case : (o : Ordering) → path_cmp path e.0.items ≡ o
        → (IsSome (find path_cmp path (nodes_of es)) → nodes_of (set_value (is_path_of path) es entry) ≡ put path_cmp path (node_of entry) (nodes_of es))
        → nodes_of (cond (is_eq o) ((e.0, entry) ∷ es) (e ∷ set_value (is_path_of path) es entry))
        ≡ by_order o ((path, node_of entry) ∷ nodes_of (e ∷ es)) ((e.0.items, node_of entry) ∷ nodes_of es) ((e.0.items, node_of e.1) ∷ put path_cmp path (node_of entry) (nodes_of es))
    by_case Less less rest =
        let none : find path_cmp path (nodes_of es) ≡ None = none_below path (nodes_of es) (below_later path e.0.items (nodes_of es) less (both_of _ _ order).0) in
        absurd (cc (sym there ∙ ap (λ o. is_some (cond (is_eq o) (Some (node_of e.1)) (find path_cmp path (nodes_of es)))) less ∙ ap is_some none))
    by_case Equal same rest = refl
    by_case Greater later rest =
        ap (λ ns. (e.0.items, node_of e.1) ∷ ns) (rest (sym (ap (λ o. is_some (cond (is_eq o) (Some (node_of e.1)) (find path_cmp path (nodes_of es)))) later) ∙ there))

pub is_some_found : (o : Option Entry) (entry : Entry) (f : Option Node) → o ≡ Some entry → option_map node_of o ≡ f → IsSome f
is_some_found o entry f is found = ap is_some (sym found ∙ ap (option_map node_of) is)

-- a write at a path where nothing is found writes nothing
set_value_missing : (es : List (Key × Entry)) (path : List ℕ) (entry : Entry) → lookup (is_path_of path) es ≡ None → set_value (is_path_of path) es entry ≡ es
set_value_missing [] path entry none = refl
set_value_missing (e ∷ es) path entry none = by_case (is_path_of path e.0) (set_value_missing es path entry) none
  where
    by_case : (b : Bool) → (lookup (is_path_of path) es ≡ None → set_value (is_path_of path) es entry ≡ es)
        → cond b (Some e.1) (lookup (is_path_of path) es) ≡ None → cond b ((e.0, entry) ∷ es) (e ∷ set_value (is_path_of path) es entry) ≡ e ∷ es
    by_case true rest none = absurd (cc none)
    by_case false rest none = ap (λ l. e ∷ l) (rest none)

pub set_in_order : (es fs : List (Key × Entry)) (path : List ℕ) (entry : Entry) → fs ≡ set_value (is_path_of path) es entry → IsInOrder es → IsInOrder fs
set_in_order es fs path entry is order = by_case (lookup (is_path_of path) es) refl
  where
    by_case : (o : Option Entry) → lookup (is_path_of path) es ≡ o → IsInOrder fs
    by_case None none = subst IsInOrder (sym (is ∙ set_value_missing es path entry none)) order
    by_case (Some found) at =
        put_in_order es fs path entry (ap nodes_of is ∙ nodes_of-set_value es path entry order (is_some_found _ found _ at (find_node es path))) order

pub found_lent : (o : Option (MutBor Entry)) (l : Option Entry) (f : Option Node) → IsSome o → option_copied_mut o ≡ l → option_map node_of l ≡ f → IsSome f
found_lent None l f there copied found = absurd (cc there)
found_lent (Some r) l f there copied found = is_some_found l r.now f (sym copied) found

-- ---- the keys
keys_of-nodes_of : (es : List (Key × Entry)) → map (λ n. n.0) (nodes_of es) ≡ map (λ k. k.items) (keys_of es)
keys_of-nodes_of [] = refl
keys_of-nodes_of (e ∷ es) = ap (λ ks. e.0.items ∷ ks) (keys_of-nodes_of es)

pub keys-tree_of : (es : List (Key × Entry)) → IsInOrder es → keys (tree_of es) ≡ map (λ k. k.items) (keys_of es)
keys-tree_of es order = ap (map (λ n. n.0)) (entries-from_sorted path_cmp (nodes_of es) order) ∙ keys_of-nodes_of es

pub filter_map-entries : (f : List ℕ → Option (List ℕ)) (es : List (Key × Entry)) → filter_map (λ (e : Key × Entry). f e.0.items) es ≡ filter_map f (map (λ k. k.items) (keys_of es))
filter_map-entries f [] = refl
filter_map-entries f (e ∷ es) = ap (cons_option (f e.0.items)) (filter_map-entries f es)

pub list_any-entries : (p : List ℕ → Bool) (es : List (Key × Entry)) → list_any (λ (e : Key × Entry). p e.0.items) es ≡ list_any p (map (λ k. k.items) (keys_of es))
list_any-entries p [] = refl
list_any-entries p (e ∷ es) = ap (λ b. p e.0.items || b) (list_any-entries p es)
