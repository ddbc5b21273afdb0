-- The names in a folder ascend.
use Rattle.std.proofs.Common.{◌≡◌, ℕ, zero, suc, ◌-◌, ◌<◌, Bool, true, false, cond, ◌&&◌, ◌||◌, T, List, [], ◌∷◌, ◌++◌, length, drop, map, filter_map, Some, None, refl, sym, ◌∙◌, ap, arith}
use Rattle.std.specs.Prelude.{IsTrue, IsFalse, ⊤, nat_le}
use Rattle.std.specs.List.{AllByRecursion, suffix_len, after_last, cons_option, list_any}
use Rattle.std.specs.Ordering.{is_lt}
use Rattle.std.specs.declared.cmp.Ordering.TheVariants.{Less}
use Rattle.std.specs.FinMap.{keys, entries, entries_sorted, contains_key-keys}
use Rattle.std.specs.FinMap.Entries.{below_all, is_sorted}
use Rattle.std.proofs.Math.ListN.{get_or}
use Rattle.std.proofs.lemmas.List.{length-take-le}
use Rattle.gix_ref_file.specs.Tree.{Tree, Node, path_cmp, same_path, is_slash, is_path, parent, name_in, names_at, node_at, is_folder, IsRooted, IsAscending}
use Rattle.gix_ref_file.proofs.Trees.{one_path, same_path_itself}
use Rattle.gix_ref_file.proofs.Entries.{both_of, from_lt}
use Rattle.gix_ref_file.proofs.Below.{inside, slash_before, path_in_folder, cmp_behind}

-- a path doesn't begin with a slash
begins_well : (b : ℕ) (path : List ℕ) → b ≡ 47 → IsFalse (is_path (b ∷ path))
begins_well b path is = ap (λ x. is_path (x ∷ path)) is ∙ never (nat_le (suc (length path)) 4096)
  where
    never : (short : Bool) → (short && false) ≡ false
    never true = refl
    never false = refl

-- in the root a path is its name
pub root_name : (path : List ℕ) → IsTrue (is_path path) → parent path ≡ [] → after_last is_slash path ≡ path
root_name path is root = by_len (length path - suffix_len inside path) refl
  where
    by_len : (k : ℕ) → length path - suffix_len inside path ≡ k → drop k path ≡ path
    by_len zero e = refl
    by_len (suc zero) e = absurd (not_first path is (ap (λ n. get_or path (n - 1) 0) (sym e) ∙ slash_before path (omega (arith, e))) (omega (arith, e)))
      where
        not_first : (p : List ℕ) → IsTrue (is_path p) → get_or p 0 0 ≡ 47 → 0 < length p → ⊥
        not_first [] is first some = omega (arith, some)
        not_first (b ∷ p) is first some = cc (is, begins_well b p first)
    by_len (suc (suc k)) e = absurd (omega (arith, e, ap length root, length-take-le (length path - suffix_len inside path - 1) path (omega arith)))

-- two names are ordered as their paths are
names_stand : (folder a b : List ℕ) → IsTrue (is_path a) → IsTrue (is_path b) → parent a ≡ folder → parent b ≡ folder → path_cmp a b ≡ Less → path_cmp (after_last is_slash a) (after_last is_slash b) ≡ Less
names_stand [] a b is_a is_b in_a in_b less = (λ i. path_cmp (root_name a is_a in_a i) (root_name b is_b in_b i)) ∙ less
names_stand (c ∷ folder) a b is_a is_b in_a in_b less =
    let form_a = path_in_folder a (omega (arith, ap length in_a)) ∙ ap (λ f. f ++ 47 ∷ after_last is_slash a) in_a in
    let form_b = path_in_folder b (omega (arith, ap length in_b)) ∙ ap (λ f. f ++ 47 ∷ after_last is_slash b) in_b in
    sym (cmp_behind (c ∷ folder) (47 ∷ after_last is_slash a) (47 ∷ after_last is_slash b)) ∙ (λ i. path_cmp (sym form_a i) (sym form_b i)) ∙ less

abbrev AllPaths : List (List ℕ × Node) → Type 0
AllPaths [] = ⊤
AllPaths (e ∷ es) = IsTrue (is_path e.0) × AllPaths es

all_paths : (es : List (List ℕ × Node)) → ((k : List ℕ) → list_any (same_path k) (map (λ e. e.0) es) ≡ true → IsTrue (is_path k)) → AllPaths es
all_paths [] is = tt
all_paths (e ∷ es) is = (is e.0 (ap (λ b. b || list_any (same_path e.0) (map (λ e. e.0) es)) (same_path_itself e.0)), all_paths es (λ k there. is k (ap (λ b. same_path k e.0 || b) there ∙ or_true (same_path k e.0))))
  where
    or_true : (b : Bool) → (b || true) ≡ true
    or_true true = refl
    or_true false = refl

abbrev names_of : List ℕ → List (List ℕ × Node) → List (List ℕ)
names_of folder es = filter_map (name_in folder) (map (λ e. e.0) es)

above : (folder path : List ℕ) → IsTrue (is_path path) → parent path ≡ folder → (es : List (List ℕ × Node)) → T (below_all path_cmp path es) → AllPaths es → AllByRecursion (λ later. path_cmp (after_last is_slash path) later ≡ Less) (names_of folder es)
above folder path is here [] below paths = tt
above folder path is here (e ∷ es) below paths = by_case (same_path (parent e.0) folder) refl (above folder path is here es (both_of (is_lt (path_cmp path e.0)) (below_all path_cmp path es) below).1 paths.1)
  where
    by_case : (b : Bool) → same_path (parent e.0) folder ≡ b → AllByRecursion (λ later. path_cmp (after_last is_slash path) later ≡ Less) (names_of folder es)
        → AllByRecursion (λ later. path_cmp (after_last is_slash path) later ≡ Less) (cons_option (cond b (Some (after_last is_slash e.0)) None) (names_of folder es))
    by_case false apart rest = rest
    by_case true same rest = (names_stand folder path e.0 is paths.0 here (one_path (parent e.0) folder same) (from_lt (path_cmp path e.0) (both_of (is_lt (path_cmp path e.0)) (below_all path_cmp path es) below).0), rest)

ascending : (folder : List ℕ) (es : List (List ℕ × Node)) → T (is_sorted path_cmp es) → AllPaths es → IsAscending (names_of folder es)
ascending folder [] order paths = tt
ascending folder (e ∷ es) order paths = by_case (same_path (parent e.0) folder) refl (ascending folder es (both_of (below_all path_cmp e.0 es) (is_sorted path_cmp es) order).1 paths.1)
  where
    by_case : (b : Bool) → same_path (parent e.0) folder ≡ b → IsAscending (names_of folder es) → IsAscending (cons_option (cond b (Some (after_last is_slash e.0)) None) (names_of folder es))
    by_case false apart rest = rest
    by_case true same rest = (above folder e.0 paths.0 (one_path (parent e.0) folder same) es (both_of (below_all path_cmp e.0 es) (is_sorted path_cmp es) order).0 paths.1, rest)

pub names_ascend : (tree : Tree) (folder : List ℕ) → IsRooted tree → IsAscending (names_at tree folder)
names_ascend tree folder rooted = by_case (is_folder (node_at tree folder))
  where
    by_case : (b : Bool) → IsAscending (cond b (filter_map (name_in folder) (keys tree)) [])
    by_case false = tt
    by_case true = ascending folder (entries tree) (entries_sorted tree) (all_paths (entries tree) (λ k there. (rooted k (contains_key-keys tree k ∙ there)).0))
