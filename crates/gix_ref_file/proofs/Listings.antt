-- What a listing of a folder names, and the names as vectors.
use Rattle.std.proofs.Common.{◌≡◌, ℕ, zero, suc, Vec, ◌<◌, Bool, true, false, cond, ◌||◌, List, [], ◌∷◌, ◌++◌, length, map, filter_map, Some, None, refl, sym, ◌∙◌, ap, subst, arith}
use Rattle.std.specs.Prelude.{IsTrue, IsSome}
use Rattle.std.specs.List.{after_last, cons_option, list_any}
use Rattle.std.specs.declared.alloc.Global.{Global}
use Rattle.std.specs.FinMap.{keys, get, contains_key-keys}
use Rattle.std.proofs.Math.ListN.{get_or}
use Rattle.gix_ref_file.specs.Tree.{Tree, same_path, is_slash, is_path, parent, under, name_in, names_at, node_at, is_folder, IsRooted}
use Rattle.gix_ref_file.proofs.Ascending.{root_name}
use Rattle.gix_ref_file.proofs.Below.{path_in_folder}
use Rattle.gix_ref_file.proofs.Trees.{one_path, same_path_itself}

or_true : (b : Bool) → (b || true) ≡ true
or_true true = refl
or_true false = refl

-- ---- a path is its folder's with its name
pub in_folder : (path : List ℕ) → IsTrue (is_path path) → path ≡ under (parent path) (after_last is_slash path)
in_folder path is = by_case (parent path) refl
  where
    by_case : (place : List ℕ) → parent path ≡ place → path ≡ under place (after_last is_slash path)
    by_case [] e = sym (root_name path is e)
    by_case (b ∷ place) e = path_in_folder path (omega (arith, ap length e)) ∙ ap (λ p. p ++ 47 ∷ after_last is_slash path) e

pub root_is_no_path : IsTrue (is_path []) → ⊥
root_is_no_path is = cc

pub node_is : (tree : Tree) (path : List ℕ) → IsTrue (is_path path) → node_at tree path ≡ get tree path
node_is tree [] is = absurd (root_is_no_path is)
node_is tree (b ∷ path) is = refl

-- ---- the names in a folder are those of the paths that are there
abbrev pub names_in : List ℕ → List (List ℕ) → List (List ℕ)
names_in place paths = filter_map (name_in place) paths

pub listed : (place : List ℕ) (paths : List (List ℕ)) (i : ℕ) (d : List ℕ) → i < length (names_in place paths)
    → (path : List ℕ) × (list_any (same_path path) paths ≡ true) × (parent path ≡ place) × (after_last is_slash path ≡ get_or (names_in place paths) i d)
listed place [] i d below = absurd (omega (arith, below))
listed place (k ∷ paths) i d below = by_case (same_path (parent k) place) refl (λ j within. listed place paths j d within) i below
  where
    by_case : (b : Bool) → same_path (parent k) place ≡ b
        → ((j : ℕ) → j < length (names_in place paths) → (path : List ℕ) × (list_any (same_path path) paths ≡ true) × (parent path ≡ place) × (after_last is_slash path ≡ get_or (names_in place paths) j d))
        → (i : ℕ) → i < length (cons_option (cond b (Some (after_last is_slash k)) None) (names_in place paths))
        → (path : List ℕ) × (list_any (same_path path) (k ∷ paths) ≡ true) × (parent path ≡ place) × (after_last is_slash path ≡ get_or (cons_option (cond b (Some (after_last is_slash k)) None) (names_in place paths)) i d)
    by_case false apart rest i below = let r = rest i below in (r.0, ap (λ b. same_path r.0 k || b) r.1 ∙ or_true (same_path r.0 k), r.2, r.3)
    by_case true same rest zero below = (k, ap (λ b. b || list_any (same_path k) paths) (same_path_itself k), one_path (parent k) place same, refl)
    by_case true same rest (suc i) below = let r = rest i (omega (arith, below)) in (r.0, ap (λ b. same_path r.0 k || b) r.1 ∙ or_true (same_path r.0 k), r.2, r.3)

pub found : (place : List ℕ) (paths : List (List ℕ)) (path : List ℕ) (d : List ℕ) → list_any (same_path path) paths ≡ true → parent path ≡ place
    → (i : ℕ) × (i < length (names_in place paths)) × (get_or (names_in place paths) i d ≡ after_last is_slash path)
found place [] path d there here = absurd (cc there)
found place (k ∷ paths) path d there here = by_case (same_path path k) refl (λ more. found place paths path d more here)
  where
    is_here : (p : List ℕ) → parent p ≡ place → same_path (parent p) place ≡ true
    is_here p e = ap (λ f. same_path f place) e ∙ same_path_itself place

    later : (b : Bool) → ((i : ℕ) × (i < length (names_in place paths)) × (get_or (names_in place paths) i d ≡ after_last is_slash path))
        → (i : ℕ) × (i < length (cons_option (cond b (Some (after_last is_slash k)) None) (names_in place paths))) × (get_or (cons_option (cond b (Some (after_last is_slash k)) None) (names_in place paths)) i d ≡ after_last is_slash path)
    later false r = r
    later true r = (suc r.0, omega (arith, r.1), r.2)

    at_head : (b : Bool) → same_path (parent k) place ≡ b → k ≡ path
        → (i : ℕ) × (i < length (cons_option (cond b (Some (after_last is_slash k)) None) (names_in place paths))) × (get_or (cons_option (cond b (Some (after_last is_slash k)) None) (names_in place paths)) i d ≡ after_last is_slash path)
    at_head true same is = (zero, omega arith, ap (after_last is_slash) is)
    at_head false apart is = absurd (cc (sym apart ∙ is_here k (ap parent is ∙ here)))

    by_case : (b : Bool) → same_path path k ≡ b
        → (list_any (same_path path) paths ≡ true → (i : ℕ) × (i < length (names_in place paths)) × (get_or (names_in place paths) i d ≡ after_last is_slash path))
        → (i : ℕ) × (i < length (names_in place (k ∷ paths))) × (get_or (names_in place (k ∷ paths)) i d ≡ after_last is_slash path)
    by_case true same rest = at_head (same_path (parent k) place) refl (sym (one_path path k same))
    by_case false apart rest = later (same_path (parent k) place) (rest (sym (ap (λ b. b || list_any (same_path path) paths) apart) ∙ there))

pub listed_folder : (tree : Tree) (place : List ℕ) (b : Bool) (i : ℕ) → i < length (cond b (names_in place (keys tree)) []) → cond b (names_in place (keys tree)) [] ≡ names_in place (keys tree)
listed_folder tree place true i below = refl
listed_folder tree place false i below = absurd (omega (arith, below))

-- what a folder lists exists, and at a path
pub listed_stands : (tree : Tree) (place : List ℕ) (names : List (List ℕ)) (i : ℕ) → IsRooted tree → names ≡ names_at tree place → i < length names
    → IsSome (get tree (under place (get_or names i []))) × IsTrue (is_path (under place (get_or names i [])))
listed_stands tree place names i rooted is below =
    let at_place : i < length (names_at tree place) = subst (λ (ns : List (List ℕ)). i < length ns) is below in
    let all : names ≡ names_in place (keys tree) = is ∙ listed_folder tree place (is_folder (node_at tree place)) i at_place in
    let r = listed place (keys tree) i [] (subst (λ (ns : List (List ℕ)). i < length ns) all below) in
    let there : IsSome (get tree r.0) = contains_key-keys tree r.0 ∙ r.1 in
    let path : r.0 ≡ under place (get_or names i []) = in_folder r.0 (rooted r.0 there).0 ∙ (λ j. under (r.2 j) ((r.3 ∙ ap (λ (ns : List (List ℕ)). get_or ns i []) (sym all)) j)) in
    (subst (λ p. IsSome (get tree p)) path there, subst (λ p. IsTrue (is_path p)) path (rooted r.0 there).0)

-- ---- the names as vectors
pub item_is : (xs : List (Vec ℕ Global)) (i : ℕ) (v : Vec ℕ Global) → i < length xs → v ≡ get_or xs i v → get_or (map (λ (name : Vec ℕ Global). name.items) xs) i [] ≡ v.items
item_is [] i v below is = absurd (omega (arith, below))
item_is (x ∷ xs) zero v below is = ap (λ (w : Vec ℕ Global). w.items) (sym is)
item_is (x ∷ xs) (suc i) v below is = item_is xs i v (omega (arith, below)) is

pub map_length : (xs : List (Vec ℕ Global)) → length (map (λ (name : Vec ℕ Global). name.items) xs) ≡ length xs
map_length [] = refl
map_length (x ∷ xs) = ap suc (map_length xs)
