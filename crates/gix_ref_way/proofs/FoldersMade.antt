-- Folders are made if the path above allows it, and then the path may hold a file.
use Rattle.std.proofs.Common.{◌≡◌, ◌≢◌, ◌⊎◌, inl, inr, refl, sym, ◌∙◌, ap, subst, ℕ, ◌+◌, ◌<◌, ◌≤◌, Bool, true, false, cond, not, ◌&&◌, List, [], ◌∷◌, ◌++◌, take, length, get_or, arith, append_assoc, length-append}
use Rattle.std.specs.Prelude.{IsTrue, IsFalse, Option, Some, None, is_none, nat_le, Result, Err}
use Rattle.std.specs.List.{list_all, slice_split, onto_first, after_last}
use Rattle.std.specs.FinMap.{get, insert}
use Rattle.std.proofs.lemmas.Bool.Decides.{nat_tests}
use borrow.Author.Tests.{leb-true}
use Rattle.gix_ref_file.specs.Tree.{Tree, Node, file, folder, same_path, is_slash, is_component, is_path, parent, node_at, place_of, is_folder}
use Rattle.gix_ref_file.specs.Changes.{to_make_folder, allows, may_hold_file}
use Rattle.gix_ref_file.specs.History.{HasRisen, HasCause}
use Rattle.gix_ref_file.specs.declared.files.FileError.{FileError}
use Rattle.gix_ref_file.specs.declared.files.FileError.TheVariants.{Failed}
use Rattle.gix_ref_file.specs.declared.files.Place.TheVariants as places
use Rattle.gix_ref_file.proofs.Trees.{get-inserted, get_inserted}
use Rattle.gix_ref_file.proofs.Below.{path_in_folder}
use Rattle.gix_ref_way.specs.Ways.{Bytes, IsAbove, HasFoldersAbove, KeepsFolders, FoldersAbove}
use Rattle.std.proofs.lemmas.Bool.{and_from, and_parts}

-- ---- counts
pub risen_later : (a b c d : ℕ) → a ≤ b → HasRisen b c → c ≤ d → HasRisen a d
risen_later a b c d first risen last = omega (arith, first, risen, last)

-- a change that the tree allows fails only where a failure is counted
pub caused : {A T : Type 0} (allowed : Bool) (first before now : ℕ) (r : Result T FileError) → HasCause allowed before now r → allowed ≡ true → r ≡ Err Failed → first ≤ before → HasRisen first now ⊎ A
caused allowed first before now r cause may failed later = by_case (cause failed)
  where
    by_case : {A : Type 0} → HasRisen before now ⊎ (allowed ≡ false) → HasRisen first now ⊎ A
    by_case (inl risen) = inl (risen_later first before now now later risen (omega arith))
    by_case (inr refused) = absurd (cc (sym may ∙ refused))

-- ---- paths
pub split_joined : (front back : Bytes) → slice_split is_slash (front ++ 47 ∷ back) ≡ slice_split is_slash front ++ slice_split is_slash back
split_joined [] back = refl
split_joined (b ∷ front) back = by_case (is_slash b) (slice_split is_slash front) (slice_split is_slash (front ++ 47 ∷ back)) (has_part front) (split_joined front back)
  where
    has_part : (t : Bytes) → 0 < length (slice_split is_slash t)
    has_part [] = omega arith
    has_part (b ∷ t) = by_slash (is_slash b) (slice_split is_slash t)
      where
        by_slash : (s : Bool) (parts : List Bytes) → 0 < length (cond s ([] ∷ parts) (onto_first b parts))
        by_slash true parts = omega arith
        by_slash false [] = omega arith
        by_slash false (part ∷ parts) = omega arith

    by_case : (s : Bool) (parts whole : List Bytes) → 0 < length parts → whole ≡ parts ++ slice_split is_slash back
        → cond s ([] ∷ whole) (onto_first b whole) ≡ cond s ([] ∷ parts) (onto_first b parts) ++ slice_split is_slash back
    by_case true parts whole some is = ap (λ (ps : List Bytes). [] ∷ ps) is
    by_case false [] whole some is = absurd (omega (arith, some))
    by_case false (part ∷ parts) whole some is = ap (onto_first b) is

all_front : (p : Bytes → Bool) (xs ys : List Bytes) → list_all p (xs ++ ys) ≡ true → list_all p xs ≡ true
all_front p [] ys all = refl
all_front p (x ∷ xs) ys all = by_case (p x) all (all_front p xs ys)
  where
    by_case : (b : Bool) → (b && list_all p (xs ++ ys)) ≡ true → (list_all p (xs ++ ys) ≡ true → list_all p xs ≡ true) → (b && list_all p xs) ≡ true
    by_case true h rest = rest h
    by_case false h rest = cc

shorter_fits : (m n k : ℕ) → m ≤ n → nat_le n k ≡ true → nat_le m k ≡ true
shorter_fits m n k short fits = by_test (nat_le m k) refl
  where
    by_test : (b : Bool) → nat_le m k ≡ b → b ≡ true
    by_test true h = refl
    by_test false h = grind (arith, nat_tests)

-- what a path is below is a path
pub path_above : (place path : Bytes) → IsAbove place path → IsTrue (is_path path) → IsTrue (is_path place)
path_above place path (rest, is) whole =
    let parts = and_parts (nat_le (length path) 4096) (list_all is_component (slice_split is_slash path)) whole in
    let cut : slice_split is_slash path ≡ slice_split is_slash place ++ slice_split is_slash rest = ap (slice_split is_slash) is ∙ split_joined place rest in
    and_from (nat_le (length place) 4096) (list_all is_component (slice_split is_slash place))
    (shorter_fits (length place) (length path) 4096 (omega (arith, ap length is, length-append place (47 ∷ rest))) parts.0)
    (all_front is_component (slice_split is_slash place) (slice_split is_slash rest) (ap (list_all is_component) (sym cut) ∙ parts.1))

-- a path is in the root, or below its folder
pub in_root_or_below : (path : Bytes) → (parent path ≡ []) ⊎ IsAbove (parent path) path
in_root_or_below path = by_case (parent path) refl
  where
    by_case : (place : Bytes) → parent path ≡ place → (place ≡ []) ⊎ IsAbove place path
    by_case [] is = inl refl
    by_case (b ∷ place) is = inr (after_last is_slash path, path_in_folder path (omega (arith, ap length is)) ∙ ap (λ p. p ++ 47 ∷ after_last is_slash path) is)

pub above_above : (outer place path : Bytes) → IsAbove outer place → IsAbove place path → IsAbove outer path
above_above outer place path (first, is) (second, below) = (first ++ 47 ∷ second, below ∙ ap (λ p. p ++ 47 ∷ second) is ∙ append_assoc outer (47 ∷ first) (47 ∷ second))

pub above_shorter : (place path : Bytes) → IsAbove place path → length place < length path
above_shorter place path (rest, is) = omega (arith, ap length is, length-append place (47 ∷ rest))

-- ---- one folder
pub folder_put : (t : Tree) (k : Bytes) → KeepsFolders t (insert t k folder)
folder_put t k [] is = refl
folder_put t k (b ∷ q) is = ap is_folder (get-inserted t k folder (b ∷ q)) ∙ by_case (same_path (b ∷ q) k)
  where
    by_case : (same : Bool) → is_folder (cond same (Some folder) (get t (b ∷ q))) ≡ true
    by_case true = refl
    by_case false = is

pub folder_there : (t : Tree) (k : Bytes) → IsTrue (is_folder (node_at (insert t k folder) k))
folder_there t [] = refl
folder_there t (b ∷ k) = ap is_folder (get_inserted t (b ∷ k) folder)

pub may_make : (t : Tree) (k : Bytes) → IsTrue (is_path k) → IsTrue (is_folder (node_at t (parent k))) → place_of (node_at t k) ≡ places.Absent → allows t (to_make_folder k) ≡ true
may_make t k path above absent = λ i. is_none (none (node_at t k) absent i) && (path i && above i && not (is_folder (none (node_at t k) absent i)))
  where
    none : (o : Option Node) → place_of o ≡ places.Absent → o ≡ None
    none None h = refl
    none (Some (file bytes)) h = cc
    none (Some folder) h = cc

-- ---- all folders above a path
-- those above that end before this place in the path
abbrev pub HasFoldersBefore : ℕ → Bytes → Tree → Type 0
HasFoldersBefore end path tree = (place : Bytes) → IsAbove place path → length place < end → IsTrue (is_folder (node_at tree place))

-- a place above is a front of the path, and a slash follows
pub front_of : (place path : Bytes) → IsAbove place path → (place ≡ take (length place) path) × (get_or path (length place) 0 ≡ 47)
front_of place path (rest, is) = (at_front place ∙ ap (take (length place)) (sym is), ap (λ p. get_or p (length place) 0) is ∙ slash place)
  where
    at_front : (p : Bytes) → p ≡ take (length p) (p ++ 47 ∷ rest)
    at_front [] = refl
    at_front (b ∷ p) = ap (λ q. b ∷ q) (at_front p)

    slash : (p : Bytes) → get_or (p ++ 47 ∷ rest) (length p) 0 ≡ 47
    slash [] = refl
    slash (b ∷ p) = slash p

pub one_made : (end : ℕ) (path : Bytes) (old new : Tree) → HasFoldersBefore end path old → KeepsFolders old new → IsTrue (is_folder (node_at new (take end path))) → HasFoldersBefore (end + 1) path new
one_made end path old new before kept here place above below = by_test (nat_le end (length place)) refl
  where
    by_test : (b : Bool) → nat_le end (length place) ≡ b → IsTrue (is_folder (node_at new place))
    by_test true far =
        let at : length place ≡ end = omega (arith, below, leb-true _ _ far) in
        subst (λ p. IsTrue (is_folder (node_at new p))) (sym ((front_of place path above).0 ∙ ap (λ n. take n path) at)) here
    by_test false near =
        let less : length place < end = grind (arith, nat_tests) in
        kept place (before place above less)

pub none_made : (end : ℕ) (path : Bytes) (tree : Tree) → HasFoldersBefore end path tree → get_or path end 0 ≢ 47 → HasFoldersBefore (end + 1) path tree
none_made end path tree before other place above below = by_test (nat_le end (length place)) refl
  where
    by_test : (b : Bool) → nat_le end (length place) ≡ b → IsTrue (is_folder (node_at tree place))
    by_test true far =
        let at : length place ≡ end = omega (arith, below, leb-true _ _ far) in
        absurd (other (ap (λ n. get_or path n 0) (sym at) ∙ (front_of place path above).1))
    by_test false near =
        let less : length place < end = grind (arith, nat_tests) in
        before place above less

-- the folder that the next one is to be made in
pub stands_in_made : (end : ℕ) (path place : Bytes) (tree : Tree) → length place ≤ end → IsAbove place path → HasFoldersBefore end path tree → IsTrue (is_folder (node_at tree (parent place)))
stands_in_made end path place tree short above before = by_case (in_root_or_below place)
  where
    by_case : (parent place ≡ []) ⊎ IsAbove (parent place) place → IsTrue (is_folder (node_at tree (parent place)))
    by_case (inl root) = ap (λ p. is_folder (node_at tree p)) root
    by_case (inr below) = before (parent place) (above_above (parent place) place path below above) (omega (arith, short, above_shorter (parent place) place below))

-- ---- a file below them
-- a path whose folders exist may hold a file, unless it is a folder
pub may_hold : (tree : Tree) (path : Bytes) → IsTrue (is_path path) → HasFoldersAbove path tree → IsFalse (is_folder (node_at tree path)) → IsTrue (may_hold_file tree path)
may_hold tree path whole above none = λ i. whole i && in_folder (in_root_or_below path) i && not (none i)
  where
    in_folder : (parent path ≡ []) ⊎ IsAbove (parent path) path → IsTrue (is_folder (node_at tree (parent path)))
    in_folder (inl root) = ap (λ p. is_folder (node_at tree p)) root
    in_folder (inr below) = above (parent path) below

-- making the folders above a path makes none there
pub none_there : (path : Bytes) (old new : Tree) → FoldersAbove path old new → IsFalse (is_folder (node_at old path)) → IsFalse (is_folder (node_at new path))
none_there [] old new above none = none
none_there (b ∷ path) old new above none = by_case (get new (b ∷ path)) refl
  where
    stood : (get old (b ∷ path) ≡ Some folder) ⊎ IsAbove (b ∷ path) (b ∷ path) → ⊥
    stood (inl is) = let wrong : true ≡ false = ap is_folder (sym is) ∙ none in cc
    stood (inr within) = omega (arith, above_shorter (b ∷ path) (b ∷ path) within)

    by_case : (o : Option Node) → get new (b ∷ path) ≡ o → IsFalse (is_folder o)
    by_case None is = refl
    by_case (Some (file bytes)) is = refl
    by_case (Some folder) is = absurd (stood (above (b ∷ path) is))
