-- Listings of a folder, one name after another.
use Rattle.std.proofs.Common.{◌≡◌, ℕ, Vec, ◌+◌, ◌<◌, Bool, true, false, ◌&&◌, List, [], ◌∷◌, length, map, Option, Some, None, refl, sym, ◌∙◌, ap, subst, arith, length-append}
use Rattle.std.specs.Prelude.{IsTrue, IsSome, is_some, nat_le, nat_lt}
use Rattle.std.specs.List.{list_all, slice_split}
use Rattle.std.specs.declared.alloc.Global.{Global}
use borrow.Author.Tests.{ltb-true, ltb-false}
use Rattle.std.specs.FinMap.{get}
use Rattle.std.proofs.Math.ListN.{get_or}
use Rattle.gix_ref_file.specs.declared.files.Place.TheVariants as places
use Rattle.gix_ref_file.specs.Changes.{is_file_at}
use Rattle.gix_ref_file.specs.Tree.{Tree, Node, file, folder, is_slash, is_component, is_path, names_at, node_at, place_of, bytes_of, is_folder, IsRooted, under}
use Rattle.gix_ref_file.proofs.Listings.{root_is_no_path, node_is, listed_stands, item_is, map_length}
use Rattle.gix_ref_way.specs.Ways.{Bytes}

pub deeper : (place name : Bytes) → IsTrue (is_path (under place name)) → length place < length (under place name)
deeper [] [] is = absurd (root_is_no_path is)
deeper [] (b ∷ name) is = omega arith
deeper (b ∷ place) name is = omega (arith, length-append (b ∷ place) (47 ∷ name))

pub record IsListed (tree : Tree) (place path : Bytes) (xs : List (Vec ℕ Global)) (i : ℕ) : Type 0 where
  pub there : IsSome (get tree path)
  pub is_path : IsTrue (is_path path)
  pub deeper : length place < length path
  pub at : path ≡ under place (get_or (map (λ (name : Vec ℕ Global). name.items) xs) i [])

pub is_listed : (tree : Tree) (place : Bytes) (xs : List (Vec ℕ Global)) (i : ℕ) (v : Vec ℕ Global) (path name : Bytes) → IsRooted tree
    → map (λ (name : Vec ℕ Global). name.items) xs ≡ names_at tree place → i < length xs → v ≡ get_or xs i v → name ≡ v.items → path ≡ under place name → IsListed tree place path xs i
is_listed tree place xs i v path name rooted names below is name_is path_is =
    let at : path ≡ under place (get_or (map (λ (name : Vec ℕ Global). name.items) xs) i []) = path_is ∙ ap (under place) (name_is ∙ sym (item_is xs i v below is)) in
    let r = listed_stands tree place (map (λ (name : Vec ℕ Global). name.items) xs) i rooted names (omega (arith, below, map_length xs)) in
    record {
      there = subst (λ p. IsSome (get tree p)) (sym at) r.0;
      is_path = subst (λ p. IsTrue (is_path p)) (sym at) r.1;
      deeper = subst (λ p. length place < length p) (sym at) (deeper place (get_or (map (λ (name : Vec ℕ Global). name.items) xs) i []) r.1);
      at = at;
    }

pub one_more : (P : Bytes → Type 0) (place path : Bytes) (names : List Bytes) (k : ℕ) → ((i : ℕ) → i < k → P (under place (get_or names i []))) → path ≡ under place (get_or names k []) → P path
    → (i : ℕ) → i < k + 1 → P (under place (get_or names i []))
one_more P place path names k before at here i below = by_test (nat_lt i k) refl
  where
    by_test : (b : Bool) → nat_lt i k ≡ b → P (under place (get_or names i []))
    by_test true less = before i (ltb-true _ _ less)
    by_test false more =
        let same : k ≡ i = omega (arith, below, ltb-false _ _ more) in
        subst (λ j. P (under place (get_or names j []))) same (subst P at here)

pub path_short : (path : Bytes) → IsTrue (is_path path) → nat_le (length path) 4096 ≡ true
path_short path is = by_case (nat_le (length path) 4096) is
  where
    by_case : (b : Bool) → IsTrue (b && list_all is_component (slice_split is_slash path)) → b ≡ true
    by_case true h = refl
    by_case false h = cc

pub is_deep : (place path : Bytes) → length place < length path → IsTrue (is_path path) → (nat_lt (length place) (length path) && nat_le (length path) 4096) ≡ true
is_deep place path longer is = ap (λ b. b && nat_le (length path) 4096) (by_test (nat_lt (length place) (length path)) refl) ∙ path_short path is
  where
    by_test : (b : Bool) → nat_lt (length place) (length path) ≡ b → b ≡ true
    by_test true less = refl
    by_test false more = absurd (omega (arith, longer, ltb-false _ _ more))

-- ---- what a call says of a path

pub folder_stands : (tree : Tree) (path : Bytes) → IsTrue (is_path path) → place_of (node_at tree path) ≡ places.Folder → IsTrue (is_folder (get tree path))
folder_stands tree path is there = by_case (get tree path) (ap place_of (sym (node_is tree path is)) ∙ there)
  where
    by_case : (o : Option Node) → place_of o ≡ places.Folder → IsTrue (is_folder o)
    by_case None h = cc
    by_case (Some (file bytes)) h = cc
    by_case (Some folder) h = refl

pub file_stands : (tree : Tree) (path : Bytes) (size : ℕ) → place_of (node_at tree path) ≡ places.File size → IsTrue (is_file_at tree path)
file_stands tree path size there = by_case (node_at tree path) there
  where
    by_case : (o : Option Node) → place_of o ≡ places.File size → IsTrue (is_some (bytes_of o))
    by_case None h = cc
    by_case (Some (file bytes)) h = refl
    by_case (Some folder) h = cc

pub not_absent : (tree : Tree) (path : Bytes) → IsTrue (is_path path) → IsSome (get tree path) → place_of (node_at tree path) ≡ places.Absent → ⊥
not_absent tree path is there absent = by_case (get tree path) there (ap place_of (sym (node_is tree path is)) ∙ absent)
  where
    by_case : (o : Option Node) → IsSome o → place_of o ≡ places.Absent → ⊥
    by_case None there h = cc
    by_case (Some (file bytes)) there h = cc
    by_case (Some folder) there h = cc
