-- What a walk over all folders finds.
use Rattle.std.proofs.Common.{◌≡◌, ℕ, zero, suc, ◌-◌, ◌<◌, ◌≤◌, true, cond, List, [], ◌∷◌, length, Option, Some, None, refl, sym, ◌∙◌, ap, subst, arith}
use Rattle.std.specs.Prelude.{IsTrue, IsSome}
use Rattle.std.specs.List.{suffix_len}
use Rattle.std.specs.FinMap.{keys, get, contains_key-keys}
use Rattle.std.proofs.Math.ListN.{get_or}
use Rattle.std.proofs.lemmas.List.{length-take-le}
use Rattle.gix_ref_file.specs.Tree.{Tree, Node, file, folder, parent, names_at, node_at, place_of, is_folder, IsRooted, under}
use Rattle.gix_ref_file.specs.declared.files.Place.TheVariants as places
use Rattle.gix_ref_file.proofs.Below.{inside}
use Rattle.gix_ref_file.proofs.Listings.{in_folder, names_in, found}
use Rattle.gix_ref_file.proofs.Moved.{some_of_folder}
use Rattle.gix_ref_way.specs.Ways.{Bytes, above}

-- ---- what is above

pub parent_of_folder : (tree : Tree) (path : Bytes) → IsRooted tree → IsTrue (is_folder (node_at tree path)) → IsTrue (is_folder (node_at tree (parent path)))
parent_of_folder tree [] rooted is = refl
parent_of_folder tree (b ∷ path) rooted is = (rooted (b ∷ path) (some_of_folder (get tree (b ∷ path)) is)).1

folder_above : (tree : Tree) (n : ℕ) (path : Bytes) → IsRooted tree → IsSome (get tree path) → IsTrue (is_folder (node_at tree (above (suc n) path)))
folder_above tree zero path rooted there = (rooted path there).1
folder_above tree (suc n) path rooted there = parent_of_folder tree (above (suc n) path) rooted (folder_above tree n path rooted there)

pub shorter : (path : Bytes) → length (parent path) ≤ length path - 1
shorter path = omega (arith, length-take-le (length path - suffix_len inside path - 1) path (omega arith))

rises : (n : ℕ) (path : Bytes) → length (above n path) ≤ length path - n
rises zero path = omega arith
rises (suc n) path = omega (arith, shorter (above n path), rises n path)

empty : (path : Bytes) → length path ≤ 0 → path ≡ []
empty [] short = refl
empty (b ∷ path) short = absurd (omega (arith, short))

pub above_all : (path : Bytes) → above (suc (length path)) path ≡ []
above_all path = empty _ (omega (arith, rises (suc (length path)) path))

-- ---- what a walk meets, if P holds of what is at each path

module _ (tree : Tree) (rooted : IsRooted tree) (P : Bytes → Option Node → Type 0) (nothing : (path : Bytes) → P path None) where
  -- so is all that is below a folder
  abbrev pub IsBelow : Bytes → Type 0
  IsBelow place = (n : ℕ) (path : Bytes) → above (suc n) path ≡ place → P path (get tree path)

  -- and what is at its path too
  abbrev pub IsFrom : Bytes → Type 0
  IsFrom path = P path (get tree path) × IsBelow path

  if_stands : (path : Bytes) (o : Option Node) → (IsSome o → P path o) → P path o
  if_stands path None h = nothing path
  if_stands path (Some n) h = h refl

  child : (place : Bytes) (names : List Bytes) → names ≡ names_at tree place → ((i : ℕ) → i < length names → IsFrom (under place (get_or names i [])))
      → (path : Bytes) → IsSome (get tree path) → parent path ≡ place → IsFrom path
  child place names is all path there here =
      let r = found place (keys tree) path [] (sym (contains_key-keys tree path) ∙ there) here in
      let in_place : is_folder (node_at tree place) ≡ true = subst (λ p. IsTrue (is_folder (node_at tree p))) here (rooted path there).1 in
      let names_are : names ≡ names_in place (keys tree) = is ∙ ap (λ b. cond b (names_in place (keys tree)) []) in_place in
      let same : under place (get_or names r.0 []) ≡ path = (λ j. under (sym here j) ((ap (λ (ns : List Bytes). get_or ns r.0 []) names_are ∙ r.2) j)) ∙ sym (in_folder path (rooted path there).0) in
      subst (λ p. IsFrom p) same (all r.0 (subst (λ (ns : List Bytes). r.0 < length ns) (sym names_are) r.1))

  pub below : (place : Bytes) → ((path : Bytes) → IsSome (get tree path) → parent path ≡ place → IsFrom path)
      → (n : ℕ) (path : Bytes) → above (suc n) path ≡ place → IsSome (get tree path) → P path (get tree path)
  below place child zero path under there = (child path there under).0
  below place child (suc n) path under there = by_case (above (suc n) path) refl (below place child n path)
    where
      by_case : (q : Bytes) → above (suc n) path ≡ q → (above (suc n) path ≡ place → IsSome (get tree path) → P path (get tree path)) → P path (get tree path)
      by_case [] is rest = rest (is ∙ sym (ap parent is) ∙ under) there
      by_case (b ∷ q) is rest = (child (b ∷ q) (some_of_folder (get tree (b ∷ q)) (subst (λ p. IsTrue (is_folder (node_at tree p))) is (folder_above tree n path rooted there))) (ap parent (sym is) ∙ under)).1 n path is

  -- all that the folder lists
  pub all_below : (place : Bytes) (names : List Bytes) → names ≡ names_at tree place → ((i : ℕ) → i < length names → IsFrom (under place (get_or names i []))) → IsBelow place
  all_below place names is all n path under = if_stands path (get tree path) (below place (child place names is all) n path under)

  -- nothing is below a file
  pub none_below_file : (path : Bytes) (size : ℕ) → place_of (node_at tree path) ≡ places.File size → IsBelow path
  none_below_file path size there n p under =
      if_stands p (get tree p) (λ stands. absurd (no_folder (node_at tree path) there (subst (λ q. IsTrue (is_folder (node_at tree q))) under (folder_above tree n p rooted stands))))
    where
      no_folder : (o : Option Node) → place_of o ≡ places.File size → IsTrue (is_folder o) → ⊥
      no_folder None h is = cc
      no_folder (Some (file bytes)) h is = cc
      no_folder (Some folder) h is = cc

  -- from the root all is found
  pub found_all : IsBelow [] → (path : Bytes) → P path (get tree path)
  found_all all path = all (length path) path (above_all path)
