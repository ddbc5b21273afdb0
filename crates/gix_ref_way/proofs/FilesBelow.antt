-- Which files are above and below a path.
use Rattle.std.proofs.Common.{◌≡◌, ◌≢◌, ◌⊎◌, inl, inr, refl, sym, ◌∙◌, ap, subst, ℕ, zero, suc, ◌+◌, ◌<◌, ◌≤◌, Bool, true, false, cond, List, [], ◌∷◌, ◌++◌, length, take, get_or, arith, filter_map}
use Rattle.std.specs.Prelude.{IsTrue, IsSome, is_some, nat_le, Option, Some, None}
use Rattle.std.specs.List.{after_last}
use Rattle.std.specs.FinMap.{get, keys, contains_key-keys}
use Rattle.std.proofs.lemmas.Bool.Decides.{nat_tests}
use borrow.Author.Tests.{leb-true}
use Rattle.gix_ref_file.specs.Tree.{Tree, Node, file, folder, is_slash, parent, name_in, node_at, names_at, place_of, bytes_of, is_folder, IsRooted, under}
use Rattle.gix_ref_file.specs.Changes.{is_file_at}
use Rattle.gix_ref_file.specs.declared.files.Place.TheVariants as places
use Rattle.gix_ref_file.proofs.Below.{path_in_folder, parent_behind}
use Rattle.gix_ref_file.proofs.Listings.{in_folder, found}
use Rattle.gix_ref_way.specs.Ways.{Bytes, file_at, IsAbove, NoFileAbove, NoFileBelow}
use Rattle.gix_ref_way.proofs.FoldersMade.{above_above, above_shorter, front_of}

-- ---- what is at a path

pub no_file_at : (tree : Tree) (path : Bytes) → false ≡ is_file_at tree path → file_at tree path ≡ None
no_file_at tree path none = go (bytes_of (node_at tree path)) none
  where
    go : (o : Option Bytes) → false ≡ is_some o → o ≡ None
    go None e = refl
    go (Some bytes) e = cc

pub folder_no_file : (tree : Tree) (path : Bytes) → place_of (node_at tree path) ≡ places.Folder → false ≡ is_file_at tree path
folder_no_file tree path is = go (node_at tree path) is
  where
    go : (o : Option Node) → place_of o ≡ places.Folder → false ≡ is_some (bytes_of o)
    go None e = cc
    go (Some (file bytes)) e = cc
    go (Some folder) e = refl

pub absent_no_file : (tree : Tree) (path : Bytes) → place_of (node_at tree path) ≡ places.Absent → false ≡ is_file_at tree path
absent_no_file tree path is = go (node_at tree path) is
  where
    go : (o : Option Node) → place_of o ≡ places.Absent → false ≡ is_some (bytes_of o)
    go None e = refl
    go (Some (file bytes)) e = cc
    go (Some folder) e = cc

-- ---- above

-- none above that ends before this place in the path
abbrev pub NoFileBefore : ℕ → Bytes → Tree → Type 0
NoFileBefore end path tree = (place : Bytes) → IsAbove place path → length place < end → file_at tree place ≡ None

pub one_passed : (end : ℕ) (path : Bytes) (tree : Tree) → NoFileBefore end path tree → (get_or path end 0 ≡ 47 → file_at tree (take end path) ≡ None) → NoFileBefore (end + 1) path tree
one_passed end path tree before here place above below = by_test (nat_le end (length place)) refl
  where
    by_test : (b : Bool) → nat_le end (length place) ≡ b → file_at tree place ≡ None
    by_test true far =
        let at : length place ≡ end = omega (arith, below, leb-true _ _ far) in
        subst (λ p. file_at tree p ≡ None) (sym ((front_of place path above).0 ∙ ap (λ n. take n path) at)) (here (ap (λ n. get_or path n 0) (sym at) ∙ (front_of place path above).1))
    by_test false near =
        let less : length place < end = grind (arith, nat_tests) in
        before place above less

pub all_passed : (end : ℕ) (path : Bytes) (tree : Tree) → length path ≤ end → NoFileBefore end path tree → NoFileAbove path tree
all_passed end path tree far before place above = before place above (omega (arith, far, above_shorter place path above))

-- ---- two folders of one path

-- the shorter is the other one or is above it
two_fronts : (a b x y : Bytes) → a ++ 47 ∷ x ≡ b ++ 47 ∷ y → length a ≤ length b → (b ≡ a) ⊎ IsAbove a b
two_fronts [] [] x y e short = inl refl
two_fronts [] (c ∷ b) x y e short = inr (b, ap (λ d. d ∷ b) (first e))
  where
    first : {p q : ℕ} {ps qs : Bytes} → p ∷ ps ≡ q ∷ qs → q ≡ p
    first e = cc
two_fronts (c ∷ a) [] x y e short = absurd (omega (arith, short))
two_fronts (c ∷ a) (d ∷ b) x y e short = go (two_fronts a b x y (rest e) (omega (arith, short)))
  where
    first : {p q : ℕ} {ps qs : Bytes} → p ∷ ps ≡ q ∷ qs → q ≡ p
    first e = cc

    rest : {p q : ℕ} {ps qs : Bytes} → p ∷ ps ≡ q ∷ qs → ps ≡ qs
    rest e = cc

    go : (b ≡ a) ⊎ IsAbove a b → (d ∷ b ≡ c ∷ a) ⊎ IsAbove (c ∷ a) (d ∷ b)
    go (inl same) = inl (λ i. first e i ∷ same i)
    go (inr (more, is)) = inr (more, λ i. first e i ∷ is i)

not_empty : (p : Bytes) → p ≢ [] → 0 < length p
not_empty [] some = absurd (some refl)
not_empty (b ∷ p) some = omega arith

-- what a path is below is its folder, or is above that
pub under_folder : (place path : Bytes) → place ≢ [] → IsAbove place path → (parent path ≡ place) ⊎ IsAbove place (parent path)
under_folder place path some (rest, is) =
    let long : length place ≤ length (parent path) = subst (λ p. length place ≤ length (parent p)) (sym is) (parent_behind place rest) in
    two_fronts place (parent path) rest (after_last is_slash path) (sym is ∙ path_in_folder path (omega (arith, long, not_empty place some))) long

-- ---- below

-- no file is at a path or below it
abbrev pub IsFreeFrom : Tree → Bytes → Type 0
IsFreeFrom tree path = (file_at tree path ≡ None) × NoFileBelow path tree

module _ (tree : Tree) (rooted : IsRooted tree) (place : Bytes) (some : place ≢ []) where
  -- the first part of a path below
  record FirstPart (path : Bytes) : Type 0 where
    part : Bytes
    there : IsSome (get tree part)
    in_place : parent part ≡ place
    leads : (part ≡ path) ⊎ IsAbove part path

  folder_stands : (path : Bytes) → IsAbove place path → IsTrue (is_folder (node_at tree path)) → IsSome (get tree path)
  folder_stands [] above is = absurd (omega (arith, above_shorter place [] above))
  folder_stands (b ∷ path) above is = stood (get tree (b ∷ path)) is
    where
      stood : (o : Option Node) → is_folder o ≡ true → is_some o ≡ true
      stood None h = cc
      stood (Some n) h = refl

  first_part : (n : ℕ) (path : Bytes) → length path ≤ n → IsSome (get tree path) → IsAbove place path → FirstPart path
  first_part zero path short there above = absurd (omega (arith, short, above_shorter place path above))
  first_part (suc n) path short there above = go (λ q few is over. first_part n q few is over) (under_folder place path some above)
    where
      behind : FirstPart (parent path) → IsAbove (parent path) path → FirstPart path
      behind f over = record {
        part = f.part;
        there = f.there;
        in_place = f.in_place;
        leads = inr (elim f.leads [
          | inl same ↦ subst (λ p. IsAbove p path) (sym same) over
          | inr beyond ↦ above_above f.part (parent path) path beyond over
        ]);
      }

      go : ((q : Bytes) → length q ≤ n → IsSome (get tree q) → IsAbove place q → FirstPart q) → (parent path ≡ place) ⊎ IsAbove place (parent path) → FirstPart path
      go rest (inl same) = record { part = path; there = there; in_place = same; leads = inl refl }
      go rest (inr beyond) =
          let long = above_shorter place (parent path) beyond in
          let over : IsAbove (parent path) path = (after_last is_slash path, path_in_folder path (omega (arith, long))) in
          behind (rest (parent path) (omega (arith, short, above_shorter (parent path) path over)) (folder_stands (parent path) beyond (rooted path there).1) beyond) over

  pub file_there : (path bytes : Bytes) → IsAbove place path → file_at tree path ≡ Some bytes → IsSome (get tree path)
  file_there [] bytes above is = absurd (omega (arith, above_shorter place [] above))
  file_there (b ∷ path) bytes above is = stood (get tree (b ∷ path)) is
    where
      stood : (o : Option Node) → bytes_of o ≡ Some bytes → is_some o ≡ true
      stood None h = cc
      stood (Some n) h = refl

  module _ (P : Bytes → Type 0) (names : List Bytes) (listed : names ≡ names_at tree place) (all : (i : ℕ) → i < length names → P (under place (get_or names i []))) where
    child : (path : Bytes) → IsSome (get tree path) → parent path ≡ place → P path
    child path there here =
        let r = found place (keys tree) path [] (sym (contains_key-keys tree path) ∙ there) here in
        let is_there : is_folder (node_at tree place) ≡ true = subst (λ p. IsTrue (is_folder (node_at tree p))) here (rooted path there).1 in
        let names_are : names ≡ filter_map (name_in place) (keys tree) = listed ∙ ap (λ b. cond b (filter_map (name_in place) (keys tree)) []) is_there in
        let same : under place (get_or names r.0 []) ≡ path = (λ j. under (sym here j) ((ap (λ (ns : List Bytes). get_or ns r.0 []) names_are ∙ r.2) j)) ∙ sym (in_folder path (rooted path there).0) in
        subst P same (all r.0 (subst (λ (ns : List Bytes). r.0 < length ns) (sym names_are) r.1))

    -- what is below is at a path that is listed, or below one
    pub listed_part : (path bytes : Bytes) → IsAbove place path → file_at tree path ≡ Some bytes → (part : Bytes) × P part × ((part ≡ path) ⊎ IsAbove part path)
    listed_part path bytes above is =
        let f = first_part (length path) path (omega arith) (file_there path bytes above is) above in
        (f.part, child f.part f.there f.in_place, f.leads)

  -- none below where all that is listed is free
  pub none_below : (names : List Bytes) → names ≡ names_at tree place → ((i : ℕ) → i < length names → IsFreeFrom tree (under place (get_or names i []))) → NoFileBelow place tree
  none_below names listed free path above = by_file (file_at tree path) refl
    where
      by_file : (o : Option Bytes) → file_at tree path ≡ o → file_at tree path ≡ None
      by_file None is = is
      by_file (Some bytes) is =
          let f = listed_part (IsFreeFrom tree) names listed free path bytes above is in
          elim f.2 [
            | inl same ↦ subst (λ p. file_at tree p ≡ None) same (f.1).0
            | inr over ↦ (f.1).1 path over
          ]

-- a path below isn't the root's
pub longer_too : (place path : Bytes) → IsAbove place path → path ≢ []
longer_too place path above none = omega (arith, above_shorter place path above, ap length none)
