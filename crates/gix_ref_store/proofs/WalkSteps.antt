-- What one name of a folder adds to a walk below it.
use Rattle.std.proofs.Common.{◌≡◌, ◌⊎◌, inl, inr, ℕ, Vec, ◌+◌, ◌<◌, ◌≤◌, Bool, true, false, ◌&&◌, List, [], ◌∷◌, ◌++◌, length, map, refl, sym, ◌∙◌, ap, subst, arith, length-append, append_assoc}
use Rattle.std.specs.Prelude.{IsTrue, nat_le, nat_lt, codes}
use Rattle.std.specs.List.{list_all, slice_split, after_last}
use Rattle.std.specs.declared.alloc.Global.{Global}
use Rattle.std.proofs.lemmas.Bool.Decides.{nat_tests}
use borrow.Author.Tests.{ltb-true, ltb-false, leb-true}
use Rattle.std.proofs.Math.ListN.{get_or}
use Rattle.gix_object_lines.specs.NameTest.{begins, ends, is_full_name, is_capital, is_capitals}
use Rattle.gix_ref_file.specs.Tree.{Tree, is_slash, is_component, is_path, parent, node_at, is_folder, names_at, IsRooted, max_path, under}
use Rattle.gix_ref_file.specs.Changes.{is_file_at}
use Rattle.gix_ref_file.proofs.Below.{path_in_folder}
use Rattle.gix_ref_file.proofs.Listings.{listed_stands, item_is, map_length}
use Rattle.gix_ref_store.specs.Listings.{is_pseudo}
use Rattle.gix_ref_store.specs.Walks.{has, Keeps, HasFile, Gathers, GathersBelow}
use Rattle.gix_ref_store.proofs.Descents.{IsAtOrBelow, on_way, is_found, folder_below}
use Rattle.std.proofs.lemmas.Bool.{and_parts}
use Rattle.gix_ref_file.proofs.Moved.{file_stands}

-- ---- beginnings
pub split : (front path r s : List ℕ) → front ++ r ≡ path ++ s → ((t : List ℕ) × (path ≡ front ++ t)) ⊎ ((t : List ℕ) × (front ≡ path ++ t))
split [] path r s is = inl (path, refl)
split (f ∷ front) [] r s is = inr (f ∷ front, refl)
split (f ∷ front) (p ∷ path) r s is = by_case (split front path r s (tails is))
  where
    tails : f ∷ front ++ r ≡ p ∷ path ++ s → front ++ r ≡ path ++ s
    tails e = cc

    heads : f ∷ front ++ r ≡ p ∷ path ++ s → f ≡ p
    heads e = cc

    by_case : ((t : List ℕ) × (path ≡ front ++ t)) ⊎ ((t : List ℕ) × (front ≡ path ++ t)) → ((t : List ℕ) × (p ∷ path ≡ f ∷ front ++ t)) ⊎ ((t : List ℕ) × (f ∷ front ≡ p ∷ path ++ t))
    by_case (inl (t, e)) = inl (t, λ i. sym (heads is) i ∷ e i)
    by_case (inr (t, e)) = inr (t, λ i. heads is i ∷ e i)

-- ---- below a base
pub cancel : (front xs ys : List ℕ) → front ++ xs ≡ front ++ ys → xs ≡ ys
cancel [] xs ys is = is
cancel (f ∷ front) xs ys is = cancel front xs ys (tails is)
  where
    tails : f ∷ front ++ xs ≡ f ∷ front ++ ys → front ++ xs ≡ front ++ ys
    tails e = cc

tail_of : (xs ys : List ℕ) → 47 ∷ xs ≡ 47 ∷ ys → xs ≡ ys
tail_of xs ys e = cc

pub without_base : (base name path : List ℕ) → IsAtOrBelow (under base name) (under base path) → IsAtOrBelow name path
without_base [] name path is = is
without_base (b ∷ base) name path (inl is) = inl (tail_of name path (cancel (b ∷ base) (47 ∷ name) (47 ∷ path) is))
without_base (b ∷ base) name path (inr (rest, is)) = inr (rest, tail_of name (path ++ 47 ∷ rest) (cancel (b ∷ base) (47 ∷ name) (47 ∷ path ++ 47 ∷ rest) (is ∙ append_assoc (b ∷ base) (47 ∷ path) (47 ∷ rest))))

-- the path in a folder of the base
pub under_folder : (base within name : List ℕ) → 0 < length within → under (under base within) name ≡ under base (under within name)
under_folder base [] name some = absurd (omega (arith, some))
under_folder [] (f ∷ within) name some = refl
under_folder (b ∷ base) (f ∷ within) name some = append_assoc (b ∷ base) (47 ∷ f ∷ within) (47 ∷ name)

nonempty : (base within : List ℕ) → 0 < length within → (b : ℕ) × (rest : List ℕ) × (under base within ≡ b ∷ rest)
nonempty [] [] some = absurd (omega (arith, some))
nonempty [] (f ∷ within) some = (f, within, refl)
nonempty (b ∷ base) within some = (b, base ++ 47 ∷ within, refl)

pub some_in : (within name : List ℕ) → 0 < length within → 0 < length (under within name)
some_in within name some = let n = nonempty within name some in omega (arith, ap length n.2)
  where
    nonempty : (within name : List ℕ) → 0 < length within → (b : ℕ) × (rest : List ℕ) × (under within name ≡ b ∷ rest)
    nonempty [] name some = absurd (omega (arith, some))
    nonempty (f ∷ within) name some = (f, within ++ 47 ∷ name, refl)

-- ---- what is at a path of the folder, and below it
-- the wanted names with files at a path of the base or below it
abbrev pub IsGathered : Tree → List ℕ → (List ℕ → Bool) → List (List ℕ) → List ℕ → Type 0
IsGathered tree base asked names path = (name : List ℕ) → IsAtOrBelow (under base name) path → HasFile tree base asked name → IsTrue (has names name)

pub still_gathered : (tree : Tree) (base : List ℕ) (asked : List ℕ → Bool) (path : List ℕ) (old new : List (List ℕ)) → Keeps old new → IsGathered tree base asked old path → IsGathered tree base asked new path
still_gathered tree base asked path old new keeps is name at it = keeps name (is name at it)

-- all that is wanted begins so
abbrev pub HasFront : List ℕ → (List ℕ → Bool) → Type 0
HasFront front asked = (name : List ℕ) → IsTrue (asked name) → IsTrue (begins front name)

-- the test holds of each path at which a wanted name may be, or below which it may
abbrev pub IsLed : (List ℕ → Bool) → (List ℕ → Bool) → Type 0
IsLed lead asked = (path name : List ℕ) → IsTrue (asked name) → IsAtOrBelow name path → IsTrue (lead path)

-- a folder is above what is there
folder_above : (tree : Tree) → IsRooted tree → (path place rest : List ℕ) → 0 < length place → path ≡ place ++ 47 ∷ rest → IsTrue (is_file_at tree path) → IsTrue (is_folder (node_at tree place))
folder_above tree rooted path [] rest some is there = absurd (omega (arith, some))
folder_above tree rooted path (b ∷ place) rest some is there =
    let w = on_way tree rooted b place (length path) path rest (omega arith) is (file_stands tree path there) in
    subst (λ q. IsTrue (is_folder (node_at tree q))) w.here (rooted w.step w.there).1

module _ (tree : Tree) (rooted : IsRooted tree) (base : List ℕ) (lead asked : List ℕ → Bool) (led : IsLed lead asked) (path : List ℕ) (some : 0 < length path) (names : List (List ℕ)) (there : IsTrue (is_full_name path) → IsTrue (asked path) → IsTrue (has names path)) where
  long : 0 < length (under base path)
  long = let n = nonempty base path some in omega (arith, ap length n.2)

  -- a file at the path itself
  here : (name : List ℕ) → under base name ≡ under base path → HasFile tree base asked name → IsTrue (has names name)
  here name same it = by_case (without_base base name path (inl same))
    where
      same_name : name ≡ path → IsTrue (has names name)
      same_name e = subst (λ n. IsTrue (has names n)) (sym e) (there (subst (λ n. IsTrue (is_full_name n)) e it.full) (subst (λ n. IsTrue (asked n)) e it.asked_for))

      longer : (rest : List ℕ) → name ≡ path ++ 47 ∷ rest → length (under base name) ≡ length (under base path) → ⊥
      longer rest e lengths = apart base lengths
        where
          apart : (base : List ℕ) → length (under base name) ≡ length (under base path) → ⊥
          apart [] l = omega (arith, l, ap length e, length-append path (47 ∷ rest))
          apart (b ∷ base) l = omega (arith, l, ap length e, length-append path (47 ∷ rest), length-append (b ∷ base) (47 ∷ name), length-append (b ∷ base) (47 ∷ path))

      by_case : IsAtOrBelow name path → IsTrue (has names name)
      by_case (inl e) = same_name e
      by_case (inr (rest, e)) = absurd (longer rest e (ap length same))

  pub entered : GathersBelow tree base asked path names → IsGathered tree base asked names (under base path)
  entered gathers name (inl same) it = here name same it
  entered gathers name (inr (rest, at)) it = gathers name rest at it

  -- nothing is below what is no folder
  pub passed : (more : Bool) → (IsTrue (lead path) → IsTrue (is_folder (node_at tree (under base path))) → IsTrue more) → more ≡ false → IsGathered tree base asked names (under base path)
  passed more enters none name (inl same) it = here name same it
  passed more enters none name (inr (rest, at)) it =
      absurd (cc (sym none ∙ enters (led path name it.asked_for (without_base base name path (inr (rest, at)))) (folder_above tree rooted (under base name) (under base path) rest long at it.file)))

-- ---- a folder's names
-- the path of a name that the folder lists
pub record IsStep (base within place path : List ℕ) (listed : List (List ℕ)) (i : ℕ) : Type 0 where
  pub at : under base path ≡ under place (get_or listed i [])
  pub some : 0 < length path
  pub deep : (IsTrue (is_path (under base path))) → (nat_lt (length within) (length path) && nat_le (length path) max_path) ≡ true

path_short : (path : List ℕ) → IsTrue (is_path path) → length path ≤ max_path
path_short path is = by_case (nat_le (length path) max_path) refl is
  where
    by_case : (b : Bool) → nat_le (length path) max_path ≡ b → IsTrue (b && list_all is_component (slice_split is_slash path)) → length path ≤ max_path
    by_case true e h = leb-true _ _ e
    by_case false e h = cc

under_longer : (base path : List ℕ) → length path ≤ length (under base path)
under_longer [] path = omega arith
under_longer (b ∷ base) path = omega (arith, length-append (b ∷ base) (47 ∷ path))

longer_in : (within name : List ℕ) → 0 < length within → length within < length (under within name)
longer_in [] name some = absurd (omega (arith, some))
longer_in (f ∷ within) name some = omega (arith, length-append (f ∷ within) (47 ∷ name))

is_deep : (within path : List ℕ) → length within < length path → length path ≤ max_path → (nat_lt (length within) (length path) && nat_le (length path) max_path) ≡ true
is_deep within path longer short = grind (arith, nat_tests)

pub step_of : (base within place path name : List ℕ) (xs : List (Vec ℕ Global)) (i : ℕ) (v : Vec ℕ Global) → 0 < length within → place ≡ under base within → i < length xs → v ≡ get_or xs i v → name ≡ v.items → path ≡ under within name
    → IsStep base within place path (map (λ (name : Vec ℕ Global). name.items) xs) i
step_of base within place path name xs i v some place_is below is name_is path_is = record {
  at = ap (under base) path_is ∙ sym (under_folder base within name some) ∙ ap (λ p. under p name) (sym place_is) ∙ ap (under place) (name_is ∙ sym (item_is xs i v below is));
  some = subst (λ p. 0 < length p) (sym path_is) (some_in within name some);
  deep = λ whole. is_deep within path (subst (λ p. length within < length p) (sym path_is) (longer_in within name some)) (omega (arith, under_longer base path, path_short (under base path) whole));
}

pub step_stands : (tree : Tree) (base within place path : List ℕ) (xs : List (Vec ℕ Global)) (i : ℕ) → IsRooted tree → map (λ (name : Vec ℕ Global). name.items) xs ≡ names_at tree place → i < length xs
    → IsStep base within place path (map (λ (name : Vec ℕ Global). name.items) xs) i → (nat_lt (length within) (length path) && nat_le (length path) max_path) ≡ true
step_stands tree base within place path xs i rooted names below step =
    let r = listed_stands tree place (map (λ (name : Vec ℕ Global). name.items) xs) i rooted names (omega (arith, below, map_length xs)) in
    step.deep (subst (λ p. IsTrue (is_path p)) (sym step.at) r.1)

-- one more name is gathered
pub one_more : (P : List ℕ → Type 0) (place path : List ℕ) (names : List (List ℕ)) (k : ℕ) → ((i : ℕ) → i < k → P (under place (get_or names i []))) → path ≡ under place (get_or names k []) → P path
    → (i : ℕ) → i < k + 1 → P (under place (get_or names i []))
one_more P place path names k before at here i below = by_test (nat_lt i k) refl
  where
    by_test : (b : Bool) → nat_lt i k ≡ b → P (under place (get_or names i []))
    by_test true less = before i (ltb-true _ _ less)
    by_test false more =
        let same : k ≡ i = omega (arith, below, ltb-false _ _ more) in
        subst (λ j. P (under place (get_or names j []))) same (subst P at here)

-- all that the folder lists is gathered
pub all_gathered : (tree : Tree) (base : List ℕ) (asked : List ℕ → Bool) (within : List ℕ) (place : List ℕ) (listed names : List (List ℕ)) → IsRooted tree → 0 < length within → place ≡ under base within → listed ≡ names_at tree place
    → ((i : ℕ) → i < length listed → IsGathered tree base asked names (under place (get_or listed i []))) → GathersBelow tree base asked within names
all_gathered tree base asked within place listed names rooted some place_is listed_is all name rest at it =
    let n = nonempty base within some in
    let w = on_way tree rooted n.0 n.1 (length (under base name)) (under base name) rest (omega arith) (at ∙ ap (λ p. p ++ 47 ∷ rest) n.2) (file_stands tree (under base name) it.file) in
    let f = is_found tree place listed w.step rooted listed_is w.there (w.here ∙ sym n.2 ∙ sym place_is) in
    all f.0 f.1 name (subst (λ q. IsAtOrBelow (under base name) q) (sym f.2) w.leads) it

-- ---- a folder's own names
-- one more of the names is there
pub one_more_there : (ok : List ℕ → Type 0) (listed old new : List (List ℕ)) (name : List ℕ) (k : ℕ) → Keeps old new
    → ((i : ℕ) → i < k → ok (get_or listed i []) → IsTrue (has old (get_or listed i []))) → get_or listed k [] ≡ name → (ok name → IsTrue (has new name))
    → (i : ℕ) → i < k + 1 → ok (get_or listed i []) → IsTrue (has new (get_or listed i []))
one_more_there ok listed old new name k keeps before at here i below is = by_test (nat_lt i k) refl
  where
    by_test : (b : Bool) → nat_lt i k ≡ b → IsTrue (has new (get_or listed i []))
    by_test true less = keeps (get_or listed i []) (before i (ltb-true _ _ less) is)
    by_test false more =
        let same : get_or listed i [] ≡ name = ap (λ j. get_or listed j []) (let e : i ≡ k = omega (arith, below, ltb-false _ _ more) in e) ∙ at in
        subst (λ n. IsTrue (has new n)) (sym same) (here (subst ok same is))

-- a name of capitals is in the folder itself
no_slash : (name : List ℕ) → IsTrue (is_capitals name) → (rest front : List ℕ) → name ≡ front ++ 47 ∷ rest → ⊥
no_slash [] is rest [] e = cc
no_slash [] is rest (f ∷ front) e = cc
no_slash (b ∷ name) is rest [] e = at_slash b (sym (heads e)) is
  where
    heads : b ∷ name ≡ 47 ∷ rest → 47 ≡ b
    heads h = cc

    at_slash : (b : ℕ) → b ≡ 47 → IsTrue (is_capital b && list_all is_capital name) → ⊥
    at_slash b same h = absurd (cc (sym (ap (λ x. is_capital x && list_all is_capital name) same) ∙ h))
no_slash (b ∷ name) is rest (f ∷ front) e = no_slash name (and_parts (is_capital b) (list_all is_capital name) is).1 rest front (tails e)
  where
    tails : b ∷ name ≡ f ∷ front ++ 47 ∷ rest → name ≡ front ++ 47 ∷ rest
    tails h = cc

pub all_pseudo : (tree : Tree) (base : List ℕ) (listed names : List (List ℕ)) → IsRooted tree → listed ≡ names_at tree base
    → ((i : ℕ) → i < length listed → IsTrue (is_full_name (get_or listed i [])) → IsTrue (is_pseudo (get_or listed i [])) → IsTrue (has names (get_or listed i [])))
    → Gathers tree base is_pseudo names
all_pseudo tree base listed names rooted listed_is all name it =
    let there = file_stands tree (under base name) it.file in
    let capitals = (and_parts (is_capitals name) (ends (codes "HEAD") name) it.asked_for).0 in
    let here = in_base base name capitals (rooted (under base name) there).0 in
    let f = is_found tree base listed (under base name) rooted listed_is there here in
    let same : get_or listed f.0 [] ≡ name = same_name base (get_or listed f.0 []) name f.2 in
    subst (λ n. IsTrue (has names n)) same (all f.0 f.1 (subst (λ n. IsTrue (is_full_name n)) (sym same) it.full) (subst (λ n. IsTrue (is_pseudo n)) (sym same) it.asked_for))
  where
    same_name : (base a b : List ℕ) → under base a ≡ under base b → a ≡ b
    same_name [] a b e = e
    same_name (x ∷ base) a b e = tail_of a b (cancel (x ∷ base) (47 ∷ a) (47 ∷ b) e)

    in_base : (base name : List ℕ) → IsTrue (is_capitals name) → IsTrue (is_path (under base name)) → parent (under base name) ≡ base
    in_base [] name capitals path = by_case (parent name) refl
      where
        by_case : (p : List ℕ) → parent name ≡ p → p ≡ []
        by_case [] e = refl
        by_case (x ∷ p) e = absurd (no_slash name capitals (after_last is_slash name) (parent name) (path_in_folder name (omega (arith, ap length e))))
    in_base (x ∷ base) name capitals path = by_case (folder_below (x ∷ base) name)
      where
        last : (p : List ℕ) → (more : List ℕ) → parent ((x ∷ base) ++ 47 ∷ name) ≡ (x ∷ base) ++ 47 ∷ more → ⊥
        last p more at =
            let whole : (x ∷ base) ++ 47 ∷ name ≡ parent ((x ∷ base) ++ 47 ∷ name) ++ 47 ∷ after_last is_slash ((x ∷ base) ++ 47 ∷ name) = path_in_folder ((x ∷ base) ++ 47 ∷ name) (omega (arith, ap length at)) in
            let form : (x ∷ base) ++ 47 ∷ name ≡ (x ∷ base) ++ (47 ∷ more ++ 47 ∷ after_last is_slash ((x ∷ base) ++ 47 ∷ name)) = whole ∙ ap (λ q. q ++ 47 ∷ after_last is_slash ((x ∷ base) ++ 47 ∷ name)) at ∙ append_assoc (x ∷ base) (47 ∷ more) (47 ∷ after_last is_slash ((x ∷ base) ++ 47 ∷ name)) in
            no_slash name capitals (after_last is_slash ((x ∷ base) ++ 47 ∷ name)) more (tail_of name (more ++ 47 ∷ after_last is_slash ((x ∷ base) ++ 47 ∷ name)) (cancel (x ∷ base) (47 ∷ name) (47 ∷ more ++ 47 ∷ after_last is_slash ((x ∷ base) ++ 47 ∷ name)) form))

        by_case : (parent ((x ∷ base) ++ 47 ∷ name) ≡ x ∷ base) ⊎ ((more : List ℕ) × (parent ((x ∷ base) ++ 47 ∷ name) ≡ (x ∷ base) ++ 47 ∷ more)) → parent ((x ∷ base) ++ 47 ∷ name) ≡ x ∷ base
        by_case (inl is) = is
        by_case (inr (more, at)) = absurd (last [] more at)
