-- Listings of folders reach each file below them.
use Rattle.std.proofs.Common.{◌≡◌, ◌⊎◌, inl, inr, ℕ, zero, suc, ◌-◌, ◌<◌, ◌≤◌, true, cond, List, [], ◌∷◌, ◌++◌, length, take, Option, Some, None, refl, sym, ◌∙◌, ap, subst, arith, append_assoc}
use Rattle.std.specs.Prelude.{IsTrue, IsSome}
use Rattle.std.specs.List.{suffix_len, after_last}
use Rattle.std.specs.FinMap.{keys, get, contains_key-keys}
use Rattle.std.proofs.Math.ListN.{get_or}
use Rattle.std.proofs.lemmas.List.{length-take-le}
use Rattle.gix_ref_file.specs.Tree.{Tree, Node, is_slash, parent, names_at, node_at, is_folder, IsRooted, under}
use Rattle.gix_ref_file.proofs.Below.{inside, path_in_folder, parent_behind}
use Rattle.gix_ref_file.proofs.Listings.{in_folder, names_in, found}
use Rattle.gix_ref_file.proofs.Moved.{some_of_folder}

-- what is in a folder is listed there
pub is_found : (tree : Tree) (place : List ℕ) (names : List (List ℕ)) (path : List ℕ) → IsRooted tree → names ≡ names_at tree place → IsSome (get tree path) → parent path ≡ place
    → (i : ℕ) × (i < length names) × (under place (get_or names i []) ≡ path)
is_found tree place names path rooted is there here =
    let r = found place (keys tree) path [] (sym (contains_key-keys tree path) ∙ there) here in
    let in_place : is_folder (node_at tree place) ≡ true = subst (λ p. IsTrue (is_folder (node_at tree p))) here (rooted path there).1 in
    let names_are : names ≡ names_in place (keys tree) = is ∙ ap (λ b. cond b (names_in place (keys tree)) []) in_place in
    let same : under place (get_or names r.0 []) ≡ path = (λ j. under (sym here j) ((ap (λ (ns : List (List ℕ)). get_or ns r.0 []) names_are ∙ r.2) j)) ∙ sym (in_folder path (rooted path there).0) in
    (r.0, subst (λ (ns : List (List ℕ)). r.0 < length ns) (sym names_are) r.1, same)

-- ---- on the way from a folder to a path below it
take_behind : (front rest : List ℕ) (n : ℕ) → length front ≤ n → (take n (front ++ 47 ∷ rest) ≡ front) ⊎ ((more : List ℕ) × (take n (front ++ 47 ∷ rest) ≡ front ++ 47 ∷ more))
take_behind [] rest zero long = inl refl
take_behind [] rest (suc n) long = inr (take n rest, refl)
take_behind (b ∷ front) rest zero long = absurd (omega (arith, long))
take_behind (b ∷ front) rest (suc n) long = by_case (take_behind front rest n (omega (arith, long)))
  where
    by_case : (take n (front ++ 47 ∷ rest) ≡ front) ⊎ ((more : List ℕ) × (take n (front ++ 47 ∷ rest) ≡ front ++ 47 ∷ more))
        → (b ∷ take n (front ++ 47 ∷ rest) ≡ b ∷ front) ⊎ ((more : List ℕ) × (b ∷ take n (front ++ 47 ∷ rest) ≡ b ∷ front ++ 47 ∷ more))
    by_case (inl is) = inl (ap (λ p. b ∷ p) is)
    by_case (inr (more, is)) = inr (more, ap (λ p. b ∷ p) is)

-- the folder of a path below a place is the place, or below it
pub folder_below : (place rest : List ℕ) → (parent (place ++ 47 ∷ rest) ≡ place) ⊎ ((more : List ℕ) × (parent (place ++ 47 ∷ rest) ≡ place ++ 47 ∷ more))
folder_below place rest =
    let path = place ++ 47 ∷ rest in
    let n = length path - suffix_len inside path - 1 in
    take_behind place rest n (omega (arith, parent_behind place rest, length-take-le n path (omega arith)))

shorter : (path : List ℕ) → 0 < length path → length (parent path) < length path
shorter path some = omega (arith, some, length-take-le (length path - suffix_len inside path - 1) path (omega arith))

-- what is at a path, or right below it in the way
abbrev pub IsAtOrBelow : List ℕ → List ℕ → Type 0
IsAtOrBelow path place = (path ≡ place) ⊎ ((rest : List ℕ) × (path ≡ place ++ 47 ∷ rest))

pub record OnWay (tree : Tree) (place path : List ℕ) : Type 0 where
  pub step : List ℕ
  pub here : parent step ≡ place
  pub there : IsSome (get tree step)
  pub leads : IsAtOrBelow path step

pub on_way : (tree : Tree) → IsRooted tree → (b : ℕ) (place : List ℕ) (left : ℕ) (path rest : List ℕ) → length path ≤ left → path ≡ (b ∷ place) ++ 47 ∷ rest → IsSome (get tree path) → OnWay tree (b ∷ place) path
on_way tree rooted b place zero path rest short is there = absurd (omega (arith, short, ap length is))
on_way tree rooted b place (suc left) path rest short is there = by_case (folder_below (b ∷ place) rest) (λ more at stands_there. on_way tree rooted b place left (parent path) more (omega (arith, short, shorter path (omega (arith, ap length is)))) at stands_there)
  where
    up : (p : List ℕ) → parent path ≡ p → IsTrue (is_folder (node_at tree p))
    up p e = subst (λ q. IsTrue (is_folder (node_at tree q))) e (rooted path there).1

    by_case : (parent ((b ∷ place) ++ 47 ∷ rest) ≡ b ∷ place) ⊎ ((more : List ℕ) × (parent ((b ∷ place) ++ 47 ∷ rest) ≡ (b ∷ place) ++ 47 ∷ more))
        → ((more : List ℕ) → parent path ≡ (b ∷ place) ++ 47 ∷ more → IsSome (get tree (parent path)) → OnWay tree (b ∷ place) (parent path)) → OnWay tree (b ∷ place) path
    by_case (inl at) deeper = record { step = path; here = ap parent is ∙ at; there = there; leads = inl refl }
    by_case (inr (more, at)) deeper =
        let above : parent path ≡ (b ∷ place) ++ 47 ∷ more = ap parent is ∙ at in
        let w = deeper more above (subst (λ q. IsSome (get tree q)) (sym above) (some_of_folder (get tree ((b ∷ place) ++ 47 ∷ more)) (up ((b ∷ place) ++ 47 ∷ more) above))) in
        let whole : path ≡ parent path ++ 47 ∷ after_last is_slash path = path_in_folder path (omega (arith, ap length above)) in
        record { step = w.step; here = w.here; there = w.there; leads = inr (joined w.step w.leads whole) }
      where
        joined : (step : List ℕ) → IsAtOrBelow (parent path) step → path ≡ parent path ++ 47 ∷ after_last is_slash path → (rest : List ℕ) × (path ≡ step ++ 47 ∷ rest)
        joined step (inl same) whole = (after_last is_slash path, whole ∙ ap (λ p. p ++ 47 ∷ after_last is_slash path) same)
        joined step (inr (r, at)) whole = (r ++ 47 ∷ after_last is_slash path, whole ∙ ap (λ p. p ++ 47 ∷ after_last is_slash path) at ∙ append_assoc step (47 ∷ r) (47 ∷ after_last is_slash path))
