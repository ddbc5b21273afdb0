-- What is below a folder: what is listed there, and what is below that.
use Rattle.std.proofs.Common.{◌≡◌, ◌≢◌, ◌⊎◌, inl, inr, refl, sym, ◌∙◌, ap, subst, ℕ, zero, suc, ◌<◌, ◌≤◌, Bool, true, false, cond, List, [], ◌∷◌, ◌++◌, length, arith, length-append, Vec, map, nat_eq, tests}
use Rattle.std.specs.Prelude.{IsSome, not, ◌||◌}
use Rattle.std.specs.List.{list_any}
use Rattle.std.specs.declared.alloc.Global.{Global}
use Rattle.std.specs.FinMap.{get, keys, contains_key-keys}
use Rattle.std.proofs.Math.ListN.{get_or}
use Rattle.gix_ref_file.specs.Tree.{Tree, same_path, parent, names_at, node_at, is_folder, IsRooted, under}
use Rattle.gix_ref_file.specs.Changes.{is_empty_at}
use Rattle.gix_ref_file.proofs.Listings.{names_in, found, listed}
use Rattle.gix_ref_file.proofs.Trees.{one_path, same_path_itself}
use Rattle.history_model.specs.Bytes.{Bytes}
use Rattle.gix_ref_way.specs.Ways.{above}
use Rattle.gix_ref_way.proofs.FilesBelow.{under_folder}
use Rattle.gix_ref_way.proofs.Walked as walked
use Rattle.gix_ref_way.proofs.Walked.{shorter}

-- ---- what a folder lists

-- what is at a path and below it
abbrev pub From : (Bytes → Type 0) → Tree → Bytes → Type 0
From P tree path = (IsSome (get tree path) → P path) × ((n : ℕ) (q : Bytes) → above (suc n) q ≡ path → IsSome (get tree q) → P q)

-- all that is below the folder
pub all_below : (P : Bytes → Type 0) (tree : Tree) → IsRooted tree → (place : Bytes) (names : List Bytes) → names ≡ names_at tree place
    → ((i : ℕ) → i < length names → From P tree (under place (get_or names i []))) → (n : ℕ) (path : Bytes) → above (suc n) path ≡ place → IsSome (get tree path) → P path
all_below P tree rooted place names is all = walked.all_below tree rooted (λ path o. IsSome o → P path) (λ path there. absurd (cc there)) place names is all

-- ---- a path after a folder's and a slash is below it

above_parent : (n : ℕ) (path : Bytes) → above n (parent path) ≡ parent (above n path)
above_parent zero path = refl
above_parent (suc n) path = ap parent (above_parent n path)

-- so many folders above it
pub so_many : (fuel : ℕ) (place path rest : Bytes) → length path ≤ fuel → place ≢ [] → path ≡ place ++ 47 ∷ rest → (n : ℕ) × (above (suc n) path ≡ place)
so_many zero place path rest short some is = absurd (omega (arith, short, ap length is, length-append place (47 ∷ rest)))
so_many (suc fuel) place path rest short some is = go (so_many fuel) (under_folder place (place ++ 47 ∷ rest) some (rest, refl))
  where
    few : length (parent path) ≤ fuel
    few = omega (arith, shorter path, short, ap length is, length-append place (47 ∷ rest))

    go : ((place path rest : Bytes) → length path ≤ fuel → place ≢ [] → path ≡ place ++ 47 ∷ rest → (n : ℕ) × (above (suc n) path ≡ place))
        → (parent (place ++ 47 ∷ rest) ≡ place) ⊎ ((more : Bytes) × (parent (place ++ 47 ∷ rest) ≡ place ++ 47 ∷ more)) → (n : ℕ) × (above (suc n) path ≡ place)
    go more (inl same) = (zero, ap parent is ∙ same)
    go more (inr (inner, same)) =
        let r = more place (parent path) inner few some (ap parent is ∙ same) in
        (suc r.0, sym (above_parent (suc r.0) path) ∙ r.1)

-- ---- an empty folder

child_none : (tree : Tree) (place path : Bytes) → is_empty_at tree place ≡ true → IsSome (get tree path) → parent path ≡ place → ⊥
child_none tree place path empty there here =
    let some = key_passes_here place path (keys tree) (sym (contains_key-keys tree path) ∙ there) (ap (λ p. same_path p place) here ∙ same_path_itself place) in
    cc (ap not some, empty)
  where
    key_passes_here : (place path : Bytes) (ks : List Bytes) → list_any (same_path path) ks ≡ true → same_path (parent path) place ≡ true → list_any (λ k. same_path (parent k) place) ks ≡ true
    key_passes_here place path [] e h = cc
    key_passes_here place path (k ∷ ks) e h = go (key_passes_here place path ks) (same_path path k) refl e
      where
        go : (list_any (same_path path) ks ≡ true → same_path (parent path) place ≡ true → list_any (λ k. same_path (parent k) place) ks ≡ true) → (b : Bool) → same_path path k ≡ b → (b || list_any (same_path path) ks) ≡ true
            → (same_path (parent k) place || list_any (λ k. same_path (parent k) place) ks) ≡ true
        go more true same e = ap (λ b. b || list_any (λ k. same_path (parent k) place) ks) (ap (λ p. same_path (parent p) place) (sym (one_path path k same)) ∙ h)
        go more false apart e = or_true (same_path (parent k) place) _ (more e h)
          where
            or_true : (a b : Bool) → b ≡ true → (a || b) ≡ true
            or_true true b h = refl
            or_true false b h = h

-- nothing is below it
pub none_below : (tree : Tree) (place rest : Bytes) → IsRooted tree → place ≢ [] → is_empty_at tree place ≡ true → IsSome (get tree (place ++ 47 ∷ rest)) → ⊥
none_below tree place rest rooted some empty there =
    let path = place ++ 47 ∷ rest in
    let r = so_many (length path) place path rest (omega arith) some refl in
    walked.below tree rooted (λ path o. IsSome o → ⊥) (λ path there. absurd (cc there)) place (λ child stands here. absurd (child_none tree place child empty stands here)) r.0 path r.1 there there

-- if a folder lists nothing it is empty
pub lists_none : (tree : Tree) (place : Bytes) → is_folder (node_at tree place) ≡ true → names_at tree place ≡ [] → is_empty_at tree place ≡ true
lists_none tree place is none = by_test (list_any (λ path. same_path (parent path) place) (keys tree)) refl
  where
    one_of : (p : Bytes → Bool) (ks : List Bytes) → list_any p ks ≡ true → (k : Bytes) × (list_any (same_path k) ks ≡ true) × (p k ≡ true)
    one_of p [] some = absurd (cc some)
    one_of p (k ∷ ks) some = by_case (p k) refl (one_of p ks)
      where
        or_true : (b : Bool) → (b || true) ≡ true
        or_true true = refl
        or_true false = refl

        by_case : (b : Bool) → p k ≡ b → (list_any p ks ≡ true → (q : Bytes) × (list_any (same_path q) ks ≡ true) × (p q ≡ true)) → (q : Bytes) × (list_any (same_path q) (k ∷ ks) ≡ true) × (p q ≡ true)
        by_case true is rest = (k, ap (λ b. b || list_any (same_path k) ks) (same_path_itself k), is)
        by_case false is rest =
            let r = rest (sym (ap (λ b. b || list_any p ks) is) ∙ some) in
            (r.0, ap (λ b. same_path r.0 k || b) r.1 ∙ or_true (same_path r.0 k), r.2)

    by_test : (b : Bool) → list_any (λ path. same_path (parent path) place) (keys tree) ≡ b → not b ≡ true
    by_test false e = refl
    by_test true e =
        let r = one_of (λ path. same_path (parent path) place) (keys tree) e in
        let at = found place (keys tree) r.0 [] r.1 (one_path (parent r.0) place r.2) in
        let nothing : names_in place (keys tree) ≡ [] = sym (ap (λ b. cond b (names_in place (keys tree)) []) is) ∙ none in
        absurd (omega (arith, at.1, ap length nothing))

-- if it lists something, something is in it
pub lists_one : (tree : Tree) (place : Bytes) (names : List Bytes) → IsRooted tree → names ≡ names_at tree place → 0 < length names → (path : Bytes) × IsSome (get tree path) × (parent path ≡ place)
lists_one tree place names rooted is some =
    go (is_folder (node_at tree place)) refl
  where
    go : (b : Bool) → is_folder (node_at tree place) ≡ b → (path : Bytes) × IsSome (get tree path) × (parent path ≡ place)
    go false e = absurd (omega (arith, some, ap length (is ∙ ap (λ b. cond b (names_in place (keys tree)) []) e)))
    go true e =
        let all : names ≡ names_in place (keys tree) = is ∙ ap (λ b. cond b (names_in place (keys tree)) []) e in
        let r = listed place (keys tree) 0 [] (subst (λ (ns : List Bytes). 0 < length ns) all some) in
        (r.0, contains_key-keys tree r.0 ∙ r.1, r.2)

-- ---- how many names a listing has

pub some_listed : (xs : List (Vec ℕ Global)) (n : ℕ) → n ≡ length xs → nat_eq n 0 ≡ false → 0 < length (map (λ (name : Vec ℕ Global). name.items) xs)
some_listed [] n is some = let wrong : nat_eq 0 0 ≡ false = ap (λ m. nat_eq m 0) (sym is) ∙ some in cc wrong
some_listed (x ∷ xs) n is some = omega arith

pub none_listed : (xs : List (Vec ℕ Global)) (n : ℕ) → n ≡ length xs → nat_eq n 0 ≡ true → map (λ (name : Vec ℕ Global). name.items) xs ≡ []
none_listed [] n is none = refl
none_listed (x ∷ xs) n is none = grind (arith, tests)
