-- Trees that hold one part's own, how changes keep them so, and the names in their roots.
use Rattle.std.proofs.Common.{◌≡◌, inl, inr, ⊎_elim, ℕ, Bool, true, false, cond, not, ◌||◌, List, [], ◌∷◌, ◌++◌, take, map, filter_map, Some, None, refl, sym, ◌∙◌, ap, subst}
use Rattle.std.specs.Prelude.{IsTrue, IsFalse, is_some, Vec}
use Rattle.std.specs.List.{AllByRecursion, filter, after_last, cons_option, list_any}
use Rattle.std.specs.declared.alloc.Global.{Global}
use Rattle.std.specs.Cmp.Lexicographic.{nat_list_cmp_total}
use Rattle.std.specs.FinMap.{get, insert, remove, keys, get-insert, get-remove, contains_key-keys}
use Rattle.std.specs.List.Sorted.{IsPermutation}
use Rattle.std.proofs.lemmas.List.{append-nil, map-append}
use Rattle.std.proofs.lemmas.List.Elements.{filter-append}
use Rattle.std.proofs.lemmas.List.Sorted.{IsPermutation-refl}
use Rattle.gix_ref_file.specs.Tree.{Tree, Node, file, folder, same_path, is_slash, is_path, parent, node_at, bytes_at, names_at, name_in, IsRooted}
use Rattle.gix_ref_file.specs.Changes.{Change, to_create, to_write, to_append, to_shorten, to_rename, to_remove_file, to_make_folder, to_remove_folder, paths_of, after, cut, MayLeave}
use Rattle.gix_ref_file.specs.History.{History, Adds}
use Rattle.gix_ref_file.proofs.Ascending.{root_name}
use Rattle.gix_ref_file.proofs.Rooted.{adds_now}
use Rattle.gix_ref_file.proofs.Trees.{one_path, same_path_itself}
use Rattle.gix_ref_folder.specs.Parts.{has, is_object_path}
use Rattle.gix_ref_folder.specs.Systems.{AreRootNames}
use Rattle.gix_ref_folder.specs.declared.part.Part.{Part}
use Rattle.gix_ref_folder.specs.declared.part.Part.TheVariants.{Objects, Names}
use Rattle.gix_ref_folder_tests.specs.OverFiles.{files_of, IsOwn}
use Rattle.gix_ref_folder_tests.specs.declared.over_files.OverFiles.{OverFiles}

abbrev pub AreOf : Part → List (List ℕ) → Type 0
AreOf part paths = AllByRecursion (λ path. IsTrue (has part path)) paths

-- ---- what exists after a change
own_insert : (part : Part) (t : Tree) (p : List ℕ) (n : Node) → IsOwn part t → IsTrue (has part p) → IsOwn part (insert t p n)
own_insert part t p n own of q there = by_case (same_path q p) refl
  where
    by_case : (same : Bool) → same_path q p ≡ same → IsTrue (has part q)
    by_case true same = subst (λ (x : List ℕ). IsTrue (has part x)) (sym (one_path q p same)) of
    by_case false apart = own q (sym (ap is_some (get-insert nat_list_cmp_total t p n q ∙ ap (λ b. cond b (Some n) (get t q)) apart)) ∙ there)

own_remove : (part : Part) (t : Tree) (p : List ℕ) → IsOwn part t → IsOwn part (remove t p)
own_remove part t p own q there = by_case (same_path q p) refl
  where
    by_case : (same : Bool) → same_path q p ≡ same → IsTrue (has part q)
    by_case true same = absurd (cc (sym there ∙ ap is_some (get-remove nat_list_cmp_total t p q ∙ ap (λ b. cond b None (get t q)) same)))
    by_case false apart = own q (sym (ap is_some (get-remove nat_list_cmp_total t p q ∙ ap (λ b. cond b None (get t q)) apart)) ∙ there)

own_create : (part : Part) (t : Tree) (p bytes : List ℕ) (there : Bool) → IsOwn part t → IsTrue (has part p) → IsOwn part (cond there t (insert t p (file bytes)))
own_create part t p bytes true own of = own
own_create part t p bytes false own of = own_insert part t p (file bytes) own of

own_after : (part : Part) (n : ℕ) (change : Change) (t : Tree) → IsOwn part t → AreOf part (paths_of change) → IsOwn part (after (cut n change) t)
own_after part n (to_create path bytes) t own of = own_create part t path (take n bytes) (is_some (node_at t path)) own of.0
own_after part n (to_write path bytes) t own of = own_insert part t path (file (take n bytes)) own of.0
own_after part n (to_append path bytes) t own of = own_insert part t path (file (bytes_at t path ++ take n bytes)) own of.0
own_after part n (to_shorten path count) t own of = own_insert part t path (file (take count (bytes_at t path))) own of.0
own_after part n (to_rename from to) t own of = own_insert part (remove t from) to (file (bytes_at t from)) (own_remove part t from own) of.1.0
own_after part n (to_remove_file path) t own of = own_remove part t path own
own_after part n (to_make_folder path) t own of = own_insert part t path folder own of.0
own_after part n (to_remove_folder path) t own of = own_remove part t path own

own_left : (part : Part) (change : Change) (t u : Tree) → IsOwn part t → AreOf part (paths_of change) → MayLeave change t u → IsOwn part u
own_left part change t u own of (inl same) = subst (IsOwn part) (sym same) own
own_left part change t u own of (inr (n, may, is)) = subst (IsOwn part) (sym is) (own_after part n change t own of)

pub own_now : (part : Part) (change : Change) (old new : History) → Adds (MayLeave change old.tree) old new → AreOf part (paths_of change) → IsOwn part old.tree → IsOwn part new.tree
own_now part change old new adds of own =
    ⊎_elim (λ same. subst (IsOwn part) (sym same) own) (own_left part change old.tree new.tree own of) (adds_now (MayLeave change old.tree) old new adds)

-- ---- the names right in the root are of the part
or_true : (b : Bool) → (b || true) ≡ true
or_true true = refl
or_true false = refl

own_names : (part : Part) (ks : List (List ℕ)) → ((k : List ℕ) → list_any (same_path k) ks ≡ true → IsTrue (is_path k) × IsTrue (has part k)) → AreOf part (filter_map (name_in []) ks)
own_names part [] is = tt
own_names part (k ∷ ks) is =
    by_case (same_path (parent k) []) refl (is k (ap (λ b. b || list_any (same_path k) ks) (same_path_itself k)))
    (own_names part ks (λ q there. is q (ap (λ b. same_path q k || b) there ∙ or_true (same_path q k))))
  where
    by_case : (b : Bool) → same_path (parent k) [] ≡ b → IsTrue (is_path k) × IsTrue (has part k) → AreOf part (filter_map (name_in []) ks)
        → AreOf part (cons_option (cond b (Some (after_last is_slash k)) None) (filter_map (name_in []) ks))
    by_case true same here rest = (subst (λ (n : List ℕ). IsTrue (has part n)) (sym (root_name k here.0 (one_path (parent k) [] same))) here.1, rest)
    by_case false apart here rest = rest

root_own : (part : Part) (tree : Tree) → IsRooted tree → IsOwn part tree → AreOf part (names_at tree [])
root_own part tree rooted own = own_names part (keys tree) (λ k there. ((rooted k (contains_key-keys tree k ∙ there)).0, own k (contains_key-keys tree k ∙ there)))

kept : (part : Part) (names : List (List ℕ)) → AreOf part names → filter (has part) names ≡ names
kept part [] of = refl
kept part (n ∷ names) of = ap (λ b. cond b (n ∷ filter (has part) names) (filter (has part) names)) of.0 ∙ ap (λ ns. n ∷ ns) (kept part names of.1)

-- no path is of both parts
other_of : (part other : Part) (path : List ℕ) → (has part path ≡ not (has other path)) → IsTrue (has other path) → IsFalse (has part path)
other_of part other path not_both of = not_both ∙ ap not of

not_not : (b : Bool) → b ≡ not (not b)
not_not true = refl
not_not false = refl

dropped : (part other : Part) (names : List (List ℕ)) → ((path : List ℕ) → has part path ≡ not (has other path)) → AreOf other names → filter (has part) names ≡ []
dropped part other [] not_both of = refl
dropped part other (n ∷ names) not_both of =
    ap (λ b. cond b (n ∷ filter (has part) names) (filter (has part) names)) (other_of part other n (not_both n) of.0) ∙ dropped part other names not_both of.1

objects_of : (objects names : List (List ℕ)) → AreOf Objects objects → AreOf Names names → filter (has Objects) (objects ++ names) ≡ objects
objects_of objects names first second =
    filter-append (has Objects) objects names
    ∙ (λ i. kept Objects objects first i ++ dropped Objects Names names (λ path. not_not (is_object_path path)) second i) ∙ append-nil objects

names_of : (objects names : List (List ℕ)) → AreOf Objects objects → AreOf Names names → filter (has Names) (objects ++ names) ≡ names
names_of objects names first second =
    filter-append (has Names) objects names
    ∙ (λ i. dropped Names Objects objects (λ path. refl) first i ++ kept Names names second i)

-- ---- a listing of both parts
abbrev Key : Type 0
Key = Vec ℕ Global

abbrev items_of : List Key → List (List ℕ)
items_of names = map (λ (name : Key). name.items) names

pub permuted : (xs ys : List (List ℕ)) → xs ≡ ys → IsPermutation xs ys
permuted xs ys is = subst (IsPermutation xs) is (IsPermutation-refl xs)

listed : (part : Part) (names : List (List ℕ)) (tree : Tree) → names ≡ names_at tree [] → IsRooted tree → IsOwn part tree → AreOf part names
listed part names tree is rooted own = subst (AreOf part) (sym is) (root_own part tree rooted own)

pub root_listed : {F : Type 0} (history : F → History) (system : OverFiles F) (objects names all : List Key)
    → ((part : Part) → IsRooted (history (files_of system part)).tree) → ((part : Part) → IsOwn part (history (files_of system part)).tree) → all ≡ objects ++ names
    → items_of objects ≡ names_at (history (files_of system Objects)).tree [] → items_of names ≡ names_at (history (files_of system Names)).tree []
    → (part : Part) → AreRootNames part (history (files_of system part)).tree all
root_listed history system objects names all rooted own is objects_are names_are Objects =
    let first = listed Objects (items_of objects) (history (files_of system Objects)).tree objects_are (rooted Objects) (own Objects) in
    let second = listed Names (items_of names) (history (files_of system Names)).tree names_are (rooted Names) (own Names) in
    permuted _ _ (ap (λ (ns : List Key). filter (has Objects) (items_of ns)) is
    ∙ ap (filter (has Objects)) (map-append (λ (name : Key). name.items) objects names) ∙ objects_of (items_of objects) (items_of names) first second ∙ objects_are)
root_listed history system objects names all rooted own is objects_are names_are Names =
    let first = listed Objects (items_of objects) (history (files_of system Objects)).tree objects_are (rooted Objects) (own Objects) in
    let second = listed Names (items_of names) (history (files_of system Names)).tree names_are (rooted Names) (own Names) in
    permuted _ _ (ap (λ (ns : List Key). filter (has Names) (items_of ns)) is
    ∙ ap (filter (has Names)) (map-append (λ (name : Key). name.items) objects names) ∙ names_of (items_of objects) (items_of names) first second ∙ names_are)
