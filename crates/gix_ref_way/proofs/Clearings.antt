-- What is left where folders go.
use Rattle.std.proofs.Common.{◌≡◌, ◌≢◌, ◌⊎◌, inl, inr, refl, sym, ◌∙◌, ap, subst, ℕ, ◌<◌, ◌≤◌, ◌==◌, Bool, true, false, cond, not, ◌&&◌, ◌||◌, List, [], ◌∷◌, ◌++◌, length, length-append, filter_map, arith}
use Rattle.std.specs.Prelude.{IsTrue, IsFalse, IsSome, IsErrOf, Option, Some, None, Result}
use Rattle.std.specs.List.{list_any, after_last}
use Rattle.std.specs.FinMap.{get, remove, keys, contains_key-keys}
use Rattle.std.proofs.Math.ListN.{get_or}
use Rattle.gix_ref_file.specs.Tree.{Tree, Node, file, folder, same_path, is_slash, is_path, parent, name_in, node_at, names_at, place_of, bytes_of, is_folder, IsRooted, under}
use Rattle.gix_ref_file.specs.Changes.{to_remove_folder, allows, is_empty_at, may_hold_file, MayLeave}
use Rattle.gix_ref_file.specs.History.{History, Adds, HasRisen, HasCause}
use Rattle.gix_ref_file.specs.declared.files.FileError.{FileError}
use Rattle.gix_ref_file.specs.declared.files.FileError.TheVariants.{Failed}
use Rattle.gix_ref_file.specs.declared.files.Place.{Place}
use Rattle.gix_ref_file.specs.declared.files.Place.TheVariants as places
use Rattle.gix_ref_file.proofs.Histories.{adds_weaker, adds_joined}
use Rattle.gix_ref_file.proofs.Rooted.{adds_now, both}
use Rattle.gix_ref_file.proofs.Trees.{get-removed, one_path, same_path_itself}
use Rattle.gix_ref_file.proofs.Below.{path_in_folder}
use Rattle.gix_ref_file.proofs.Listings.{in_folder, found, root_is_no_path, node_is}
use Rattle.gix_ref_way.specs.Ways.{Bytes, file_at, SameFiles, IsAbove, FoldersAbove, HasFoldersAbove, ClearsWay}
use Rattle.gix_ref_way.proofs.FoldersMade.{above_above, above_shorter, may_hold, none_there}

-- ---- what is below
pub below_in : (place name path : Bytes) → place ≢ [] → path ≡ under place name → IsAbove place path
below_in [] name path some is = absurd (some refl)
below_in (b ∷ place) name path some is = (name, is)

-- ---- one folder goes
no_file : (o : Option Node) → IsTrue (is_folder o) → bytes_of o ≡ None
no_file None is = cc
no_file (Some (file bytes)) is = cc
no_file (Some folder) is = refl

removed_none : (t : Tree) (k : Bytes) → get (remove t k) k ≡ None
removed_none t k = get-removed t k k ∙ ap (λ same. cond same None (get t k)) (same_path_itself k)

removed_apart : (t : Tree) (k q : Bytes) → same_path q k ≡ false → get (remove t k) q ≡ get t q
removed_apart t k q apart = get-removed t k q ∙ ap (λ same. cond same None (get t q)) apart

folder_removed : (t : Tree) (k : Bytes) → IsTrue (is_folder (node_at t k)) → ClearsWay k t (remove t k)
folder_removed t k there = record {
  files = λ q. file_stays q (same_path q k) refl;
  folders = λ q is. folder_stood q (same_path q k) refl is;
  others = λ q is. folder_stands q (same_path q k) refl is;
}
  where
    file_stays : (q : Bytes) (same : Bool) → same_path q k ≡ same → file_at (remove t k) q ≡ file_at t q
    file_stays [] same is = refl
    file_stays (b ∷ q) true is =
        ap bytes_of (subst (λ p. get (remove t k) p ≡ None) (sym (one_path (b ∷ q) k is)) (removed_none t k))
        ∙ sym (no_file (get t (b ∷ q)) (ap (λ p. is_folder (node_at t p)) (one_path (b ∷ q) k is) ∙ there))
    file_stays (b ∷ q) false is = ap bytes_of (removed_apart t k (b ∷ q) is)

    folder_stood : (q : Bytes) (same : Bool) → same_path q k ≡ same → get (remove t k) q ≡ Some folder → get t q ≡ Some folder
    folder_stood q true is stands = let wrong : None ≡ Some folder = sym (subst (λ p. get (remove t k) p ≡ None) (sym (one_path q k is)) (removed_none t k)) ∙ stands in absurd (cc wrong)
    folder_stood q false is stands = sym (removed_apart t k q is) ∙ stands

    folder_stands : (q : Bytes) (same : Bool) → same_path q k ≡ same → get t q ≡ Some folder → (get (remove t k) q ≡ Some folder) ⊎ (q ≡ k) ⊎ IsAbove k q
    folder_stands q true is stood = inr (inl (one_path q k is))
    folder_stands q false is stood = inl (removed_apart t k q is ∙ stood)

pub clears_nothing : (path : Bytes) (t : Tree) → ClearsWay path t t
clears_nothing path t = record { files = λ q. refl; folders = λ q is. is; others = λ q is. inl is }

is_there : (t : Tree) (k : Bytes) → IsTrue (allows t (to_remove_folder k)) → IsTrue (is_folder (node_at t k))
is_there t k may = (both (is_path k) (is_folder (node_at t k)) (both (is_path k && is_folder (node_at t k)) (is_empty_at t k) may).0).1

while_removed : (k : Bytes) (t x : Tree) → MayLeave (to_remove_folder k) t x → ClearsWay k t x
while_removed k t x (inl same) = subst (ClearsWay k t) (sym same) (clears_nothing k t)
while_removed k t x (inr (n, may, is)) = subst (ClearsWay k t) (sym is) (folder_removed t k (is_there t k may))

pub removed_gone : (k : Bytes) (t x : Tree) → x ≡ remove t k → get x k ≡ None
removed_gone k t x is = ap (λ y. get y k) is ∙ removed_none t k

-- ---- folders below go, one after another
pub record ClearsBelow (path : Bytes) (old new : Tree) : Type 0 where
  pub files : SameFiles old new
  pub folders : (place : Bytes) → get new place ≡ Some folder → get old place ≡ Some folder
  pub others : (place : Bytes) → get old place ≡ Some folder → (get new place ≡ Some folder) ⊎ IsAbove path place

none_below : (path : Bytes) (t : Tree) → ClearsBelow path t t
none_below path t = record { files = λ q. refl; folders = λ q is. is; others = λ q is. inl is }

one_below : (path k : Bytes) (old mid new : Tree) → IsAbove path k → ClearsBelow path old mid → ClearsWay k mid new → ClearsBelow path old new
one_below path k old mid new above first second = record {
  files = λ q. second.files q ∙ first.files q;
  folders = λ q is. first.folders q (second.folders q is);
  others = λ q is. from_first q (first.others q is);
}
  where
    from_second : (q : Bytes) → (get new q ≡ Some folder) ⊎ (q ≡ k) ⊎ IsAbove k q → (get new q ≡ Some folder) ⊎ IsAbove path q
    from_second q (inl stands) = inl stands
    from_second q (inr (inl same)) = inr (subst (IsAbove path) (sym same) above)
    from_second q (inr (inr below)) = inr (above_above path k q above below)

    from_first : (q : Bytes) → (get mid q ≡ Some folder) ⊎ IsAbove path q → (get new q ≡ Some folder) ⊎ IsAbove path q
    from_first q (inl stands) = from_second q (second.others q stands)
    from_first q (inr below) = inr below

at_last : (path : Bytes) (old mid new : Tree) → ClearsBelow path old mid → ClearsWay path mid new → ClearsWay path old new
at_last path old mid new first second = record {
  files = λ q. second.files q ∙ first.files q;
  folders = λ q is. first.folders q (second.folders q is);
  others = λ q is. from_first q (first.others q is);
}
  where
    from_first : (q : Bytes) → (get mid q ≡ Some folder) ⊎ IsAbove path q → (get new q ≡ Some folder) ⊎ (q ≡ path) ⊎ IsAbove path q
    from_first q (inl stands) = second.others q stands
    from_first q (inr below) = inr (inr below)

as_way : (path : Bytes) (old new : Tree) → ClearsBelow path old new → ClearsWay path old new
as_way path old new clears = at_last path old new new clears (clears_nothing path new)

-- ---- histories
pub way_now : (path : Bytes) (old new : History) → Adds (ClearsWay path old.tree) old new → ClearsWay path old.tree new.tree
way_now path old new adds = from_now (adds_now _ old new adds)
  where
    from_now : (new.tree ≡ old.tree) ⊎ ClearsWay path old.tree new.tree → ClearsWay path old.tree new.tree
    from_now (inl same) = subst (ClearsWay path old.tree) (sym same) (clears_nothing path old.tree)
    from_now (inr clears) = clears

pub below_now : (path : Bytes) (old new : History) → Adds (ClearsBelow path old.tree) old new → ClearsBelow path old.tree new.tree
below_now path old new adds = from_now (adds_now _ old new adds)
  where
    from_now : (new.tree ≡ old.tree) ⊎ ClearsBelow path old.tree new.tree → ClearsBelow path old.tree new.tree
    from_now (inl same) = subst (ClearsBelow path old.tree) (sym same) (none_below path old.tree)
    from_now (inr clears) = clears

pub below_way : (path : Bytes) (old new : History) → Adds (ClearsBelow path old.tree) old new → Adds (ClearsWay path old.tree) old new
below_way path old new adds = adds_weaker old new adds (λ x clears. as_way path old.tree x clears)

pub below_joined : (path k : Bytes) (old mid new : History) → IsAbove path k → Adds (ClearsBelow path old.tree) old mid → Adds (ClearsWay k mid.tree) mid new → Adds (ClearsBelow path old.tree) old new
below_joined path k old mid new above first second =
    adds_joined old mid new first (adds_weaker mid new second (λ x clears. one_below path k old.tree mid.tree x above (below_now path old mid first) clears))

pub way_joined : (path : Bytes) (old mid new : History) → Adds (ClearsBelow path old.tree) old mid → Adds (MayLeave (to_remove_folder path) mid.tree) mid new → Adds (ClearsWay path old.tree) old new
way_joined path old mid new first second =
    adds_joined old mid new (below_way path old mid first)
    (adds_weaker mid new second (λ x left. at_last path old.tree mid.tree x (below_now path old mid first) (while_removed path mid.tree x left)))

pub cleared_above : (path : Bytes) (old mid new : History) → Adds (ClearsWay path old.tree) old mid → Adds (FoldersAbove path mid.tree) mid new → Adds (FoldersAbove path old.tree) old new
cleared_above path old mid new first second =
    adds_joined old mid new (adds_weaker old mid first (λ x clears q is. inl (clears.folders q is))) (adds_weaker mid new second (λ x above q is. from_second q (above q is)))
  where
    from_second : (q : Bytes) → (get mid.tree q ≡ Some folder) ⊎ IsAbove q path → (get old.tree q ≡ Some folder) ⊎ IsAbove q path
    from_second q (inl stood) = inl ((way_now path old mid first).folders q stood)
    from_second q (inr above) = inr above

-- ---- if no file is below, the folder may go at last
one_of : (p : Bytes → Bool) (ks : List Bytes) → list_any p ks ≡ true → (k : Bytes) × (list_any (same_path k) ks ≡ true) × (p k ≡ true)
one_of p [] some = absurd (cc some)
one_of p (k ∷ ks) some = by_case (p k) refl (one_of p ks)
  where
    or_true : (b : Bool) → (b || true) ≡ true
    or_true true = refl
    or_true false = refl

    by_case : (b : Bool) → p k ≡ b → (list_any p ks ≡ true → (q : Bytes) × (list_any (same_path q) ks ≡ true) × (p q ≡ true)) → (q : Bytes) × (list_any (same_path q) (k ∷ ks) ≡ true) × (p q ≡ true)
    by_case true is rest = (k, ap (λ b. b || list_any (same_path k) ks) (same_path_itself k), is)
    by_case false is rest =
        let r = rest (sym (ap (λ b. b || list_any p ks) is) ∙ some) in
        (r.0, ap (λ b. same_path r.0 k || b) r.1 ∙ or_true (same_path r.0 k), r.2)

module _ (place : Bytes) (old now : Tree) (names : List Bytes) (rooted : IsRooted old) (there : get old place ≡ Some folder) (listed : names ≡ names_at old place) (clears : ClearsBelow place old now)
    (gone : (i : ℕ) → i < length names → get now (under place (get_or names i [])) ≡ None) where
  place_is : IsTrue (is_path place)
  place_is = (rooted place (subst IsSome (sym there) refl)).0

  some : place ≢ []
  some is = root_is_no_path (subst (λ p. IsTrue (is_path p)) is place_is)

  above_it : (k : Bytes) → parent k ≡ place → k ≡ place ++ 47 ∷ after_last is_slash k
  above_it k here = path_in_folder k (subst (λ p. 0 < length p) (sym here) (longer place some)) ∙ ap (λ p. p ++ 47 ∷ after_last is_slash k) here
    where
      longer : (p : Bytes) → p ≢ [] → 0 < length p
      longer [] not_root = absurd (not_root refl)
      longer (b ∷ p) not_root = omega arith

  node_below : (t : Tree) (k : Bytes) → parent k ≡ place → node_at t k ≡ get t k
  node_below t [] here = let long = ap length (above_it [] here) in absurd (omega (arith, long, length-append place (47 ∷ after_last is_slash [])))
  node_below t (b ∷ k) here = refl

  names_are : names ≡ filter_map (name_in place) (keys old)
  names_are = listed ∙ ap (λ b. cond b (filter_map (name_in place) (keys old)) []) (ap is_folder (node_is old place place_is ∙ there))

  none_in : (k : Bytes) → IsSome (get now k) → parent k ≡ place → ⊥
  none_in k stands here =
      let was = stood (get now k) refl stands in
      let r = found place (keys old) k [] (sym (contains_key-keys old k) ∙ was) here in
      let same : k ≡ under place (get_or names r.0 []) = in_folder k (rooted k was).0 ∙ (λ j. under (here j) ((sym r.2 ∙ ap (λ (ns : List Bytes). get_or ns r.0 []) (sym names_are)) j)) in
      let none = gone r.0 (subst (λ (ns : List Bytes). r.0 < length ns) (sym names_are) r.1) in
      none_stands (get now k) (ap (get now) same ∙ none) stands
    where
      none_stands : (o : Option Node) → o ≡ None → IsSome o → ⊥
      none_stands None none there = cc
      none_stands (Some n) none there = cc none

      some_bytes : (o : Option Node) (bytes : Bytes) → bytes_of o ≡ Some bytes → IsSome o
      some_bytes None bytes is = cc
      some_bytes (Some n) bytes is = refl

      stood : (o : Option Node) → get now k ≡ o → IsSome o → IsSome (get old k)
      stood None is there = cc
      stood (Some (file bytes)) is there = some_bytes (get old k) bytes (sym (ap bytes_of (node_below old k here)) ∙ sym (clears.files k) ∙ ap bytes_of (node_below now k here ∙ is))
      stood (Some folder) is there = subst IsSome (sym (clears.folders k is)) refl

  empty : IsTrue (is_empty_at now place)
  empty = by_test (list_any (λ path. same_path (parent path) place) (keys now)) refl
    where
      by_test : (b : Bool) → list_any (λ path. same_path (parent path) place) (keys now) ≡ b → IsTrue (not b)
      by_test false is = refl
      by_test true is =
          let r = one_of (λ path. same_path (parent path) place) (keys now) is in
          absurd (none_in r.0 (contains_key-keys now r.0 ∙ r.1) (one_path (parent r.0) place r.2))

  still_there : (get now place ≡ Some folder) ⊎ IsAbove place place → IsTrue (is_folder (node_at now place))
  still_there (inl stands) = ap is_folder (node_is now place place_is ∙ stands)
  still_there (inr below) = absurd (let less = above_shorter place place below in omega (arith, less))

  pub may_go : IsTrue (allows now (to_remove_folder place))
  may_go = (λ i. place_is i && still_there (clears.others place there) i && empty i)

-- so a path may hold a file once its folders are made
pub room_made : (path : Bytes) (mid new : Tree) → IsTrue (is_path path) → get mid path ≢ Some folder → FoldersAbove path mid new → HasFoldersAbove path new → IsTrue (may_hold_file new path)
room_made path mid new whole gone above made = may_hold new path whole made (none_there path mid new above (ap is_folder (node_is mid path whole) ∙ by_node (get mid path) refl))
  where
    by_node : (o : Option Node) → get mid path ≡ o → IsFalse (is_folder o)
    by_node None is = refl
    by_node (Some (file bytes)) is = refl
    by_node (Some folder) is = absurd (gone is)

-- ---- what the code reads
pub not_root : (place : Bytes) (b : Bool) → b ≡ (length place == 0) → b ≡ false → place ≢ []
not_root place b is none same = let wrong : true ≡ false = sym (is ∙ ap (λ p. length p == 0) same) ∙ none in cc wrong

pub folder_there : (t : Tree) (place : Bytes) (found : Place) → place ≢ [] → found ≡ place_of (node_at t place) → found ≡ places.Folder → get t place ≡ Some folder
folder_there t [] found some is folder_is = absurd (some refl)
folder_there t (b ∷ place) found some is folder_is = by_node (get t (b ∷ place)) (sym is ∙ folder_is)
  where
    by_node : (o : Option Node) → place_of o ≡ places.Folder → o ≡ Some folder
    by_node None h = cc
    by_node (Some (file bytes)) h = cc
    by_node (Some folder) h = refl

pub later_risen : (first mid last : ℕ) {P : Type 0} → first ≤ mid → HasRisen mid last ⊎ P → HasRisen first last ⊎ P
later_risen first mid last later (inl risen) = inl (omega (arith, later, risen))
later_risen first mid last later (inr fails) = inr fails

pub caused : {T P : Type 0} (allowed : Bool) (before now : ℕ) (r : Result T FileError) → IsTrue allowed → HasCause allowed before now r → IsErrOf r Failed → HasRisen before now ⊎ P
caused {P = P} allowed before now r may cause failed = from_cause (cause failed)
  where
    from_cause : HasRisen before now ⊎ (allowed ≡ false) → HasRisen before now ⊎ P
    from_cause (inl risen) = inl risen
    from_cause (inr barred) = let wrong : true ≡ false = sym may ∙ barred in absurd (cc wrong)
