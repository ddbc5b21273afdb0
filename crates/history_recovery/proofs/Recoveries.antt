-- What is cleared step by step, and when a tree is what it recovers to.
use Rattle.std.proofs.Common.{◌≡◌, ◌⊎◌, inl, inr, refl, sym, ◌∙◌, ap, subst, ℕ, Bool, true, false, cond, not, ◌&&◌, List, [], ◌∷◌, length, ◌<◌, Option, Some, None, option_map, is_some, unwrap_or, ◌≤◌, arith}
use Rattle.std.specs.Prelude.{IsTrue, IsSome, IsErrOf, Result}
use Rattle.std.specs.FinMap.{get, remove}
use Rattle.gix_ref_file.specs.Tree.{Tree, Node, file, folder, same_path, bytes_of, place_of, node_at, names_at, is_folder, IsRooted, under}
use Rattle.gix_ref_file.specs.declared.files.Place.TheVariants as places
use Rattle.gix_ref_file.specs.Changes.{to_remove_file, to_remove_folder, allows, is_file_at, MayLeave}
use Rattle.gix_ref_file.specs.History.{History, Adds, HasRisen, HasCause}
use Rattle.gix_ref_file.specs.declared.files.FileError.{FileError}
use Rattle.gix_ref_file.specs.declared.files.FileError.TheVariants.{Failed}
use Rattle.gix_ref_file.proofs.Histories.{adds_weaker, adds_joined}
use Rattle.gix_ref_file.proofs.Rooted.{adds_now}
use Rattle.gix_ref_file.proofs.Trees.{same_tree, get-removed, same_path_itself}
use Rattle.history_model.specs.Bytes.{Bytes}
use Rattle.history_model.specs.NameStates.{NameState, Absent, is_absent, packed_text_state}
use Rattle.history_model.specs.Places.{file_at, packed_place}
use Rattle.history_model.specs.Recovery.{is_deserted, recovered_files, recovered_names, recovered_node}
use Rattle.gix_hash.specs.declared.kind.Kind.{Kind}
use Rattle.history_model.proofs.RecoveryLemmas.{get-recovered_names, file_kept}
use Rattle.history_recovery.specs.Clearing.{is_over, Tells, IsKept, AreKeptBelow, AreAllKept, IsCut, Clears}
use Rattle.history_recovery.specs.declared.packed.Packed.{Packed}
use Rattle.std.proofs.Math.ListN.{get_or}
use Rattle.history_recovery.proofs.Below.{all_below}
use Rattle.history_recovery.proofs.Left.{stays, left_is, not_some}

-- ---- on the way

pub clears_nothing : (kind : Kind) (tree : Tree) → Clears kind tree tree
clears_nothing kind tree = record { alike = refl; goes = λ path. inl refl }

pub clears_joined : (kind : Kind) (old mid new : Tree) → Clears kind old mid → Clears kind mid new → Clears kind old new
clears_joined kind old mid new first second = record {
  alike = second.alike ∙ first.alike;
  goes = λ path. go path (first.goes path) (second.goes path);
}
  where
    go : (path : Bytes) → (get mid path ≡ get old path) ⊎ (get mid path ≡ None) → (get new path ≡ get mid path) ⊎ (get new path ≡ None) → (get new path ≡ get old path) ⊎ (get new path ≡ None)
    go path first (inr none) = inr none
    go path (inl same) (inl is) = inl (is ∙ same)
    go path (inr none) (inl is) = inr (is ∙ none)

pub clears_now : (kind : Kind) (old new : History) → Adds (Clears kind old.tree) old new → Clears kind old.tree new.tree
clears_now kind old new adds = go (adds_now (Clears kind old.tree) old new adds)
  where
    go : (new.tree ≡ old.tree) ⊎ Clears kind old.tree new.tree → Clears kind old.tree new.tree
    go (inl same) = subst (Clears kind old.tree) (sym same) (clears_nothing kind old.tree)
    go (inr clears) = clears

pub then_clears : (kind : Kind) (old mid new : History) → Adds (Clears kind old.tree) old mid → Adds (Clears kind mid.tree) mid new → Adds (Clears kind old.tree) old new
then_clears kind old mid new first second =
    adds_joined old mid new first (adds_weaker mid new second (λ x clears. clears_joined kind old.tree mid.tree x (clears_now kind old mid first) clears))

-- a change that recovery doesn't see, by which a path goes
pub clears_one : (kind : Kind) (old : Tree) (k : Bytes) → recovered_names kind (remove old k) ≡ recovered_names kind old → Clears kind old (remove old k)
clears_one kind old k alike = record { alike = alike; goes = λ path. go path (same_path path k) refl }
  where
    go : (path : Bytes) (same : Bool) → same_path path k ≡ same → (get (remove old k) path ≡ get old path) ⊎ (get (remove old k) path ≡ None)
    go path true same = inr (get-removed old k path ∙ ap (λ b. cond b None (get old path)) same)
    go path false apart = inl (get-removed old k path ∙ ap (λ b. cond b None (get old path)) apart)

pub while_file_goes : (kind : Kind) (k : Bytes) (old new : History) → (IsTrue (is_file_at old.tree k) → recovered_names kind (remove old.tree k) ≡ recovered_names kind old.tree)
    → Adds (MayLeave (to_remove_file k) old.tree) old new → Adds (Clears kind old.tree) old new
while_file_goes kind k old new alike adds = adds_weaker old new adds (λ x left. go x left)
  where
    go : (x : Tree) → MayLeave (to_remove_file k) old.tree x → Clears kind old.tree x
    go x (inl same) = subst (Clears kind old.tree) (sym same) (clears_nothing kind old.tree)
    go x (inr (n, may, is)) = subst (Clears kind old.tree) (sym is) (clears_one kind old.tree k (alike may))

pub while_folder_goes : (kind : Kind) (k : Bytes) (old new : History) → (IsTrue (allows old.tree (to_remove_folder k)) → recovered_names kind (remove old.tree k) ≡ recovered_names kind old.tree)
    → Adds (MayLeave (to_remove_folder k) old.tree) old new → Adds (Clears kind old.tree) old new
while_folder_goes kind k old new alike adds = adds_weaker old new adds (λ x left. go x left)
  where
    go : (x : Tree) → MayLeave (to_remove_folder k) old.tree x → Clears kind old.tree x
    go x (inl same) = subst (Clears kind old.tree) (sym same) (clears_nothing kind old.tree)
    go x (inr (n, may, is)) = subst (Clears kind old.tree) (sym is) (clears_one kind old.tree k (alike may))

-- ---- what is known stays so

pub told_later : (kind : Kind) (old new : Tree) (packed : Packed) → recovered_names kind new ≡ recovered_names kind old → Tells kind old packed → Tells kind new packed
told_later kind old new packed alike tells = λ name named.
    tells name named ∙ ap (λ found. is_absent (reading name found)) (sym (file_kept kind old packed_place refl refl) ∙ ap (λ t. file_at t packed_place) (sym alike) ∙ file_kept kind new packed_place refl refl)
  where
    reading : Bytes → Option Bytes → NameState
    reading name found = unwrap_or (option_map (packed_text_state kind name) found) Absent

pub kept_later : (kind : Kind) (old new : Tree) (path : Bytes) → Clears kind old new → IsKept kind old path → IsKept kind new path
kept_later kind old new path clears kept there = go (clears.goes path)
  where
    go : (get new path ≡ get old path) ⊎ (get new path ≡ None) → IsSome (get (recovered_names kind new) path)
    go (inl same) = ap (λ t. is_some (get t path)) clears.alike ∙ kept (sym (ap is_some same) ∙ there)
    go (inr none) = absurd (not_some (get new path) none there)

pub kept_gone : (kind : Kind) (tree : Tree) (path : Bytes) → get tree path ≡ None → IsKept kind tree path
kept_gone kind tree path none there = absurd (not_some (get tree path) none there)

-- ---- the end

pub recovered_itself : (kind : Kind) (tree : Tree) → AreAllKept kind tree → ((path : Bytes) → IsCut tree path) → recovered_names kind tree ≡ tree
recovered_itself kind tree kept cut = same_tree (recovered_names kind tree) tree (λ q.
    get-recovered_names kind tree q
    ∙ ap (λ o. cond (not (is_deserted (recovered_files kind tree) q)) o None) (left_is kind tree q)
    ∙ at q (get tree q) refl (is_deserted (recovered_files kind tree) q) (is_over kind tree q)
    (λ there. sym (ap is_some (get-recovered_names kind tree q ∙ ap (λ o. cond (not (is_deserted (recovered_files kind tree) q)) o None) (left_is kind tree q))) ∙ kept q there))
  where
    at : (q : Bytes) (o : Option Node) → get tree q ≡ o → (deserted over : Bool) → (IsSome (get tree q) → is_some (cond (not deserted) (stays over q (get tree q)) None) ≡ true)
        → cond (not deserted) (stays over q (get tree q)) None ≡ get tree q
    at q None e true over h = rw e refl
    at q None e false over h = rw e refl
    at q (Some node) e deserted over h =
        rw e (some_kept deserted over node (ap (λ n. n) (sym (ap (option_map (recovered_node q)) e) ∙ cut q ∙ e)) (sym (ap (λ o. is_some (cond (not deserted) (stays over q o) None)) e) ∙ h (ap is_some e)))
      where
        some_kept : (deserted over : Bool) (node : Node) → option_map (recovered_node q) (Some node) ≡ Some node → is_some (cond (not deserted) (stays over q (Some node)) None) ≡ true
            → cond (not deserted) (stays over q (Some node)) None ≡ Some node
        some_kept true over node same h = cc
        some_kept false over node same h = by_test (is_some (bytes_of (Some node)) && over) h
          where
            by_test : (b : Bool) → is_some (option_map (recovered_node q) (cond (not b) (Some node) None)) ≡ true → option_map (recovered_node q) (cond (not b) (Some node) None) ≡ Some node
            by_test true h = cc
            by_test false h = same

-- ---- failures

pub later_risen : (first mid last : ℕ) {P : Type 0} → first ≤ mid → HasRisen mid last ⊎ P → HasRisen first last ⊎ P
later_risen first mid last later (inl risen) = inl (omega (arith, later, risen))
later_risen first mid last later (inr fails) = inr fails

pub caused : {T P : Type 0} (allowed : Bool) (before now : ℕ) (r : Result T FileError) → IsTrue allowed → HasCause allowed before now r → IsErrOf r Failed → HasRisen before now ⊎ P
caused {P = P} allowed before now r may cause failed = from_cause (cause failed)
  where
    from_cause : HasRisen before now ⊎ (allowed ≡ false) → HasRisen before now ⊎ P
    from_cause (inl risen) = inl risen
    from_cause (inr barred) = let wrong : true ≡ false = sym may ∙ barred in absurd (cc wrong)

-- ---- what went isn't there

pub removed_kept : (kind : Kind) (t x : Tree) (k : Bytes) → x ≡ remove t k → IsKept kind x k
removed_kept kind t x k is = kept_gone kind x k (ap (λ y. get y k) is ∙ get-removed t k k ∙ ap (λ b. cond b None (get t k)) (same_path_itself k))

-- ---- what is kept at a path and below it

abbrev pub AreKeptFrom : Kind → Tree → Bytes → Type 0
AreKeptFrom kind tree path = IsKept kind tree path × AreKeptBelow kind path tree

pub kept_from_later : (kind : Kind) (old new : Tree) (path : Bytes) → Clears kind old new → AreKeptFrom kind old path → AreKeptFrom kind new path
kept_from_later kind old new path clears kept = (kept_later kind old new path clears kept.0, λ n q under. kept_later kind old new q clears (kept.1 n q under))

pub stood_before : (kind : Kind) (old new : Tree) (path : Bytes) → Clears kind old new → IsSome (get new path) → IsSome (get old path)
stood_before kind old new path clears there = go (clears.goes path)
  where
    go : (get new path ≡ get old path) ⊎ (get new path ≡ None) → IsSome (get old path)
    go (inl same) = sym (ap is_some same) ∙ there
    go (inr none) = absurd (not_some (get new path) none there)

-- if all that a folder listed is kept, all below it is
pub all_kept : (kind : Kind) (old new : Tree) (place : Bytes) (names : List Bytes) → IsRooted old → Clears kind old new → names ≡ names_at old place
    → ((i : ℕ) → i < length names → AreKeptFrom kind new (under place (get_or names i []))) → AreKeptBelow kind place new
all_kept kind old new place names rooted clears listed all n path above there =
    all_below (IsKept kind new) old rooted place names listed (λ i less. let kept = all i less in (λ _. kept.0, λ m q deep _. kept.1 m q deep))
    n path above (stood_before kind old new path clears there) there

-- ---- what is at a path

pub file_there : (tree : Tree) (path : Bytes) (size : ℕ) → place_of (node_at tree path) ≡ places.File size → is_file_at tree path ≡ true
file_there tree path size is = go (node_at tree path) is
  where
    go : (o : Option Node) → place_of o ≡ places.File size → is_some (bytes_of o) ≡ true
    go None e = cc
    go (Some (file bytes)) e = refl
    go (Some folder) e = cc

pub folder_is : (tree : Tree) (path : Bytes) → place_of (node_at tree path) ≡ places.Folder → is_folder (node_at tree path) ≡ true
folder_is tree path is = go (node_at tree path) is
  where
    go : (o : Option Node) → place_of o ≡ places.Folder → is_folder o ≡ true
    go None e = cc
    go (Some (file bytes)) e = cc
    go (Some folder) e = refl

pub none_there : (kind : Kind) (tree : Tree) (path : Bytes) → IsRooted tree → place_of (node_at tree path) ≡ places.Absent → IsKept kind tree path
none_there kind tree [] rooted is = cc
none_there kind tree (b ∷ path) rooted is = kept_gone kind tree (b ∷ path) (go (get tree (b ∷ path)) is)
  where
    go : (o : Option Node) → place_of o ≡ places.Absent → o ≡ None
    go None e = refl
    go (Some (file bytes)) e = cc
    go (Some folder) e = cc
