-- A listing of gix_ref below a folder has the names there with the ids that they read as.
use Rattle.std.proofs.Common.{◌≡◌, refl, sym, ◌∙◌, ap, subst, ℕ, zero, suc, ◌<◌, ◌+◌, Bool, true, false, cond, ◌&&◌, T, List, [], ◌∷◌, ◌++◌, map, length, Option, Some, None, bytes_eq, append-nil, append_assoc, arith, codes}
use Rattle.std.specs.Prelude.{Ok, Err, option_and_then}
use Rattle.std.specs.List.{AllByRecursion, Contains, slice_index_or}
use Rattle.std.specs.Ordering.{is_lt, is_eq}
use Rattle.std.specs.declared.cmp.Ordering.TheVariants.{Less}
use Rattle.std.specs.FinMap.{find, from_sorted, is_sorted, get-from_sorted, entries-from_sorted}
use Rattle.std.specs.FinMap.Entries.{below_all}
use Rattle.std.proofs.lemmas.Bool.{and_from, and_parts}
use Rattle.gix_hash.specs.Id.{Id}
use Rattle.gix_object_lines.specs.NameTest.{is_partial_name}
use Rattle.gix_hash.specs.declared.kind.Kind.{Kind}
use Rattle.gix_ref_file.specs.Tree.{Tree, path_cmp, same_path, IsAscending}
use Rattle.gix_ref_file.proofs.Trees.{one_path, same_path_itself}
use Rattle.gix_ref_store.specs.Items.{GivesNext}
use Rattle.gix_ref_store.specs.Listings.{IsListing, is_listed}
use Rattle.gix_ref_store.specs.RefStates.{Met, RefState, Stands, Absent, Faulty, ref_state}
use Rattle.gix_ref_store.specs.declared.store.file.iter.Error.{Error}
use Rattle.gix_ref_store.specs.declared.store.file.iter.Error.TheVariants.{Traversal, ReadFileContents, ReferenceCreation, Memory}
use Rattle.history_model.specs.Bytes.{Bytes, begins, by_bytes}
use Rattle.history_model.specs.FileMap.{is_below}
use Rattle.history_model.specs.Forms.{is_name}
use Rattle.history_model.proofs.PlaceLemmas.{text_itself}
use Rattle.history_edits.specs.Bridges.{root_base}
use Rattle.history_store.specs.AllNames.{ListsAll, entries_of, id_below, name_entry, with_entry}
use Rattle.history_store.specs.Faults.{passing_over}
use Rattle.history_store.specs.Packing.{told_id}
use Rattle.history_store.specs.declared.listed.NamedId.{NamedId}

abbrev names_of : List Met → List Bytes
names_of mets = map (λ met. met.name) mets

-- the id that is listed of a name
abbrev own_id : Met → Option Id
own_id met = cond (is_name met.name) (told_id met.ref_state) None

-- ---- in order

both : (a b : Bool) → T a → T b → T (a && b)
both true b p q = q
both false b p q = p

below_entries : (x : Bytes) (mets : List Met) → AllByRecursion (λ later. path_cmp x later ≡ Less) (names_of mets) → T (below_all by_bytes x (entries_of mets))
below_entries x [] all = tt
below_entries x (met ∷ mets) all = go (own_id met) (below_entries x mets all.1)
  where
    go : (o : Option Id) → T (below_all by_bytes x (entries_of mets)) → T (below_all by_bytes x (with_entry met.name o (entries_of mets)))
    go None rest = rest
    go (Some id) rest = both _ _ (subst (λ o. T (is_lt o)) (sym all.0) tt) rest

in_order : (mets : List Met) → IsAscending (names_of mets) → T (is_sorted by_bytes (entries_of mets))
in_order [] ascends = tt
in_order (met ∷ mets) ascends = go (own_id met) (below_entries met.name mets ascends.0) (in_order mets ascends.1)
  where
    go : (o : Option Id) → T (below_all by_bytes met.name (entries_of mets)) → T (is_sorted by_bytes (entries_of mets)) → T (is_sorted by_bytes (with_entry met.name o (entries_of mets)))
    go None below rest = rest
    go (Some id) below rest = both _ _ below rest

-- ---- what is listed of a name

abbrev seek : Bytes → List Met → Option RefState
seek name [] = None
seek name (met ∷ mets) = cond (same_path name met.name) (Some met.ref_state) (seek name mets)

none_later : (n name : Bytes) (mets : List Met) → name ≡ n → AllByRecursion (λ later. path_cmp n later ≡ Less) (names_of mets) → seek name mets ≡ None
none_later n name [] same all = refl
none_later n name (met ∷ mets) same all =
    ap (λ b. cond b (Some met.ref_state) (seek name mets)) (ap is_eq (ap (λ x. path_cmp x met.name) same ∙ all.0)) ∙ none_later n name mets same all.1

either_none : (b : Bool) → ◌≡◌ {A = Option Id} (cond b None None) None
either_none true = refl
either_none false = refl

found_entry : (name : Bytes) (mets : List Met) → IsAscending (names_of mets) → find by_bytes name (entries_of mets) ≡ cond (is_name name) (option_and_then told_id (seek name mets)) None
found_entry name [] ascends = sym (either_none (is_name name))
found_entry name (met ∷ mets) ascends = go (same_path name met.name) refl (own_id met) refl (found_entry name mets ascends.1)
  where
    own : same_path name met.name ≡ true → cond (is_name name) (told_id met.ref_state) None ≡ own_id met
    own e = ap (λ n. cond (is_name n) (told_id met.ref_state) None) (one_path name met.name e)

    go : (s : Bool) → same_path name met.name ≡ s → (o : Option Id) → own_id met ≡ o → find by_bytes name (entries_of mets) ≡ cond (is_name name) (option_and_then told_id (seek name mets)) None
        → find by_bytes name (with_entry met.name o (entries_of mets)) ≡ cond (is_name name) (option_and_then told_id (cond s (Some met.ref_state) (seek name mets))) None
    go false e None f rest = rest
    go false e (Some id) f rest = ap (λ s. cond s (Some id) (find by_bytes name (entries_of mets))) e ∙ rest
    go true e None f rest =
        rest ∙ ap (λ k. cond (is_name name) (option_and_then told_id k) None) (none_later met.name name mets (one_path name met.name e) ascends.0)
        ∙ either_none (is_name name) ∙ sym (own e ∙ f)
    go true e (Some id) f rest = ap (λ s. cond s (Some id) (find by_bytes name (entries_of mets))) e ∙ sym (own e ∙ f)

is_met : (met : Met) (name : Bytes) (r : RefState) → same_path name met.name ≡ true → Some met.ref_state ≡ Some r → met ≡ record { name = name; ref_state = r }
is_met met name r same is = ap (λ n. record { name = n; ref_state = met.ref_state }) (sym (one_path name met.name same)) ∙ ap (λ s. record { name = name; ref_state = s }) (cc is)

listed_so : (mets : List Met) (name : Bytes) (r : RefState) → seek name mets ≡ Some r → Contains mets (record { name = name; ref_state = r })
listed_so [] name r is = cc
listed_so (met ∷ mets) name r is = go (same_path name met.name) refl is (listed_so mets name r)
  where
    go : (s : Bool) → same_path name met.name ≡ s → cond s (Some met.ref_state) (seek name mets) ≡ Some r → (seek name mets ≡ Some r → Contains mets (record { name = name; ref_state = r })) → Contains (met ∷ mets) (record { name = name; ref_state = r })
    go true e k later = (zero, omega arith, is_met met name r e k)
    go false e k later = let c = later k in (suc c.0, omega (arith, c.1), c.2)

unlisted : (mets : List Met) (name : Bytes) (r : RefState) → seek name mets ≡ None → Contains mets (record { name = name; ref_state = r }) → ⊥
unlisted [] name r none (k, below, at) = absurd (omega (arith, below))
unlisted (met ∷ mets) name r none (k, below, at) = go (same_path name met.name) refl none k below at (unlisted mets name r)
  where
    apart : same_path name met.name ≡ false → met ≡ record { name = name; ref_state = r } → ⊥
    apart e is = absurd (cc (sym e ∙ ap (λ (m : Met). same_path name m.name) is ∙ same_path_itself name))

    go : (s : Bool) → same_path name met.name ≡ s → cond s (Some met.ref_state) (seek name mets) ≡ None → (k : ℕ) → k < length (met ∷ mets) → slice_index_or (met ∷ mets) k (record { name = name; ref_state = r }) ≡ record { name = name; ref_state = r }
        → (seek name mets ≡ None → Contains mets (record { name = name; ref_state = r }) → ⊥) → ⊥
    go true e none k below at later = cc
    go false e none zero below at later = apart e at
    go false e none (suc k) below at later = later none (k, omega (arith, below), at)

-- ---- below a folder

module _ (kind : Kind) (tree : Tree) (folder : Bytes) (out : List Met) (listing : IsListing (ref_state (root_base kind) tree) (is_listed false (begins (folder ++ 47 ∷ []))) out) where
  abbrev read : Bytes → RefState
  read = ref_state (root_base kind) tree

  asked : (name : Bytes) → is_name name ≡ true → is_below folder name ≡ true → is_listed false (begins (folder ++ 47 ∷ [])) name ≡ true
  asked name named below = and_from (begins (codes "refs/") name) (is_below folder name && bytes_eq name name) front (and_from (is_below folder name) (bytes_eq name name) below (text_itself name))
    where
      front : begins (codes "refs/") name ≡ true
      front = (and_parts (is_partial_name name) (begins (codes "refs/") name) (and_parts _ _ (and_parts _ _ named).0).0).1

  told : (name : Bytes) → cond (is_name name) (option_and_then told_id (seek name out)) None ≡ id_below kind tree folder name
  told name = go (is_name name) refl (seek name out) refl (is_below folder name) refl
    where
      unread : is_name name ≡ true → is_below folder name ≡ true → seek name out ≡ None → (state : RefState) → read name ≡ state → None ≡ told_id state
      unread named below none Absent is = refl
      unread named below none (Stands points peeled) is = absurd (unlisted out name (Stands points peeled) none ((listing.each name (Stands points peeled)).1 (asked name named below, is, λ e. cc)))
      unread named below none (Faulty why) is = refl

      go : (named : Bool) → is_name name ≡ named → (found : Option RefState) → seek name out ≡ found → (below : Bool) → is_below folder name ≡ below
          → cond named (option_and_then told_id found) None ≡ cond below (cond named (told_id (read name)) None) None
      go false e found f below k = sym (either_none below)
      go true e (Some r) f below k =
          let parts = (listing.each name r).0 (listed_so out name r f) in
          let here : is_below folder name ≡ true = (and_parts (is_below folder name) (bytes_eq name name) (and_parts (begins (codes "refs/") name) (is_below folder name && bytes_eq name name) parts.0).1).0 in
          sym (ap (λ b. cond b (told_id (read name)) None) (sym k ∙ here) ∙ ap told_id parts.1)
      go true e None f true k = unread e k f (read name) refl
      go true e None f false k = refl

  -- those that are listed are the names there
  pub lists_all : (names : List NamedId) → map name_entry names ≡ entries_of out → ListsAll kind tree folder names
  lists_all names are = record {
    ids = from_sorted {R = by_bytes} (entries_of out);
    each = λ name. get-from_sorted by_bytes (entries_of out) name (in_order out listing.ascending) ∙ found_entry name out listing.ascending ∙ told name;
    are = are ∙ sym (entries-from_sorted by_bytes (entries_of out) (in_order out listing.ascending));
  }

-- ---- one after another

before_rest : (name : Bytes) (o : Option Id) (rest : List (Bytes × Id)) → with_entry name o rest ≡ with_entry name o [] ++ rest
before_rest name None rest = refl
before_rest name (Some id) rest = refl

-- one without an id adds none
pub none_added : (done : List (Bytes × Id)) (name : Bytes) (named : Bool) (o : Option Id) → None ≡ o → done ≡ done ++ with_entry name (cond named o None) []
none_added done name named o is = sym (append-nil done) ∙ ap (λ e. done ++ with_entry name e []) (sym (either_none named) ∙ ap (λ x. cond named x None) is)

-- one more of what is to come is there
pub one_more : (done now all : List (Bytes × Id)) (met : Met) (left after : List Met) → now ≡ done ++ entries_of (met ∷ []) → left ≡ met ∷ after → done ++ entries_of left ≡ all → now ++ entries_of after ≡ all
one_more done now all met left after is first so_far =
    ap (λ es. es ++ entries_of after) is ∙ append_assoc done (entries_of (met ∷ [])) (entries_of after)
    ∙ ap (λ es. done ++ es) (sym (before_rest met.name (own_id met) (entries_of after)) ∙ ap entries_of (sym first)) ∙ so_far

-- what names no target is passed over
pub one_passed : (read : Bytes → RefState) (done all : List (Bytes × Id)) (error : Error) (left after : List Met) → Ok tt ≡ passing_over error → GivesNext read left (Some (Err error)) after → done ++ entries_of left ≡ all → done ++ entries_of after ≡ all
one_passed read done all Traversal left after passed gives so_far = cc
one_passed read done all (ReadFileContents name) left after passed gives so_far = cc
one_passed read done all Memory left after passed gives so_far = cc
one_passed read done all (ReferenceCreation name why) left after passed gives so_far =
    ap (λ es. done ++ es) (sym (ap (λ o. with_entry name o (entries_of after)) (either_none (is_name name))) ∙ ap entries_of (sym gives)) ∙ so_far

-- at the end all are
pub all_there : (done all : List (Bytes × Id)) (left : List Met) → left ≡ [] → done ++ entries_of left ≡ all → done ≡ all
all_there done all left none so_far = sym (append-nil done) ∙ ap (λ mets. done ++ entries_of mets) (sym none) ∙ so_far
