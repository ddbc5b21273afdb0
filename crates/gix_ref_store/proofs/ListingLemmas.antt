-- A listing over a set of names that has all that exist.
use Rattle.std.proofs.Common.{◌≡◌, ◌≢◌, ◌⊎◌, inl, inr, ℕ, zero, suc, ◌<◌, Bool, true, false, cond, ◌||◌, List, [], ◌∷◌, length, map, Option, Some, None, refl, sym, ◌∙◌, ap, subst, arith}
use Rattle.std.specs.Prelude.{IsTrue, IsSome, is_some}
use Rattle.std.specs.Map.{lookup, keys_of}
use Rattle.std.specs.Ordering.{is_eq}
use Rattle.std.specs.List.{Contains, AllByRecursion, filter, slice_index_or}
use Rattle.std.specs.List.Sorted.{IsStrictlySortedBy}
use Rattle.std.specs.declared.cmp.Ordering.TheVariants.{Less}
use Rattle.gix_object_lines.specs.NameTest.{is_full_name}
use Rattle.gix_ref_file.specs.Tree.{Tree, path_cmp, same_path, IsAscending}
use Rattle.gix_ref_file.proofs.Trees.{one_path, same_path_itself}
use Rattle.gix_ref_format.specs.Packed.{Record}
use Rattle.gix_ref_format.specs.Lookup.{packed_hit}
use Rattle.gix_ref_store.specs.Places.{Base}
use Rattle.gix_ref_store.specs.RefStates.{RefState, Stands, Absent, Faulty, Met, packed_state, read_by, state_among, loose_text_at}
use Rattle.gix_ref_store.specs.Listings.{IsListing}
use Rattle.gix_ref_store.specs.Items.{is_there, mets_of}
use Rattle.gix_ref_store.specs.OwnFiles.{Listed, IsOfText, KnowsFiles, state_by}
use Rattle.gix_ref_store.specs.Walks.{has, BringsAsked, GathersPlaces}
use Rattle.gix_ref_store.specs.declared.store.file.find.Error.TheVariants.{ReferenceCreation}
use Rattle.gix_ref_store.specs.declared.store.file.own.OwnFile.{OwnFile}
use Rattle.gix_ref_store.specs.declared.store.file.own.OwnFile.TheVariants as own
use Rattle.gix_ref_store.proofs.Among.{file_found, file_absent, file_fault}

-- ---- names alone
abbrev pub name_met : (List ℕ → RefState) → List ℕ → Met
name_met read name = record { name = name; ref_state = read name }

-- those that don't read as absent
abbrev pub name_mets : (List ℕ → RefState) → List (List ℕ) → List Met
name_mets read names = map (name_met read) (filter (λ name. is_there (read name)) names)

-- ---- names that exist
there_none : (r : RefState) → is_there r ≡ true → r ≢ Absent
there_none Absent is e = cc
there_none (Stands p q) is e = cc
there_none (Faulty why) is e = cc

none_there : (r : RefState) → (r ≡ Absent → ⊥) → is_there r ≡ true
none_there Absent h = absurd (h refl)
none_there (Stands p q) h = refl
none_there (Faulty why) h = refl

or_true : (b : Bool) → (b || true) ≡ true
or_true true = refl
or_true false = refl

-- ---- the names of a listing
module _ (read : List ℕ → RefState) where
  -- what is listed is one of the names, and there
  abbrev pub IsOf : List (List ℕ) → Met → Type 0
  IsOf names met = IsTrue (has names met.name) × (read met.name ≡ met.ref_state) × (met.ref_state ≢ Absent)

  of_later : (n : List ℕ) (names : List (List ℕ)) (met : Met) → IsOf names met → IsOf (n ∷ names) met
  of_later n names met (among, reads, stands) = (ap (λ b. same_path met.name n || b) among ∙ or_true (same_path met.name n), reads, stands)

  of_here : (n : List ℕ) (names : List (List ℕ)) → is_there (read n) ≡ true → IsOf (n ∷ names) (name_met read n)
  of_here n names is = (ap (λ b. b || has names n) (same_path_itself n), refl, there_none (read n) is)

  listed_is_of : (names : List (List ℕ)) (met : Met) (k : ℕ) → k < length (name_mets read names) → slice_index_or (name_mets read names) k met ≡ met → IsOf names met
  listed_is_of [] met k below at = absurd (omega (arith, below))
  listed_is_of (n ∷ names) met k below at = by_case (is_there (read n)) refl k below at (λ j less at_j. of_later n names met (listed_is_of names met j less at_j))
    where
      by_case : (b : Bool) → is_there (read n) ≡ b → (k : ℕ) → k < length (map (name_met read) (cond b (n ∷ filter (λ name. is_there (read name)) names) (filter (λ name. is_there (read name)) names)))
          → slice_index_or (map (name_met read) (cond b (n ∷ filter (λ name. is_there (read name)) names) (filter (λ name. is_there (read name)) names))) k met ≡ met
          → ((j : ℕ) → j < length (name_mets read names) → slice_index_or (name_mets read names) j met ≡ met → IsOf (n ∷ names) met) → IsOf (n ∷ names) met
      by_case false gone k below at later = later k below at
      by_case true is zero below at later = subst (λ m. IsOf (n ∷ names) m) at (of_here n names is)
      by_case true is (suc k) below at later = later k (omega (arith, below)) at

  of_is_listed : (names : List (List ℕ)) (met : Met) → IsOf names met → Contains (name_mets read names) met
  of_is_listed [] met (among, reads, stands) = absurd (cc among)
  of_is_listed (n ∷ names) met (among, reads, stands) = by_same (same_path met.name n) refl (is_there (read n)) refl (λ more. of_is_listed names met (more, reads, stands))
    where
      is_met : n ≡ met.name → name_met read n ≡ met
      is_met same = ap (name_met read) same ∙ ap (λ r. record { name = met.name; ref_state = r }) reads

      by_same : (s : Bool) → same_path met.name n ≡ s → (b : Bool) → is_there (read n) ≡ b → (IsTrue (has names met.name) → Contains (name_mets read names) met)
          → Contains (map (name_met read) (cond b (n ∷ filter (λ name. is_there (read name)) names) (filter (λ name. is_there (read name)) names))) met
      by_same true same true here later = (zero, omega arith, is_met (sym (one_path met.name n same)))
      by_same true same false gone later =
          absurd (cc (sym gone ∙ ap (λ m. is_there (read m)) (sym (one_path met.name n same)) ∙ none_there (read met.name) (λ e. stands (sym reads ∙ e))))
      by_same false apart true here later = let c = later (sym (ap (λ b. b || has names met.name) apart) ∙ among) in (suc c.0, omega (arith, c.1), c.2)
      by_same false apart false gone later = later (sym (ap (λ b. b || has names met.name) apart) ∙ among)

-- ---- in order
module _ (read : List ℕ → RefState) (n : List ℕ) where
  all_later : (names : List (List ℕ)) → AllByRecursion (λ y. path_cmp n y ≡ Less) names → AllByRecursion (λ later. path_cmp n later ≡ Less) (map (λ met. met.name) (name_mets read names))
  all_later [] all = tt
  all_later (m ∷ names) (first, all) = by_case (is_there (read m)) (all_later names all)
    where
      by_case : (b : Bool) → AllByRecursion (λ later. path_cmp n later ≡ Less) (map (λ met. met.name) (name_mets read names))
          → AllByRecursion (λ later. path_cmp n later ≡ Less) (map (λ met. met.name) (map (name_met read) (cond b (m ∷ filter (λ name. is_there (read name)) names) (filter (λ name. is_there (read name)) names))))
      by_case true rest = (first, rest)
      by_case false rest = rest

ascends : (read : List ℕ → RefState) (names : List (List ℕ)) → IsStrictlySortedBy path_cmp names → IsAscending (map (λ met. met.name) (name_mets read names))
unfolding IsStrictlySortedBy
ascends read [] order = tt
ascends read (n ∷ names) (first, order) = by_case (is_there (read n)) (all_later read n names first) (ascends read names order)
  where
    by_case : (b : Bool) → AllByRecursion (λ later. path_cmp n later ≡ Less) (map (λ met. met.name) (name_mets read names)) → IsAscending (map (λ met. met.name) (name_mets read names))
        → IsAscending (map (λ met. met.name) (map (name_met read) (cond b (n ∷ filter (λ name. is_there (read name)) names) (filter (λ name. is_there (read name)) names))))
    by_case true all rest = (all, rest)
    by_case false all rest = rest

-- ---- a set that has all that exist
pub only_asked : (asked : List ℕ → Bool) (old names : List (List ℕ)) → old ≡ [] → BringsAsked asked old names → (name : List ℕ) → IsTrue (has names name) → IsTrue (asked name)
only_asked asked old names none brings name is = by_case (brings name is)
  where
    by_case : IsTrue (has old name) ⊎ IsTrue (asked name) → IsTrue (asked name)
    by_case (inl in_old) = absurd (cc (sym in_old ∙ ap (λ (ns : List (List ℕ)). has ns name) none))
    by_case (inr so) = so

pub is_listing : (b : Base) (tree : Tree) (records : List Record) (asked : List ℕ → Bool) (old names : List (List ℕ)) → IsStrictlySortedBy path_cmp names → old ≡ [] → BringsAsked asked old names
    → GathersPlaces b tree asked names → ((name : List ℕ) → IsTrue (asked name) → IsSome (packed_hit records name) → IsTrue (has names name))
    → IsListing (state_among b tree records) asked (name_mets (state_among b tree records) names)
is_listing b tree records asked old names order none brings places packed = record {
  ascending = ascends (state_among b tree records) names order;
  each = λ name r. (
    λ (k, below, at). let of = listed_is_of (state_among b tree records) names (record { name = name; ref_state = r }) k below at in (only_asked asked old names none brings name of.0, of.1, of.2),
    λ (so, reads, stands). of_is_listed (state_among b tree records) names (record { name = name; ref_state = r }) (all name so (λ e. stands (sym reads ∙ e)), reads, stands),
  );
}
  where
    all : (name : List ℕ) → IsTrue (asked name) → (state_among b tree records name ≡ Absent → ⊥) → IsTrue (has names name)
    all name so stands = by_full (is_full_name name) refl (loose_text_at b tree name) refl (packed_hit records name) refl stands
      where
        by_full : (full : Bool) → is_full_name name ≡ full → (text : Option (List ℕ)) → loose_text_at b tree name ≡ text → (found : Option Record) → packed_hit records name ≡ found
            → (cond full (read_by b.kind text (packed_state found)) Absent ≡ Absent → ⊥) → IsTrue (has names name)
        by_full false f text t found h stands = absurd (stands refl)
        by_full true f (Some text) t found h stands = places name (ap is_some t) f so
        by_full true f None t (Some r) h stands = packed name so (ap is_some h)
        by_full true f None t None h stands = absurd (stands refl)

-- ---- what is known of files
entry_reads : (b : Base) (tree : Tree) (records : List Record) (name : List ℕ) (known : OwnFile) → IsTrue (is_full_name name) × IsOfText b.kind (loose_text_at b tree name) known
    → state_by known (state_among b tree records name) (packed_state (packed_hit records name)) ≡ state_among b tree records name
entry_reads b tree records name (own.Holds target) (full, told) = sym (file_found b tree records name name target refl full told)
entry_reads b tree records name (own.Faulty reason) (full, told) = sym (file_fault b tree records name name (ReferenceCreation reason) refl full told)
entry_reads b tree records name own.Missing (full, told) = sym (file_absent b tree records name name refl full told)
entry_reads b tree records name own.Unread (full, told) = refl

none_later : (n : List ℕ) (listed : Listed) → AllByRecursion (λ y. path_cmp n y ≡ Less) (keys_of listed) → lookup (same_path n) listed ≡ None
none_later n [] all = refl
none_later n (e ∷ listed) (first, all) = ap (λ o. cond (is_eq o) (Some e.1) (lookup (same_path n) listed)) first ∙ none_later n listed all

-- if what is known of files is so, the names read as in the tree
pub same_mets : (b : Base) (tree : Tree) (records : List Record) (listed : Listed) → IsStrictlySortedBy path_cmp (keys_of listed) → KnowsFiles b tree listed
    → mets_of (state_among b tree records) records listed ≡ name_mets (state_among b tree records) (keys_of listed)
unfolding IsStrictlySortedBy
same_mets b tree records [] order knows = refl
same_mets b tree records (e ∷ listed) (first, order) knows =
    ap (λ r. cond (is_there r) (record { name = e.0; ref_state = r } ∷ mets_of (state_among b tree records) records listed) (mets_of (state_among b tree records) records listed)) here
    ∙ ap (λ (ms : List Met). cond (is_there (state_among b tree records e.0)) (name_met (state_among b tree records) e.0 ∷ ms) ms) (same_mets b tree records listed order later)
    ∙ by_there (is_there (state_among b tree records e.0))
  where
    here : state_by e.1 (state_among b tree records e.0) (packed_state (packed_hit records e.0)) ≡ state_among b tree records e.0
    here = entry_reads b tree records e.0 e.1 (knows e.0 e.1 (ap (λ s. cond s (Some e.1) (lookup (same_path e.0) listed)) (same_path_itself e.0)))

    later : KnowsFiles b tree listed
    later name known is = knows name known (by_same (same_path name e.0) refl)
      where
        by_same : (s : Bool) → same_path name e.0 ≡ s → cond (same_path name e.0) (Some e.1) (lookup (same_path name) listed) ≡ Some known
        by_same true same = absurd (cc (sym (ap is_some (none_later e.0 listed first)) ∙ ap (λ n. is_some (lookup (same_path n) listed)) (sym (one_path name e.0 same)) ∙ ap is_some is))
        by_same false apart = ap (λ s. cond s (Some e.1) (lookup (same_path name) listed)) apart ∙ is

    by_there : (s : Bool) → cond s (name_met (state_among b tree records) e.0 ∷ name_mets (state_among b tree records) (keys_of listed)) (name_mets (state_among b tree records) (keys_of listed))
        ≡ map (name_met (state_among b tree records)) (cond s (e.0 ∷ filter (λ name. is_there (state_among b tree records name)) (keys_of listed)) (filter (λ name. is_there (state_among b tree records name)) (keys_of listed)))
    by_there true = refl
    by_there false = refl
