-- One step of a listing.
use Rattle.std.proofs.Common.{◌≡◌, ◌⊎◌, inl, inr, ℕ, Bool, true, false, cond, List, [], ◌∷◌, ◌++◌, Option, Some, None, refl, sym, ◌∙◌, ap, subst}
use Rattle.std.specs.Prelude.{Result, Ok, Err, IsTrue, IsSome, codes, option_and_then}
use Rattle.std.specs.Borrow.{Bor}
use Rattle.std.specs.List.Sorted.{IsStrictlySortedBy}
use Rattle.std.specs.Map.{keys_of}
use Rattle.gix_object_lines.specs.NameTest.{begins}
use Rattle.gix_object_lines.proofs.NameTests.{begins-Decides}
use Rattle.gix_ref_file.specs.Tree.{Tree, path_cmp}
use Rattle.gix_ref_format.specs.Packed.{Record}
use Rattle.gix_ref_format.specs.PackedBuffer.{hit}
use Rattle.gix_ref_format.specs.Lookup.{packed_hit, packed_key, is_own}
use Rattle.gix_ref_format.specs.declared.packed.buffer.Buffer.{Buffer}
use Rattle.gix_ref_store.specs.RefStates.{RefState, Stands, Absent, Faulty, Met, packed_state, state_among}
use Rattle.gix_ref_store.specs.Finds.{records_in, TellsState}
use Rattle.gix_ref_store.specs.Searches.{reads_in}
use Rattle.gix_ref_store.specs.Items.{is_there, met_by, mets_of, left_in, GivesNext, TellsName}
use Rattle.gix_ref_store.specs.OwnFiles.{Listed, KnowsFiles, state_by}
use Rattle.gix_ref_store.specs.Listings.{IsListing}
use Rattle.gix_ref_store.specs.Stores.{base_of}
use Rattle.gix_ref_store.specs.Walks.{Keeps, GathersPlaces}
use Rattle.gix_ref_store.specs.Places.{Base}
use Rattle.gix_ref_store.specs.declared.reference.Reference.{Reference}
use Rattle.gix_ref_store.specs.declared.store.file.Store.{Store}
use Rattle.gix_ref_store.specs.declared.store.file.own.OwnFile.{OwnFile}
use Rattle.gix_ref_store.proofs.ListingLemmas.{name_mets, same_mets}
use Rattle.gix_ref_store.specs.declared.store.file.iter.Error.{Error}
use Rattle.gix_ref_store.specs.declared.store.file.iter.Error.TheVariants.{Traversal, ReadFileContents, ReferenceCreation, Memory}
use Rattle.gix_ref_store.specs.declared.store.file.iter.LooseThenPacked.{LooseThenPacked}

not_there : (r : RefState) → is_there r ≡ false → r ≡ Absent
not_there Absent is = refl
not_there (Stands points peeled) is = cc
not_there (Faulty why) is = cc

-- what a name reads as, by what is known of its own file
abbrev pub reads_by : (List ℕ → RefState) → List Record → List ℕ × OwnFile → RefState
reads_by read records e = state_by e.1 (read e.0) (packed_state (packed_hit records e.0))

module _ (read : List ℕ → RefState) (records : List Record) (e : List ℕ × OwnFile) (rest : Listed) where
  is_next : is_there (reads_by read records e) ≡ true → mets_of read records (e ∷ rest) ≡ met_by read records e ∷ mets_of read records rest
  is_next is = ap (λ b. cond b (met_by read records e ∷ mets_of read records rest) (mets_of read records rest)) is

  is_over : is_there (reads_by read records e) ≡ false → mets_of read records (e ∷ rest) ≡ mets_of read records rest
  is_over is = ap (λ b. cond b (met_by read records e ∷ mets_of read records rest) (mets_of read records rest)) is

  -- another is given
  pub given : (item : Result Reference Error) → TellsName e.0 (read e.0) (reads_by read records e) (Some item)
      → GivesNext read (mets_of read records (e ∷ rest)) (Some item) (mets_of read records rest)
  given (Ok r) (same, reads) = is_next (ap is_there reads) ∙ (λ i. record { name = same i; ref_state = reads i } ∷ mets_of read records rest)
  given (Err (ReferenceCreation name reason)) (same, reads) = is_next (ap is_there reads) ∙ (λ i. record { name = same i; ref_state = reads i } ∷ mets_of read records rest)
  given (Err (ReadFileContents name)) (same, reads) = by_case (is_there (reads_by read records e)) refl
    where
      by_case : (b : Bool) → is_there (reads_by read records e) ≡ b
          → ((read name ≡ Absent) × (mets_of read records (e ∷ rest) ≡ mets_of read records rest)) ⊎ ((r : RefState) × (mets_of read records (e ∷ rest) ≡ record { name = name; ref_state = r } ∷ mets_of read records rest))
      by_case true is = inr (reads_by read records e, is_next is ∙ (λ i. record { name = same i; ref_state = reads_by read records e } ∷ mets_of read records rest))
      by_case false is = inl (sym (ap read same) ∙ sym reads ∙ not_there (reads_by read records e) is, is_over is)
  given (Err Memory) told = by_case (is_there (reads_by read records e)) refl
    where
      by_case : (b : Bool) → is_there (reads_by read records e) ≡ b → (mets_of read records (e ∷ rest) ≡ mets_of read records rest) ⊎ ((met : Met) × (mets_of read records (e ∷ rest) ≡ met ∷ mets_of read records rest))
      by_case true is = inr (met_by read records e, is_next is)
      by_case false is = inl (is_over is)
  given (Err Traversal) told = told

pub gives_from : (read : List ℕ → RefState) (before left after : List Met) (item : Option (Result Reference Error)) → left ≡ before → GivesNext read left item after
    → GivesNext read before item after
gives_from read before left after item is gives = subst (λ (l : List Met). GivesNext read l item after) is gives

-- ---- what a listing is made of
pub of_items : {F : Type 0} (tree : Tree) (asked : List ℕ → Bool) (store : Store F) (packed : Option (Bor Buffer)) (listed : Listed) (items : LooseThenPacked F)
    → items.search.store.now ≡ store → items.search.packed ≡ packed → items.names ≡ listed → IsStrictlySortedBy path_cmp (keys_of listed) → KnowsFiles (base_of store) tree listed
    → IsListing (state_among (base_of store) tree (records_in packed)) asked (name_mets (state_among (base_of store) tree (records_in packed)) (keys_of listed))
    → IsListing (state_among (base_of store) tree (records_in packed)) asked (left_in tree items)
of_items tree asked store packed listed items s p n order knows listing =
    let left : left_in tree items ≡ mets_of (state_among (base_of store) tree (records_in packed)) (records_in packed) listed = λ i. mets_of (state_among (base_of (s i)) tree (records_in (p i))) (records_in (p i)) (n i) in
    subst (λ (out : List Met). IsListing (state_among (base_of store) tree (records_in packed)) asked out)
    (sym (left ∙ same_mets (base_of store) tree (records_in packed) listed order knows)) listing

pub still_places : (b : Base) (tree : Tree) (asked : List ℕ → Bool) (old new : List (List ℕ)) → Keeps old new → GathersPlaces b tree asked old → GathersPlaces b tree asked new
still_places b tree asked old new keeps gathers name file full so = keeps name (gathers name file full so)

-- a record of a name below `refs/` has that name
pub record_named : (records : List Record) (name : List ℕ) → IsTrue (begins (codes "refs/") name) → IsSome (packed_hit records name) → IsSome (hit records name)
record_named records name so is =
    let b = (begins-Decides (codes "refs/") name).0 so in
    subst (λ n. IsSome (hit records n)) (sym b.1) (at_refs b.0 (subst (λ n. IsSome (packed_hit records n)) b.1 is))
  where
    at_refs : (rest : List ℕ) → IsSome (packed_hit records (codes "refs/" ++ rest)) → IsSome (hit records (codes "refs/" ++ rest))
    at_refs rest h = by_own (is_own (codes "refs/" ++ rest)) h
      where
        by_own : (own : Bool) → IsSome (option_and_then (hit records) (cond own None (Some (codes "refs/" ++ rest)))) → IsSome (hit records (codes "refs/" ++ rest))
        by_own true h = cc
        by_own false h = h

pub no_record : (name : List ℕ) → IsSome (packed_hit [] name) → ⊥
no_record name is = by_key (packed_key name) is
  where
    by_key : (key : Option (List ℕ)) → IsSome (option_and_then (hit []) key) → ⊥
    by_key None h = cc
    by_key (Some k) h = cc

-- ---- one call of `next`
pub told_found : (name : List ℕ) (read r : RefState) (found : Reference) → TellsState name r (Ok (Some found)) → TellsName name read r (Some (Ok found))
told_found name read r found (same, reads) = (sym same, reads)

module _ {F : Type 0} (tree : Tree) where
  pub step : (start now : LooseThenPacked F) (e : List ℕ × OwnFile) (rest : Listed) (item : Result Reference Error) → now.search ≡ start.search → now.names ≡ e ∷ rest → left_in tree now ≡ left_in tree start
      → TellsName e.0 (reads_in tree start.search e.0) (reads_by (reads_in tree start.search) (records_in start.search.packed) e) (Some item)
      → GivesNext (reads_in tree start.search) (left_in tree start) (Some item) (left_in {F = F} tree (record { search = now.search; names = rest }))
  step start now e rest item same names left told =
      let after = left_in {F = F} tree (record { search = now.search; names = rest }) in
      gives_from (reads_in tree start.search) (left_in tree start) (left_in tree now) after (Some item) left
      (subst (λ s. GivesNext (reads_in tree s) (left_in tree now) (Some item) after) same
      (subst (λ (ns : Listed). GivesNext (reads_in tree now.search) (mets_of (reads_in tree now.search) (records_in now.search.packed) ns) (Some item) (mets_of (reads_in tree now.search) (records_in now.search.packed) rest)) (sym names)
      (given (reads_in tree now.search) (records_in now.search.packed) e rest item (subst (λ s. TellsName e.0 (reads_in tree s e.0) (reads_by (reads_in tree s) (records_in s.packed) e) (Some item)) (sym same) told))))
