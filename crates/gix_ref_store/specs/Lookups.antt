-- What the lookups of a store return.
use Rattle.std.specs.Prelude.{ℕ, ◌≡◌, List, Option, Some, None, option_map, Result, MatchResult}
use Rattle.std.specs.Borrow.{Bor}
use Rattle.gix_ref_file.specs.Tree.{Tree}
use Rattle.gix_ref_format.specs.declared.loose.Reference.{Reference as Loose}
use Rattle.gix_ref_format.specs.declared.packed.buffer.Buffer.{Buffer}
use Rattle.gix_ref_store.specs.Finds.{met_of, loose_met, records_in, LookupFault, FindFault, OnExisting}
use Rattle.gix_ref_store.specs.Items.{kept_in}
use Rattle.gix_ref_store.specs.Places.{Base}
use Rattle.gix_ref_store.specs.RefStates.{RefState, first_met, ref_state, state_among}
use Rattle.gix_ref_store.specs.Searches.{Finds}
use Rattle.gix_ref_store.specs.Stores.{base_of, names_of}
use Rattle.gix_ref_store.specs.declared.reference.Reference.{Reference}
use Rattle.gix_ref_store.specs.declared.store.file.Store.{Store}
use Rattle.gix_ref_store.specs.declared.store.file.find.Error.{Error}
use Rattle.gix_ref_store.specs.declared.store.file.find.ExistingError.{ExistingError}

-- what a name reads as in this tree
abbrev pub reads_now : {F : Type 0} → Store F → Tree → List ℕ → RefState
reads_now store tree = ref_state (base_of store) tree

-- the same with these packed references
abbrev pub reads_with : {F : Type 0} → Store F → Tree → Option (Bor Buffer) → List ℕ → RefState
reads_with store tree packed = state_among (base_of store) tree (records_in packed)

-- the same with those that a buffer of the platform keeps
abbrev pub reads_kept : {F : Type 0} → Store F → Tree → Option Buffer → List ℕ → RefState
reads_kept store tree packed = state_among (base_of store) tree (kept_in packed)

-- the first of the names that doesn't read as absent is found, or why it isn't
abbrev pub FindsNames : Base → Tree → List (List ℕ) → Result (Option Reference) Error → Type 0
FindsNames b tree names result =
    let met =
    first_met (ref_state b tree) names
    in MatchResult result (λ found. option_map met_of found ≡ met) (FindFault b tree names met)

-- the same of the names that a word may mean
abbrev pub FindsWord : {F : Type 0} → Store F → Tree → List ℕ → Result (Option Reference) Error
    → Type 0
FindsWord store tree word result = FindsNames (base_of store) tree (names_of store word) result

-- the same with these packed references
abbrev pub FindsWith : {F : Type 0} → Store F → Tree → Option (Bor Buffer) → List ℕ
    → Result (Option Reference) Error → Type 0
FindsWith store tree packed word result =
    Finds (reads_with store tree packed) (names_of store word) result

-- the same of references with files of their own
abbrev pub FindsLoose : {F : Type 0} → Store F → Tree → List ℕ → Result (Option Loose) Error
    → Type 0
FindsLoose store tree word result =
    let met = first_met (reads_with store tree None) (names_of store word) in
    MatchResult result (λ found. option_map loose_met found ≡ met) (LookupFault met)

-- ---- one must exist

abbrev pub FindsOne : {F : Type 0} → Store F → Tree → List ℕ → Result Reference ExistingError
    → Type 0
FindsOne store tree word result =
    let names = names_of store word in let met = first_met (reads_now store tree) names in
    MatchResult result (λ r. met ≡ Some (met_of r))
    (OnExisting (met ≡ None) (FindFault (base_of store) tree names met))

abbrev pub FindsOneWith : {F : Type 0} → Store F → Tree → Option (Bor Buffer) → List ℕ
    → Result Reference ExistingError → Type 0
FindsOneWith store tree packed word result =
    let met = first_met (reads_with store tree packed) (names_of store word) in
    MatchResult result (λ r. met ≡ Some (met_of r)) (OnExisting (met ≡ None) (LookupFault met))

abbrev pub FindsOneLoose : {F : Type 0} → Store F → Tree → List ℕ → Result Loose ExistingError
    → Type 0
FindsOneLoose store tree word result =
    let met = first_met (reads_with store tree None) (names_of store word) in
    MatchResult result (λ r. met ≡ Some (loose_met r)) (OnExisting (met ≡ None) (LookupFault met))
