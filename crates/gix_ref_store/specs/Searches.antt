-- What a search of the code reads and finds.
use Rattle.std.specs.Prelude.{ℕ, ◌≡◌, List, ◌∷◌, Option, option_map, Result, Ok, MatchResult}
use Rattle.gix_ref_file.specs.Tree.{Tree}
use Rattle.gix_ref_format.specs.Packed.{Record}
use Rattle.gix_ref_format.specs.Lookup.{packed_hit}
use Rattle.gix_ref_store.specs.RefStates.{RefState, packed_state, state_among, first_met}
use Rattle.gix_ref_store.specs.Stores.{base_of}
use Rattle.gix_ref_store.specs.Finds.{met_of, records_in, LookupFault, TellsState}
use Rattle.gix_ref_store.specs.declared.reference.Reference.{Reference}
use Rattle.gix_ref_store.specs.declared.store.file.find.Error.{Error}
use Rattle.gix_ref_store.specs.declared.store.file.search.Search.{Search}

-- what a name reads as in this tree, with the records that a search has
abbrev pub reads_in : {F : Type 0} → Tree → Search F → List ℕ → RefState
reads_in tree search = state_among (base_of search.store.now) tree (records_in search.packed)

-- the result of a search over these names
abbrev pub Finds : (List ℕ → RefState) → List (List ℕ) → Result (Option Reference) Error → Type 0
Finds read names result =
    MatchResult result (λ found. option_map met_of found ≡ first_met read names)
    (LookupFault (first_met read names))

-- the result for one name
abbrev pub AnswersName : (List ℕ → RefState) → List ℕ → Result (Option Reference) Error → Type 0
AnswersName read name result = TellsState name (read name) result

-- the result for the first of the names
abbrev pub AnswersFirst : (List ℕ → RefState) → List (List ℕ) → Result (Option Reference) Error
    → Type 0
AnswersFirst read names result =
    (first : List ℕ) × (rest : List (List ℕ)) × (names ≡ first ∷ rest)
    × TellsState first (read first) result

-- the record of the name is returned
abbrev pub AnswersRecord : List Record → List ℕ → Option Reference → Type 0
AnswersRecord records name found =
    TellsState name (packed_state (packed_hit records name)) (Ok found)
