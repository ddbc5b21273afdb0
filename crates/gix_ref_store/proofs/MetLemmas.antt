-- The first of several names that doesn't read as absent.
use Rattle.std.proofs.Common.{◌≡◌, ◌∙◌, sym, ap, subst, ℕ, List, [], ◌∷◌, Option, Some, None, option_map}
use Rattle.std.specs.Prelude.{Result, Ok, Err, MatchResult}
use Rattle.gix_ref_store.specs.RefStates.{RefState, Absent, met_or, first_met}
use Rattle.gix_ref_store.specs.Finds.{met_of, state_of, LookupFault, TellsState}
use Rattle.gix_ref_store.specs.Searches.{Finds}
use Rattle.gix_ref_store.specs.declared.reference.Reference.{Reference}
use Rattle.gix_ref_store.specs.declared.store.file.find.Error.{Error}
use Rattle.gix_ref_store.specs.declared.store.file.find.Error.TheVariants.{ReadFileContents, ReferenceCreation, PackedOpen, Memory}

-- the first name exists
pub found_first : (read : List ℕ → RefState) (name : List ℕ) (names : List (List ℕ)) (r : Reference) → TellsState name (read name) (Ok (Some r)) → Some (met_of r) ≡ first_met read (name ∷ names)
found_first read name names r (same, reads) =
    ap (λ n. Some (record { name = n; ref_state = state_of r })) same ∙ sym (ap (λ x. met_or name x (first_met read names)) reads)

-- it doesn't, so the others decide
pub on_to_rest : (read : List ℕ → RefState) (name : List ℕ) (names : List (List ℕ)) (result : Result (Option Reference) Error) → read name ≡ Absent → Finds read names result → Finds read (name ∷ names) result
on_to_rest read name names result absent finds = subst (λ met. MatchResult result (λ found. option_map met_of found ≡ met) (LookupFault met)) (sym (ap (λ x. met_or name x (first_met read names)) absent)) finds

-- it can't be read
pub fault_first : (read : List ℕ → RefState) (name : List ℕ) (names : List (List ℕ)) (error : Error) → TellsState name (read name) (Err error) → LookupFault (first_met read (name ∷ names)) error
fault_first read name names (ReferenceCreation e) faulty = (name, ap (λ x. met_or name x (first_met read names)) faulty)
fault_first read name names (PackedOpen e) told = told
fault_first read name names ReadFileContents told = tt
fault_first read name names Memory told = tt

-- one name alone
pub one_name : (read : List ℕ → RefState) (name : List ℕ) (result : Result (Option Reference) Error) → TellsState name (read name) result → Finds read (name ∷ []) result
one_name read name (Ok (Some r)) told = found_first read name [] r told
one_name read name (Ok None) absent = sym (ap (λ x. met_or name x None) absent)
one_name read name (Err error) told = fault_first read name [] error told
