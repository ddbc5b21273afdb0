-- A fault of reading, handed on.
use Rattle.std.proofs.Common.{◌≡◌, refl, sym, subst}
use Rattle.std.specs.Prelude.{Result, Ok, Err, IsErrAnd}
use Rattle.gix_object_lookup.specs.declared.find.Error as find
use Rattle.gix_object_lookup.specs.declared.find.Error.TheVariants as looked_up
use Rattle.history_files.specs.Reading.{OwnFault}
use Rattle.history_files.specs.declared.error.ReadError.{ReadError}
use Rattle.history_files.specs.declared.error.ReadError.TheVariants.{Failed, Broken, Memory}
use Rattle.history_repository.specs.Faults.{find_fault, read_fault}
use Rattle.history_model.specs.Bytes.{Bytes}
use Rattle.history_model.specs.Repository.{Repository}
use Rattle.history_repository.specs.Reads.{GivesMeant, IsReadingFault, ReadsMeant}
use Rattle.history_repository.specs.declared.stored.MeantCommit.{MeantCommit}
use Rattle.history_repository.specs.declared.stopped.Stopped.{Stopped}
use Rattle.history_repository.specs.declared.stopped.Stopped.TheVariants.{Fault, Refused}

-- ---- readings

pub gave_fault : {A : Type 0} (MayFail : Type 0) (P : A → Type 0) (result : Result A Stopped) (stopped : Stopped) → result ≡ Err stopped → GivesMeant MayFail P result → IsReadingFault MayFail stopped
gave_fault {A} MayFail P result stopped was gives = subst (λ (x : Result A Stopped). GivesMeant MayFail P x) was gives

pub gives_fault : {B : Type 0} (MayFail : Type 0) (P : B → Type 0) (ends : Result B Stopped) (stopped : Stopped) → ends ≡ Err stopped → IsReadingFault MayFail stopped → GivesMeant MayFail P ends
gives_fault {B} MayFail P ends stopped is_end told = subst (λ (x : Result B Stopped). GivesMeant MayFail P x) (sym is_end) told

-- why trees of a whole store aren't read is a fault of reading
pub read_told : {T : Type 0} (MayFail : Type 0) (IsMeant : T → Type 0) (result : Result T Stopped) (error : ReadError) → IsErrAnd result (λ stopped. stopped ≡ Fault (read_fault error)) → OwnFault MayFail error → GivesMeant MayFail IsMeant result
read_told MayFail IsMeant (Ok value) error is fails = absurd is
read_told MayFail IsMeant (Err stopped) Failed is fails = subst (IsReadingFault MayFail) (sym is) fails
read_told MayFail IsMeant (Err stopped) (Broken oid) is fails = absurd fails
read_told MayFail IsMeant (Err stopped) Memory is fails = subst (IsReadingFault MayFail) (sym is) tt

-- so is why a lookup failed
pub find_told : {T : Type 0} (MayFail : Type 0) (IsMeant : T → Type 0) (result : Result T Stopped) (error : find.Error) → IsErrAnd result (λ stopped. stopped ≡ Fault (find_fault error)) → (error ≡ looked_up.Failed → MayFail) → GivesMeant MayFail IsMeant result
find_told MayFail IsMeant (Ok value) error is fails = absurd is
find_told MayFail IsMeant (Err stopped) looked_up.Failed is fails = subst (IsReadingFault MayFail) (sym is) (fails refl)
find_told MayFail IsMeant (Err stopped) looked_up.Memory is fails = subst (IsReadingFault MayFail) (sym is) tt

-- why a call gave nothing is handed on
pub fault_told : {T : Type 0} (MayFail : Type 0) (IsMeant : T → Type 0) (result : Result T Stopped) (stopped : Stopped) → IsErrAnd result (λ other. other ≡ stopped) → IsReadingFault MayFail stopped → GivesMeant MayFail IsMeant result
fault_told MayFail IsMeant (Ok value) stopped same fault = absurd same
fault_told MayFail IsMeant (Err other) stopped same fault = subst (IsReadingFault MayFail) (sym same) fault

pub meant_unread : (MayFail : Type 0) (r : Repository) (word : Bytes) (result : Result MeantCommit Stopped) (stopped : Stopped) → IsErrAnd result (λ other. other ≡ stopped) → IsReadingFault MayFail stopped → ReadsMeant MayFail r word result
meant_unread MayFail r word (Ok meant) stopped same fault = absurd same
meant_unread MayFail r word (Err (Refused cause)) stopped same fault = absurd (subst (IsReadingFault MayFail) (sym same) fault)
meant_unread MayFail r word (Err (Fault it)) stopped same fault = subst (IsReadingFault MayFail) (sym same) fault
