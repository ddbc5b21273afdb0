-- What the errors of edits that aren't prepared say, and what they count.
use Rattle.std.proofs.Common.{◌≡◌, ◌≢◌, ◌⊎◌, inl, inr, Bool, refl, sym, ◌∙◌, ap, subst, ℕ, ◌≤◌, List, arith}
use Rattle.gix_ref_file.specs.History.{HasRisen}
use Rattle.gix_ref_file.specs.declared.files.FileError.{FileError}
use Rattle.gix_ref_file.specs.declared.files.FileError.TheVariants as file_case
use Rattle.gix_ref_edit.specs.declared.change.RefEdit.{RefEdit}
use Rattle.gix_ref_format.specs.declared.packed.buffer.Error.TheVariants as opening
use Rattle.gix_ref_lock.specs.GivenBacks.{worse}
use Rattle.gix_ref_lock.specs.PackedErrors.{IsShort}
use Rattle.gix_ref_lock.specs.declared.lock.GivenBack.{GivenBack}
use Rattle.gix_ref_lock.specs.declared.lock.GivenBack.TheVariants as given
use Rattle.gix_ref_lock.specs.declared.packed.Error.{Error as LockError}
use Rattle.gix_ref_lock.specs.declared.packed.Error.TheVariants.{BufferOpen, TransactionLock}
use Rattle.gix_ref_lock.specs.declared.packed.LockError.TheVariants as locking
use Rattle.gix_ref_lock.specs.declared.packed.PrepareError.TheVariants as writing
use Rattle.gix_ref_transaction.specs.Resolving.{IfUnresolved}
use Rattle.gix_ref_transaction.specs.RecordsRollback.{IsEarly, WantsMemory}
use Rattle.gix_ref_transaction.specs.declared.repacking.error.RepackError.{RepackError}
use Rattle.gix_ref_transaction.specs.declared.repacking.error.RepackError.TheVariants as repack
use Rattle.gix_ref_file.specs.Tree.{Tree}
use Rattle.gix_ref_store.specs.Places.{Base}
use Rattle.gix_ref_store.specs.RefStates.{RefState}
use Rattle.gix_ref_store.specs.declared.store.file.find.Error.TheVariants as find
use Rattle.gix_ref_store.specs.declared.store.file.peel.Error.{Error as PeelError}
use Rattle.gix_ref_way.proofs.FoldersMade.{risen_later}
use Rattle.gix_ref_transaction.specs.Causes.{EditFault, SomeEditFault, LineFault, NoLine, ReadFault, TestFault, Unlined, Unresolved}
use Rattle.gix_ref_transaction.specs.Errors.{Counts, IsAfter, IsOfEdit, IsOfRecords, IsQuiet, MayBeLeft, MayStay, TakeFault, after_giving, of_file, of_locking, of_repacking, unless_failed}
use Rattle.gix_ref_transaction.specs.LogLines.{Logging, has_log}
use Rattle.gix_ref_transaction.specs.declared.error.PrepareError.{PrepareError}
use Rattle.gix_ref_transaction.specs.declared.error.PrepareError.TheVariants as fault

-- ---- what they count
pub counts_file : (e : FileError) (a b : ℕ) → (e ≡ file_case.Failed → HasRisen a b) → Counts a b (of_file e)
counts_file file_case.Failed a b failed = failed refl
counts_file file_case.Memory a b failed = tt

pub file_memory : (e : FileError) → of_file e ≢ fault.Io → e ≡ file_case.Memory
file_memory file_case.Failed other = absurd (other refl)
file_memory file_case.Memory other = refl

pub counts_other : (a b : ℕ) (error : PrepareError) → error ≢ fault.Io → Counts a b error
counts_other a b fault.Io other = absurd (other refl)
counts_other a b _ other = tt

counts_unless : (a b : ℕ) (error : PrepareError) → Counts a b error → Counts a b (unless_failed error fault.Memory)
counts_unless a b fault.Io counts = counts
counts_unless a b _ counts = tt

pub counts_after : (a b c : ℕ) (back : GivenBack) (error told : PrepareError) → told ≡ after_giving back error → a ≤ b → Counts a b error → (back ≢ given.Failed → c ≡ b) → (back ≡ given.Failed → HasRisen b c) → Counts a c told
counts_after a b c given.Done error told is first counts same risen = subst (Counts a c) (sym is) (subst (λ n. Counts a n error) (sym (same (λ e. cc))) counts)
counts_after a b c given.Failed error told is first counts same risen = subst (Counts a c) (sym is) (risen_later a b c c first (risen refl) (omega arith))
counts_after a b c given.Memory error told is first counts same risen = subst (Counts a c) (sym is) (counts_unless a c error (subst (λ n. Counts a n error) (sym (same (λ e. cc))) counts))

-- then no lock's removal failed
pub other_after : (back : GivenBack) (error told : PrepareError) → told ≡ after_giving back error → told ≢ fault.Io → (error ≢ fault.Io) × (back ≢ given.Failed)
other_after given.Done error told is other = (λ io. other (is ∙ io), λ e. cc)
other_after given.Failed error told is other = absurd (other is)
other_after given.Memory error told is other = (λ io. other (is ∙ ap (λ e. unless_failed e fault.Memory) io), λ e. cc)

pub quiet_other : (error : PrepareError) → IsQuiet error → error ≢ fault.Io
quiet_other error quiet is = subst IsQuiet is quiet

-- those of packed records
locks_count : (a b : ℕ) (error : LockError) → Counts a b (of_locking error)
locks_count a b (BufferOpen opening.Memory) = tt
locks_count a b (BufferOpen opening.Io) = tt
locks_count a b (BufferOpen opening.HeaderParsing) = tt
locks_count a b (BufferOpen (opening.Iter number)) = tt
locks_count a b (TransactionLock locking.Memory) = tt
locks_count a b (TransactionLock locking.Held) = tt
locks_count a b (TransactionLock locking.Failed) = tt

pub records_count : (a b : ℕ) (error : RepackError) → Counts a b (of_repacking error)
records_count a b (repack.PackedTransactionAcquire e) = locks_count a b e
records_count a b (repack.PackedTransactionPrepare writing.Memory) = tt
records_count a b (repack.PackedTransactionPrepare writing.CloseLock) = tt
records_count a b (repack.Resolve e) = tt
records_count a b repack.Memory = tt

locks_quiet : (Same : Type 0) (error : LockError) → (IsShort error → Same) → IsQuiet (of_locking error) → Same
locks_quiet Same (BufferOpen opening.Memory) memory quiet = memory tt
locks_quiet Same (BufferOpen opening.Io) memory quiet = absurd quiet
locks_quiet Same (BufferOpen opening.HeaderParsing) memory quiet = absurd quiet
locks_quiet Same (BufferOpen (opening.Iter number)) memory quiet = absurd quiet
locks_quiet Same (TransactionLock locking.Memory) memory quiet = memory tt
locks_quiet Same (TransactionLock locking.Held) memory quiet = absurd quiet
locks_quiet Same (TransactionLock locking.Failed) memory quiet = absurd quiet

pub records_quiet : (Same : Type 0) (error : RepackError) → (WantsMemory error → Same) → (IsEarly error → Same) → IsQuiet (of_repacking error) → Same
records_quiet Same (repack.PackedTransactionAcquire e) memory early quiet = locks_quiet Same e memory quiet
records_quiet Same (repack.PackedTransactionPrepare writing.Memory) memory early quiet = memory tt
records_quiet Same (repack.PackedTransactionPrepare writing.CloseLock) memory early quiet = absurd quiet
records_quiet Same (repack.Resolve e) memory early quiet = early tt
records_quiet Same repack.Memory memory early quiet = early tt

-- ---- after locks were given back
unless_cases : (error other : PrepareError) → (unless_failed error other ≡ fault.Io) ⊎ (unless_failed error other ≡ other)
unless_cases (fault.Packed e) other = inr refl
unless_cases (fault.PackedTransactionAcquire e) other = inr refl
unless_cases (fault.PackedTransactionPrepare e) other = inr refl
unless_cases (fault.PreprocessingFailed e) other = inr refl
unless_cases fault.SamePlace other = inr refl
unless_cases fault.Uncomposed other = inr refl
unless_cases fault.LockAcquire other = inr refl
unless_cases fault.Io other = inl refl
unless_cases (fault.Refused e) other = inr refl
unless_cases (fault.ReferenceDecode e) other = inr refl
unless_cases (fault.CreateOrUpdateRefLog e) other = inr refl
unless_cases (fault.Resolve e) other = inr refl
unless_cases fault.Memory other = inr refl

pub is_after : (back : GivenBack) (error told : PrepareError) → told ≡ after_giving back error → IsAfter error told
is_after given.Done error told is = inl is
is_after given.Failed error told is = inr (inl is)
is_after given.Memory error told is = elim (unless_cases error fault.Memory) [
  | inl io ↦ inr (inl (is ∙ io))
  | inr memory ↦ inr (inr (is ∙ memory))
]

pub left_or : (P : Type 0) (back : GivenBack) (error told : PrepareError) → told ≡ after_giving back error → (back ≡ given.Done → P) → P ⊎ MayBeLeft told
left_or P given.Done error told is done = inl (done refl)
left_or P given.Failed error told is done = inr (subst MayBeLeft (sym is) tt)
left_or P given.Memory error told is done = inr (elim (unless_cases error fault.Memory) [
  | inl io ↦ subst MayBeLeft (sym (is ∙ io)) tt
  | inr memory ↦ subst MayBeLeft (sym (is ∙ memory)) tt
])

-- what holds of the error holds of the one that is returned
pub or_after : (P : PrepareError → Type 0) (error told : PrepareError) → IsAfter error told → P fault.Io → P fault.Memory → P error → P told
or_after P error told (inl is) io memory own = subst P (sym is) own
or_after P error told (inr (inl is)) io memory own = subst P (sym is) io
or_after P error told (inr (inr is)) io memory own = subst P (sym is) memory

-- one that was left, or whose removal failed, which was counted
pub left_stays : (a b : ℕ) (told : PrepareError) → MayBeLeft told → Counts a b told → HasRisen a b ⊎ MayStay told
left_stays a b fault.Io left counts = inl counts
left_stays a b fault.Memory left counts = inr tt
left_stays a b (fault.ReferenceDecode e) left counts = absurd left
left_stays a b (fault.Packed e) left counts = absurd left
left_stays a b (fault.PackedTransactionAcquire e) left counts = absurd left
left_stays a b (fault.PackedTransactionPrepare e) left counts = absurd left
left_stays a b (fault.PreprocessingFailed e) left counts = absurd left
left_stays a b fault.SamePlace left counts = absurd left
left_stays a b fault.Uncomposed left counts = absurd left
left_stays a b fault.LockAcquire left counts = absurd left
left_stays a b (fault.Refused e) left counts = absurd left
left_stays a b (fault.CreateOrUpdateRefLog e) left counts = absurd left
left_stays a b (fault.Resolve e) left counts = absurd left

-- ---- the worse of two
pub worse_done : (one other : GivenBack) → worse one other ≡ given.Done → (one ≡ given.Done) × (other ≡ given.Done)
worse_done given.Done other is = (refl, is)
worse_done given.Failed other is = cc
worse_done given.Memory given.Failed is = cc
worse_done given.Memory given.Memory is = cc
worse_done given.Memory given.Done is = cc

pub worse_failed : (one other : GivenBack) → worse one other ≡ given.Failed → (one ≡ given.Failed) ⊎ (other ≡ given.Failed)
worse_failed given.Done other is = inr is
worse_failed given.Failed other is = inl refl
worse_failed given.Memory given.Failed is = inr refl
worse_failed given.Memory given.Memory is = cc
worse_failed given.Memory given.Done is = cc

failed_either : (one other : GivenBack) → (one ≡ given.Failed) ⊎ (other ≡ given.Failed) → worse one other ≡ given.Failed
failed_either given.Failed other either = refl
failed_either given.Done other (inl is) = cc
failed_either given.Done other (inr is) = is
failed_either given.Memory other (inl is) = cc
failed_either given.Memory other (inr is) = ap (worse given.Memory) is

pub worse_unfailed : (one other : GivenBack) → worse one other ≢ given.Failed → (one ≢ given.Failed) × (other ≢ given.Failed)
worse_unfailed one other none = (λ is. none (failed_either one other (inl is)), λ is. none (failed_either one other (inr is)))

-- ---- which errors these are
pub take_edit : (l : Logging) (stands : Bool) (may : Type 0) (edit : RefEdit) (error : PrepareError) → TakeFault may error → EditFault l stands may edit error
take_edit l stands may edit fault.LockAcquire h = tt
take_edit l stands may edit fault.Io h = tt
take_edit l stands may edit fault.Memory h = tt
take_edit l stands may edit (fault.ReferenceDecode find.ReadFileContents) h = h
take_edit l stands may edit (fault.ReferenceDecode (find.ReferenceCreation e)) h = absurd h
take_edit l stands may edit (fault.ReferenceDecode (find.PackedOpen e)) h = absurd h
take_edit l stands may edit (fault.ReferenceDecode find.Memory) h = absurd h
take_edit l stands may edit (fault.Packed e) h = absurd h
take_edit l stands may edit (fault.PackedTransactionAcquire e) h = absurd h
take_edit l stands may edit (fault.PackedTransactionPrepare e) h = absurd h
take_edit l stands may edit (fault.PreprocessingFailed e) h = absurd h
take_edit l stands may edit fault.SamePlace h = absurd h
take_edit l stands may edit fault.Uncomposed h = absurd h
take_edit l stands may edit (fault.Refused e) h = absurd h
take_edit l stands may edit (fault.CreateOrUpdateRefLog e) h = absurd h
take_edit l stands may edit (fault.Resolve e) h = absurd h

pub of_edit : (l : Logging) (stands : Bool) (may : Type 0) (edit : RefEdit) (error : PrepareError) → EditFault l stands may edit error → IsOfEdit error
of_edit l stands may edit (fault.Packed e) h = tt
of_edit l stands may edit (fault.PackedTransactionAcquire e) h = absurd h
of_edit l stands may edit (fault.PackedTransactionPrepare e) h = absurd h
of_edit l stands may edit (fault.PreprocessingFailed e) h = tt
of_edit l stands may edit fault.SamePlace h = tt
of_edit l stands may edit fault.Uncomposed h = tt
of_edit l stands may edit fault.LockAcquire h = tt
of_edit l stands may edit fault.Io h = tt
of_edit l stands may edit (fault.Refused e) h = tt
of_edit l stands may edit (fault.ReferenceDecode e) h = tt
of_edit l stands may edit (fault.CreateOrUpdateRefLog e) h = tt
of_edit l stands may edit (fault.Resolve e) h = absurd h
of_edit l stands may edit fault.Memory h = tt

no_records : (error : PrepareError) → IsOfEdit error → IsOfRecords error → ⊥
no_records (fault.Packed e) of records = records
no_records (fault.PackedTransactionAcquire e) of records = of
no_records (fault.PackedTransactionPrepare e) of records = of
no_records (fault.PreprocessingFailed e) of records = records
no_records fault.SamePlace of records = records
no_records fault.Uncomposed of records = records
no_records fault.LockAcquire of records = records
no_records fault.Io of records = records
no_records (fault.Refused e) of records = records
no_records (fault.ReferenceDecode e) of records = records
no_records (fault.CreateOrUpdateRefLog e) of records = records
no_records (fault.Resolve e) of records = records
no_records fault.Memory of records = records

pub after_no_records : (error told : PrepareError) → IsAfter error told → IsOfEdit error → IsOfRecords told → ⊥
after_no_records error told after of = or_after (λ e. IsOfRecords e → ⊥) error told after (λ h. h) (λ h. h) (no_records error of)

unresolved_edit : (Why : PeelError → Type 0) (error : PrepareError) → IsOfEdit error → Unresolved Why error
unresolved_edit Why (fault.Packed e) of = tt
unresolved_edit Why (fault.PackedTransactionAcquire e) of = tt
unresolved_edit Why (fault.PackedTransactionPrepare e) of = tt
unresolved_edit Why (fault.PreprocessingFailed e) of = tt
unresolved_edit Why fault.SamePlace of = tt
unresolved_edit Why fault.Uncomposed of = tt
unresolved_edit Why fault.LockAcquire of = tt
unresolved_edit Why fault.Io of = tt
unresolved_edit Why (fault.Refused e) of = tt
unresolved_edit Why (fault.ReferenceDecode e) of = tt
unresolved_edit Why (fault.CreateOrUpdateRefLog e) of = tt
unresolved_edit Why (fault.Resolve e) of = absurd of
unresolved_edit Why fault.Memory of = tt

pub after_unresolved : (Why : PeelError → Type 0) (error told : PrepareError) → IsAfter error told → IsOfEdit error → Unresolved Why told
after_unresolved Why error told after of = or_after (Unresolved Why) error told after tt tt (unresolved_edit Why error of)

locks_unresolved : (Why : PeelError → Type 0) (error : LockError) → Unresolved Why (of_locking error)
locks_unresolved Why (BufferOpen opening.Memory) = tt
locks_unresolved Why (BufferOpen opening.Io) = tt
locks_unresolved Why (BufferOpen opening.HeaderParsing) = tt
locks_unresolved Why (BufferOpen (opening.Iter number)) = tt
locks_unresolved Why (TransactionLock locking.Memory) = tt
locks_unresolved Why (TransactionLock locking.Held) = tt
locks_unresolved Why (TransactionLock locking.Failed) = tt

pub records_unresolved : (Why : PeelError → Type 0) (error : RepackError) → IfUnresolved Why error → Unresolved Why (of_repacking error)
records_unresolved Why (repack.PackedTransactionAcquire e) h = locks_unresolved Why e
records_unresolved Why (repack.PackedTransactionPrepare writing.Memory) h = tt
records_unresolved Why (repack.PackedTransactionPrepare writing.CloseLock) h = tt
records_unresolved Why (repack.Resolve e) h = h
records_unresolved Why repack.Memory h = tt

short_locks : (error : LockError) → IsShort error → IsOfRecords (of_locking error) → ⊥
short_locks (BufferOpen opening.Memory) short records = records
short_locks (BufferOpen opening.Io) short records = short
short_locks (BufferOpen opening.HeaderParsing) short records = short
short_locks (BufferOpen (opening.Iter number)) short records = short
short_locks (TransactionLock locking.Memory) short records = records
short_locks (TransactionLock locking.Held) short records = short
short_locks (TransactionLock locking.Failed) short records = short

pub records_cause : (Fault : Type 0) (error : RepackError) → IsEarly error ⊎ (WantsMemory error ⊎ Fault) → IsOfRecords (of_repacking error) → Fault
records_cause Fault error (inr (inr cause)) records = cause
records_cause Fault (repack.PackedTransactionAcquire e) (inl early) records = absurd early
records_cause Fault (repack.PackedTransactionPrepare e) (inl early) records = absurd early
records_cause Fault (repack.Resolve e) (inl early) records = absurd records
records_cause Fault repack.Memory (inl early) records = absurd records
records_cause Fault (repack.PackedTransactionAcquire e) (inr (inl short)) records = absurd (short_locks e short records)
records_cause Fault (repack.PackedTransactionPrepare writing.Memory) (inr (inl short)) records = absurd records
records_cause Fault (repack.PackedTransactionPrepare writing.CloseLock) (inr (inl short)) records = absurd short
records_cause Fault (repack.Resolve e) (inr (inl short)) records = absurd short
records_cause Fault repack.Memory (inr (inl short)) records = absurd records

pub short_stays : (error : LockError) → IsShort error → MayStay (of_locking error)
short_stays (BufferOpen opening.Memory) short = tt
short_stays (BufferOpen opening.Io) short = absurd short
short_stays (BufferOpen opening.HeaderParsing) short = absurd short
short_stays (BufferOpen (opening.Iter number)) short = absurd short
short_stays (TransactionLock locking.Memory) short = tt
short_stays (TransactionLock locking.Held) short = absurd short
short_stays (TransactionLock locking.Failed) short = absurd short

pub test_edit : (l : Logging) (stands : Bool) (may : Type 0) (edit : RefEdit) (error : PrepareError) → TestFault may edit (l.read edit.name) error → EditFault l stands may edit error
test_edit l stands may edit (fault.Packed e) h = absurd h
test_edit l stands may edit (fault.PackedTransactionAcquire e) h = absurd h
test_edit l stands may edit (fault.PackedTransactionPrepare e) h = absurd h
test_edit l stands may edit (fault.PreprocessingFailed e) h = absurd h
test_edit l stands may edit fault.SamePlace h = absurd h
test_edit l stands may edit fault.Uncomposed h = absurd h
test_edit l stands may edit fault.LockAcquire h = absurd h
test_edit l stands may edit fault.Io h = absurd h
test_edit l stands may edit (fault.Refused e) h = h
test_edit l stands may edit (fault.ReferenceDecode e) h = h
test_edit l stands may edit (fault.CreateOrUpdateRefLog e) h = absurd h
test_edit l stands may edit (fault.Resolve e) h = absurd h
test_edit l stands may edit fault.Memory h = tt

read_edit : (l : Logging) (stands : Bool) (may : Type 0) (edit : RefEdit) (error : PrepareError) → ReadFault may error → EditFault l stands may edit error
read_edit l stands may edit fault.Memory h = tt
read_edit l stands may edit (fault.ReferenceDecode find.ReadFileContents) h = h
read_edit l stands may edit (fault.ReferenceDecode (find.ReferenceCreation e)) h = absurd h
read_edit l stands may edit (fault.ReferenceDecode (find.PackedOpen e)) h = absurd h
read_edit l stands may edit (fault.ReferenceDecode find.Memory) h = absurd h
read_edit l stands may edit (fault.Packed e) h = absurd h
read_edit l stands may edit (fault.PackedTransactionAcquire e) h = absurd h
read_edit l stands may edit (fault.PackedTransactionPrepare e) h = absurd h
read_edit l stands may edit (fault.PreprocessingFailed e) h = absurd h
read_edit l stands may edit fault.SamePlace h = absurd h
read_edit l stands may edit fault.Uncomposed h = absurd h
read_edit l stands may edit fault.LockAcquire h = absurd h
read_edit l stands may edit fault.Io h = absurd h
read_edit l stands may edit (fault.Refused e) h = absurd h
read_edit l stands may edit (fault.CreateOrUpdateRefLog e) h = absurd h
read_edit l stands may edit (fault.Resolve e) h = absurd h

unlined_edit : (l : Logging) (stands : Bool) (may : Type 0) (edit : RefEdit) (error : PrepareError) → NoLine (Unlined l stands edit.name edit.change) error → EditFault l stands may edit error
unlined_edit l stands may edit (fault.Packed e) h = absurd h
unlined_edit l stands may edit (fault.PackedTransactionAcquire e) h = absurd h
unlined_edit l stands may edit (fault.PackedTransactionPrepare e) h = absurd h
unlined_edit l stands may edit (fault.PreprocessingFailed e) h = absurd h
unlined_edit l stands may edit fault.SamePlace h = absurd h
unlined_edit l stands may edit fault.Uncomposed h = absurd h
unlined_edit l stands may edit fault.LockAcquire h = absurd h
unlined_edit l stands may edit fault.Io h = absurd h
unlined_edit l stands may edit (fault.Refused e) h = absurd h
unlined_edit l stands may edit (fault.ReferenceDecode e) h = absurd h
unlined_edit l stands may edit (fault.CreateOrUpdateRefLog e) h = h
unlined_edit l stands may edit (fault.Resolve e) h = absurd h
unlined_edit l stands may edit fault.Memory h = tt

pub line_edit : (l : Logging) (stands : Bool) (may : Type 0) (edit : RefEdit) (error : PrepareError) → LineFault l stands may edit.name edit.change error → EditFault l stands may edit error
line_edit l stands may edit error (inl reading) = read_edit l stands may edit error reading
line_edit l stands may edit error (inr none) = unlined_edit l stands may edit error none

pub fill_edit : (l : Logging) (stands : Bool) (may : Type 0) (edit : RefEdit) (error : PrepareError) → (error ≡ fault.Io) ⊎ (error ≡ fault.Memory) → EditFault l stands may edit error
fill_edit l stands may edit error (inl is) = subst (EditFault l stands may edit) (sym is) tt
fill_edit l stands may edit error (inr is) = subst (EditFault l stands may edit) (sym is) tt

pub test_counts : (n : ℕ) (may : Type 0) (edit : RefEdit) (state : RefState) (error : PrepareError) → TestFault may edit state error → Counts n n error
test_counts n may edit state error h = counts_other n n error (λ is. subst (TestFault may edit state) is h)

pub line_counts : (n : ℕ) (l : Logging) (stands : Bool) (may : Type 0) (edit : RefEdit) (error : PrepareError) → LineFault l stands may edit.name edit.change error → Counts n n error
line_counts n l stands may edit error h = counts_other n n error (λ is. neither (subst (LineFault l stands may edit.name edit.change) is h))
  where
    neither : LineFault l stands may edit.name edit.change fault.Io → ⊥
    neither (inl h) = h
    neither (inr h) = h

pub test_no_lock : (may : Type 0) (edit : RefEdit) (state : RefState) (error : PrepareError) → TestFault may edit state error → error ≡ fault.LockAcquire → ⊥
test_no_lock may edit state error h is = subst (TestFault may edit state) is h

pub line_no_lock : (l : Logging) (stands : Bool) (may : Type 0) (edit : RefEdit) (error : PrepareError) → LineFault l stands may edit.name edit.change error → error ≡ fault.LockAcquire → ⊥
line_no_lock l stands may edit error h is = neither (subst (LineFault l stands may edit.name edit.change) is h)
  where
    neither : LineFault l stands may edit.name edit.change fault.LockAcquire → ⊥
    neither (inl h) = h
    neither (inr h) = h

pub fill_no_lock : (error : PrepareError) → (error ≡ fault.Io) ⊎ (error ≡ fault.Memory) → error ≡ fault.LockAcquire → ⊥
fill_no_lock error (inl is) lock = let wrong : fault.Io ≡ fault.LockAcquire = sym is ∙ lock in cc
fill_no_lock error (inr is) lock = let wrong : fault.Memory ≡ fault.LockAcquire = sym is ∙ lock in cc

-- the error that is returned isn't the lock's, if the first one isn't
pub after_no_lock : (error told : PrepareError) → IsAfter error told → (error ≡ fault.LockAcquire → ⊥) → told ≡ fault.LockAcquire → ⊥
after_no_lock error told after none = or_after (λ e. e ≡ fault.LockAcquire → ⊥) error told after (λ is. cc) (λ is. cc) none

pub some_edit : (l : Logging) (b : Base) (tree : Tree) (may : Type 0) (edits : List RefEdit) (error : PrepareError) → SomeEditFault l b tree may edits error → IsOfEdit error
some_edit l b tree may edits error (edit, among, full, h) = of_edit l (has_log b tree edit.name) may edit error h
