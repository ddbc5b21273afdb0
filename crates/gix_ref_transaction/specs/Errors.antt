-- The errors of the steps, as those of a transaction that isn't prepared: want of memory is always
-- `Memory`. Which of them say that a change of the files failed.
use Rattle.std.specs.Prelude.{ℕ, ◌≡◌, ◌⊎◌}
use Rattle.gix_ref_file.specs.declared.files.FileError.{FileError}
use Rattle.gix_ref_file.specs.declared.files.FileError.TheVariants as file_case
use Rattle.gix_ref_edit.specs.declared.ext.PreProcessError.{PreProcessError}
use Rattle.gix_ref_edit.specs.declared.ext.PreProcessError.TheVariants.{Split, Twice}
use Rattle.gix_ref_edit.specs.declared.names.TwiceError.TheVariants as twice
use Rattle.gix_ref_edit.specs.declared.splits.SplitError.TheVariants as splitting
use Rattle.gix_ref_file.specs.History.{HasRisen}
use Rattle.gix_ref_format.specs.declared.packed.buffer.Error.{Error as OpenError}
use Rattle.gix_ref_format.specs.declared.packed.buffer.Error.TheVariants as opening
use Rattle.gix_ref_lock.specs.declared.lock.GivenBack.{GivenBack}
use Rattle.gix_ref_lock.specs.declared.lock.GivenBack.TheVariants as given
use Rattle.gix_ref_lock.specs.declared.packed.Error.{Error as LockError}
use Rattle.gix_ref_lock.specs.declared.packed.Error.TheVariants.{BufferOpen, TransactionLock}
use Rattle.gix_ref_lock.specs.declared.packed.LockError.TheVariants as locking
use Rattle.gix_ref_lock.specs.declared.packed.PrepareError.TheVariants as writing
use Rattle.gix_ref_transaction.specs.declared.repacking.error.RepackError.{RepackError}
use Rattle.gix_ref_transaction.specs.declared.repacking.error.RepackError.TheVariants as repack
use Rattle.gix_ref_store.specs.declared.store.file.find.Error.{Error as FindError}
use Rattle.gix_ref_store.specs.declared.store.file.find.Error.TheVariants as find
use Rattle.gix_ref_transaction.specs.declared.error.PrepareError.{PrepareError}
use Rattle.gix_ref_transaction.specs.declared.error.PrepareError.TheVariants.{Packed, PackedTransactionAcquire, PackedTransactionPrepare, PreprocessingFailed, LockAcquire, Io, ReferenceDecode, Resolve, Memory}

abbrev pub of_opening : OpenError → PrepareError
of_opening opening.Memory = Memory
of_opening opening.Io = Packed opening.Io
of_opening opening.HeaderParsing = Packed opening.HeaderParsing
of_opening (opening.Iter number) = Packed (opening.Iter number)

abbrev pub of_finding : FindError → PrepareError
of_finding find.Memory = Memory
of_finding find.ReadFileContents = ReferenceDecode find.ReadFileContents
of_finding (find.ReferenceCreation error) = ReferenceDecode (find.ReferenceCreation error)
of_finding (find.PackedOpen error) = of_opening error

abbrev pub of_splitting : PreProcessError → PrepareError
of_splitting (Split splitting.Memory) = Memory
of_splitting (Split splitting.Find) = PreprocessingFailed (Split splitting.Find)
of_splitting (Split splitting.Cycle) = PreprocessingFailed (Split splitting.Cycle)
of_splitting (Twice twice.Memory) = Memory
of_splitting (Twice (twice.Name name)) = PreprocessingFailed (Twice (twice.Name name))

abbrev pub of_locking : LockError → PrepareError
of_locking (BufferOpen opening.Memory) = Memory
of_locking (BufferOpen opening.Io) = PackedTransactionAcquire (BufferOpen opening.Io)
of_locking (BufferOpen opening.HeaderParsing) = PackedTransactionAcquire (BufferOpen opening.HeaderParsing)
of_locking (BufferOpen (opening.Iter number)) = PackedTransactionAcquire (BufferOpen (opening.Iter number))
of_locking (TransactionLock locking.Memory) = Memory
of_locking (TransactionLock locking.Held) = PackedTransactionAcquire (TransactionLock locking.Held)
of_locking (TransactionLock locking.Failed) = PackedTransactionAcquire (TransactionLock locking.Failed)

abbrev pub of_repacking : RepackError → PrepareError
of_repacking (repack.PackedTransactionAcquire error) = of_locking error
of_repacking (repack.PackedTransactionPrepare writing.Memory) = Memory
of_repacking (repack.PackedTransactionPrepare writing.CloseLock) =
    PackedTransactionPrepare writing.CloseLock
of_repacking (repack.Resolve error) = Resolve error
of_repacking repack.Memory = Memory

abbrev pub of_file : FileError → PrepareError
of_file file_case.Failed = Io
of_file file_case.Memory = Memory

-- ---- after the locks were given back

abbrev pub unless_failed : PrepareError → PrepareError → PrepareError
unless_failed Io other = Io
unless_failed _ other = other

abbrev pub after_giving : GivenBack → PrepareError → PrepareError
after_giving given.Done error = error
after_giving given.Failed error = Io
after_giving given.Memory error = unless_failed error Memory

-- it is this error, or one of giving locks back
abbrev pub IsAfter : PrepareError → PrepareError → Type 0
IsAfter error told = (told ≡ error) ⊎ ((told ≡ Io) ⊎ (told ≡ Memory))

-- it may be that a lock couldn't be given back, though no failure was counted
abbrev pub MayStay : PrepareError → Type 0
MayStay Memory = Unit {0}
MayStay _ = ⊥

-- the same, or one was
abbrev pub MayBeLeft : PrepareError → Type 0
MayBeLeft Io = Unit {0}
MayBeLeft Memory = Unit {0}
MayBeLeft _ = ⊥

-- ---- what they count

-- a change of the files failed, which was counted
abbrev pub Counts : ℕ → ℕ → PrepareError → Type 0
Counts before now Io = HasRisen before now
Counts before now _ = Unit {0}

-- no change of the files failed, as for want of memory; those of packed records may be for one
abbrev pub IsQuiet : PrepareError → Type 0
IsQuiet Io = ⊥
IsQuiet (PackedTransactionAcquire error) = ⊥
IsQuiet (PackedTransactionPrepare error) = ⊥
IsQuiet _ = Unit {0}

-- it isn't one of packed records
abbrev pub IsOfEdit : PrepareError → Type 0
IsOfEdit (PackedTransactionPrepare error) = ⊥
IsOfEdit (PackedTransactionAcquire error) = ⊥
IsOfEdit (Resolve error) = ⊥
IsOfEdit _ = Unit {0}

-- the lock of a file isn't made: may_fail says whether readings may fail
abbrev pub TakeFault : Type 0 → PrepareError → Type 0
TakeFault may_fail LockAcquire = Unit {0}
TakeFault may_fail Io = Unit {0}
TakeFault may_fail Memory = Unit {0}
TakeFault may_fail (ReferenceDecode find.ReadFileContents) = may_fail
TakeFault may_fail _ = ⊥

-- it is one of packed records
abbrev pub IsOfRecords : PrepareError → Type 0
IsOfRecords (PackedTransactionPrepare error) = Unit {0}
IsOfRecords (PackedTransactionAcquire error) = Unit {0}
IsOfRecords _ = ⊥
