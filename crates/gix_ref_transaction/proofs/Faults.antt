-- Why edits aren't locked, by why one of their steps fails.
use Rattle.std.proofs.Common.{◌≡◌, refl, List}
use Rattle.gix_ref_file.specs.Tree.{Tree}
use Rattle.gix_ref_edit.specs.declared.change.RefEdit.{RefEdit}
use Rattle.gix_ref_format.specs.declared.packed.buffer.Error.TheVariants as opening
use Rattle.gix_ref_lock.specs.declared.packed.Error.{Error as LockError}
use Rattle.gix_ref_lock.specs.declared.packed.Error.TheVariants.{BufferOpen, TransactionLock}
use Rattle.gix_ref_lock.specs.declared.packed.LockError.TheVariants as locking
use Rattle.gix_ref_lock.specs.declared.packed.PrepareError.TheVariants as writing
use Rattle.gix_ref_transaction.specs.declared.repacking.error.RepackError.{RepackError}
use Rattle.gix_ref_transaction.specs.declared.repacking.error.RepackError.TheVariants as repack
use Rattle.gix_ref_store.specs.Places.{Base}
use Rattle.gix_ref_transaction.specs.Causes.{LockFault, SomeEditFault}
use Rattle.gix_ref_transaction.specs.Errors.{IsAfter, of_locking, of_repacking}
use Rattle.gix_ref_transaction.specs.Locking.{AreLockable}
use Rattle.gix_ref_transaction.specs.LogLines.{Logging}
use Rattle.gix_ref_transaction.specs.declared.error.PrepareError.{PrepareError}
use Rattle.gix_ref_transaction.specs.declared.error.PrepareError.TheVariants as fault
use Rattle.gix_ref_transaction.proofs.Counting.{or_after}

module _ (l : Logging) (b : Base) (tree : Tree) (may : Type 0) (edits : List RefEdit) where
  by_locks : (error : LockError) → LockFault l b tree may edits (of_locking error)
  by_locks (BufferOpen opening.Memory) = tt
  by_locks (BufferOpen opening.Io) = λ short. short
  by_locks (BufferOpen opening.HeaderParsing) = λ short. short
  by_locks (BufferOpen (opening.Iter number)) = λ short. short
  by_locks (TransactionLock locking.Memory) = tt
  by_locks (TransactionLock locking.Held) = λ short. short
  by_locks (TransactionLock locking.Failed) = λ short. short

  pub by_records : (error : RepackError) → LockFault l b tree may edits (of_repacking error)
  by_records (repack.PackedTransactionAcquire e) = by_locks e
  by_records (repack.PackedTransactionPrepare writing.Memory) = tt
  by_records (repack.PackedTransactionPrepare writing.CloseLock) = λ short. short
  by_records (repack.Resolve e) = tt
  by_records repack.Memory = tt

  pub by_edit : (error : PrepareError) → (error ≡ fault.LockAcquire → ¬ AreLockable b tree edits) → SomeEditFault l b tree may edits error → LockFault l b tree may edits error
  by_edit (fault.Packed e) none (edit, among, full, h) = absurd h
  by_edit (fault.PackedTransactionAcquire e) none (edit, among, full, h) = absurd h
  by_edit (fault.PackedTransactionPrepare e) none (edit, among, full, h) = absurd h
  by_edit (fault.PreprocessingFailed e) none (edit, among, full, h) = absurd h
  by_edit fault.SamePlace none (edit, among, full, h) = absurd h
  by_edit fault.Uncomposed none (edit, among, full, h) = absurd h
  by_edit fault.LockAcquire none h = none refl
  by_edit fault.Io none h = tt
  by_edit (fault.Refused e) none h = h
  by_edit (fault.ReferenceDecode e) none h = h
  by_edit (fault.CreateOrUpdateRefLog e) none h = h
  by_edit (fault.Resolve e) none (edit, among, full, h) = absurd h
  by_edit fault.Memory none h = tt

  -- and then their locks were given back
  pub by_all : (error told : PrepareError) → IsAfter error told → (error ≡ fault.LockAcquire → ¬ AreLockable b tree edits) → SomeEditFault l b tree may edits error → LockFault l b tree may edits told
  by_all error told after none (edit, among, full, h) =
      or_after (LockFault l b tree may edits) error told after tt tt (by_edit error none (edit, among, full, h))
