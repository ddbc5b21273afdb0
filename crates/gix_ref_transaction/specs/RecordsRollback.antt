-- What is left of the lock of packed records after an error.
use Rattle.std.specs.Prelude.{ℕ, ◌≡◌, ◌⊎◌}
use Rattle.gix_ref_file.specs.Tree.{Tree}
use Rattle.gix_ref_file.specs.Changes.{is_file_at}
use Rattle.gix_ref_file.specs.History.{HasRisen}
use Rattle.gix_ref_way.specs.Ways.{Bytes}
use Rattle.gix_ref_lock.specs.PackedErrors.{IsShort, IsUnprepared}
use Rattle.gix_ref_transaction.specs.declared.repacking.error.RepackError.{RepackError}
use Rattle.gix_ref_transaction.specs.declared.repacking.error.RepackError.TheVariants.{PackedTransactionAcquire, PackedTransactionPrepare, Resolve, Memory}

-- the error came before the lock was to be made
abbrev pub IsEarly : RepackError → Type 0
IsEarly (PackedTransactionAcquire error) = ⊥
IsEarly (PackedTransactionPrepare error) = ⊥
IsEarly (Resolve error) = Unit {0}
IsEarly Memory = Unit {0}

-- memory ran out for the lock, or for its text
abbrev pub WantsMemory : RepackError → Type 0
WantsMemory (PackedTransactionAcquire error) = IsShort error
WantsMemory (PackedTransactionPrepare error) = IsUnprepared error
WantsMemory (Resolve error) = ⊥
WantsMemory Memory = Unit {0}

-- its removal may have failed: a failure was counted, or memory ran out
abbrev pub MayStay : ℕ → ℕ → RepackError → Type 0
MayStay before now (PackedTransactionAcquire error) = HasRisen before now ⊎ IsShort error
MayStay before now (PackedTransactionPrepare error) = HasRisen before now ⊎ IsUnprepared error
MayStay before now (Resolve error) = ⊥
MayStay before now Memory = ⊥

-- there is a file at the lock's path exactly if there was one before, unless its removal failed
abbrev pub IsRolledBack : Bytes → ℕ → ℕ → Tree → Tree → RepackError → Type 0
IsRolledBack lock before now old new error =
    (is_file_at new lock ≡ is_file_at old lock) ⊎ MayStay before now error
