-- Which errors of transactions of `packed-refs` say that memory was wanting, and those of files as
-- theirs.
use Rattle.gix_ref_file.specs.declared.files.FileError as files
use Rattle.gix_ref_file.specs.declared.files.FileError.TheVariants as file_case
use Rattle.gix_ref_format.specs.declared.packed.buffer.Error.TheVariants as open_case
use Rattle.gix_ref_lock.specs.declared.packed.LockError.TheVariants as lock_case
use Rattle.gix_ref_lock.specs.declared.packed.Error.{Error}
use Rattle.gix_ref_lock.specs.declared.packed.Error.TheVariants.{BufferOpen, TransactionLock}
use Rattle.gix_ref_lock.specs.declared.packed.PrepareError.{PrepareError}
use Rattle.gix_ref_lock.specs.declared.packed.PrepareError.TheVariants as prepare_case
use Rattle.gix_ref_lock.specs.declared.packed.CommitError.{CommitError}
use Rattle.gix_ref_lock.specs.declared.packed.CommitError.TheVariants as commit_case

-- no transaction was begun, for want of memory
abbrev pub IsShort : Error → Type 0
IsShort (BufferOpen open_case.Memory) = Unit {0}
IsShort (BufferOpen (open_case.Iter number)) = ⊥
IsShort (BufferOpen open_case.HeaderParsing) = ⊥
IsShort (BufferOpen open_case.Io) = ⊥
IsShort (TransactionLock lock_case.Memory) = Unit {0}
IsShort (TransactionLock lock_case.Held) = ⊥
IsShort (TransactionLock lock_case.Failed) = ⊥

-- none was prepared, for want of memory
abbrev pub IsUnprepared : PrepareError → Type 0
IsUnprepared prepare_case.Memory = Unit {0}
IsUnprepared prepare_case.CloseLock = ⊥

-- none was committed or rolled back, for want of memory
abbrev pub IsUncommitted : CommitError → Type 0
IsUncommitted commit_case.Memory = Unit {0}
IsUncommitted commit_case.Commit = ⊥

abbrev pub as_prepare : files.FileError → PrepareError
as_prepare file_case.Failed = prepare_case.CloseLock
as_prepare file_case.Memory = prepare_case.Memory

abbrev pub as_commit : files.FileError → CommitError
as_commit file_case.Failed = commit_case.Commit
as_commit file_case.Memory = commit_case.Memory
