-- The errors of transactions as those of file calls: want of memory is `Memory`, and all else is
-- `Failed`.
use Rattle.std.specs.Prelude.{Result, Ok, Err}
use Rattle.gix_ref_file.specs.declared.files.FileError.{FileError}
use Rattle.gix_ref_file.specs.declared.files.FileError.TheVariants as file_case
use Rattle.gix_ref_format.specs.declared.packed.buffer.Error.{Error as OpenError}
use Rattle.gix_ref_format.specs.declared.packed.buffer.Error.TheVariants as opening
use Rattle.gix_ref_edit.specs.declared.ext.PreProcessError.{PreProcessError}
use Rattle.gix_ref_edit.specs.declared.ext.PreProcessError.TheVariants.{Split, Twice}
use Rattle.gix_ref_edit.specs.declared.names.TwiceError.TheVariants as twice
use Rattle.gix_ref_edit.specs.declared.splits.SplitError.TheVariants as splitting
use Rattle.gix_ref_lock.specs.declared.packed.CommitError.{CommitError as PackedError}
use Rattle.gix_ref_lock.specs.declared.packed.CommitError.TheVariants as packed_case
use Rattle.gix_ref_lock.specs.declared.act.CommitError.{CommitError}
use Rattle.gix_ref_lock.specs.declared.act.CommitError.TheVariants as moving
use Rattle.gix_ref_store.specs.declared.store.file.find.Error.{Error as FindError}
use Rattle.gix_ref_store.specs.declared.store.file.find.Error.TheVariants as find
use Rattle.gix_ref_store.specs.declared.store.file.find.ExistingError.TheVariants as existing
use Rattle.gix_ref_store.specs.declared.store.file.iter.Error.{Error as ListError}
use Rattle.gix_ref_store.specs.declared.store.file.iter.Error.TheVariants as listing
use Rattle.gix_ref_store.specs.declared.store.file.follow.Error.{Error as FollowError}
use Rattle.gix_ref_store.specs.declared.store.file.follow.Error.TheVariants as follow
use Rattle.gix_ref_store.specs.declared.store.file.peel.Error.{Error as PeelError}
use Rattle.gix_ref_store.specs.declared.store.file.peel.Error.TheVariants as peel
use Rattle.gix_object_lookup.specs.declared.find.Error.TheVariants as lookup
use Rattle.gix_ref_transaction.specs.declared.error.PrepareError.{PrepareError}
use Rattle.gix_ref_transaction.specs.declared.error.PrepareError.TheVariants.{Packed, PackedTransactionAcquire, PackedTransactionPrepare, PreprocessingFailed, SamePlace, Uncomposed, LockAcquire, Io, Refused, ReferenceDecode, CreateOrUpdateRefLog, Resolve, Memory}

-- `packed-refs` isn't opened
abbrev pub of_opening : OpenError → FileError
of_opening opening.Memory = file_case.Memory
of_opening opening.Io = file_case.Failed
of_opening opening.HeaderParsing = file_case.Failed
of_opening (opening.Iter number) = file_case.Failed

-- a name isn't found
abbrev pub of_finding : FindError → FileError
of_finding find.Memory = file_case.Memory
of_finding find.ReadFileContents = file_case.Failed
of_finding (find.ReferenceCreation error) = file_case.Failed
of_finding (find.PackedOpen error) = of_opening error

-- names aren't listed; a listing goes on after a file that names no target
abbrev pub passing_over : ListError → Result (Unit {0}) FileError
passing_over (listing.ReferenceCreation name reason) = Ok tt
passing_over listing.Memory = Err file_case.Memory
passing_over listing.Traversal = Err file_case.Failed
passing_over (listing.ReadFileContents name) = Err file_case.Failed

-- names aren't followed to an object
abbrev pub of_following : FollowError → FileError
of_following (follow.Follow existing.NotFound) = file_case.Failed
of_following (follow.Follow (existing.Find error)) = of_finding error
of_following follow.Cycle = file_case.Failed
of_following follow.DepthLimitExceeded = file_case.Failed
of_following follow.Memory = file_case.Memory

-- an id isn't followed to an object that is no tag
abbrev pub of_peeling : PeelError → FileError
of_peeling (peel.FollowToObject error) = of_following error
of_peeling (peel.Find lookup.Failed) = file_case.Failed
of_peeling (peel.Find lookup.Memory) = file_case.Memory
of_peeling (peel.NotFound oid) = file_case.Failed
of_peeling peel.Memory = file_case.Memory

-- edits aren't split
abbrev pub of_splitting : PreProcessError → FileError
of_splitting (Split splitting.Memory) = file_case.Memory
of_splitting (Split splitting.Find) = file_case.Failed
of_splitting (Split splitting.Cycle) = file_case.Failed
of_splitting (Twice twice.Memory) = file_case.Memory
of_splitting (Twice (twice.Name name)) = file_case.Failed

-- no transaction is prepared
abbrev pub of_preparing : PrepareError → FileError
of_preparing Memory = file_case.Memory
of_preparing (Packed error) = of_opening error
of_preparing (ReferenceDecode error) = of_finding error
of_preparing (PreprocessingFailed error) = of_splitting error
of_preparing (PackedTransactionAcquire error) = file_case.Failed
of_preparing (PackedTransactionPrepare error) = file_case.Failed
of_preparing SamePlace = file_case.Failed
of_preparing Uncomposed = file_case.Failed
of_preparing LockAcquire = file_case.Failed
of_preparing Io = file_case.Failed
of_preparing (Refused why) = file_case.Failed
of_preparing (CreateOrUpdateRefLog error) = file_case.Failed
of_preparing (Resolve error) = of_peeling error

-- `packed-refs` isn't replaced
abbrev pub of_replacing : PackedError → FileError
of_replacing packed_case.Memory = file_case.Memory
of_replacing packed_case.Commit = file_case.Failed

-- none is committed
abbrev pub of_committing : CommitError → FileError
of_committing moving.Memory = file_case.Memory
of_committing (moving.PackedTransactionCommit error) = of_replacing error
of_committing moving.LockCommit = file_case.Failed
of_committing moving.DeleteReference = file_case.Failed
of_committing moving.DeleteReflog = file_case.Failed
of_committing (moving.CreateOrUpdateRefLog error) = file_case.Failed
