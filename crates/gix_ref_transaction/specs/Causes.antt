-- Why a transaction isn't prepared.
use Rattle.std.specs.Prelude.{◌≡◌, ◌⊎◌, Bool, true, false, List, Option, Some, None, option_map, Ok, Contains, IsTrue}
use Rattle.std.specs.List.{list_all}
use Rattle.bstr.specs.BStr.{bstr_bytes}
use Rattle.gix_hash.specs.Id.{Id}
use Rattle.gix_object_lines.specs.Actor.{IsSpellable, TellsTime}
use Rattle.gix_object_lines.specs.Bytes.{Lacks}
use Rattle.gix_object_lines.specs.NameTest.{is_full_name}
use Rattle.gix_object_lines.specs.Time.{SpellsTime}
use Rattle.gix_object_lines.specs.declared.lines.actor.ActorRef.{ActorRef}
use Rattle.gix_object_lines.specs.declared.lines.time.Time.{Time}
use Rattle.gix_ref_file.specs.Tree.{Tree, is_path}
use Rattle.gix_ref_name.specs.Targets.{Points, ToObject, ToName, target_view}
use Rattle.gix_ref_edit.specs.Ready.{PreFault}
use Rattle.gix_ref_edit.specs.declared.change.Change.{Change}
use Rattle.gix_ref_edit.specs.declared.change.Change.TheVariants.{Update, Delete}
use Rattle.gix_ref_edit.specs.declared.change.PreviousValue.{PreviousValue}
use Rattle.gix_ref_edit.specs.declared.change.PreviousValue.TheVariants as asks
use Rattle.gix_ref_edit.specs.declared.change.RefEdit.{RefEdit}
use Rattle.gix_ref_edit.specs.declared.ext.PreProcessError.{PreProcessError}
use Rattle.gix_ref_edit.specs.declared.ext.PreProcessError.TheVariants.{Split, Twice}
use Rattle.gix_ref_edit.specs.declared.log.LogChange.{LogChange}
use Rattle.gix_ref_edit.specs.declared.names.TwiceError.TheVariants as twice
use Rattle.gix_ref_edit.specs.declared.splits.SplitError.TheVariants as splitting
use Rattle.gix_ref_format.specs.PackedBuffer.{FileFault}
use Rattle.gix_ref_lock.specs.PackedErrors.{IsShort, IsUnprepared}
use Rattle.gix_ref_log.specs.declared.line.Line.{Line}
use Rattle.gix_ref_format.specs.declared.packed.buffer.Error.TheVariants as opening
use Rattle.gix_ref_lock.specs.declared.act.LogError.{LogError}
use Rattle.gix_ref_lock.specs.declared.act.LogError.TheVariants.{CreateLeadingDirectories, Append, MessageWithNewlines, MissingCommitter, Unspellable}
use Rattle.gix_ref_store.specs.Finds.{TellsState}
use Rattle.gix_ref_store.specs.Places.{Base}
use Rattle.gix_ref_store.specs.RefStates.{RefState, Faulty, InFile, packed_text_in}
use Rattle.gix_ref_store.specs.declared.reference.Reference.{Reference}
use Rattle.gix_ref_store.specs.declared.store.file.find.Error.{Error as FindError}
use Rattle.gix_ref_store.specs.declared.store.file.find.Error.TheVariants as find
use Rattle.gix_ref_store.specs.declared.store.file.find.ExistingError.TheVariants as existing
use Rattle.gix_ref_store.specs.declared.store.file.follow.Error.{Error as FollowError}
use Rattle.gix_ref_store.specs.declared.store.file.follow.Error.TheVariants as follow
use Rattle.gix_ref_transaction.specs.Resolving.{SomeChangeFault}
use Rattle.gix_ref_store.specs.declared.store.file.peel.Error.{Error as PeelError}
use Rattle.gix_ref_way.specs.Ways.{Bytes}
use Rattle.gix_ref_transaction.specs.Asked.{MeetsOf, points_of}
use Rattle.gix_ref_transaction.specs.Found.{points_at}
use Rattle.gix_ref_transaction.specs.LogLines.{Logging, adds_line, has_log}
use Rattle.gix_ref_transaction.specs.Errors.{of_opening}
use Rattle.gix_ref_transaction.specs.Locking.{AreLockable, are_known}
use Rattle.gix_ref_transaction.specs.Paths.{edit_paths, has_twice}
use Rattle.gix_ref_transaction.specs.Plans.{AreSplit}
use Rattle.gix_ref_transaction.specs.declared.asked.Refusal.{Refusal}
use Rattle.gix_ref_transaction.specs.declared.asked.Refusal.TheVariants.{DeleteReferenceMustExist, DeleteMustNotExist, MustExist, MustNotExist, ReferenceOutOfDate}
use Rattle.gix_ref_transaction.specs.declared.error.PrepareError.{PrepareError}
use Rattle.gix_ref_transaction.specs.declared.error.PrepareError.TheVariants.{Packed, PackedTransactionAcquire, PackedTransactionPrepare, PreprocessingFailed, SamePlace, Uncomposed, LockAcquire, Io, Refused, ReferenceDecode, CreateOrUpdateRefLog, Resolve, Memory}

-- ---- a reference isn't as its edit expects

-- of a deletion, by whether the reference exists
abbrev pub refused_deletion : PreviousValue → Option Points → Refusal
refused_deletion asks.MustNotExist found = DeleteMustNotExist
refused_deletion asks.Any None = DeleteReferenceMustExist
refused_deletion asks.MustExist None = DeleteReferenceMustExist
refused_deletion (asks.MustExistAndMatch stated) None = DeleteReferenceMustExist
refused_deletion (asks.ExistingMustMatch stated) None = DeleteReferenceMustExist
refused_deletion asks.Any (Some found) = ReferenceOutOfDate
refused_deletion asks.MustExist (Some found) = ReferenceOutOfDate
refused_deletion (asks.MustExistAndMatch stated) (Some found) = ReferenceOutOfDate
refused_deletion (asks.ExistingMustMatch stated) (Some found) = ReferenceOutOfDate

abbrev pub refused_update : PreviousValue → Option Points → Refusal
refused_update expected None = MustExist
refused_update asks.MustNotExist (Some found) = MustNotExist
refused_update asks.Any (Some found) = ReferenceOutOfDate
refused_update asks.MustExist (Some found) = ReferenceOutOfDate
refused_update (asks.MustExistAndMatch stated) (Some found) = ReferenceOutOfDate
refused_update (asks.ExistingMustMatch stated) (Some found) = ReferenceOutOfDate

abbrev pub refused : Change → Option Points → Refusal
refused (Update log expected new) found = refused_update expected found
refused (Delete expected log) found = refused_deletion expected found

-- ---- a log's line can't be made

-- the committer's time isn't a time, or its parts have no spelling
abbrev pub HasNoSpelling : ActorRef → Type 0
HasNoSpelling who =
    (¬ TellsTime (bstr_bytes who.time))
    ⊎ ((time : Time) × SpellsTime (bstr_bytes who.time) time
    × ¬ IsSpellable (bstr_bytes who.name) (bstr_bytes who.email) time)

abbrev pub SpellFault : Option ActorRef → Bytes → LogError → Type 0
SpellFault committer message MissingCommitter = committer ≡ None
SpellFault committer message MessageWithNewlines = ¬ Lacks 10 message
SpellFault committer message Unspellable =
    (who : ActorRef) × (committer ≡ Some who) × HasNoSpelling who
SpellFault committer message CreateLeadingDirectories = ⊥
SpellFault committer message Append = ⊥

-- the same of a line that is to be written
abbrev pub WriteFault : Line → LogError → Type 0
WriteFault line MessageWithNewlines = ¬ Lacks 10 line.message
WriteFault line Unspellable =
    ¬ IsSpellable line.signature.name line.signature.email line.signature.time
WriteFault line MissingCommitter = ⊥
WriteFault line CreateLeadingDirectories = ⊥
WriteFault line Append = ⊥

-- an update adds a line, which can't be made
abbrev pub UnlinedUpdate : Logging → Bool → Bytes → LogChange → Points → LogError → Type 0
UnlinedUpdate l stands name log (ToObject after) error =
    (adds_line l stands name log after ≡ true) × SpellFault l.committer log.message error
UnlinedUpdate l stands name log (ToName other) error = ⊥

abbrev pub Unlined : Logging → Bool → Bytes → Change → LogError → Type 0
Unlined l stands name (Update log expected new) error =
    UnlinedUpdate l stands name log (target_view new) error
Unlined l stands name (Delete expected mode) error = ⊥

-- a file couldn't be read, or no memory is left
abbrev pub ReadFault : Type 0 → PrepareError → Type 0
ReadFault may_fail (ReferenceDecode find.ReadFileContents) = may_fail
ReadFault may_fail Memory = Unit {0}
ReadFault may_fail _ = ⊥

-- a committer, a message or a name's log has no line
abbrev pub NoLine : (LogError → Type 0) → PrepareError → Type 0
NoLine Why (CreateOrUpdateRefLog error) = Why error
NoLine Why Memory = Unit {0}
NoLine Why _ = ⊥

abbrev pub LineFault : Logging → Bool → Type 0 → Bytes → Change → PrepareError → Type 0
LineFault l stands may_fail name change error =
    ReadFault may_fail error ⊎ NoLine (Unlined l stands name change) error

-- the error for a chain that couldn't be followed to its end; none if it ends at no object
abbrev pub end_fault : FollowError → Option PrepareError
end_fault follow.Cycle = None
end_fault follow.DepthLimitExceeded = None
end_fault (follow.Follow existing.NotFound) = None
end_fault (follow.Follow (existing.Find (find.ReferenceCreation error))) = None
end_fault (follow.Follow (existing.Find (find.PackedOpen error))) = Some (of_opening error)
end_fault (follow.Follow (existing.Find find.ReadFileContents)) =
    Some (ReferenceDecode find.ReadFileContents)
end_fault (follow.Follow (existing.Find find.Memory)) = Some Memory
end_fault follow.Memory = Some Memory

-- a reference that reads so can't be read
abbrev pub DecodeFault : Type 0 → RefState → FindError → Type 0
DecodeFault may_fail state (find.ReferenceCreation error) = state ≡ Faulty (InFile error)
DecodeFault may_fail state find.ReadFileContents = may_fail
DecodeFault may_fail state (find.PackedOpen error) = ⊥
DecodeFault may_fail state find.Memory = ⊥

-- a reference can't be read, or isn't as its edit expects
abbrev pub TestFault : Type 0 → RefEdit → RefState → PrepareError → Type 0
TestFault may_fail edit state (Refused why) =
    (found : Option Reference) × TellsState edit.name state (Ok found)
    × (¬ MeetsOf edit.change (option_map points_of found))
    × (why ≡ refused edit.change (option_map points_of found))
TestFault may_fail edit state (ReferenceDecode error) = DecodeFault may_fail state error
TestFault may_fail edit state Memory = Unit {0}
TestFault may_fail edit state _ = ⊥

-- ---- one edit, by what its name reads as and whether its log exists
abbrev pub EditFault : Logging → Bool → Type 0 → RefEdit → PrepareError → Type 0
EditFault l stands may_fail edit (Refused why) =
    TestFault may_fail edit (l.read edit.name) (Refused why)
EditFault l stands may_fail edit (ReferenceDecode error) =
    TestFault may_fail edit (l.read edit.name) (ReferenceDecode error)
EditFault l stands may_fail edit (CreateOrUpdateRefLog error) =
    Unlined l stands edit.name edit.change error
EditFault l stands may_fail edit LockAcquire = Unit {0}
EditFault l stands may_fail edit Io = Unit {0}
EditFault l stands may_fail edit Memory = Unit {0}
EditFault l stands may_fail edit _ = ⊥

-- one of the edits is refused
abbrev pub SomeEditFault : Logging → Base → Tree → Type 0 → List RefEdit → PrepareError → Type 0
SomeEditFault l b tree may_fail edits error =
    (edit : RefEdit) × Contains edits edit × IsTrue (is_full_name edit.name)
    × EditFault l (has_log b tree edit.name) may_fail edit error

-- ---- all edits

-- those of symbolic references aren't split, or two are of one name
abbrev pub SplittingFault : (Bytes → RefState) → Type 0 → List RefEdit → PreProcessError → Type 0
SplittingFault read may_fail asked (Split splitting.Memory) = ⊥
SplittingFault read may_fail asked (Twice twice.Memory) = ⊥
SplittingFault read may_fail asked error =
    (edits : List RefEdit)
    × PreFault (Unit {0}) may_fail (λ name. points_at (read name)) asked edits error

-- they aren't made ready: those of symbolic references aren't split, two are of one name or path, a
-- name isn't composed, or a path is none
abbrev pub ReadyFault : (Bytes → RefState) → Base → Bool → Tree → Type 0 → List RefEdit → PrepareError
    → Type 0
ReadyFault read b composes tree may_fail asked (PreprocessingFailed error) =
    SplittingFault read may_fail asked error
ReadyFault read b composes tree may_fail asked SamePlace =
    (edits : List RefEdit) × AreSplit read asked edits × (has_twice (edit_paths b edits) ≡ true)
ReadyFault read b composes tree may_fail asked Uncomposed =
    (edits : List RefEdit) × AreSplit read asked edits × (are_known composes edits ≡ false)
ReadyFault read b composes tree may_fail asked LockAcquire =
    (edits : List RefEdit) × AreSplit read asked edits × ¬ AreLockable b tree edits
ReadyFault read b composes tree may_fail asked Memory = Unit {0}
ReadyFault read b composes tree may_fail asked _ = ⊥

-- the names or the paths of edits aren't allowed
abbrev pub NotAllowed : Base → Bool → List RefEdit → PrepareError → Type 0
NotAllowed b composes edits Uncomposed = are_known composes edits ≡ false
NotAllowed b composes edits SamePlace = has_twice (edit_paths b edits) ≡ true
NotAllowed b composes edits LockAcquire = list_all is_path (edit_paths b edits) ≡ false
NotAllowed b composes edits Memory = Unit {0}
NotAllowed b composes edits _ = ⊥

-- they aren't locked: packed records aren't, an edit is refused, or a lock can't be made
abbrev pub LockFault : Logging → Base → Tree → Type 0 → List RefEdit → PrepareError → Type 0
LockFault l b tree may_fail edits (PackedTransactionAcquire error) = ¬ IsShort error
LockFault l b tree may_fail edits (PackedTransactionPrepare error) = ¬ IsUnprepared error
LockFault l b tree may_fail edits (Resolve error) = Unit {0}
LockFault l b tree may_fail edits (Refused why) =
    SomeEditFault l b tree may_fail edits (Refused why)
LockFault l b tree may_fail edits (ReferenceDecode error) =
    SomeEditFault l b tree may_fail edits (ReferenceDecode error)
LockFault l b tree may_fail edits (CreateOrUpdateRefLog error) =
    SomeEditFault l b tree may_fail edits (CreateOrUpdateRefLog error)
LockFault l b tree may_fail edits LockAcquire = ¬ AreLockable b tree edits
LockFault l b tree may_fail edits Io = Unit {0}
LockFault l b tree may_fail edits Memory = Unit {0}
LockFault l b tree may_fail edits _ = ⊥

-- packed references can't be opened
abbrev pub OpenFault : Base → Tree → Type 0 → PrepareError → Type 0
OpenFault b tree may_fail (Packed opening.Memory) = ⊥
OpenFault b tree may_fail (Packed error) =
    FileFault b.kind (packed_text_in b tree) error × (error ≡ opening.Io → may_fail)
OpenFault b tree may_fail Memory = Unit {0}
OpenFault b tree may_fail _ = ⊥

-- why one isn't prepared if packed references are given
abbrev pub GivenFault : Logging → Base → Bool → Tree → Type 0 → List RefEdit → PrepareError → Type 0
GivenFault l b composes tree may_fail asked error =
    ReadyFault l.read b composes tree may_fail asked error
    ⊎ ((edits : List RefEdit) × AreSplit l.read asked edits × LockFault l b tree may_fail edits error)

-- why a transaction of these edits isn't prepared
abbrev pub PrepareFault : Logging → Base → Bool → Tree → Type 0 → List RefEdit → PrepareError
    → Type 0
PrepareFault l b composes tree may_fail asked error =
    OpenFault b tree may_fail error ⊎ GivenFault l b composes tree may_fail asked error

-- ---- no object is found whose id a record is to hold

abbrev pub Unresolved : (PeelError → Type 0) → PrepareError → Type 0
Unresolved Why (Resolve error) = Why error
Unresolved Why _ = Unit {0}

abbrev pub IfUnresolved : (Bytes → RefState) → (Id → PeelError → Type 0) → List RefEdit → PrepareError
    → Type 0
IfUnresolved read why asked (Resolve error) =
    (edits : List RefEdit) × AreSplit read asked edits × SomeChangeFault why edits error
IfUnresolved read why asked _ = Unit {0}
