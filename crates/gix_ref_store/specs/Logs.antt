-- What calls return of a name's log.
use Rattle.std.specs.Prelude.{ℕ, ◌≡◌, List, Option, Some, None}
use Rattle.std.specs.Prelude.{reverse as reversed}
use Rattle.gix_ref_file.specs.Tree.{Tree, node_at, bytes_of}
use Rattle.gix_ref_file.specs.declared.files.FileError.{FileError}
use Rattle.gix_ref_file.specs.declared.files.FileError.TheVariants as files
use Rattle.gix_ref_log.specs.LogLine.{split_lines}
use Rattle.gix_ref_log.specs.LogForward.{Lines}
use Rattle.gix_ref_log.specs.LogBackward.{Stand, StandsAt}
use Rattle.gix_ref_log.specs.declared.iter.error.IoError.TheVariants as io
use Rattle.gix_ref_store.specs.Places.{log_place}
use Rattle.gix_ref_store.specs.Stores.{base_of}
use Rattle.gix_ref_store.specs.declared.store.file.Store.{Store}
use Rattle.gix_ref_store.specs.declared.store.file.log.Error.{Error}
use Rattle.gix_ref_store.specs.declared.store.file.log.Error.TheVariants.{Io, Memory}

-- the bytes of a name's log in this tree
abbrev pub log_text : {F : Type 0} → Store F → Tree → List ℕ → Option (List ℕ)
log_text store tree name = bytes_of (node_at tree (log_place (base_of store) name))

-- the lines of the log from its beginning, and nothing if there is none
abbrev pub ReadsForward : Option (List ℕ) → Option Lines → Type 0
ReadsForward None None = Unit {0}
ReadsForward (Some text) (Some lines) = lines ≡ record { left = split_lines text; given = 0 }
ReadsForward None (Some lines) = ⊥
ReadsForward (Some text) None = ⊥

-- the lines of the log from its end, and nothing if there is none
abbrev pub ReadsBackward : Option (List ℕ) → Option Stand → Type 0
ReadsBackward None None = Unit {0}
ReadsBackward (Some text) (Some stand) = StandsAt text stand (reversed (split_lines text))
ReadsBackward None (Some stand) = ⊥
ReadsBackward (Some text) None = ⊥

-- Why a log isn't read from its end. A failed reading is reported only if a reading may fail, a
-- short one only if readings don't return what the tree has (`Untold`), and a missing buffer only
-- if it is `Empty`.
abbrev pub BackFault : Type 0 → Type 0 → Type 0 → Error → Type 0
BackFault may_fail Untold Empty Memory = Unit {0}
BackFault may_fail Untold Empty (Io (io.Reader files.Failed)) = may_fail
BackFault may_fail Untold Empty (Io (io.Reader files.Memory)) = ⊥
BackFault may_fail Untold Empty (Io io.Short) = Untold
BackFault may_fail Untold Empty (Io io.NoBuffer) = Empty
BackFault may_fail Untold Empty (Io io.LineTooLong) = ⊥

-- why it isn't read from its beginning, or isn't looked for
abbrev pub MayTell : Type 0 → Error → Type 0
MayTell may_fail error = BackFault may_fail ⊥ ⊥ error

-- the error for a failed call of files
abbrev pub told_of : FileError → Error
told_of files.Failed = Io (io.Reader files.Failed)
told_of files.Memory = Memory
