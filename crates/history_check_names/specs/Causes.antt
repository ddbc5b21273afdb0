-- Why a names part isn't a repository's.
use Rattle.std.specs.Prelude.{◌≡◌, ◌≢◌, ◌⊎◌, ⊤, ℕ, Bool, ◌||◌, Option, Some, None, Result, IfErr, Vec, bytes_eq, IsTrue, IsFalse}
use Rattle.std.specs.List.{Contains}
use Rattle.std.specs.FinMap.{get}
use Rattle.std.specs.declared.alloc.Global.{Global}
use Rattle.gix_hash.specs.Id.{id_of}
use Rattle.gix_hash.specs.declared.kind.Kind.{Kind}
use Rattle.gix_hash.specs.declared.object_id.ObjectId.{ObjectId}
use Rattle.gix_object_lines.specs.declared.kind.Kind.{Kind as ObjectKind}
use Rattle.gix_ref_file.specs.Changes.{is_file_at}
use Rattle.gix_ref_file.specs.Tree.{Tree, bytes_at, is_folder}
use Rattle.gix_ref_format.specs.Packed.{Record}
use Rattle.history_model.specs.Bytes.{Bytes, begins}
use Rattle.history_model.specs.FileMap.{is_below}
use Rattle.history_model.specs.Forms.{is_branch, is_name, is_private, refs_front}
use Rattle.history_model.specs.NameStates as states
use Rattle.history_model.specs.NameStates.{name_state, is_absent}
use Rattle.history_model.specs.Places.{file_at, head_place, packed_place, is_lock_file, is_log_place, log_name, is_name_folder}
use Rattle.history_model.specs.StandsFor.{head_text}
use Rattle.history_check_names.specs.Logs.{HasBadLine, HasLongLine}
use Rattle.history_check_names.specs.Packed.{HasBadRecord, has_name, has_record, records_at}
use Rattle.history_check_names.specs.Stored.{is_of_wrong_kind, is_well_peeled}
use Rattle.history_check_objects.specs.Stored.{Facts, kind_in}
use Rattle.history_texts.specs.declared.open_error.NamedBy.TheVariants.{Name}
use Rattle.history_texts.specs.declared.open_error.OpenError.{OpenError}
use Rattle.history_texts.specs.declared.open_error.OpenError.TheVariants.{NoHead, BadHead, Stray, Unfinished, BadName, PrivateName, Symbolic, Missing, WrongKind, BadPacked, BadPeeled, Collides, BadLog, LongLogLine, LogWithoutName, File, Memory}
use Rattle.history_check_names.specs.declared.log.LogFault.{LogFault}
use Rattle.history_check_names.specs.declared.log.LogFault.TheVariants as logs

abbrev pub log_error : Vec ℕ Global → LogFault → OpenError
log_error path (logs.Bad number) = BadLog path number
log_error path (logs.Long number) = LongLogLine path number
log_error path logs.Memory = Memory

-- whether a repository, whole or with files not yet renamed to their places, may have a file at the
-- path
abbrev pub may_hold_file : Bytes → Bool
may_hold_file path =
    bytes_eq path head_place || bytes_eq path packed_place || is_lock_file path
    || begins refs_front path || is_log_place path

-- a file or a folder where none may be
abbrev pub IsStray : Tree → Bytes → Type 0
IsStray tree path =
    (IsTrue (is_file_at tree path) × IsFalse (may_hold_file path))
    ⊎ (IsTrue (is_folder (get tree path)) × IsFalse (is_name_folder path))

-- HEAD exists, and isn't the text of a branch
pub record HasBadHead (tree : Tree) : Type 0 where
  pub text : Bytes
  pub stands : file_at tree head_place ≡ Some text
  pub bad : (branch : Bytes) → IsTrue (is_branch branch) → text ≢ head_text branch

-- a file below `refs`, but no lock file, whose path is no name, or that holds neither an id nor a
-- name
pub record IsBadName (kind : Kind) (tree : Tree) (path : Bytes) : Type 0 where
  pub stands : IsTrue (is_file_at tree path)
  pub below : IsTrue (begins refs_front path)
  pub finished : IsFalse (is_lock_file path)
  pub bad : IsFalse (is_name path) ⊎ (name_state kind tree path ≡ states.Faulty)

-- this holds of the text of the log at the path
pub record IsLogOf (tree : Tree) (path : Bytes) (What : Bytes → Type 0) : Type 0 where
  pub text : Bytes
  pub place : IsTrue (is_log_place path)
  pub stands : file_at tree path ≡ Some text
  pub what : What text

-- a record of the name has a peeled id that isn't the commit of a tag that the record holds
pub record HasBadPeel (kind : Kind) (facts : Facts) (tree : Tree) (name : Bytes) : Type 0 where
  pub entry : Record
  pub among : Contains (records_at kind tree) entry
  pub named : entry.name ≡ name
  pub wrong : IsFalse (is_well_peeled facts entry)

-- the name exists: it doesn't read as absent
abbrev pub Stands : Kind → Tree → Bytes → Type 0
Stands kind tree name = IsFalse (is_absent (name_state kind tree name))

-- The cause holds of these files; or a reading may fail, or memory ran out.
abbrev pub HasCause : Type 0 → Kind → Facts → Tree → OpenError → Type 0
HasCause MayFail kind facts tree NoHead = file_at tree head_place ≡ None
HasCause MayFail kind facts tree BadHead = HasBadHead tree
HasCause MayFail kind facts tree (Stray path) = IsStray tree path.items
HasCause MayFail kind facts tree (Unfinished path) =
    IsTrue (is_file_at tree path.items) × IsTrue (is_lock_file path.items)
HasCause MayFail kind facts tree (BadName path) = IsBadName kind tree path.items
HasCause MayFail kind facts tree (PrivateName name) =
    IsTrue (is_file_at tree name.items || has_record kind tree name.items)
    × IsTrue (is_private name.items)
HasCause MayFail kind facts tree (Symbolic name) =
    (target : Bytes) × (name_state kind tree name.items ≡ states.Symbolic target)
HasCause MayFail kind facts tree (Missing id (Name name)) =
    (name_state kind tree name.items ≡ states.Holds (id_of id)) × (kind_in facts (id_of id) ≡ None)
HasCause MayFail kind facts tree (WrongKind id (Name name)) =
    (name_state kind tree name.items ≡ states.Holds (id_of id))
    × IsTrue (is_of_wrong_kind (kind_in facts (id_of id)))
HasCause MayFail kind facts tree (BadPacked number) =
    HasBadRecord kind (bytes_at tree packed_place) number
HasCause MayFail kind facts tree (BadPeeled name) = HasBadPeel kind facts tree name.items
HasCause MayFail kind facts tree (Collides name other) =
    IsTrue (is_below name.items other.items) × Stands kind tree name.items
    × Stands kind tree other.items
HasCause MayFail kind facts tree (BadLog path number) =
    IsLogOf tree path.items (λ text. HasBadLine kind text number)
HasCause MayFail kind facts tree (LongLogLine path number) =
    IsLogOf tree path.items (λ text. HasLongLine kind text number)
HasCause MayFail kind facts tree (LogWithoutName path) =
    IsTrue (is_file_at tree path.items) × IsTrue (is_log_place path.items)
    × IsTrue (is_absent (name_state kind tree (log_name path.items)))
HasCause MayFail kind facts tree File = MayFail
HasCause MayFail kind facts tree Memory = ⊤
HasCause MayFail kind facts tree _ = ⊥

-- ---- calls

-- if there is a file at the path, an error has its cause
abbrev pub Excuses : {T : Type 0} → Type 0 → Kind → Facts → Bytes → Result T OpenError → Tree
    → Type 0
Excuses MayFail kind facts path result tree =
    IsTrue (is_file_at tree path) → IfErr result (HasCause MayFail kind facts tree)

-- why no commit or tag is found under the id that a name holds
abbrev pub IsUnheld : Option ObjectKind → ObjectId → Vec ℕ Global → OpenError → Type 0
IsUnheld stored id name (Missing missing (Name holder)) =
    (stored ≡ None) × (missing ≡ id) × (holder ≡ name)
IsUnheld stored id name (WrongKind wrong (Name holder)) =
    IsTrue (is_of_wrong_kind stored) × (wrong ≡ id) × (holder ≡ name)
IsUnheld stored id name _ = ⊥

-- the first name is a folder of the second one, unless memory ran out for the error
abbrev pub IsCollisionOf : Bytes → Bytes → OpenError → Type 0
IsCollisionOf folder name (Collides one other) = (one.items ≡ folder) × (other.items ≡ name)
IsCollisionOf folder name Memory = ⊤
IsCollisionOf folder name _ = ⊥

-- why a name isn't found to be apart from all others: an existing one is a folder of it
abbrev pub IsCollision : Type 0 → Kind → Tree → Bytes → OpenError → Type 0
IsCollision MayFail kind tree name (Collides one other) =
    (other.items ≡ name) × IsTrue (is_below one.items name) × IsTrue (has_name kind tree one.items)
IsCollision MayFail kind tree name File = MayFail
IsCollision MayFail kind tree name Memory = ⊤
IsCollision MayFail kind tree name _ = ⊥

-- a call of the files failed, or memory ran out
abbrev pub IsOpenFault : OpenError → Type 0
IsOpenFault File = ⊤
IsOpenFault Memory = ⊤
IsOpenFault _ = ⊥
