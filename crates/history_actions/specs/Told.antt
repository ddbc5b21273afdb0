-- What is reported of an action that isn't done, and the program's status.
use Rattle.std.specs.Prelude.{◌≡◌, ◌⊎◌, ℕ, Bool, true, List, [], ◌∷◌, ◌++◌, Option, Result, Ok, Err, codes, decimal, if◌then◌else◌}
use Rattle.std.specs.List.{flat_map}
use Rattle.std.specs.Io.KnownBytes.{Appends}
use Rattle.gix_hash.specs.Id.{id_of}
use Rattle.gix_hash.specs.Writes.{AppendsFewer}
use Rattle.gix_hash.specs.declared.kind.Kind.{Kind}
use Rattle.gix_hash.specs.declared.kind.Kind.TheVariants.{Sha1, Sha256}
use Rattle.history_model.specs.Bytes.{Bytes, line}
use Rattle.history_model.specs.Objects.{hex}
use Rattle.history_texts.specs.declared.open_error.NamedBy.{NamedBy}
use Rattle.history_texts.specs.declared.open_error.NamedBy.TheVariants.{Object, Name}
use Rattle.history_texts.specs.declared.open_error.OpenError.{OpenError}
use Rattle.history_texts.specs.declared.open_error.OpenError.TheVariants as causes
use Rattle.history_actions.specs.Looking.{is_object_place}
use Rattle.history_actions.specs.declared.failure.Failure.{Failure}
use Rattle.history_actions.specs.declared.failure.Failure.TheVariants.{NotEmpty, Unopened, File, Memory, Read, Write, Ended}

-- ---- why a folder isn't opened

abbrev pub cause_word : OpenError → Bytes
cause_word causes.NoHead = codes "refused NoHead"
cause_word causes.BadHead = codes "refused BadHead"
cause_word (causes.Stray path) = codes "refused Stray"
cause_word (causes.Unfinished path) = codes "refused Unfinished"
cause_word (causes.BadObject path) = codes "refused BadObject"
cause_word (causes.WrongId path) = codes "refused WrongId"
cause_word (causes.TooLarge path) = codes "refused TooLarge"
cause_word (causes.BadTree id) = codes "refused BadTree"
cause_word (causes.BadTime id) = codes "refused BadTime"
cause_word (causes.BadTag id) = codes "refused BadTag"
cause_word (causes.Missing id by) = codes "refused Missing"
cause_word (causes.WrongKind id by) = codes "refused WrongKind"
cause_word (causes.Cycle id) = codes "refused Cycle"
cause_word causes.IdReserved = codes "refused IdReserved"
cause_word (causes.BadName path) = codes "refused BadName"
cause_word (causes.PrivateName name) = codes "refused PrivateName"
cause_word (causes.Symbolic name) = codes "refused Symbolic"
cause_word (causes.BadPacked line) = codes "refused BadPacked"
cause_word (causes.BadPeeled name) = codes "refused BadPeeled"
cause_word (causes.Collides name other) = codes "refused Collides"
cause_word (causes.BadLog path line) = codes "refused BadLog"
cause_word (causes.LongLogLine path line) = codes "refused LongLogLine"
cause_word (causes.LogWithoutName path) = codes "refused LogWithoutName"
cause_word causes.File = codes "fault File"
cause_word causes.Memory = codes "fault Memory"

abbrev pub namer_text : NamedBy → Bytes
namer_text (Object id) = hex (id_of id)
namer_text (Name name) = name.items

-- its values: paths and names as they are, ids in hex, lines in digits
abbrev pub cause_values : OpenError → List Bytes
cause_values causes.NoHead = []
cause_values causes.BadHead = []
cause_values (causes.Stray path) = path.items ∷ []
cause_values (causes.Unfinished path) = path.items ∷ []
cause_values (causes.BadObject path) = path.items ∷ []
cause_values (causes.WrongId path) = path.items ∷ []
cause_values (causes.TooLarge path) = path.items ∷ []
cause_values (causes.BadTree id) = hex (id_of id) ∷ []
cause_values (causes.BadTime id) = hex (id_of id) ∷ []
cause_values (causes.BadTag id) = hex (id_of id) ∷ []
cause_values (causes.Missing id by) = hex (id_of id) ∷ namer_text by ∷ []
cause_values (causes.WrongKind id by) = hex (id_of id) ∷ namer_text by ∷ []
cause_values (causes.Cycle id) = hex (id_of id) ∷ []
cause_values causes.IdReserved = []
cause_values (causes.BadName path) = path.items ∷ []
cause_values (causes.PrivateName name) = name.items ∷ []
cause_values (causes.Symbolic name) = name.items ∷ []
cause_values (causes.BadPacked line) = decimal line ∷ []
cause_values (causes.BadPeeled name) = name.items ∷ []
cause_values (causes.Collides name other) = name.items ∷ other.items ∷ []
cause_values (causes.BadLog path line) = path.items ∷ decimal line ∷ []
cause_values (causes.LongLogLine path line) = path.items ∷ decimal line ∷ []
cause_values (causes.LogWithoutName path) = path.items ∷ []
cause_values causes.File = []
cause_values causes.Memory = []

-- ---- why an action isn't done

abbrev pub failure_word : Failure → Bytes
failure_word (NotEmpty path) = codes "refused NotEmpty"
failure_word (Unopened cause) = cause_word cause
failure_word File = codes "fault File"
failure_word Memory = codes "fault Memory"
failure_word Read = codes "fault Read"
failure_word Write = codes "fault Write"
failure_word (Ended end) = []

abbrev pub failure_values : Failure → List Bytes
failure_values (NotEmpty path) = path.items ∷ []
failure_values (Unopened cause) = cause_values cause
failure_values File = []
failure_values Memory = []
failure_values Read = []
failure_values Write = []
failure_values (Ended end) = []

-- each after a space
abbrev pub values_text : List Bytes → Bytes
values_text values = flat_map (λ value. 32 ∷ value) values

abbrev pub failure_line : Failure → Bytes
failure_line failure = line (failure_word failure ++ values_text (failure_values failure))

-- ---- what is noted after the line

-- if a stray file would be an object's of the other hash function
abbrev pub stray_note : Kind → Bytes → Bytes
stray_note Sha1 path = if is_object_place Sha256 path
    then line (codes "note: is this a SHA-256 repository? (--sha256)") else []
stray_note Sha256 path = if is_object_place Sha1 path
    then line (codes "note: is this a SHA-1 repository? (no --sha256)") else []

abbrev pub cause_note : Kind → OpenError → Bytes
cause_note kind (causes.Stray path) = stray_note kind path.items
cause_note kind _ = []

abbrev pub failure_note : Kind → Failure → Bytes
failure_note kind (Unopened cause) = cause_note kind cause
failure_note kind _ = []

abbrev pub failure_text : Kind → Failure → Bytes
failure_text kind failure = failure_line failure ++ failure_note kind failure

-- what is reported: nothing if it is done, or if a run ended, which its replies say
abbrev pub told : {T : Type 0} → Kind → Result T Failure → Bytes
told kind (Ok done) = []
told kind (Err (Ended end)) = []
told kind (Err (NotEmpty path)) = failure_text kind (NotEmpty path)
told kind (Err (Unopened cause)) = failure_text kind (Unopened cause)
told kind (Err File) = failure_text kind File
told kind (Err Memory) = failure_text kind Memory
told kind (Err Read) = failure_text kind Read
told kind (Err Write) = failure_text kind Write

abbrev pub status : {T : Type 0} → Result T Failure → ℕ
status (Ok done) = 0
status (Err failure) = 1

-- ---- where it is written

-- The sink has taken this; or it failed, and took a beginning of it.
abbrev pub Took : Option Bytes → Option Bytes → Bool → Bytes → Type 0
Took old new failed text = Appends old new text ⊎ ((failed ≡ true) × AppendsFewer old new text)

-- the same of a call that returns which it was
abbrev pub Writes : {T E : Type 0} → Option Bytes → Option Bytes → Bool → Bytes → Result T E → Type 0
Writes old new failed text (Ok done) = Appends old new text
Writes old new failed text (Err broken) = (failed ≡ true) × AppendsFewer old new text
