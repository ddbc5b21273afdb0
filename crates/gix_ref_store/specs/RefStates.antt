-- What a full name reads as in a tree of files: its own file wins over a packed record
-- (gitrepository-layout, "refs" and "packed-refs").
use Rattle.std.specs.Prelude.{ℕ, ◌≡◌, is_some, List, [], ◌∷◌, if◌then◌else◌, Option, Some, None}
use Rattle.gix_hash.specs.Id.{Id}
use Rattle.gix_hash.specs.declared.kind.Kind.{Kind}
use Rattle.gix_object_lines.specs.NameTest.{is_full_name}
use Rattle.gix_ref_file.specs.Tree.{Tree, node_at, bytes_of}
use Rattle.gix_ref_name.specs.Targets.{Points, ToObject}
use Rattle.gix_ref_format.specs.Loose.{loose_target, is_symbolic}
use Rattle.gix_ref_format.specs.Packed.{Record, packed_records}
use Rattle.gix_ref_format.specs.Lookup.{packed_key, packed_hit}
use Rattle.gix_ref_format.specs.declared.loose.Error.{Error as LooseError}
use Rattle.gix_ref_format.specs.declared.loose.Error.TheVariants.{Parse, RefnameValidation}
use Rattle.gix_ref_store.specs.Places.{Base, place, packed_place}

-- why a name can't be read: its file has no target, for this reason; or the packed records can't be
-- read
pub data Fault : Type 0 where
  InFile : LooseError → Fault
  InRecords : Fault

-- what a name points to, with the peeled id of its record; or it doesn't exist, or can't be read
pub data RefState : Type 0 where
  Stands : Points → Option Id → RefState
  Absent : RefState
  Faulty : Fault → RefState

-- why a text names no target: no full name follows `ref: `, or it begins with neither that nor an
-- id
abbrev pub text_fault : List ℕ → LooseError
text_fault text = if is_symbolic text then RefnameValidation else Parse

abbrev pub loose_state : List ℕ → Option Points → RefState
loose_state text (Some points) = Stands points None
loose_state text None = Faulty (InFile (text_fault text))

abbrev pub packed_state : Option Record → RefState
packed_state (Some r) = Stands (ToObject r.target) r.peeled
packed_state None = Absent

-- what the file of its own says, and otherwise the records
abbrev pub read_by : Kind → Option (List ℕ) → RefState → RefState
read_by kind (Some text) packed = loose_state text (loose_target kind text)
read_by kind None packed = packed

-- the text of the file of its own
abbrev pub loose_text_at : Base → Tree → List ℕ → Option (List ℕ)
loose_text_at b tree name = bytes_of (node_at tree (place b name))

-- what a name reads as if these records are packed
abbrev pub state_among : Base → Tree → List Record → List ℕ → RefState
state_among b tree records name =
    if is_full_name name
    then read_by b.kind (loose_text_at b tree name) (packed_state (packed_hit records name))
    else Absent

-- the text of the packed records
abbrev pub packed_text_in : Base → Tree → Option (List ℕ)
packed_text_in b tree = bytes_of (node_at tree (packed_place b))

-- the records of a text, none if there is no text; the whole is `None` if a line can't be read
abbrev pub records_of : Kind → Option (List ℕ) → Option (List Record)
records_of kind None = Some []
records_of kind (Some text) = packed_records kind text

-- what these records say of a name; names of which each worktree has its own have none
abbrev pub told_by : Option (List Record) → List ℕ → RefState
told_by (Some records) name = packed_state (packed_hit records name)
told_by None name = if is_some (packed_key name) then Faulty InRecords else Absent

-- what a name reads as
abbrev pub ref_state : Base → Tree → List ℕ → RefState
ref_state b tree name =
    if is_full_name name
    then read_by b.kind (loose_text_at b tree name)
    (told_by (records_of b.kind (packed_text_in b tree)) name)
    else Absent

-- ---- lookups

-- a name, and what it reads as
pub record Met : Type 0 where
  pub name : List ℕ
  pub ref_state : RefState

abbrev pub met_or : List ℕ → RefState → Option Met → Option Met
met_or name Absent later = later
met_or name (Stands points peeled) later =
    Some (record { name = name; ref_state = Stands points peeled })
met_or name (Faulty why) later = Some (record { name = name; ref_state = Faulty why })

-- the first of the names that exists or can't be read
abbrev pub first_met : (List ℕ → RefState) → List (List ℕ) → Option Met
first_met read [] = None
first_met read (name ∷ names) = met_or name (read name) (first_met read names)

-- that one can't be read, for this reason
abbrev pub IsFaulty : Fault → Option Met → Type 0
IsFaulty why met = (name : List ℕ) × (met ≡ Some (record { name = name; ref_state = Faulty why }))
