-- The steps of a `pack` on the tree of names: `packed-refs` is replaced by one with a record of
-- each name, and then the files of names go, one after another.
use Rattle.std.specs.Prelude.{◌≡◌, ◌≢◌, ◌⊎◌, List, Option, Some, None, MatchOption, option_map, if◌then◌else◌, IsTrue, IsFalse}
use Rattle.std.specs.FinMap.{get}
use Rattle.gix_ref_file.specs.Tree.{Tree, folder}
use Rattle.gix_ref_format.specs.Packed.{Record}
use Rattle.gix_ref_format.specs.PackedBuffer.{hit}
use Rattle.gix_ref_format.specs.Edited.{Ascend}
use Rattle.gix_ref_format.specs.Written.{packed_text}
use Rattle.history_model.specs.Bytes.{Bytes}
use Rattle.history_model.specs.Repository.{Repository, id_at, is_tag, peeled, stands}
use Rattle.history_model.specs.Forms.{is_name, is_private}
use Rattle.history_model.specs.Commands.{Pack}
use Rattle.history_model.specs.Causes.{first_cause}
use Rattle.history_model.specs.NameStates.{name_state}
use Rattle.history_model.specs.PackedNames.{PackedFile, packed_file, is_packed_form}
use Rattle.history_model.specs.Places.{Pair, file_at, head_place, packed_place, log_place, is_lock_file, is_name_folder}
use Rattle.history_model.specs.StandsFor.{StandsFor}
use Rattle.history_model.specs.laws.Wholeness.{IsSound}
use Rattle.history_layout.specs.Passing.{HoldsBetween}

-- the record of a name that exists and isn't private: its id, and for a tag the commit that it is
-- of
abbrev pub record_for : Repository → Bytes → Option Record
record_for r name =
    if is_private name then None
    else option_map
    (λ id. record {
      name = name;
      target = id;
      peeled = if is_tag r id then peeled r id else None;
    })
    (id_at r name)

-- The records are those of the names that exist and aren't private.
pub record HasAllNames (r : Repository) (packed : PackedFile) : Type 0 where
  pub formed : IsTrue (is_packed_form packed)
  pub each : (name : Bytes) → hit packed.records name ≡ record_for r name

-- The header, and after it the records of the names that exist and aren't private, ascending.
pub record IsTextOfAll (r : Repository) (text : Bytes) : Type 0 where
  pub records : List Record
  pub ascend : Ascend records
  pub each : (name : Bytes) → hit records name ≡ record_for r name
  pub is : text ≡ packed_text records

-- The records of a file are those of all names; none may exist if no name does.
abbrev pub PacksAll : Repository → Option Bytes → Type 0
PacksAll r None = (name : Bytes) → record_for r name ≡ None
PacksAll r (Some text) = MatchOption (packed_file r.kind text) ⊥ (HasAllNames r)

-- those of `packed-refs` are
abbrev pub HasPacked : Repository → Tree → Type 0
HasPacked r tree = PacksAll r (file_at tree packed_place)

abbrev pub WritesAll : Repository → Option Bytes → Type 0
WritesAll r None = ⊥
WritesAll r (Some text) = IsTextOfAll r text

-- All names are packed already: no name that isn't private has a file of its own.
pub record ArePacked (r : Repository) (tree : Tree) : Type 0 where
  pub packed : HasPacked r tree
  pub gone : (name : Bytes) → IsTrue (stands r name) → IsFalse (is_private name)
      → file_at tree name ≡ None

-- `packed-refs` is written anew, if a name exists; it is as before if all were packed already.
abbrev pub WritesPacked : Repository → Tree → Tree → Type 0
WritesPacked r old new =
    (ArePacked r old × (file_at new packed_place ≡ file_at old packed_place))
    ⊎ ((name : Bytes) × IsTrue (stands r name) × WritesAll r (file_at new packed_place))

-- All names are packed, their files are gone except those of private names, each other file is as
-- before, and there are no folders but those of names and logs.
pub record PacksNames (r : Repository) (old new : Tree) : Type 0 where
  pub packed : HasPacked r new
  pub written : WritesPacked r old new
  pub gone : (name : Bytes) → IsTrue (stands r name) → IsFalse (is_private name)
      → file_at new name ≡ None
  pub private : (name : Bytes) → IsTrue (stands r name) → IsTrue (is_private name)
      → file_at new name ≡ file_at old name
  pub others : (path : Bytes) → IsFalse (stands r path) → path ≢ packed_place
      → file_at new path ≡ file_at old path
  pub folders : (path : Bytes) → get new path ≡ Some folder → IsTrue (is_name_folder path)

-- The tree meanwhile: `packed-refs` is as before, or has all names; only then may the file of a
-- name that isn't private be gone. Of the other files only lock files may differ, and there are no
-- folders but those of names and logs.
pub record PacksOnTheWay (r : Repository) (old tree : Tree) : Type 0 where
  pub packed : (file_at tree packed_place ≡ file_at old packed_place) ⊎ HasPacked r tree
  pub here : (name : Bytes) → IsTrue (stands r name)
      → (file_at tree name ≡ file_at old name)
      ⊎ ((file_at tree name ≡ None) × IsFalse (is_private name) × HasPacked r tree)
  pub others : (path : Bytes) → IsFalse (stands r path) → path ≢ packed_place
      → IsFalse (is_lock_file path) → file_at tree path ≡ file_at old path
  pub folders : (path : Bytes) → get tree path ≡ Some folder → IsTrue (is_name_folder path)

-- At each moment every name reads as before, every log is as before, and so is HEAD.
pub record ReadsAlike (r : Repository) (old tree : Tree) : Type 0 where
  pub head : file_at tree head_place ≡ file_at old head_place
  pub states : (name : Bytes) → name_state r.kind tree name ≡ name_state r.kind old name
  pub logs : (name : Bytes) → IsTrue (is_name name)
      → file_at tree (log_place name) ≡ file_at old (log_place name)

abbrev pub PacksReadAlike : Type 0
PacksReadAlike =
    (r : Repository) (pair : Pair) (tree : Tree) → StandsFor r.kind pair r
    → PacksOnTheWay r pair.names tree → ReadsAlike r pair.names tree

-- Once recovered, such a tree holds the names of before.
abbrev pub PacksPass : Type 0
PacksPass =
    (r : Repository) (pair : Pair) (tree : Tree) → IsSound r → first_cause r Pack ≡ None
    → StandsFor r.kind pair r → PacksOnTheWay r pair.names tree → HoldsBetween r Pack tree

-- When all names are packed, the pair represents the repository as before.
abbrev pub PacksStand : Type 0
PacksStand =
    (r : Repository) (pair : Pair) (new : Tree) → StandsFor r.kind pair r
    → PacksNames r pair.names new → StandsFor r.kind (record pair { names = new }) r
