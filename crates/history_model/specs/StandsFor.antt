-- Which pairs of file trees represent a repository.
use Rattle.std.specs.Prelude.{◌≡◌, [], ◌++◌, map, Some, unwrap_or, MatchOption, ◌↔◌, codes, IsTrue}
use Rattle.std.specs.FinMap.{FinMap, entries, get, from_entries}
use Rattle.gix_ref_file.specs.Tree.{folder}
use Rattle.history_model.specs.Bytes.{Bytes, by_bytes, line}
use Rattle.history_model.specs.Objects.{value_text}
use Rattle.gix_hash.specs.Id.{Id}
use Rattle.history_model.specs.Repository.{Repository, Values, IsWhole, id_at, moves_at}
use Rattle.history_model.specs.Forms.{IsWritten}
use Rattle.history_model.specs.Places.{Pair, file_at, object_place, is_object_folder, head_place, packed_place, log_place, is_name_place, is_name_folder}
use Rattle.history_model.specs.PackedNames.{packed_file, PackedAgrees}
use Rattle.history_model.specs.Logs.{log_text}
use Rattle.history_model.specs.NameStates.{Holds, name_state}
use Rattle.gix_hash.specs.declared.kind.Kind.{Kind}

-- each value's text at its place
abbrev pub value_files : Kind → Values → FinMap by_bytes Bytes
value_files kind values =
    from_entries (map (λ e. (object_place e.0, value_text kind e.1)) (entries values))

abbrev pub object_files : Repository → FinMap by_bytes Bytes
object_files r = value_files r.kind r.objects

-- what HEAD holds, a symbolic reference to its branch
abbrev pub head_text : Bytes → Bytes
head_text branch = line (codes "ref: " ++ branch)

pub record StandsFor (kind : Kind) (pair : Pair) (r : Repository) : Type 0 where
  pub of_kind : r.kind ≡ kind
  -- each object's text is at its place, and there is no other file
  pub objects : (path : Bytes) → file_at pair.objects path ≡ get (object_files r) path
  pub object_folders : (path : Bytes) → get pair.objects path ≡ Some folder
      → IsTrue (is_object_folder path)
  pub head : file_at pair.names head_place ≡ Some (head_text r.branch)
  -- the names that read as an id, and their ids
  pub names : (name : Bytes) (id : Id)
      → (name_state r.kind pair.names name ≡ Holds id) ↔ (id_at r name ≡ Some id)
  -- a name without a log has no moves
  pub logs : (name : Bytes)
      → unwrap_or (file_at pair.names (log_place name)) [] ≡ log_text (moves_at r name)
  pub packed : (text : Bytes) → file_at pair.names packed_place ≡ Some text
      → MatchOption (packed_file r.kind text) ⊥ (PackedAgrees r)
  -- there is no other file, and no folder but these
  pub places : (path text : Bytes) → file_at pair.names path ≡ Some text
      → IsTrue (is_name_place r path)
  pub folders : (path : Bytes) → get pair.names path ≡ Some folder → IsTrue (is_name_folder path)

-- what an opened folder is: it represents a whole repository in written form
pub record StandsWhole (kind : Kind) (pair : Pair) (r : Repository) : Type 0 where
  pub stands : StandsFor kind pair r
  pub written : IsWritten r
  pub whole : IsWhole r
