-- The objects that are stored below a folder, by the places of their files.
use Rattle.std.specs.Prelude.{◌≡◌, ◌≢◌, ⊤, ◌<◌, ◌+◌, ℕ, suc, List, ◌++◌, Contains, Option, Some, None, IsTrue}
use Rattle.std.specs.FinMap.{get}
use Rattle.gix_hash.specs.Id.{Id, id_of}
use Rattle.gix_hash.specs.declared.kind.Kind.{Kind}
use Rattle.gix_hash.specs.declared.object_id.ObjectId.{ObjectId}
use Rattle.gix_ref_file.specs.Tree.{Tree, Node, file, folder}
use Rattle.history_model.specs.Bytes.{Bytes}
use Rattle.history_model.specs.Forms.{is_id, max_content}
use Rattle.history_model.specs.Places.{file_at, is_object_folder, object_place, unfinished_place}
use Rattle.gix_ref_way.specs.Ways.{above}
use Rattle.history_texts.specs.declared.open_error.OpenError.{OpenError}
use Rattle.history_texts.specs.declared.open_error.OpenError.TheVariants.{Stray, TooLarge, Unfinished, Memory}

-- the place of one of these ids
abbrev pub IsPlaceIn : List ObjectId → Bytes → Type 0
IsPlaceIn ids path = (id : ObjectId) × Contains ids id × (path ≡ object_place (id_of id))

-- what is at a path is the file of one of these ids, a folder of objects, or nothing
abbrev pub IsListedAt : List ObjectId → Bytes → Option Node → Type 0
IsListedAt ids path None = ⊤
IsListedAt ids path (Some (file bytes)) = IsPlaceIn ids path
IsListedAt ids path (Some folder) = IsTrue (is_object_folder path)

-- a file is at the place of the id, which is one of the kind
pub record HasObjectFile (kind : Kind) (tree : Tree) (id : ObjectId) : Type 0 where
  pub formed : IsTrue (is_id kind (id_of id))
  pub text : Bytes
  pub stands : file_at tree (object_place (id_of id)) ≡ Some text

-- All files below the folder are of these ids, some of which came last, and all folders are of
-- objects.
pub record Gathers (kind : Kind) (tree : Tree) (place : Bytes) (old new : List ObjectId)
    : Type 0 where
  pub more : List ObjectId
  pub are : new ≡ old ++ more
  pub each : (id : ObjectId) → Contains more id → HasObjectFile kind tree id
  pub all : (n : ℕ) (path : Bytes) → above (suc n) path ≡ place
      → IsListedAt new path (get tree path)

-- a file of so many bytes at the path is no object's: it is the unfinished file, a stray, or longer
-- than any object's text, whose header has 16 bytes at most
abbrev pub IsNoObject : Kind → Bytes → ℕ → OpenError → Type 0
IsNoObject kind path len (Stray other) = (other.items ≡ path) × (path ≢ unfinished_place)
    × ((id : Id) → IsTrue (is_id kind id) → path ≢ object_place id)
IsNoObject kind path len (Unfinished other) = (other.items ≡ path) × (path ≡ unfinished_place)
IsNoObject kind path len (TooLarge other) = (other.items ≡ path) × (max_content + 16 < len)
    × ((id : Id) × IsTrue (is_id kind id) × (path ≡ object_place id))
IsNoObject kind path len Memory = ⊤
IsNoObject kind path len _ = ⊥
