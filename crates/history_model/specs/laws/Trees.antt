-- Laws of trees and files.
use Rattle.std.specs.Prelude.{◌≡◌, ◌⊎◌, List, [], ◌∷◌, map, Some, IsTrue, ◌↔◌, ⊤}
use Rattle.std.specs.List.{list_all, AllByRecursion}
use Rattle.std.specs.List.Sorted.{IsStrictlySortedBy}
use Rattle.std.specs.FinMap.{get, empty}
use Rattle.history_model.specs.Bytes.{Bytes, by_bytes}
use Rattle.history_model.specs.FileMap.{FileMap, Edit, cut_to, IsFileMap, edited_by, is_path, Put, Remove, RemoveFile, Graft}
use Rattle.history_model.specs.Objects.{StoredFolder, entry_at}
use Rattle.gix_hash.specs.Id.{Id}
use Rattle.history_model.specs.Repository.{Repository, IsWhole}
use Rattle.history_model.specs.Commands.{Files}
use Rattle.history_model.specs.Replies.{FileLine, FilesAre}
use Rattle.history_model.specs.Steps.{Step}

abbrev pub edit_path : Edit → Bytes
edit_path (Put kind path bytes) = path
edit_path (Remove path) = path
edit_path (RemoveFile path) = path
edit_path (Graft path source from) = path

-- what is grafted comes from a file map
abbrev pub ComesFromFiles : Edit → Type 0
ComesFromFiles (Graft path source from) = IsFileMap from
ComesFromFiles _ = ⊤

-- Edits at paths turn a file map into a file map, if what they graft comes from file maps.
abbrev pub EditsKeep : Type 0
EditsKeep = (files : FileMap) (edits : List Edit) → IsFileMap files
    → IsTrue (list_all (λ edit. is_path (edit_path edit)) edits)
    → AllByRecursion ComesFromFiles edits
    → IsFileMap (edited_by files edits)

-- In a whole repository two stored trees have one id exactly if the files below them are one map.
abbrev pub TreesAreCanonical : Type 0
TreesAreCanonical = (r : Repository) (a b : Id) (m n : FileMap) → IsWhole r
    → get r.objects a ≡ Some (StoredFolder m) → get r.objects b ≡ Some (StoredFolder n)
    → (a ≡ b) ↔ (m ≡ n)

-- the files are those of a stored tree, or there are none: the empty tree needn't be stored
abbrev pub IsTreeIn : Repository → FileMap → Type 0
IsTreeIn r files = (files ≡ empty) ⊎ ((id : Id) × (get r.objects id ≡ Some (StoredFolder files)))

-- The entries of two such trees at a path, mode and id, are equal exactly if the files at or below
-- it are.
abbrev pub EntriesTellFiles : Type 0
EntriesTellFiles =
    (r : Repository) (m n : FileMap) (path : Bytes) → IsWhole r → IsFileMap m → IsFileMap n
    → IsTreeIn r m → IsTreeIn r n
    → (entry_at r.kind m path ≡ entry_at r.kind n path)
    ↔ (cut_to (path ∷ []) m ≡ cut_to (path ∷ []) n)

-- `files` lists paths strictly ascending by their bytes, so each once.
abbrev pub FilesAscend : Type 0
FilesAscend = (old new : Repository) (word : Bytes) (files : List FileLine)
    → Step old (Files word) (FilesAre files) new
    → IsStrictlySortedBy by_bytes (map (λ file. file.path) files)
