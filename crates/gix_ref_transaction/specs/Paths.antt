-- The paths that edits concern.
use Rattle.std.specs.Prelude.{ℕ, Bool, false, ◌||◌, List, [], ◌∷◌, map, bytes_eq, Vec}
use Rattle.std.specs.declared.alloc.Global.{Global}
use Rattle.std.specs.List.{list_any}
use Rattle.gix_ref_edit.specs.declared.change.RefEdit.{RefEdit}
use Rattle.gix_ref_lock.specs.Locks.{lock_of}
use Rattle.gix_ref_store.specs.Places.{Base, place, log_place, packed_place}

abbrev pub bytes_of : Vec ℕ Global → List ℕ
bytes_of path = path.items

-- whether a path occurs twice
abbrev pub has_twice : List (List ℕ) → Bool
has_twice [] = false
has_twice (path ∷ paths) = list_any (bytes_eq path) paths || has_twice paths

-- the paths of the files of the edits' names
abbrev pub places_of : Base → List RefEdit → List (List ℕ)
places_of b edits = map (λ edit. place b edit.name) edits

-- of each edit the path of its name's file, that of the file's lock, and that of the log
abbrev pub name_paths : Base → List RefEdit → List (List ℕ)
name_paths b [] = []
name_paths b (edit ∷ edits) =
    place b edit.name ∷ lock_of (place b edit.name) ∷ log_place b edit.name ∷ name_paths b edits

-- the same with that of packed records, and that of their lock
abbrev pub edit_paths : Base → List RefEdit → List (List ℕ)
edit_paths b edits = packed_place b ∷ lock_of (packed_place b) ∷ name_paths b edits
