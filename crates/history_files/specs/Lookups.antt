-- How many trees edits look up.
use Rattle.std.specs.Prelude.{ℕ, ◌≡◌, ◌≤◌, ◌<◌, ◌+◌, ◌^◌, List, [], ◌∷◌, length, Option, Some, None}
use Rattle.gix_hash.specs.Id.{Id}
use Rattle.gix_object_tree.specs.Entry.{Item}
use Rattle.gix_object_editor.specs.Asked.{front_of, ids_from, trees_into}
use Rattle.gix_object_nodes.specs.Files.{Path, Trees, leaf_of, named}
use Rattle.history_model.specs.Bytes.{Bytes}
use Rattle.history_model.specs.FileMap.{components}
use Rattle.history_files.specs.Edits.{name_count}
use Rattle.history_files.specs.declared.edits.Change.{Change}
use Rattle.history_files.specs.declared.edits.Change.TheVariants.{Put, Remove, RemoveFile, Graft}
use Rattle.history_files.specs.declared.edits.Edit.{Edit}

-- the names that lead to the trees that an edit looks up; a file's removal looks into a folder at
-- its path too
abbrev pub way_of : Bytes → Change → Path
way_of path (Put kind id) = front_of (components path)
way_of path Remove = front_of (components path)
way_of path RemoveFile = components path
way_of path (Graft found) = front_of (components path)

abbrev pub edit_way : Edit → Path
edit_way edit = way_of edit.path.now edit.change

-- the trees into which names lead from a tree of these entries, one below the other
abbrev pub items_into : Trees → List Item → Path → List Id
items_into trees items [] = []
items_into trees items (name ∷ rest) =
    ids_from (named name items) (λ item. trees_into trees rest (leaf_of item))

-- the same from a root, if there is one
abbrev pub root_into : Trees → Option Id → Path → List Id
root_into trees None names = []
root_into trees (Some root) names = ids_from (trees root) (λ items. items_into trees items names)

abbrev pub root_count : Option Id → ℕ
root_count None = 0
root_count (Some root) = 1

-- How the count rises, if names lead into these trees at first: for one edit by the trees on its
-- way, each once; for more edits at least by those on the way of the first.
abbrev pub RisesBy : (Path → List Id) → List Edit → ℕ → ℕ → Type 0
RisesBy into [] was now = now ≡ was
RisesBy into (edit ∷ []) was now = now ≡ was + length (into (edit_way edit))
RisesBy into (edit ∷ next ∷ edits) was now = was + length (into (edit_way edit)) ≤ now

-- as long as the count fits into 64 bits
abbrev pub AsksOf : (Path → List Id) → List Edit → ℕ → ℕ → Type 0
AsksOf into edits was now = was + name_count edits < 2 ^ 64 → RisesBy into edits was now
