-- The tree of a commit's first parent.
use Rattle.std.specs.Prelude.{◌≡◌, List, [], ◌∷◌, Option, Some, None}
use Rattle.std.specs.FinMap.{get}
use Rattle.gix_hash.specs.Id.{Id, id_of}
use Rattle.gix_hash.specs.declared.object_id.ObjectId.{ObjectId}
use Rattle.history_model.specs.Meaning.{files_at}
use Rattle.history_model.specs.Objects.{StoredFolder}
use Rattle.history_model.specs.Repository as plain

-- ---- what they come to

-- the tree of the first of these commits; none if there are no commits
abbrev pub IsTreeBefore : plain.Repository → List Id → Option ObjectId → Type 0
IsTreeBefore r [] tree = tree ≡ None
IsTreeBefore r (id ∷ ids) None = ⊥
IsTreeBefore r (id ∷ ids) (Some tree) =
    get r.objects (id_of tree) ≡ Some (StoredFolder (files_at r id))
