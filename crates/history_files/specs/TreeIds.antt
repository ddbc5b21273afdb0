-- The id of a tree's content.
use Rattle.std.specs.Prelude.{◌≡◌}
use Rattle.gix_hash.specs.Id.{id_of}
use Rattle.gix_hash.specs.declared.object_id.ObjectId.{ObjectId}
use Rattle.history_model.specs.Bytes.{Bytes}
use Rattle.history_model.specs.Objects.{digest, tree_text}

abbrev pub IsTreeId : ObjectId → Bytes → Type 0
IsTreeId id content = id_of id ≡ digest (id_of id).kind (tree_text content)
