-- Lists of ids.
use Rattle.std.specs.Prelude.{Bool, List}
use Rattle.std.specs.List.{list_any}
use Rattle.gix_hash.specs.declared.object_id.ObjectId.{ObjectId}
use Rattle.gix_hash.specs.Id.{Id, id_of}
use Rattle.gix_hash.specs.Order.{id_eq}

-- whether the id is one of these
abbrev pub is_one_of : List ObjectId → Id → Bool
is_one_of ids id = list_any (λ other. id_eq id (id_of other)) ids
