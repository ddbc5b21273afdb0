-- Ids that a store may come to know.
use Rattle.std.specs.Prelude.{◌≡◌, List, Contains, IsSome, option_and_then}
use Rattle.gix_hash.specs.Id.{id_of}
use Rattle.gix_hash.specs.declared.kind.Kind.{Kind}
use Rattle.gix_hash.specs.declared.object_id.ObjectId.{ObjectId}
use Rattle.gix_ref_file.specs.Tree.{Tree}
use Rattle.history_model.specs.Places.{file_at, object_place}
use Rattle.history_texts.specs.ObjectTexts.{object_in}

-- an object is stored at the place of each of these ids, which are of the kind
abbrev pub AreStanding : Kind → Tree → List ObjectId → Type 0
AreStanding kind tree ids = (id : ObjectId) → Contains ids id
    → ((id_of id).kind ≡ kind)
    × IsSome (option_and_then object_in (file_at tree (object_place (id_of id))))
