-- Files in whole repositories.
use Rattle.std.specs.Prelude.{◌≡◌, Some}
use Rattle.std.specs.FinMap.{get}
use Rattle.history_model.specs.Bytes.{Bytes}
use Rattle.history_model.specs.FileMap.{FileMap, Content}
use Rattle.history_model.specs.Objects.{StoredBytes, StoredFolder}
use Rattle.gix_hash.specs.Id.{Id}
use Rattle.history_model.specs.Repository.{Repository, IsStored, IsWholeStore}

-- The bytes of each file of a stored folder are stored.
abbrev pub FilesAreStored : Type 0
FilesAreStored =
    (r : Repository) (id : Id) (files : FileMap) (path : Bytes) (content : Content)
    → IsWholeStore r → get r.objects id ≡ Some (StoredFolder files)
    → get files path ≡ Some content → IsStored r (StoredBytes content.bytes)
