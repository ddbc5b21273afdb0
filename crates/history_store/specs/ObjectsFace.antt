-- What callers see of the objects of a repository.
use Rattle.std.specs.Prelude.{ℕ, Vec}
use Rattle.std.specs.BTreeSet.{BTreeSet}
use Rattle.std.specs.declared.alloc.Global.{Global}
use Rattle.gix_hash.specs.declared.kind.Kind.{Kind}
use Rattle.history_store.specs.Ids.{IdSet}
use Rattle.history_store.specs.KeptIds.{kept}
use Rattle.history_store.specs.declared.objects.Objects.{Objects}

-- the files that hold the objects
abbrev pub files_of_objects : {F : Type 0} → Objects F → F
files_of_objects objects = objects.files

-- the kind of the objects' ids
abbrev pub kind_of_objects : {F : Type 0} → Objects F → Kind
kind_of_objects objects = objects.kind

-- the ids that are known to be stored
abbrev pub ids_of_objects : {F : Type 0} → Objects F → IdSet
ids_of_objects objects = kept objects.ids

-- those of them that are commits'
abbrev pub commits_of_objects : {F : Type 0} → Objects F → IdSet
commits_of_objects objects = kept objects.commits

-- the paths of the folders that are known to exist
abbrev pub folders_of_objects : {F : Type 0} → Objects F → BTreeSet (Vec ℕ Global)
folders_of_objects objects = objects.folders
