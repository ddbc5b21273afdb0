-- What callers see of a repository.
use Rattle.std.specs.Prelude.{◌≡◌, Bool, List, Option}
use Rattle.gix_traverse_graph.specs.declared.rows.Row.{Row}
use Rattle.history_store.specs.Ids.{IdSet}
use Rattle.history_store.specs.ObjectsFace.{commits_of_objects, files_of_objects, ids_of_objects}
use Rattle.history_store.specs.NamesFace.{files_of_names}
use Rattle.history_repository.specs.declared.repository.Repository.{Repository}

-- the files of the part that holds the objects
abbrev pub objects_part : {F : Type 0} → Repository F → F
objects_part repository = files_of_objects repository.objects

-- the files of the part that holds HEAD, the names and their logs
abbrev pub names_part : {F : Type 0} → Repository F → F
names_part repository = files_of_names repository.names

-- the ids that are known to be stored
abbrev pub known_ids : {F : Type 0} → Repository F → IdSet
known_ids repository = ids_of_objects repository.objects

-- those of them that are known to be commits'
abbrev pub known_commits : {F : Type 0} → Repository F → IdSet
known_commits repository = commits_of_objects repository.objects

-- the rows that it keeps of its commits, if it has any
abbrev pub rows_in : {F : Type 0} → Repository F → Option (List Row)
rows_in repository = repository.rows

-- whether a command that changes files met a fault
abbrev pub has_failed : {F : Type 0} → Repository F → Bool
has_failed repository = repository.has_failed

-- A part of a command left all but the objects as it was.
pub record KeepsAllButObjects {F : Type 0} (old new : Repository F) : Type 0 where
  pub names : new.names ≡ old.names
  pub branch : new.branch ≡ old.branch
  pub rows : new.rows ≡ old.rows
  pub failed : new.has_failed ≡ old.has_failed

-- A part of a command left all but the names as it was.
pub record KeepsAllButNames {F : Type 0} (old new : Repository F) : Type 0 where
  pub objects : new.objects ≡ old.objects
  pub branch : new.branch ≡ old.branch
  pub rows : new.rows ≡ old.rows
  pub failed : new.has_failed ≡ old.has_failed

-- It left all but the rows as it was.
abbrev pub KeepsAllButRows : {F : Type 0} → Repository F → Repository F → Type 0
KeepsAllButRows old new = new ≡ record old { rows = new.rows }
