-- What `names` is refused for, and what it shows of a name.
use Rattle.std.specs.Prelude.{List, Option, None, IsSome, bytes_eq, codes, unwrap_or, if◌then◌else◌}
use Rattle.std.specs.List.{AllByRecursion}
use Rattle.gix_hash.specs.Id.{id_of, null_id}
use Rattle.history_model.specs.Bytes.{Bytes}
use Rattle.history_model.specs.Replies.{NameLine}
use Rattle.history_model.specs.Repository.{peeled}
use Rattle.history_model.specs.declared.Cause.{Cause}
use Rattle.history_store.specs.declared.listed.NamedId.{NamedId}
use Rattle.history_repository.specs.NameForms.{form_cause}
use Rattle.history_repository.specs.Held.{held_commit, held_id}
use Rattle.history_repository.specs.declared.shown.Shown.{Shown}
use Rattle.history_model.specs.Repository as plain

-- why a folder's names can't be listed: it is neither that of all names nor a name that a
-- repository may hold
abbrev pub folder_cause : Bytes → Option Cause
folder_cause folder = if bytes_eq folder (codes "refs") then None else form_cause folder

-- the line of a name with what it holds, as it was read
abbrev pub shown_name : Shown → NameLine
shown_name shown =
    record {
      id =
          held_id shown.held;
      commit = held_commit shown.held;
      name = shown.name.items;
    }

-- the line of a name that holds this id
abbrev pub told_name : plain.Repository → NamedId → NameLine
told_name r named = record {
  id = id_of named.id;
  commit = unwrap_or (peeled r (id_of named.id)) (null_id r.kind);
  name = named.name.items;
}

-- each of the ids peels to a commit
abbrev pub ArePeeled : plain.Repository → List NamedId → Type 0
ArePeeled r names = AllByRecursion (λ (named : NamedId). IsSome (peeled r (id_of named.id))) names
