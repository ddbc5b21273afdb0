-- What callers see of the names of a repository.
use Rattle.gix_hash.specs.declared.kind.Kind.{Kind}
use Rattle.history_store.specs.declared.names.Names.{Names}

-- the files that hold HEAD, the names and their logs
abbrev pub files_of_names : {F : Type 0} → Names F → F
files_of_names names = names.store.files

-- the kind of the ids that names hold
abbrev pub kind_of_names : {F : Type 0} → Names F → Kind
kind_of_names names = names.kind
