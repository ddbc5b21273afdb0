-- What names and ids are in a whole repository.
use Rattle.std.specs.Prelude.{◌≡◌, not, Some}
use Rattle.std.specs.List.{AllByRecursion}
use Rattle.history_model.specs.Bytes.{Bytes}
use Rattle.gix_hash.specs.Id.{Id}
use Rattle.gix_hash.specs.Order.{id_eq}
use Rattle.history_model.specs.Repository.{Repository, IsWholeStore, HasWholeNames, HoldsCommit, id_at, is_tag, peeled}
use Rattle.history_model.specs.Commands.{CommitCommand}
use Rattle.history_model.specs.Meaning.{name_commit, parents_of}

-- Each name holds a stored commit, or a tag of one, and peels to that commit.
abbrev pub NamesStandForCommits : Type 0
NamesStandForCommits =
    (r : Repository) (name : Bytes) (id : Id) → IsWholeStore r → HasWholeNames r
    → id_at r name ≡ Some id
    → (commit : Id) × (name_commit r name ≡ Some commit) × HoldsCommit r commit

-- An id is a tag's exactly if it peels to another id.
abbrev pub TagsStandForOthers : Type 0
TagsStandForOthers =
    (r : Repository) (id commit : Id) → IsWholeStore r → peeled r id ≡ Some commit
    → is_tag r id ≡ not (id_eq id commit)

-- Each parent of a commit is a stored commit.
abbrev pub ParentsAreCommits : Type 0
ParentsAreCommits =
    (r : Repository) (c : CommitCommand) → IsWholeStore r
    → AllByRecursion (HoldsCommit r) (parents_of r c)
