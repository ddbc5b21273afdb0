-- What was seen of commits at some paths.
use Rattle.std.specs.Prelude.{◌≡◌, List, Result, map, option_map, IfSome}
use Rattle.std.specs.Borrow.{Bor}
use Rattle.gix_hash.specs.Id.{Id, id_of}
use Rattle.history_files.specs.Laws.{table_of}
use Rattle.history_files.specs.NamedTrees.{AreNamed}
use Rattle.history_files.specs.Reading.{entry_of}
use Rattle.history_files.specs.declared.named_trees.NamedTrees.{NamedTrees}
use Rattle.history_model.specs.Answers.{differs_at, parents_at}
use Rattle.history_model.specs.Bytes.{Bytes}
use Rattle.history_model.specs.Meaning.{files_at}
use Rattle.history_model.specs.Objects.{entry_at}
use Rattle.history_model.specs.Repository.{Repository, HoldsCommit}
use Rattle.history_repository.specs.Reads.{GivesMeant}
use Rattle.history_repository.specs.declared.stopped.Stopped.{Stopped}
use Rattle.history_queries.specs.declared.differing.Compared.{Compared}
use Rattle.history_queries.specs.declared.differing.Seen.{Seen}

-- these are a stored commit's parents, and what it has at the paths
pub record IsSeen (r : Repository) (paths : List (Bor Bytes)) (seen : Seen) : Type 0 where
  pub holds : HoldsCommit r (id_of seen.id)
  pub parents : map id_of seen.parents.items ≡ parents_at r (id_of seen.id)
  pub found : map (option_map entry_of) seen.found.items
      ≡ map (λ path. entry_at r.kind (files_at r (id_of seen.id)) path.now) paths

-- the same of this commit
abbrev pub IsSeenAt : Repository → List (Bor Bytes) → Id → Seen → Type 0
IsSeenAt r paths id seen = (id_of seen.id ≡ id) × IsSeen r paths seen

-- whether the commit differs at the paths from its first parent, of which this was seen
pub record IsCompared (r : Repository) (paths : List (Bor Bytes)) (id : Id) (compared : Compared)
    : Type 0 where
  pub differs : compared.differs ≡ differs_at r (map (λ path. path.now) paths) id
  pub before : IfSome compared.before (IsSeen r paths)

-- if what is kept of trees under the names of the paths is as they are stored, what is meant, and
-- all that is kept since is so too; or a fault of reading
abbrev pub ReadsNamed : {T : Type 0} → Type 0 → Repository → List (Bor Bytes) → NamedTrees
    → NamedTrees → (T → Type 0) → Result T Stopped → Type 0
ReadsNamed MayFail r paths before now IsMeant result = AreNamed (table_of r) paths before
    → GivesMeant MayFail (λ value. IsMeant value × AreNamed (table_of r) paths now) result
