-- Commits that were read from a store, and are kept by their ids.
use Rattle.std.specs.Prelude.{ℕ, List, Vec, map, option_map}
use Rattle.std.specs.BTreeMap.{BTreeMap, get_by, keys}
use Rattle.std.specs.declared.alloc.Global.{Global}
use Rattle.gix_hash.specs.Id.{Id, id_of}
use Rattle.gix_hash.specs.Order.{id_cmp}
use Rattle.gix_hash.specs.declared.object_id.ObjectId.{ObjectId}
use Rattle.gix_object_lookup.specs.Existing.{Stands}
use Rattle.gix_object_lookup.specs.Table.{Object, Table}
use Rattle.gix_object_lines.specs.declared.kind.Kind.TheVariants as kinds
use Rattle.gix_traverse_graph.specs.Rows.{Holds}
use Rattle.gix_traverse_graph.specs.declared.rows.Row.{Row}
use Rattle.history_walks.specs.declared.read_commits.ReadCommits.{ReadCommits}

-- contents under the ids of their commits
abbrev pub Contents : Type 0
Contents = BTreeMap ObjectId (Vec ℕ Global)

-- the object of a commit of this content
abbrev pub commit_object : Vec ℕ Global → Object
commit_object content = record { kind = kinds.Commit; content = content.items }

-- each content is that of a commit
abbrev pub table_of : Contents → Table
table_of contents id =
    option_map commit_object (get_by (λ key. id_cmp id (id_of key)) contents)

abbrev pub ids_of : Contents → List Id
ids_of contents = map id_of (keys contents)

-- the objects of the commits that were read
abbrev pub kept_in : ReadCommits → Table
kept_in commits = table_of commits.contents

-- each commit that is kept is the table's
abbrev pub AreOf : Table → Table → Type 0
AreOf table kept =
    (x : ObjectId) (content : List ℕ) → Stands kept (id_of x) kinds.Commit content
    → Stands table (id_of x) kinds.Commit content

-- Of a table's commits some are kept, and each wanted commit without a row is among them.
pub record AreKept (rows : List Row) (table kept : Table)
    (IsWanted : ObjectId → Type 0) : Type 0 where
  pub stand : AreOf table kept
  pub each : (x : ObjectId) → IsWanted x → ¬ Holds rows x
      → (content : List ℕ) × Stands kept (id_of x) kinds.Commit content
