-- The commits of rows.
use Rattle.std.specs.Prelude.{List, [], Option, Some, None, pos, find}
use Rattle.gix_hash.specs.declared.object_id.ObjectId.{ObjectId}
use Rattle.gix_traverse_graph.specs.Commits.{Commit, Commits}
use Rattle.gix_traverse_graph.specs.Numbered.{same_id}
use Rattle.gix_traverse_graph.specs.declared.rows.Row.{Row}

-- the row of a commit
abbrev pub row_of : List Row → ObjectId → Option Row
row_of rows id = find (λ (row : Row). same_id id row.id) rows

-- what a row says of its commit
abbrev pub commit_of : Option Row → Commit ObjectId
commit_of (Some row) = record { parents = row.parents.items; time = row.time }
commit_of None = record { parents = []; time = pos 0 }

-- the commit of each id
abbrev pub commits_of : List Row → Commits ObjectId
commits_of rows id = commit_of (row_of rows id)
