-- What rows and objects say of commits: a row all, if a commit has one; otherwise its object, by
-- the lines that begin it.
use Rattle.std.specs.Prelude.{ℕ, ◌≡◌, ◌⊎◌, ℤ, pos, List, [], ◌∷◌, Contains, Option, Some, None, Result, Ok, map, take, filter_map}
use Rattle.gix_hash.specs.Id.{Id, id_of}
use Rattle.gix_hash.specs.declared.kind.Kind as hash
use Rattle.gix_hash.specs.declared.object_id.ObjectId.{ObjectId}
use Rattle.gix_object_lines.specs.Time.{SpellsTime}
use Rattle.gix_object_lines.specs.declared.decode.Error as decode
use Rattle.gix_object_lines.specs.declared.kind.Kind.TheVariants as kinds
use Rattle.gix_object_lines.specs.declared.lines.time.Time.{Time}
use Rattle.gix_object_lines.specs.Person.{Person}
use Rattle.gix_object_commit.specs.ReadingOn.{Reads, TellsFirst, TellsNone, TakesTree, parent_told, committer_told}
use Rattle.gix_object_commit.specs.Tokens.{Part, Tree, Parent, Place, IsNext, place_of, start}
use Rattle.gix_object_lookup.specs.Existing.{Stands}
use Rattle.gix_object_lookup.specs.Table.{Table}
use Rattle.gix_traverse_graph.specs.Commits.{Commit, Commits}
use Rattle.gix_traverse_graph.specs.RowCommits.{commit_of}
use Rattle.gix_traverse_graph.specs.Rows.{Holds}
use Rattle.gix_traverse_commit_known.specs.declared.either.Either.{Either}
use Rattle.gix_traverse_commit_known.specs.declared.either.Either.TheVariants as either
use Rattle.gix_traverse_commit_known.specs.declared.fetch.Source.{Source}
use Rattle.gix_traverse_graph.specs.declared.rows.Row.{Row}

-- the rows, if there are any
abbrev pub rows_of : Option (List Row) → List Row
rows_of None = []
rows_of (Some rows) = rows

-- ---- what an object says (git-hash-object, `-t commit`; Git User Manual, "Commit Object")

-- a part that is neither tree nor parent
abbrev pub beyond_told : Part → Option Part
beyond_told (Tree _) = None
beyond_told (Parent _) = None
beyond_told part = Some part

-- here a commit ends, or a part comes that is neither tree nor parent
abbrev pub IsPastParents : Place → Type 0
IsPastParents here =
    (here.input ≡ [])
    ⊎ ((part : Part) × (after : Place) × IsNext here part after × (beyond_told part ≡ Some part))

-- the lines from here to there are of trees and parents, and the parents are these
pub record TellsFront (here : Place) (ids : List Id) (there : Place) : Type 0 where
  pub parts : List Part
  pub read : Reads here parts there
  pub parents : filter_map parent_told parts ≡ ids
  pub front : filter_map beyond_told parts ≡ []

-- the parents whose lines come from here on, up to the first line of another part
abbrev pub TellsParents : Place → List Id → Type 0
TellsParents here ids = (there : Place) × TellsFront here ids there × IsPastParents there

-- the committer's seconds, from here on
pub record TellsSeconds (here : Place) (seconds : ℤ) : Type 0 where
  pub committer : Person
  pub time : Time
  pub committed : TellsFirst committer_told here committer
  pub spelled : SpellsTime committer.time time
  pub same : seconds ≡ time.seconds

abbrev pub LacksSeconds : Place → Type 0
LacksSeconds here = (seconds : ℤ) → ¬ TellsSeconds here seconds

-- an object of this content is the commit's; without a committer its time is 0
pub record TellsCommit (kind : hash.Kind) (content : List ℕ)
    (commit : Commit ObjectId) : Type 0 where
  pub parents : (ids : List Id) → TellsParents (start kind content) ids
      → map id_of commit.parents ≡ ids
  pub first : (id : Id) → TellsFirst parent_told (start kind content) id
      → map id_of (take 1 commit.parents) ≡ id ∷ []
  pub seconds : (seconds : ℤ) → TellsSeconds (start kind content) seconds → commit.time ≡ seconds
  pub no_seconds : LacksSeconds (start kind content) → commit.time ≡ pos 0

-- the id has no object that is a commit
abbrev pub IsNoCommit : Table → Id → Type 0
IsNoCommit table id = (content : List ℕ) → ¬ Stands table id kinds.Commit content

-- the commits are those of the rows, and otherwise those of the objects
pub record AreTold (rows : List Row) (table : Table) (commits : Commits ObjectId) : Type 0 where
  pub rowed : (row : Row) → Contains rows row → commits row.id ≡ commit_of (Some row)
  pub stored : (id : ObjectId) (content : List ℕ) → ¬ Holds rows id
      → Stands table (id_of id) kinds.Commit content
      → TellsCommit (id_of id).kind content (commits id)
  pub missing : (id : ObjectId) → ¬ Holds rows id → IsNoCommit table (id_of id)
      → (commits id).time ≡ pos 0

-- ---- what a clause says over rows and objects

-- this holds of all commits that they describe, if the objects return what their table has
abbrev pub OverTold : {F : Type 0} → (F → Type 0) → (F → Table) → Source F
    → (Commits ObjectId → Type 0) → Type 0
OverTold IsHonest table source What = IsHonest source.objects → (g : Commits ObjectId)
    → AreTold (rows_of source.rows) (table source.objects) g → What g

-- ---- a commit that was found

abbrev pub TakesTreeOf : Either → Result ObjectId decode.Error → Type 0
TakesTreeOf (either.CommitRefIter reader) result =
    (after : Place) × TakesTree (place_of reader) result after
TakesTreeOf (either.CachedCommit row) result = result ≡ Ok row.now.tree

abbrev pub TellsTime : Either → ℤ → Type 0
TellsTime (either.CommitRefIter reader) seconds = TellsSeconds (place_of reader) seconds
TellsTime (either.CachedCommit row) seconds = seconds ≡ row.now.time

abbrev pub LacksTime : Either → decode.Error → Type 0
LacksTime (either.CommitRefIter reader) error = TellsNone committer_told (place_of reader) error
LacksTime (either.CachedCommit row) error = ⊥

-- its row if it has one, and otherwise a reader at the start of its object
abbrev pub IsFound : List Row → Table → ObjectId → Either → Type 0
IsFound rows table id (either.CachedCommit row) = Contains rows row.now × (row.now.id ≡ id)
IsFound rows table id (either.CommitRefIter reader) =
    (¬ Holds rows id)
    × ((content : List ℕ) × Stands table (id_of id) kinds.Commit content
    × (place_of reader ≡ start (id_of id).kind content))
