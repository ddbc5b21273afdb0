-- How far a walk has read the commits that it numbered.
use Rattle.std.specs.Prelude.{◌≡◌, ℕ, ◌+◌, ◌<◌, ◌≤◌, List, ◌++◌, length, take}
use Rattle.gix_hash.specs.declared.object_id.ObjectId.{ObjectId}
use Rattle.gix_object_lookup.specs.Table.{Table}
use Rattle.gix_traverse_graph.specs.Commits.{Commits, asked, asked_parents}
use Rattle.gix_traverse_graph.specs.Numbered.{same_id}
use Rattle.gix_traverse_graph.specs.Order.{At}
use Rattle.gix_traverse_graph.specs.Reading.{Read}
use Rattle.gix_traverse_graph.specs.Rows.{AllHeld, Holds}
use Rattle.gix_traverse_graph.specs.Standing.{NotIn}
use Rattle.gix_traverse_commit_known.specs.Meeting.{CountsAll}
use Rattle.gix_traverse_graph.specs.declared.parents.Parents.{Parents}
use Rattle.gix_traverse_graph.specs.declared.rows.Row.{Row}
use Rattle.gix_traverse_topo.specs.Meeting.{IsRow, Met}
use Rattle.gix_traverse_topo.specs.Nodes.{all_facts, counts, IsOnce, AreFacts, NamesAre, ParentsIn}
use Rattle.gix_traverse_topo.specs.Turns.{names_of, times}
use Rattle.gix_traverse_topo.specs.declared.known.Known.{Known}
use Rattle.gix_traverse_topo.specs.declared.known.Node.{Node}
use Rattle.gix_traverse_topo.specs.declared.known.Facts.{Facts}

-- each of these has a number, and what was known stays
pub record Meets (ids keys : List ObjectId) (nodes : List Node) (keys' : List ObjectId)
    (nodes' : List Node) : Type 0 where
  pub kept : (k : ℕ) (x : ObjectId) → At keys k x → At keys' k x
  pub told : (k : ℕ) (facts : Facts) → At (all_facts nodes) k facts
      → At (all_facts nodes') k facts
  pub many : length nodes ≡ length keys → length nodes' ≡ length keys'
  pub met : (way : ObjectId → List ObjectId) (tips hs xs : List ObjectId) (p : ℕ)
      → keys ≡ hs ++ xs → Read way tips (NotIn hs) xs p 0 → IsRow way tips xs p ids
      → Met way tips hs keys' p

-- names are counted, so many more of each as that says
abbrev pub Names : (ObjectId → ℕ) → List ObjectId → List Node → List ObjectId → List Node → Type 0
Names more keys nodes keys' nodes' = (low : ℕ) (names : ObjectId → ℕ) → IsOnce keys
    → length nodes ≡ length keys → NamesAre low keys (counts nodes) names
    → NamesAre low keys' (counts nodes') (λ y. names y + more y)

-- the commit of this number is read, and its parents are numbered and named
pub record Visits (honest may_fail : Type 0) (rows : List Row) (table : Table) (along : Parents)
    (number : ℕ) (id : ObjectId) (keys : List ObjectId) (nodes : List Node) (keys' : List ObjectId)
    (nodes' : List Node) : Type 0 where
  pub facts : Facts
  pub is_read : AreFacts honest may_fail rows table id facts
  pub placed : At (all_facts nodes') number facts
  pub others : (k : ℕ) (other : Facts) → (k ≡ number → ⊥) → At (all_facts nodes) k other
      → At (all_facts nodes') k other
  pub middle : List Node
  pub meets : Meets (asked along facts.parents.items) keys nodes keys' middle
  pub many : length nodes' ≡ length middle
  pub names : Names (λ y. times (same_id y) (asked along facts.parents.items)) keys nodes keys'
      nodes'

-- after the commits that were known those up to high are read, and the names that they give are
-- counted
pub record Walking (honest may_fail : Type 0) (rows : List Row) (table : Table) (along : Parents)
    (tips keys : List ObjectId) (nodes : List Node) (high : ℕ) (keys' : List ObjectId)
    (nodes' : List Node) : Type 0 where
  pub keys_kept : (k : ℕ) (x : ObjectId) → At keys k x → At keys' k x
  pub once : IsOnce keys → IsOnce keys'
  pub told_kept : (k : ℕ) (facts : Facts) → k < length nodes → At (all_facts nodes) k facts
      → At (all_facts nodes') k facts
  pub many : length nodes ≡ length keys → length nodes' ≡ length keys'
  pub within : high ≤ length nodes'
  pub read : (n : ℕ) (x : ObjectId) (facts : Facts) → length nodes ≤ n → n < high
      → At keys' n x → At (all_facts nodes') n facts
      → AreFacts honest may_fail rows table x facts
  pub place : ℕ
  pub placed : high ≡ length nodes + place
  pub met : length nodes ≡ length keys → IsOnce keys → (h : Commits ObjectId)
      → ParentsIn (length nodes) high h keys' (all_facts nodes')
      → (m : Met (asked_parents along h) tips keys keys' place)
      × NamesAre (length keys) keys' (counts nodes')
      (λ y. names_of same_id (asked_parents along h) y (take place m.xs))

-- after the commits that were known all are read that these tips reach past them
abbrev pub WalksAll : Type 0 → Type 0 → List Row → Table → Parents → List ObjectId → List ObjectId
    → List Node → List ObjectId → List Node → Type 0
WalksAll honest may_fail rows table along tips keys nodes keys' nodes' = (high : ℕ)
    × (length keys' ≤ high)
    × Walking honest may_fail rows table along tips keys nodes high keys' nodes'

-- after the commits that were known more are known, that these tips reach: how many objects were
-- looked up for them
pub record CountsNew (rows : List Row) (tips : List ObjectId) (old : Known) (before : ℕ)
    (new : Known) (after : ℕ) : Type 0 where
  -- at most one for each
  pub most : after + length old.nodes.items ≤ before + length new.nodes.items
  -- one for each if none has a row, as far as the counter goes
  pub bare : length old.nodes.items ≡ length old.ids.keys → ((x : ObjectId) → ¬ Holds rows x)
      → before ≤ length old.nodes.items
      → after + length old.nodes.items ≡ before + length new.nodes.items
  -- one after the other, except those that have rows
  pub each : length old.nodes.items ≡ length old.ids.keys → (first : ℕ)
      → CountsAll rows old.ids.keys first before → CountsAll rows new.ids.keys first after
  -- none if all that is known and the tips have rows; then all that is known now has
  pub held : AllHeld rows old.ids.keys → AllHeld rows tips
      → AllHeld rows new.ids.keys × (after ≡ before)
