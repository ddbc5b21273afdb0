-- What a walk knows before its first commit comes.
use Rattle.std.specs.Prelude.{◌≡◌, ◌↔◌, ℕ, ◌<◌, List, ◌++◌, length, Contains, None}
use Rattle.gix_hash.specs.declared.object_id.ObjectId.{ObjectId}
use Rattle.gix_object_lookup.specs.Table.{Table}
use Rattle.gix_traverse_graph.specs.Commits.{Commits, asked_parents, Reached}
use Rattle.gix_traverse_graph.specs.Numbered.{same_id}
use Rattle.gix_traverse_graph.specs.Order.{At, IsBreadthFirst}
use Rattle.gix_traverse_commit_known.specs.Painting.{ReachedFrom}
use Rattle.gix_traverse_graph.specs.Standing.{NotIn}
use Rattle.gix_traverse_graph.specs.declared.parents.Parents.{Parents}
use Rattle.gix_traverse_graph.specs.declared.rows.Row.{Row}
use Rattle.gix_traverse_topo.specs.Nodes.{all_facts, counts, hidden_in, EachCount, IsOnce, AreFacts, ParentsFrom}
use Rattle.gix_traverse_topo.specs.Turns.{names_of}
use Rattle.gix_traverse_topo.specs.declared.known.Known.{Known}
use Rattle.gix_traverse_topo.specs.declared.known.Facts.{Facts}

-- all that the ends reach is read, and nothing else is known
pub record IsPainted (honest may_fail : Type 0) (rows : List Row) (table : Table)
    (ends : List ObjectId) (known : Known) : Type 0 where
  pub once : IsOnce known.ids.keys
  pub all_read : length known.nodes.items ≡ length known.ids.keys
  pub all_hidden : hidden_in known.nodes.items ≡ length known.ids.keys
  pub read : (n : ℕ) (x : ObjectId) (facts : Facts) → At known.ids.keys n x
      → At (all_facts known.nodes.items) n facts → AreFacts honest may_fail rows table x facts
  pub no_fault : (n : ℕ) (facts : Facts) → At (all_facts known.nodes.items) n facts
      → facts.fault ≡ None
  pub hides : (h : Commits ObjectId) → ParentsFrom 0 h known.ids.keys (all_facts known.nodes.items)
      → (x : ObjectId) → Contains known.ids.keys x ↔ ReachedFrom h ends x

-- those that the ends reach are followed by those that the tips reach past them, in breadth order,
-- and names are counted
pub record Numbers (h : Commits ObjectId) (tips ends : List ObjectId) (parents : Parents)
    (known : Known) : Type 0 where
  pub hs : List ObjectId
  pub xs : List ObjectId
  pub keys_are : known.ids.keys ≡ hs ++ xs
  pub hidden_are : hidden_in known.nodes.items ≡ length hs
  pub hides : (x : ObjectId) → Contains hs x ↔ ReachedFrom h ends x
  pub breadth : IsBreadthFirst (asked_parents parents h) tips
      (Reached (asked_parents parents h) (NotIn hs) tips) xs
  pub counted : EachCount (hidden_in known.nodes.items) known.ids.keys (counts known.nodes.items)
      (λ y count. count ≡ names_of same_id (asked_parents parents h) y xs)

-- all that a walk comes to is read and numbered; those that the ends reach are read without a fault
pub record IsExplored (honest may_fail : Type 0) (rows : List Row) (table : Table)
    (tips ends : List ObjectId) (parents : Parents) (known : Known) : Type 0 where
  pub once : IsOnce known.ids.keys
  pub all_read : length known.nodes.items ≡ length known.ids.keys
  pub read : (n : ℕ) (x : ObjectId) (facts : Facts) → At known.ids.keys n x
      → At (all_facts known.nodes.items) n facts → AreFacts honest may_fail rows table x facts
  pub no_fault : (n : ℕ) (facts : Facts) → n < hidden_in known.nodes.items
      → At (all_facts known.nodes.items) n facts → facts.fault ≡ None
  pub numbers : (h : Commits ObjectId)
      → ParentsFrom 0 h known.ids.keys (all_facts known.nodes.items)
      → Numbers h tips ends parents known
