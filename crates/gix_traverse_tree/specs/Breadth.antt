-- The walk in breadth order: the entries of the root, then of the trees that lie in it, then of
-- those that lie in these.
use Rattle.std.specs.Prelude.{ℕ, ◌≢◌, Bool, List, [], ◌∷◌, ◌++◌, map, if◌then◌else◌}
use Rattle.std.specs.declared.ops.ControlFlow.TheVariants.{Continue, Break}
use Rattle.gix_hash.specs.Id.{Id}
use Rattle.gix_hash.specs.declared.kind.Kind.{Kind}
use Rattle.gix_object_lines.specs.declared.decode.Error as decode
use Rattle.gix_object_tree.specs.Entry.{Item, SpellsEntry, SpellsNoEntry, EntryFault}
use Rattle.gix_object_lookup.specs.Table.{Table}
use Rattle.gix_traverse_tree.specs.Calls.{Call, pop_front, push_back, pop, shown, descends}
use Rattle.gix_traverse_tree.specs.Trees.{End, whole, failed, IsRead, TreeFault}
use Rattle.gix_traverse_tree.specs.declared.error.Error.{Error}
use Rattle.gix_traverse_tree.specs.declared.error.Error.TheVariants.{Cancelled, ObjectDecode}

-- after an entry that the walk goes past; a tree that it will go below is queued
abbrev pub behind : Item → Bool → List Call
behind item queued = if queued then pop ∷ push_back item.name ∷ pop ∷ [] else pop ∷ []

-- the entry's id, if the walk will go below it
abbrev pub queued_id : Item → Bool → List Id
queued_id item queued = if queued then item.id ∷ [] else []

-- the calls for the entries of a tree, in their order, and the ids of the trees to go below
pub data Listing (ids : Kind) : List ℕ → List Call → List Id → End → Type 0 where
  none : Listing ids [] [] [] whole
  entry : {content rest : List ℕ} {item : Item}
      (answer : Bool) {calls : List Call} {below : List Id} {end : End}
      → SpellsEntry ids content item rest → Listing ids rest calls below end
      → Listing ids content
      (shown item (Continue answer) ++ (behind item (descends item (Continue answer)) ++ calls))
      (queued_id item (descends item (Continue answer)) ++ below) end
  ended : {content rest : List ℕ} {item : Item}
      → SpellsEntry ids content item rest
      → Listing ids content (shown item (Break tt)) [] (failed Cancelled)
  unread : {content : List ℕ} {error : decode.Error} → content ≢ [] → SpellsNoEntry ids content
      → EntryFault ids content error
      → Listing ids content [] [] (failed (ObjectDecode error))

-- a tree to go below: its id, and those of the trees that it lies in, the nearest first
pub record Tree : Type 0 where
  pub id : Id
  pub above : List Id

-- a tree of this id that lies in the tree
abbrev pub under : Tree → Id → Tree
under tree id = record { id = id; above = tree.id ∷ tree.above }

-- the calls for the trees of one level, in their order, and the trees of the next
pub data Level (H M : Type 0) (table : Table) : List Tree → List Call → List Tree → End
    → Type 0 where
  none : Level H M table [] [] [] whole
  tree : {t : Tree} {ts deeper : List Tree} {content : List ℕ} {calls more : List Call}
      {below : List Id} {end : End}
      → IsRead H table t.above t.id content → Listing t.id.kind content calls below whole
      → Level H M table ts more deeper end
      → Level H M table (t ∷ ts) (pop_front ∷ (calls ++ more)) (map (under t) below ++ deeper) end
  ended : {t : Tree} {ts : List Tree} {content : List ℕ} {calls : List Call} {below : List Id}
      {error : Error}
      → IsRead H table t.above t.id content → Listing t.id.kind content calls below (failed error)
      → Level H M table (t ∷ ts) (pop_front ∷ calls) [] (failed error)
  unread : {t : Tree} {ts : List Tree} {error : Error} → TreeFault H M table t.above t.id error
      → Level H M table (t ∷ ts) (pop_front ∷ []) [] (failed error)

-- the calls for all levels from this one on
pub data Levels (H M : Type 0) (table : Table) : List Tree → List Call → End → Type 0 where
  none : Levels H M table [] [] whole
  level : {ts below : List Tree} {calls more : List Call} {end : End}
      → Level H M table ts calls below whole → Levels H M table below more end
      → Levels H M table ts (calls ++ more) end
  ended : {ts below : List Tree} {calls : List Call} {error : Error}
      → Level H M table ts calls below (failed error) → Levels H M table ts calls (failed error)

-- a tree that lies in the root, of which no id is known
abbrev pub under_root : Id → Tree
under_root id = record { id = id; above = [] }

-- the calls for a root of this content, and all that lies under it
pub data InBreadth (H M : Type 0) (table : Table) (ids : Kind) (content : List ℕ) : List Call
    → End → Type 0 where
  root : {calls more : List Call} {below : List Id} {end : End}
      → Listing ids content calls below whole → Levels H M table (map under_root below) more end
      → InBreadth H M table ids content (calls ++ more) end
  ended : {calls : List Call} {below : List Id} {error : Error}
      → Listing ids content calls below (failed error)
      → InBreadth H M table ids content calls (failed error)
