-- The walk in depth order: each entry, and then what lies in it, before the entry after it.
use Rattle.std.specs.Prelude.{ℕ, ◌≡◌, ◌≢◌, Bool, true, false, List, [], ◌∷◌, ◌++◌, if◌then◌else◌}
use Rattle.std.specs.declared.ops.ControlFlow.TheVariants.{Continue, Break}
use Rattle.gix_hash.specs.Id.{Id}
use Rattle.gix_object_lines.specs.declared.decode.Error as decode
use Rattle.gix_object_tree.specs.Entry.{Item, SpellsEntry, SpellsNoEntry, EntryFault}
use Rattle.gix_object_tree.specs.Order.{is_tree}
use Rattle.gix_object_lookup.specs.Table.{Table}
use Rattle.gix_traverse_tree.specs.Calls.{Call, pop_back, push_back, pop, shown, descends}
use Rattle.gix_traverse_tree.specs.Trees.{End, whole, broken, failed, IsRead, TreeFault}
use Rattle.gix_traverse_tree.specs.declared.error.Error.{Error}
use Rattle.gix_traverse_tree.specs.declared.error.Error.TheVariants.{ObjectDecode}

-- where a walk is: before a tree, or in one, before the entries that this content spells
pub data Place : Type 0 where
  before : Id → Place
  inside : Id → List ℕ → Place

-- after an entry at which the walk ends: a tree's name is taken off the path
abbrev pub behind_last : Item → List Call
behind_last item = if is_tree item then pop ∷ [] else []

-- to go below a tree the path is queued, first as it is
abbrev pub entering : Item → List Call
entering item = push_back [] ∷ push_back item.name ∷ []

-- the calls from a place on to the end of the tree; `above` are the trees that it lies in, the
-- nearest first
pub data InDepth (H M : Type 0) (table : Table) : List Id → Place → List Call → End → Type 0 where
  tree : {above : List Id} {id : Id} {content : List ℕ} {calls : List Call} {end : End}
      → IsRead H table above id content → InDepth H M table above (inside id content) calls end
      → InDepth H M table above (before id) (pop_back ∷ calls) end
  unfound : {above : List Id} {id : Id} {error : Error} → TreeFault H M table above id error
      → InDepth H M table above (before id) [] (failed error)
  none : {above : List Id} {id : Id} → InDepth H M table above (inside id []) [] whole
  entry : {above : List Id} {id : Id} {content rest : List ℕ} {item : Item}
      (answer : Bool) {calls : List Call} {end : End}
      → SpellsEntry id.kind content item rest → descends item (Continue answer) ≡ false
      → InDepth H M table above (inside id rest) calls end
      → InDepth H M table above (inside id content)
      (shown item (Continue answer) ++ (pop ∷ calls)) end
  below : {above : List Id} {id : Id} {content rest : List ℕ} {item : Item}
      (answer : Bool) {calls more : List Call} {end : End}
      → SpellsEntry id.kind content item rest → descends item (Continue answer) ≡ true
      → InDepth H M table (id ∷ above) (before item.id) calls whole
      → InDepth H M table above (inside id rest) more end
      → InDepth H M table above (inside id content)
      (shown item (Continue answer)
      ++ (pop ∷ (entering item ++ (calls ++ (pop_back ∷ more))))) end
  ended_below : {above : List Id} {id : Id} {content rest : List ℕ} {item : Item}
      (answer : Bool) {calls : List Call} {end : End}
      → SpellsEntry id.kind content item rest → descends item (Continue answer) ≡ true
      → InDepth H M table (id ∷ above) (before item.id) calls end → end ≢ whole
      → InDepth H M table above (inside id content)
      (shown item (Continue answer) ++ (pop ∷ (entering item ++ calls))) end
  ended : {above : List Id} {id : Id} {content rest : List ℕ} {item : Item}
      → SpellsEntry id.kind content item rest
      → InDepth H M table above (inside id content)
      (shown item (Break tt) ++ behind_last item) broken
  unread : {above : List Id} {id : Id} {content : List ℕ} {error : decode.Error}
      → content ≢ [] → SpellsNoEntry id.kind content → EntryFault id.kind content error
      → InDepth H M table above (inside id content) [] (failed (ObjectDecode error))
