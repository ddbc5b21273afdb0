-- The trees below a root, while they are handed out from the last number down.
use Rattle.std.specs.Prelude.{ℕ, ◌≡◌, ◌≢◌, ◌<◌, ◌≤◌, List, [], Option, Result, Ok, Err, Some, None}
use Rattle.std.specs.Borrow.{Bor}
use Rattle.std.specs.Fn.{Mut, CalledAt}
use Rattle.std.specs.List.{All, Contains}
use Rattle.gix_hash.specs.Id.{Id}
use Rattle.gix_hash.specs.declared.object_id.ObjectId.{ObjectId}
use Rattle.gix_object_tree.specs.Entry.{Item}
use Rattle.gix_object_tree.specs.declared.tree.owned.Tree.{Tree}
use Rattle.gix_object_nodes.specs.declared.write.error.Error.{Error}
use Rattle.gix_object_nodes.specs.declared.write.error.Error.TheVariants.{Out, Memory}
use Rattle.gix_object_nodes.specs.Files.{Path, Begins}
use Rattle.gix_object_nodes.specs.Nodes.{Slots, onto, LeadsTo}
use Rattle.gix_object_nodes.specs.Writing.{Ids, IsReached, HasEntries}
use Rattle.gix_object_nodes.specs.Written.{HandedOut, EachBehind, IsHandedOut}

-- the tree has no entries and no id, or was handed out for its id
abbrev pub IsAnswered : Option Id → List HandedOut → Path → List Item → Type 0
IsAnswered None handed path items = items ≡ []
IsAnswered (Some id) handed path items = Contains handed
    (record { path = path; items = items; id = id })

-- an opened tree is done
pub record IsDone (slots : Slots) (ids : Ids) (handed : List HandedOut) (j : ℕ) : Type 0 where
  pub path : Path
  pub items : List Item
  pub leads : LeadsTo slots path j []
  pub entries : HasEntries ids (slots j) items
  pub answered : IsAnswered (ids j) handed path items

-- the tree is that of an opened one from this number on
abbrev pub IsOneFrom : Slots → ℕ → Ids → ℕ → HandedOut → Type 0
IsOneFrom slots bound ids at tree = (j : ℕ) × (at ≤ j) × (j < bound) × LeadsTo slots tree.path j []
    × HasEntries ids (slots j) tree.items

-- the opened trees from this number on to which the tree at the end of these names leads are handed
-- out
pub record IsHandedOutFrom (slots : Slots) (base : Path) (bound : ℕ) (ids : Ids)
    (handed : List HandedOut) (at : ℕ) : Type 0 where
  pub in_order : EachBehind (IsHandedOut slots) [] handed
  pub some : All (λ tree. tree.items ≢ []) handed
  pub ones : All (IsOneFrom slots bound ids at) handed
  pub below : All (λ tree. Begins (onto base []) tree.path) handed
  pub done : (j : ℕ) → at ≤ j → j < bound → IsReached slots base j → IsDone slots ids handed j

module _ {F E : Type 0} (calls : Mut F (Bor Tree × Unit {0}) (Result ObjectId E)) where
  -- a tree is handed out, unless it has no entries
  abbrev pub Answered : F → Tree → Result (Option ObjectId) (Error E) → F → Type 0
  Answered before tree (Ok None) after = (tree.entries.items ≡ []) × (before ≡ after)
  Answered before tree (Ok (Some oid)) after = (tree.entries.items ≢ [])
      × CalledAt calls before tree (Ok oid) after
  Answered before tree (Err (Out error)) after = (tree.entries.items ≢ [])
      × CalledAt calls before tree (Err error) after
  Answered before tree (Err Memory) after = ⊥
