-- Trees as a walk comes to them. H says whether the store returns what the table has, M whether its
-- lookups may fail.
use Rattle.std.specs.Prelude.{ℕ, ◌≡◌, Bool, true, false, List}
use Rattle.std.specs.List.{list_any}
use Rattle.gix_hash.specs.Id.{Id}
use Rattle.gix_hash.specs.Order.{id_eq}
use Rattle.gix_object_lines.specs.declared.kind.Kind.TheVariants as kinds
use Rattle.gix_object_lookup.specs.Table.{Table}
use Rattle.gix_object_lookup.specs.Existing.{Stands, KindFault}
use Rattle.gix_traverse_tree.specs.declared.error.Error.{Error}
use Rattle.gix_traverse_tree.specs.declared.error.Error.TheVariants as errors

-- how a walk ends: past all entries, by the delegate's word, or with an error
pub data End : Type 0 where
  whole : End
  broken : End
  failed : Error → End

-- the id is one of these
abbrev pub is_among : Id → List Id → Bool
is_among id ids = list_any (id_eq id) ids

-- the tree doesn't lie under itself, and has this content
abbrev pub IsRead : Type 0 → Table → List Id → Id → List ℕ → Type 0
IsRead H table above id content =
    (is_among id above ≡ false) × (H → Stands table id kinds.Tree content)

-- why a tree isn't read: it lies under itself, or it isn't found
abbrev pub TreeFault : Type 0 → Type 0 → Table → List Id → Id → Error → Type 0
TreeFault H M table above id (errors.Find error) =
    (is_among id above ≡ false) × KindFault H M table id kinds.Tree error
TreeFault H M table above id errors.Cancelled = ⊥
TreeFault H M table above id (errors.ObjectDecode _) = ⊥
TreeFault H M table above id errors.Cycle = is_among id above ≡ true
TreeFault H M table above id errors.Memory = ⊥
