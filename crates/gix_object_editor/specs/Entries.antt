-- Properties of entries that edits keep: of their names, modes and ids.
use Rattle.std.specs.Prelude.{ℕ, ◌≡◌, Bool, true, false, List, Option, Some}
use Rattle.std.specs.List.{All}
use Rattle.gix_hash.specs.Id.{Id, null_id}
use Rattle.gix_hash.specs.declared.kind.Kind.{Kind}
use Rattle.gix_object_lines.specs.declared.kind.Kind.TheVariants as kinds
use Rattle.gix_object_tree.specs.Entry.{Item, SpellsTree}
use Rattle.gix_object_tree.specs.Mode.{is_tree_value}
use Rattle.gix_object_tree.specs.WellFormed.{IsWellFormed}
use Rattle.gix_object_lookup.specs.Table.{Table}
use Rattle.gix_object_lookup.specs.Existing.{Stands}
use Rattle.gix_object_nodes.specs.declared.node.Slot.{Slot}
use Rattle.gix_object_nodes.specs.Files.{Bytes, Path, Leaf, is_null, leaf_of, named}
use Rattle.gix_object_nodes.specs.Nodes.{Slots, leaf_in}
use Rattle.gix_object_nodes.specs.Writing.{folder_mode}

abbrev pub Property : Type 0
Property = Bytes → Leaf → Bool

-- each entry of each opened tree has the property
abbrev pub EachHas : Property → Slots → Type 0
EachHas has slots = (i : ℕ) (name : Bytes) (s : Slot) → slots i name ≡ Some s
    → has name (leaf_in s) ≡ true

abbrev pub ItemsHave : Property → List Item → Type 0
ItemsHave has items = All (λ item. has item.name (leaf_of item) ≡ true) items

-- a tree's entry passes the property down to each entry of the well-formed tree that is stored
-- under its id
abbrev pub PassesDown : Table → Property → Type 0
PassesDown table has =
    (name : Bytes) (leaf : Leaf) (content : List ℕ) (items : List Item) → has name leaf ≡ true
    → is_tree_value leaf.mode.value ≡ true → is_null leaf.id ≡ false
    → Stands table leaf.id kinds.Tree content → SpellsTree leaf.id.kind content items
    → IsWellFormed items → ItemsHave has items

-- what a folder is that an edit made
abbrev pub made_leaf : Kind → Leaf
made_leaf kind = record { mode = folder_mode; id = null_id kind }

-- an entry may come at these names, with folders that are made for it
abbrev pub MayStand : Property → Path → Leaf → Type 0
MayStand has names leaf = All (λ name. (has name leaf ≡ true)
    × (has name (made_leaf leaf.id.kind) ≡ true)) names

-- folders may be made at these names, with the null id of this hash function
abbrev pub MayStandMade : Property → Kind → Path → Type 0
MayStandMade has kind names = All (λ name. has name (made_leaf kind) ≡ true) names

-- the entries are those of the well-formed tree that is stored under the id
abbrev pub HoldsTree : Table → Id → (Bytes → Option Slot) → Type 0
HoldsTree table id slots =
    (content : List ℕ) × (items : List Item) × Stands table id kinds.Tree content
    × SpellsTree id.kind content items × IsWellFormed items
    × ((m : Bytes) (s : Slot) → slots m ≡ Some s → (item : Item) × (named m items ≡ Some item)
    × (leaf_in s ≡ leaf_of item))
