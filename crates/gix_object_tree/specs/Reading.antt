-- A tree's entries one after another.
use Rattle.std.specs.Prelude.{ℕ, ◌≡◌, ◌≢◌, List, [], ◌∷◌, Option, None, Some, Result, Ok, Err}
use Rattle.gix_hash.specs.declared.kind.Kind.{Kind}
use Rattle.gix_object_lines.specs.declared.decode.Error.{Error}
use Rattle.gix_object_tree.specs.Entry.{item_of, SpellsEntry, SpellsNoEntry, EntryFault}
use Rattle.gix_object_tree.specs.declared.tree.entry.EntryRef.{EntryRef}
use Rattle.gix_object_tree.specs.declared.tree.ref_iter.TreeRefIter.{TreeRefIter}

-- where a reader is: the input from there on
pub record Place : Type 0 where
  pub kind : Kind
  pub input : List ℕ

abbrev pub place_of : TreeRefIter → Place
place_of entries = record { kind = entries.hash_kind; input = entries.rest.now }

-- at the start of a tree
abbrev pub start : Kind → List ℕ → Place
start kind input = record { kind = kind; input = input }

-- at the input's end the entries end; otherwise the one that begins it is given, or why none does,
-- and then nothing
abbrev pub Steps : Place → Option (Result EntryRef Error) → Place → Type 0
Steps before None after = (before.input ≡ []) × (after ≡ before)
Steps before (Some (Ok entry)) after =
    (after.kind ≡ before.kind) × SpellsEntry before.kind before.input (item_of entry) after.input
Steps before (Some (Err error)) after =
    (before.input ≢ []) × SpellsNoEntry before.kind before.input
    × EntryFault before.kind before.input error × (after.kind ≡ before.kind)
    × (after.input ≡ [])

-- the reader gives these entries one after another, and is then there
abbrev pub Gives : Place → List EntryRef → Place → Type 0
Gives before [] there = there ≡ before
Gives before (entry ∷ entries) there =
    (next : Place) × Steps before (Some (Ok entry)) next × Gives next entries there
