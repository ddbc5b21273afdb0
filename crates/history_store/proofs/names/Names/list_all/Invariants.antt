use Rattle.std.proofs.Common.{◌≡◌, ◌++◌, map}
use Rattle.gix_ref_store.specs.Items.{left_in}
use Rattle.history_store.specs.AllNames.{entries_of, name_entry}
use Rattle.history_store.proofs.names.Names.list_all.Given as goal

-- what is listed so far and what is to come are all
abbrev pub invariant-loop-item : goal.invariant-loop-item
invariant-loop-item g l =
    (goal.iterator-loop-item g).can_next l.items × (goal.iterator-loop-item g).is_finite l.items × (l.items.search ≡ l.initial.items.search)
    × (g.F.Files.is_honest l.self.store.files → let tree = (g.F.Files.history l.self.store.files).tree in map name_entry l.names.items ++ entries_of (left_in tree l.items) ≡ entries_of (left_in tree l.initial.items))
