use Rattle.history_store.specs.Packing.{KeepsRecords}
use Rattle.history_store.proofs.Meetings.{NoneBefore}
use Rattle.history_store.proofs.names.Names.is_held_above.Given as goal

-- no name above that ends before this place reads as an id
abbrev pub invariant-loop-end : goal.invariant-loop-end
invariant-loop-end g l =
    let tree = (g.F.Files.history l.self.store.files).tree in
    g.F.Files.is_honest l.self.store.files → KeepsRecords l.self tree → NoneBefore l.end l.self.kind l.name tree
