use Rattle.history_files.specs.KeptTrees.{AreOf}
use Rattle.history_files.proofs.read_edits.try_edits.Given as goal

-- what is kept is in the table
abbrev pub invariant-loop-edit : goal.invariant-loop-edit
invariant-loop-edit g l = g.S.Lookup.is_honest l.store → AreOf (g.S.Lookup.table l.store) l.fn.editor.store → AreOf (g.S.Lookup.table l.store) l.editor.store
