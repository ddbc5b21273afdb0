use Rattle.history_files.specs.KeptTrees.{AreOf}
use Rattle.history_files.proofs.read_edits.try_edit.Given as goal

-- what is kept is in the table
abbrev pub invariant-reading : goal.invariant-reading
invariant-reading g l = g.S.Lookup.is_honest l.store → AreOf (g.S.Lookup.table l.store) l.initial.editor.store → AreOf (g.S.Lookup.table l.store) l.editor.store
