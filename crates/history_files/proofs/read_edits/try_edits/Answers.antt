use Rattle.history_files.proofs.read_edits.try_edits.Goals as goal

pub loop-edit-init : goal.loop-edit-init
loop-edit-init g c = λ honest kept. kept

pub loop-edit-preserved : goal.loop-edit-preserved
loop-edit-preserved g c = λ honest kept. c.in_ok-try_edit.ensures.kept honest (c.loop-edit.invariant honest kept)

pub returns-then-not-branch-clause-kept : goal.returns-then-not-branch-clause-kept
returns-then-not-branch-clause-kept g c = λ honest kept. c.in_ok-try_edit.ensures.kept honest (c.loop-edit.invariant honest kept)

pub returns-clause-kept : goal.returns-clause-kept
returns-clause-kept g c = c.loop-edit.invariant
