use Rattle.std.proofs.Common.{subst, sym}
use Rattle.history_files.specs.KeptTrees.{AreOf}
use Rattle.history_files.proofs.kept.read_below.Goals.{then-branch+in_ok-read+in_ok-add_folders, else-branch}
use Rattle.history_files.proofs.kept.read_below.Goals as goal

pub reading-init : goal.reading-init
reading-init g c = λ honest kept. kept

pub reading-preserved : goal.reading-preserved
reading-preserved g c = λ honest kept.
    let table = g.S.Lookup.table c.args.store.now in
    let before = c.reading.invariant honest kept in
    elim c.if-branch.branch [
      | then-branch+in_ok-read+in_ok-add_folders w ↦ subst (AreOf table) (sym w.read-is) (w.in_ok-read.ensures.kept honest before)
      | else-branch w ↦ subst (AreOf table) (sym w.read-is) before
    ]

pub returns-in_default-clause-kept : goal.returns-in_default-clause-kept
returns-in_default-clause-kept g c = c.reading.invariant

pub returns-clause-kept : goal.returns-clause-kept
returns-clause-kept g c = c.reading.invariant
