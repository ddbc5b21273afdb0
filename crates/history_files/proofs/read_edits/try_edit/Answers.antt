use Rattle.std.proofs.Common.{◌∙◌, subst, sym}
use Rattle.history_files.specs.KeptTrees.{AreOf}
use Rattle.history_files.proofs.read_edits.try_edit.Goals as goal

pub reading-init : goal.reading-init
reading-init g c = λ honest kept. kept

pub reading-preserved : goal.reading-preserved
reading-preserved g c = λ honest kept.
    let same = c.store_mut.ensures.value ∙ c.make_edit.ensures.store in
    c.in_ok-read_new.ensures.kept honest (subst (AreOf (g.S.Lookup.table c.args.store.now)) (sym same) (c.reading.invariant honest kept))

pub returns-then-not-branch-clause-kept : goal.returns-then-not-branch-clause-kept
returns-then-not-branch-clause-kept g c = λ honest kept.
    let same = c.store_mut.ensures.value ∙ c.make_edit.ensures.store in
    c.in_ok-read_new.ensures.kept honest (subst (AreOf (g.S.Lookup.table c.args.store.now)) (sym same) (c.reading.invariant honest kept))

pub returns-clause-kept : goal.returns-clause-kept
returns-clause-kept g c = c.reading.invariant
