use Rattle.std.proofs.Common.{◌∙◌, ap, sym, ◌++◌, map}
use Rattle.gix_ref_edit.specs.Splits.{settled_by, marked, leads_on, further, behind}
use Rattle.gix_ref_edit.proofs.SplitLemmas.{splits_whole}
use Rattle.gix_ref_edit.proofs.ext.VecRefEditRefEditsExt.extend_with_splits_of_symbolic_refs.Goals as goal

pub returns-clause-splits : goal.returns-clause-splits
returns-clause-splits g c = λ honest.
    let read = g.F.FindTarget.targets c.args.finder.now in
    let before = c.as_slice.ensures.value in
    splits_whole read c.args.self.now.items c.settle_all.new.edits.items c.append.new.self.items c.in_ok-added.added.items c.further.new.marks.items c.in_ok-places.places.items
    (c.in_ok-added.ensures.found honest ∙ ap (further read 4) before)
    c.in_ok-append.ensures.items
    (c.in_ok-added.ensures.marks honest ∙ ap (λ l. l ++ map (leads_on read) (c.as_slice.result.now ++ further read 4 c.as_slice.result.now)) c.new-marks.ensures.items
    ∙ ap (λ l. map (leads_on read) (l ++ further read 4 l)) before)
    (ap (behind read 4) (sym before) ∙ c.in_ok-added.ensures.ends honest)
    (c.settle_all.ensures ∙ ap (λ m. settled_by m c.append.new.self.items) c.as_slice-3.ensures.value)
    (c.in_ok-places.ensures ∙ ap (marked 0) c.as_slice-2.ensures.value)
