use Rattle.std.proofs.Common.{◌∙◌, inl, inr, ap, sym, subst, arith, length}
use Rattle.gix_object_nodes.specs.Nodes.{slots_of, child_of}
use Rattle.gix_object_nodes.specs.Marks.{marks_of, IsIdle, AreMarkedBut}
use Rattle.gix_object_nodes.proofs.Paths.{by_test}
use Rattle.gix_object_editor.proofs.Edits.{less_forest}
use Rattle.gix_object_editor.proofs.Folders.{taken_link}
use Rattle.gix_object_editor.proofs.Marked.{fewer_marked}
use Rattle.gix_object_editor.specs.Grown.{IsCut}
use Rattle.gix_object_editor.proofs.Growth.{cut_idle, cut_marked}
use Rattle.gix_object_editor.proofs.tree.editor.marks.cut.Goals as goal

pub removal_is_change-more-requires : goal.removal_is_change-more-requires
removal_is_change-more-requires c = λ k link. c.requires.tree.forest.within c.args.at.0 c.args.name.now k (ap child_of (sym c.slot_at.ensures) ∙ link)

pub mark_if-requires-clause-tree : goal.mark_if-requires-clause-tree
mark_if-requires-clause-tree c =
    let old = c.args.nodes.now in
    let new = c.take_at.new.nodes in
    let rest = c.take_at.ensures.rest in
    record {
      forest = less_forest (slots_of old) (slots_of new) (length old) (length new) c.args.at.0 c.args.name.now c.requires.tree.forest (sym rest.len) (ap child_of c.take_at.ensures.here) rest.others;
      within = omega (arith, c.requires.tree.within, rest.len);
    }

pub mark_if-requires-clause-marked : goal.mark_if-requires-clause-marked
mark_if-requires-clause-marked c = λ more.
    let old = c.args.nodes.now in
    let new = c.take_at.new.nodes in
    let rest = c.take_at.ensures.rest in
    subst (AreMarkedBut c.args.at.0 (slots_of new) (marks_of new)) (sym rest.len)
    (fewer_marked c.args.at.0 (slots_of old) (slots_of new) (marks_of old) (marks_of new) (length old) c.requires.marked rest.marks
    (λ i n k e. ap child_of (sym (taken_link (slots_of old) (slots_of new) c.args.name.now c.args.at.0 c.take_at.ensures.here rest.others i n k e)) ∙ e))

pub returns : goal.returns
returns c =
    let old = c.args.nodes.now in
    let mid = c.take_at.new.nodes in
    let at = c.args.at.0 in
    let name = c.args.name.now in
    elim (by_test c.removal_is_change-more.result) [
      | inl more ↦
          cut_marked old mid at name c.take_at.ensures.here c.take_at.ensures.rest c.mark_if.new.nodes (λ idle. c.removal_is_change-more.ensures.so more (subst (IsIdle (marks_of old)) (sym c.slot_at.ensures) idle)) (c.mark_if.ensures.marked more)
      | inr idle ↦
          subst (IsCut old at name) (sym (c.mark_if.ensures.same idle))
          (cut_idle old mid at name c.take_at.ensures.here c.take_at.ensures.rest c.requires.marked (subst (IsIdle (marks_of old)) c.slot_at.ensures (c.removal_is_change-more.ensures.otherwise idle)))
    ]
