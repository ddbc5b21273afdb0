use Rattle.std.proofs.Common.{◌≡◌, ◌∙◌, ◌<◌, rules, refl, ap, sym, subst, arith, length}
use Rattle.gix_object_nodes.specs.Nodes.{slots_of}
use Rattle.gix_object_nodes.specs.Marks.{marks_of}
use Rattle.gix_object_editor.proofs.Marked.{IsClimbing, climb_first, climb_more, climb_end}
use Rattle.gix_object_editor.proofs.tree.editor.marks.mark_if.Goals as goal

pub trees-init : goal.trees-init
trees-init c =
    let nodes = c.args.nodes.now in
    record {
      within = c.requires.tree.within;
      len = refl;
      slots = λ i m. refl;
      climb = climb_first (slots_of nodes) (marks_of nodes) c.args.at.0 (length nodes) (c.requires.marked (search rules));
    }

pub trees-preserved : goal.trees-preserved
trees-preserved c =
    let first = c.args.nodes.now in
    let mid = c.trees.nodes in
    let now = c.mark_at.new.nodes in
    let so = c.trees.invariant.climb in
    let some : 0 < c.trees.above.0 = omega (arith, c.trees-test.true) in
    let within : c.trees.above.0 < length first = omega (arith, c.trees.invariant.within, c.trees.invariant.len) in
    let climb = climb_more (slots_of first) (length first) c.requires.tree.forest (marks_of first) (marks_of mid) (marks_of now) c.args.at.0 c.trees.above.0 so within c.mark_at.ensures.here c.mark_at.ensures.others some in
    let len : length now ≡ length mid = c.mark_at.ensures.len in
    let parent : c.parent_at-above.result.0 ≡ (marks_of now c.trees.above.0).parent = c.parent_at-above.ensures in
    let up : c.parent_at-above.result.0 < c.trees.above.0 = subst (λ k. k < c.trees.above.0) (sym parent) (subst (λ k. k < c.trees.above.0) (sym (ap (λ x. x.parent) c.mark_at.ensures.here)) (so.marked.before c.trees.above.0 some within)) in
    record {
      within = omega (arith, up, c.trees.invariant.within, len);
      len = len ∙ c.trees.invariant.len;
      slots = λ i m. c.mark_at.ensures.slots i m ∙ c.trees.invariant.slots i m;
      climb = subst (λ k. IsClimbing (slots_of first) (marks_of first) (marks_of now) c.args.at.0 k (length first)) (sym parent) climb;
    }

pub returns-clause-marked : goal.returns-clause-marked
returns-clause-marked c = λ yes.
    let first = c.args.nodes.now in
    let within : c.trees.above.0 < length first = omega (arith, c.trees.invariant.within, c.trees.invariant.len) in
    let root : c.trees.above.0 ≡ 0 = omega (arith, c.trees-test.false) in
    record {
      len = c.mark_at-2.ensures.len ∙ c.trees.invariant.len;
      slots = λ i m. c.mark_at-2.ensures.slots i m ∙ c.trees.invariant.slots i m;
      marked = climb_end (slots_of first) (length first) c.requires.tree.forest (marks_of first) (marks_of c.trees.nodes) (marks_of c.mark_at-2.new.nodes) c.args.at.0 c.trees.above.0 c.trees.invariant.climb within
          c.mark_at-2.ensures.here c.mark_at-2.ensures.others root;
    }
