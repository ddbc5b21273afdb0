use Rattle.std.proofs.Common.{◌∙◌, ap, sym, true, length-set}
use Rattle.gix_object_nodes.specs.Marks.{Mark, mark_below}
use Rattle.gix_object_nodes.proofs.NodeMarks.{slots_set, mark_here, mark_set_here, mark_set_other}
use Rattle.gix_object_editor.proofs.tree.editor.marks.mark_at.Goals as goal

pub returns-clause-slots : goal.returns-clause-slots
returns-clause-slots c = slots_set c.args.nodes.now c.args.at.0 c.index-nodes-at.result c.place.new.self c.requires c.place.ensures.slots

pub returns-clause-here : goal.returns-clause-here
returns-clause-here c =
    mark_set_here c.args.nodes.now c.args.at.0 c.place.new.self c.requires ∙ c.place.ensures.mark
    ∙ ap (λ (x : Mark). mark_below x.parent true) (sym (mark_here c.args.nodes.now c.args.at.0 c.index-nodes-at.result c.requires))

pub returns-clause-others : goal.returns-clause-others
returns-clause-others c = λ i ne. mark_set_other c.args.nodes.now c.args.at.0 i c.place.new.self ne

pub returns-clause-len : goal.returns-clause-len
returns-clause-len c = length-set c.args.nodes.now c.args.at.0 c.place.new.self
