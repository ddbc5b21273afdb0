use Rattle.std.proofs.Common.{ap, sym}
use Rattle.gix_object_nodes.specs.Marks.{Mark}
use Rattle.gix_object_nodes.proofs.NodeMarks.{mark_here}
use Rattle.gix_object_nodes.proofs.changed.is_changed.Goals as goal

pub returns : goal.returns
returns c = ap (λ (x : Mark). x.changed) (sym (mark_here c.args.nodes.now c.args.at.0 c.index-nodes-at.result c.requires))
