use Rattle.std.proofs.Common.{◌∙◌}
use Rattle.std.proofs.lemmas.Result.{err_from_is_err_and}
use Rattle.gix_object_nodes.proofs.NodeMarks.{set_rest}
use Rattle.gix_object_nodes.proofs.Slots.{set_here, set_same}
use Rattle.gix_object_nodes.proofs.node.put_at.Goals as goal

pub returns-in_err-put-clause-err : goal.returns-in_err-put-clause-err
returns-in_err-put-clause-err c =
    let p = err_from_is_err_and c.from_residual.result c.from_residual.ensures.1 in
    rw p.1 (set_same c.args.nodes.now c.args.at.0 c.index-nodes-at.result c.put.new.self c.args.name.now c.requires c.put.ensures.others c.in_err-put.ensures.err)

pub returns-clause-here : goal.returns-clause-here
returns-clause-here c = set_here c.args.nodes.now c.args.at.0 c.put.new.self c.args.name.now c.requires ∙ c.in_ok-put.ensures.here

pub returns-in_err-put-clause-rest : goal.returns-in_err-put-clause-rest
returns-in_err-put-clause-rest c = set_rest c.args.nodes.now c.args.at.0 c.index-nodes-at.result c.put.new.self c.args.name.now c.requires c.put.ensures.others c.put.ensures.mark

pub returns-clause-rest : goal.returns-clause-rest
returns-clause-rest c = set_rest c.args.nodes.now c.args.at.0 c.index-nodes-at.result c.put.new.self c.args.name.now c.requires c.put.ensures.others c.put.ensures.mark
