use Rattle.std.proofs.Common.{◌∙◌, ap, List, ◌++◌}
use Rattle.gix_traverse_commit_known.specs.declared.nodes.Number.{Number}
use Rattle.gix_traverse_commit_known.proofs.Chosen.{take_all}
use Rattle.gix_traverse_commit_known.proofs.known.push_all.Goals as goal

pub returns : goal.returns
returns c = c.numbers.invariant ∙ ap (λ (zs : List Number). c.args.queue.now.items ++ zs) (take_all c.args.numbers.now c.numbers.number-index c.numbers-test.false)
