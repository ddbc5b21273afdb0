use Rattle.std.proofs.Common.{refl, rules}
use Rattle.gix_ref_log.proofs.iter.lines.ForwardIterator.next.Goals as goal

pub returns-in-None-clause-steps : goal.returns-in-None-clause-steps
returns-in-None-clause-steps c = (c.first_line.result.0.now, search rules, search rules, (c.in-None.ensures, refl))
