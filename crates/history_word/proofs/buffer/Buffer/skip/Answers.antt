use Rattle.std.proofs.Common.{◌+◌, ◌≤◌, arith, refl}
use Rattle.history_word.proofs.HeldLemmas.{held_skip, held_le}
use Rattle.history_word.proofs.buffer.Buffer.skip.Goals as goal
use Rattle.history_word.proofs.buffer.Buffer.skip.Goals.{Start}

fits : (c : Start) → c.args.self.now.start + c.args.count ≤ c.args.self.now.end
fits c = held_le c.args.self.now.start c.args.self.now.end c.args.count c.args.self.now.bytes (omega (arith, c.args.self.now.ordered)) c.requires

pub overflow_add-self : goal.overflow_add-self
overflow_add-self c = omega (arith, fits c, c.args.self.now.within)

pub invariant_of-self : goal.invariant_of-self
invariant_of-self c = record { ordered = omega (arith, fits c); within = c.args.self.now.within; sized = c.args.self.now.sized; unbroken = refl }

pub returns-clause-rest : goal.returns-clause-rest
returns-clause-rest c = held_skip c.args.self.now.start c.args.self.now.end c.args.count c.args.self.now.bytes (fits (goal.at.returns-clause-rest c).Start)

pub returns-clause-work : goal.returns-clause-work
returns-clause-work c = omega (arith, fits (goal.at.returns-clause-work c).Start)
