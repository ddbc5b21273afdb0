use Rattle.std.proofs.Common.{◌-◌, take, subst, sym, ap, ◌∙◌, arith, rules}
use Rattle.history_word.specs.Held.{held, IsUnbroken}
use Rattle.history_word.proofs.HeldLemmas.{held_moved}
use Rattle.history_word.proofs.buffer.Buffer.make_room.Goals as goal

pub invariant_of-self : goal.invariant_of-self
invariant_of-self c =
    let b = c.args.self.now in
    let moved = ap (held 0 (b.end - b.start)) c.copy_within.ensures.after ∙ held_moved b.start b.end b.bytes (omega (arith, b.ordered)) (omega (arith, b.sized, b.within)) in
    record {
      ordered = omega (arith, b.ordered);
      within = omega (arith, b.within);
      sized = search rules;
      unbroken = subst (λ bytes. IsUnbroken (take b.scanned bytes)) (sym moved) b.unbroken;
    }

pub returns-then-self-clause-same : goal.returns-then-self-clause-same
returns-then-self-clause-same c =
    let b = c.args.self.now in
    ap (held 0 (b.end - b.start)) c.copy_within.ensures.after ∙ held_moved b.start b.end b.bytes (omega (arith, b.ordered)) (omega (arith, b.sized, b.within))
