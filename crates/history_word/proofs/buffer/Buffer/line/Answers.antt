use Rattle.std.proofs.Common.{◌≡◌, ◌+◌, length, take, subst, sym, ap, ◌∙◌, arith}
use Rattle.history_word.specs.Held.{IsUnbroken, IsLineOf}
use Rattle.history_word.specs.Buffer.{unread}
use Rattle.history_word.proofs.HeldLemmas.{length-held}
use Rattle.history_word.proofs.UnbrokenLemmas.{unbroken_all, none_found, line_found}
use Rattle.history_word.proofs.buffer.Buffer.line.Goals as goal

pub returns-then-looked-known-clause-none : goal.returns-then-looked-known-clause-none
returns-then-looked-known-clause-none c =
    let b = c.args.self.now in
    let size = length-held b.start b.end b.bytes (omega (arith, b.sized, b.within)) in
    let count : length (unread b) ≡ length c.unread.result.now = ap length (sym c.unread.ensures) in
    unbroken_all b.scanned 4097 (unread b) (omega (arith, size, count, c.min-looked.ensures, b.ordered)) b.unbroken

pub invariant_of-self : goal.invariant_of-self
invariant_of-self c =
    let b = c.args.self.now in
    let size = length-held b.start b.end b.bytes (omega (arith, b.sized, b.within)) in
    let count : length (unread b) ≡ length c.unread.result.now = ap length (sym c.unread.ensures) in
    let known : IsUnbroken (take b.scanned c.unread-2.result.now) = subst (λ u. IsUnbroken (take b.scanned u)) (sym c.unread-2.ensures) b.unbroken in
    let looked = none_found b.scanned c.min-looked.result c.unread-2.result.now (omega arith) known c.in-None.ensures in
    record {
      ordered = omega (arith, size, count, c.min-looked.ensures, b.ordered);
      within = b.within;
      sized = b.sized;
      unbroken = subst (λ u. IsUnbroken (take c.min-looked.result u)) c.unread-2.ensures looked;
    }

pub returns-in-Some-clause-found : goal.returns-in-Some-clause-found
returns-in-Some-clause-found c =
    let b = c.args.self.now in
    let count : length c.unread-2.result.now ≡ length c.unread.result.now = ap length (c.unread-2.ensures ∙ sym c.unread.ensures) in
    let known : IsUnbroken (take b.scanned c.unread-2.result.now) = subst (λ u. IsUnbroken (take b.scanned u)) (sym c.unread-2.ensures) b.unbroken in
    let first = c.in-Some.ensures in
    subst (IsLineOf (b.scanned + c.in-Some.at)) c.unread-2.ensures
    (line_found b.scanned c.min-looked.result c.in-Some.at c.unread-2.result.now (omega arith) (omega (arith, count, c.min-looked.ensures)) (omega (arith, c.min-looked.ensures)) known first.0.high first.0.before first.1)

pub returns-in-None-clause-none : goal.returns-in-None-clause-none
returns-in-None-clause-none c =
    let b = c.args.self.now in
    let count : length (unread b) ≡ length c.unread.result.now = ap length (sym c.unread.ensures) in
    let known : IsUnbroken (take b.scanned c.unread-2.result.now) = subst (λ u. IsUnbroken (take b.scanned u)) (sym c.unread-2.ensures) b.unbroken in
    let looked = none_found b.scanned c.min-looked.result c.unread-2.result.now (omega arith) known c.in-None.ensures in
    unbroken_all c.min-looked.result 4097 (unread b) (omega (arith, count, c.min-looked.ensures)) (subst (λ u. IsUnbroken (take c.min-looked.result u)) c.unread-2.ensures looked)
