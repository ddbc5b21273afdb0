use Rattle.std.specs.Prelude.{IfSome}
use Rattle.std.proofs.Common.{◌≡◌, ℕ, ◌≤◌, ◌++◌, ◌∷◌, [], List, length, take, refl, get_or, subst, arith, ap, sym, ◌∙◌, ◌⊎◌, inl, inr}
use Rattle.std.proofs.lemmas.List.{length-append, length-take, get_or-append-add}
use Rattle.std.proofs.lemmas.Result.{err_from_is_err_and}
use Rattle.history_word.specs.Buffer.{unread}
use Rattle.history_word.specs.Taking.{Took}
use Rattle.history_word.specs.Fields.{KeepsFront}
use Rattle.history_model.specs.Bytes.{line}
use Rattle.history_word.proofs.TakingLemmas.{asks_then, came_all, took_then, took_same, skipped, first_byte}
use Rattle.history_word.proofs.reader.read_field.Goals as goal

-- if no more than a beginning of the field was read
field_failed : (Failed Last : Type 0) (front new : List ℕ) (size : ℕ) → length front ≤ size → (Failed × (new ≡ [])) ⊎ Last → (Failed × (length (front ++ new) ≤ size)) ⊎ Last
field_failed Failed Last front new size l (inl (f, e)) =
    let short : length (front ++ []) ≤ size = omega (arith, length-append front []) in
    inl (f, subst (λ xs. length (front ++ xs) ≤ size) (sym e) short)
field_failed Failed Last front new size l (inr r) = inr r

pub returns-in_err-has_more : goal.returns-in_err-has_more
returns-in_err-has_more g c =
    let p = err_from_is_err_and c.from_residual.result c.from_residual.ensures.1 in
    let took = c.loop-rest.invariant.2 in
    rw (p.1, p.2) (_, came_all g.R.Source.left g.R.Source.readings _ _ _ _ _ (took_same g.R.Source.left g.R.Source.readings _ _ _ _ _ _ _ took c.has_more.ensures.took), field_failed _ _ c.loop-rest.invariant.0 (unread c.has_more.new.self) c.args.size (omega (arith, c.loop-rest.invariant.1)) c.in_err-has_more.ensures.err)

pub returns-then-not-branch : goal.returns-then-not-branch
returns-then-not-branch g c =
    let took = c.loop-rest.invariant.2 in
    let end = rw c.if-not-branch.true at c.in_ok-has_more.ensures.ok in
    let front = c.loop-rest.invariant.0 in (
      front ++ unread c.has_more.new.self,
      came_all g.R.Source.left g.R.Source.readings _ _ _ _ _ (took_same g.R.Source.left g.R.Source.readings _ _ _ _ _ _ _ took c.has_more.ensures.took),
      rw end.0 (omega (arith, length-append front [], c.loop-rest.invariant.1)),
      λ _. end.1,
    )

pub loop-rest-preserved : goal.loop-rest-preserved
loop-rest-preserved g c =
    let inv = c.loop-rest.invariant in
    let more = rw c.if-not-branch.false at c.in_ok-has_more.ensures.ok in
    let b = c.has_more.new.self in
    let n = c.min-count.result in
    let within : n ≤ length (unread b) = omega (arith, ap length c.unread.ensures, c.min-count.ensures) in (
      inv.0 ++ take n (unread b),
      omega (arith, length-append inv.0 (take n (unread b)), length-take n (unread b), inv.1, c.min-count.ensures),
      took_then g.R.Source.left g.R.Source.readings _ _ _ _ _ _ inv.0 (take n (unread b))
          (took_same g.R.Source.left g.R.Source.readings _ _ _ _ _ _ _ inv.2 c.has_more.ensures.took)
          (skipped g.R.Source.left g.R.Source.readings _ b c.skip.new.self n within c.skip.ensures.rest c.skip.ensures.readings c.skip.ensures.work),
      subst (λ xs. IfSome c.field_with_bytes-field.result (λ kept. KeepsFront c.args.limit c.args.size kept (inv.0 ++ take n xs))) c.unread-in-loop-rest.ensures (c.field_with_bytes-field.ensures c.args.limit c.args.size inv.0 inv.3),
      asks_then g.R.Source.left g.R.Source.readings _ _ _ _ _ inv.0 (take n (unread b)) inv.2 inv.4
          (λ all. (c.has_more.ensures.idle (omega (arith, all, length-take n (unread b), ap length c.unread.ensures, c.min-count.ensures, more))).0),
    )

pub returns-in_err-has_more-2 : goal.returns-in_err-has_more-2
returns-in_err-has_more-2 g c =
    let p = err_from_is_err_and c.from_residual-in_err-has_more-2.result c.from_residual-in_err-has_more-2.ensures.1 in
    let took = c.loop-rest.invariant.2 in
    rw (p.1, p.2) (_, came_all g.R.Source.left g.R.Source.readings _ _ _ _ _ (took_same g.R.Source.left g.R.Source.readings _ _ _ _ _ _ _ took c.has_more-2.ensures.took), field_failed _ _ c.loop-rest.invariant.0 (unread c.has_more-2.new.self) c.args.size (omega (arith, c.loop-rest.invariant.1)) c.in_err-has_more-2.ensures.err)

pub returns-then-not-branch-2 : goal.returns-then-not-branch-2
returns-then-not-branch-2 g c =
    let took = c.loop-rest.invariant.2 in
    let end = rw c.if-not-branch-2.true at c.in_ok-has_more-2.ensures.ok in
    let front = c.loop-rest.invariant.0 in (
      front ++ unread c.has_more-2.new.self,
      came_all g.R.Source.left g.R.Source.readings _ _ _ _ _ (took_same g.R.Source.left g.R.Source.readings _ _ _ _ _ _ _ took c.has_more-2.ensures.took),
      rw end.0 (omega (arith, length-append front [], c.loop-rest.invariant.1)),
      λ _. end.1,
    )

pub returns-then-unread-ne10 : goal.returns-then-unread-ne10
returns-then-unread-ne10 g c =
    let took = c.loop-rest.invariant.2 in
    let more = rw c.if-not-branch-2.false at c.in_ok-has_more-2.ensures.ok in
    let front = c.loop-rest.invariant.0 in (
      front ++ unread c.has_more-2.new.self,
      came_all g.R.Source.left g.R.Source.readings _ _ _ _ _ (took_same g.R.Source.left g.R.Source.readings _ _ _ _ _ _ _ took c.has_more-2.ensures.took),
      (
        omega (arith, length-append front (unread c.has_more-2.new.self), c.loop-rest.invariant.1),
        (λ e. c.if-unread-ne10.true (ap (λ xs. get_or xs 0 0) c.unread-2.ensures ∙ sym (get_or-append-add front (unread c.has_more-2.new.self) 0 0) ∙ ap (λ n. get_or (front ++ unread c.has_more-2.new.self) n 0) (omega (arith, c.loop-rest.invariant.1)) ∙ e)),
      ),
      λ e. absurd cc,
    )

pub returns : goal.returns
returns g c =
    let inv = c.loop-rest.invariant in
    let more = rw c.if-not-branch-2.false at c.in_ok-has_more-2.ensures.ok in
    let b = c.has_more-2.new.self in
    let first : take 1 (unread b) ≡ 10 ∷ [] = first_byte (unread b) 10 more (ap (λ xs. get_or xs 0 0) (sym c.unread-2.ensures) ∙ c.if-unread-ne10.false) in
    let taken = took_then g.R.Source.left g.R.Source.readings _ _ _ _ _ _ inv.0 (take 1 (unread b))
    (took_same g.R.Source.left g.R.Source.readings _ _ _ _ _ _ _ inv.2 c.has_more-2.ensures.took)
    (skipped g.R.Source.left g.R.Source.readings _ b c.skip-2.new.self 1 more c.skip-2.ensures.rest c.skip-2.ensures.readings c.skip-2.ensures.work) in
    let size : length inv.0 ≡ c.args.size = omega (arith, inv.1) in (
      line inv.0,
      subst (λ xs. Took g.R.Source.left g.R.Source.readings c.args.source.now c.args.buffer.now c.has_more-2.new.source c.skip-2.new.self (inv.0 ++ xs)) first taken,
      (
        inv.0,
        size,
        refl,
        subst (λ n. IfSome c.loop-rest.field (λ kept. KeepsFront c.args.limit n kept inv.0)) (sym size) inv.3,
        asks_then g.R.Source.left g.R.Source.readings _ _ _ _ _ inv.0 (10 ∷ []) inv.2 inv.4 (λ (all : 1 ≤ length (unread c.loop-rest.buffer)). (c.has_more-2.ensures.idle (omega (arith, all))).0),
      ),
    )
