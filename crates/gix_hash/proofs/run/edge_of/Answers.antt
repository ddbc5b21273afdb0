use Rattle.std.proofs.Common.{◌<◌, ◌+◌, ◌-◌, ◌/◌, ◌^◌, ◌∙◌, length, sym, ap, rules, arith}
use Rattle.gix_hash.specs.Run.{comes_before}
use Rattle.gix_hash.proofs.Edges.{keep_before, keep_after, halved}
use Rattle.gix_hash.proofs.run.edge_of.Goals as goal

pub counted_cmp-requires-clause-room : goal.counted_cmp-requires-clause-room
counted_cmp-requires-clause-room c =
    let small : length c.args.ids.now < 2 ^ 64 = search rules in
    let at = c.halves.invariant.calls 64 small in
    let sum = at.1 in
    let start = c.requires.room in
    omega arith

pub halves-preserved-then-stands_before : goal.halves-preserved-then-stands_before
halves-preserved-then-stands_before c =
    let invariant = c.halves.invariant in
    let size = c.halves.size in
    let some = c.halves-test.true in
    let within = invariant.within in
    let counted = c.counted_cmp.ensures.counted in
    let held = ap (λ o. comes_before c.args.edge o) (sym c.counted_cmp.ensures.order) ∙ (sym c.stands_before.ensures ∙ c.if-stands_before.true) in
    record {
      within = omega arith;
      before = λ i id low. keep_before c.args.edge c.args.ids.now c.args.prefix.now (c.halves.low + size / 2) _ c.requires.ascending c.requires.enough (omega arith) held i id (omega arith);
      after = λ i id low high. invariant.after i id (omega arith) high;
      calls = λ k fits.
          let at = invariant.calls k fits in
          let next = halved size (size - (size / 2 + 1)) at.0 c.halves.calls c.args.calls.now k some (omega arith) at.1 at.2 in
          let sum = next.1 in
          (next.0, omega arith, next.2);
    }

pub halves-preserved : goal.halves-preserved
halves-preserved c =
    let invariant = c.halves.invariant in
    let size = c.halves.size in
    let some = c.halves-test.true in
    let within = invariant.within in
    let counted = c.counted_cmp.ensures.counted in
    let failed = ap (λ o. comes_before c.args.edge o) (sym c.counted_cmp.ensures.order) ∙ (sym c.stands_before.ensures ∙ c.if-stands_before.false) in
    record {
      within = omega arith;
      before = invariant.before;
      after = λ i id low high. keep_after c.args.edge c.args.ids.now c.args.prefix.now (c.halves.low + size / 2) _ c.requires.ascending c.requires.enough (omega arith) failed i id low high;
      calls = λ k fits.
          let at = invariant.calls k fits in
          let next = halved size (size / 2) at.0 c.halves.calls c.args.calls.now k some (omega arith) at.1 at.2 in
          let sum = next.1 in
          (next.0, omega arith, next.2);
    }
