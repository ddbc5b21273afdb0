use Rattle.std.proofs.Common.{◌≡◌, ◌∙◌, ◌<◌, ap, sym, arith, rules, length, get_or, reverse, Some, None}
use Rattle.std.specs.BTreeMap as maps
use Rattle.history_check_objects.specs.Flaws.{IsObjectsFlaw}
use Rattle.history_check_objects.specs.Surveying.{by_id}
use Rattle.history_check_objects.specs.declared.order.Survey.{Survey}
use Rattle.history_check_objects.proofs.Advances.{past, same_then_same, to_due, to_none, to_refused}
use Rattle.history_check_objects.proofs.Listings.{told}
use Rattle.history_check_objects.proofs.order.Survey.advance.Goals as goal

pub links-preserved : goal.links-preserved
links-preserved c =
    let less : c.links.frame.next < length c.links.frame.links.items = omega (arith, c.links-test.true, c.len.ensures) in
    let at : c.index.result.now ≡ get_or c.links.frame.links.items c.links.frame.next c.index.result.now = search rules in
    let noted : maps.get by_id c.links.self.stored.done c.index.result.now.id ≡ Some c.in-Some.done = search rules in
    record {
      stands = λ kind tree ids begun. past kind tree ids _ _ _ _ (c.links.invariant.stands kind tree ids begun) c.index.result.now at less c.in-Some.done noted _ c.in_ok-pass_link.ensures.passed;
      self = c.links.invariant.self;
      same = same_then_same _ _ _ c.links.invariant.same c.in_ok-pass_link.ensures.same;
    }

pub returns-in_err-pass_link-clause-flaw : goal.returns-in_err-pass_link-clause-flaw
returns-in_err-pass_link-clause-flaw c = λ kind tree ids begun.
    let less : c.links.frame.next < length c.links.frame.links.items = omega (arith, c.links-test.true, c.len.ensures) in
    let at : c.index.result.now ≡ get_or c.links.frame.links.items c.links.frame.next c.index.result.now = search rules in
    let noted : maps.get by_id c.links.self.stored.done c.index.result.now.id ≡ Some c.in-Some.done = search rules in
    told (IsObjectsFlaw ⊥ kind tree) c.from_residual.result c.in_err-pass_link.field-0.0 (search rules)
    (to_refused kind tree ids _ _ _ _ (c.links.invariant.stands kind tree ids begun) c.index.result.now at less c.in-Some.done noted c.in_err-pass_link.field-0.0 c.in_err-pass_link.ensures.refused)

pub returns-then-remove-clause-stands : goal.returns-then-remove-clause-stands
returns-then-remove-clause-stands c = λ kind tree ids begun.
    let less : c.links.frame.next < length c.links.frame.links.items = omega (arith, c.links-test.true, c.len.ensures) in
    let at : c.index.result.now ≡ get_or c.links.frame.links.items c.links.frame.next c.index.result.now = search rules in
    to_due kind tree ids _ _ _ _ (c.links.invariant.stands kind tree ids begun) c.index.result.now at less (sym c.remove.ensures.test ∙ c.if-remove.true) _ c.remove.ensures.updates.0

pub returns-else-remove-clause-flaw : goal.returns-else-remove-clause-flaw
returns-else-remove-clause-flaw c = λ kind tree ids begun.
    let less : c.links.frame.next < length c.links.frame.links.items = omega (arith, c.links-test.true, c.len.ensures) in
    let at : c.index.result.now ≡ get_or c.links.frame.links.items c.links.frame.next c.index.result.now = search rules in
    let absent : maps.get by_id c.links.self.stored.done c.index.result.now.id ≡ None = search rules in
    to_none kind tree ids _ _ _ _ (c.links.invariant.stands kind tree ids begun) c.index.result.now at less absent (sym c.remove.ensures.test ∙ c.if-remove.false) c.links.self.waiting.items
    (ap (λ (s : Survey). reverse s.waiting.items) (sym c.links.invariant.self)) _ c.missing_or_cycle.ensures
