use Rattle.std.proofs.Common.{◌≡◌, ◌∙◌, ◌∷◌, ◌++◌, ◌-◌, take, List, [], append-nil, ap, sym, subst, rules, reverse, None, option_to_list, Vec, Option}
use Rattle.std.specs.declared.alloc.Global.{Global}
use Rattle.history_check_objects.specs.Flaws.{IsObjectsFlaw}
use Rattle.history_check_objects.specs.Surveying.{Stands}
use Rattle.history_check_objects.specs.declared.order.Frame.{Frame}
use Rattle.history_check_objects.proofs.Listings.{told}
use Rattle.history_check_objects.proofs.Turns.{next_due, noted, popped, pushed}
use Rattle.history_check_objects.proofs.order.Survey.next.Goals as goal

pub returns-in_err-id-clause-flaw : goal.returns-in_err-id-clause-flaw
returns-in_err-id-clause-flaw c = λ kind tree ids begun.
    let last : c.noted.self.waiting.items ≡ c.pop.new.self.items ++ c.in-Some.frame ∷ [] = c.pop.ensures.items ∙ ap (λ (o : Option Frame). c.pop.new.self.items ++ option_to_list o) c.in-Some.is in
    told (IsObjectsFlaw ⊥ kind tree) c.from_residual.result c.in_err-id.field-0.0 (search rules)
    (c.in_err-id.ensures.flaw kind tree ids (popped kind tree ids _ _ _ _ _ last (c.noted.invariant.stands kind tree ids begun)))

pub returns-in-Some-2-clause-stands : goal.returns-in-Some-2-clause-stands
returns-in-Some-2-clause-stands c = λ kind tree ids begun.
    let last : c.noted.self.waiting.items ≡ c.pop.new.self.items ++ c.in-Some.frame ∷ [] = c.pop.ensures.items ∙ ap (λ (o : Option Frame). c.pop.new.self.items ++ option_to_list o) c.in-Some.is in
    let after = c.in_ok-id.ensures.stands kind tree ids (popped kind tree ids _ _ _ _ _ last (c.noted.invariant.stands kind tree ids begun)) in
    let put : c.push.new.self.items ≡ c.pop.new.self.items ++ c.advance.new.frame ∷ [] = search rules in
    pushed kind tree ids _ _ _ _ _ _ put (rw c.in-Some-2.is at after)

pub noted-preserved : goal.noted-preserved
noted-preserved c =
    let last : c.noted.self.waiting.items ≡ c.pop.new.self.items ++ c.in-Some.frame ∷ [] = c.pop.ensures.items ∙ ap (λ (o : Option Frame). c.pop.new.self.items ++ option_to_list o) c.in-Some.is in
    let ended = rw c.in_default-2.is at c.in_ok-id.ensures.fewer in
    record {
      stands = λ kind tree ids begun.
          let after = rw c.in_default-2.is at (c.in_ok-id.ensures.stands kind tree ids (popped kind tree ids _ _ _ _ _ last (c.noted.invariant.stands kind tree ids begun))) in
          subst (λ (waiting : Vec Frame Global). Stands kind tree ids c.advance.new.self.unmet c.note.new.self (reverse waiting.items) None) (sym c.advance.ensures.waiting)
          (noted kind tree ids c.advance.new.self.unmet c.advance.new.self.stored c.pop.new.self.items c.advance.new.frame after ended.0 c.note.new.self c.in_ok-note.ensures.done c.commit.result c.commit.ensures c.in_ok-note.ensures.tags);
      left = ended.1 ∙ c.noted.invariant.left;
    }

pub returns-clause-stands : goal.returns-clause-stands
returns-clause-stands c = λ kind tree ids begun.
    let same : c.noted.self.waiting.items ≡ c.pop.new.self.items = c.in_default.ensures.items ∙ append-nil c.pop.new.self.items in
    let none : c.pop.new.self.items ≡ [] = c.in_default.ensures.rest ∙ ap (λ n. take (n - 1) c.noted.self.waiting.items) (c.in_default.ensures.cases).0 in
    next_due kind tree ids c.noted.self.unmet c.noted.self.stored c.pop.new.self.items none
    (subst (λ (frames : List Frame). Stands kind tree ids c.noted.self.unmet c.noted.self.stored (reverse frames) None) same (c.noted.invariant.stands kind tree ids begun))
    c.pop_first.new.self c.pop_first.result c.pop_first.ensures.member c.pop_first.ensures.updates c.pop_first.ensures.unchanged
