use Rattle.std.proofs.Common.{List, None, reverse, subst}
use Rattle.history_check_objects.specs.Surveying.{Stands}
use Rattle.history_check_objects.specs.declared.order.Frame.{Frame}
use Rattle.history_check_objects.proofs.Ends.{whole_part}
use Rattle.history_check_objects.proofs.order.survey_objects.Goals as goal

pub survey-preserved : goal.survey-preserved
survey-preserved g c = λ honest listed.
    let tree = (g.F.Files.history c.args.files.now).tree in
    c.in_ok-enter.ensures.stands honest c.args.ids.items (rw c.in-Some.is at (c.in_ok-id.ensures.stands c.args.kind tree c.args.ids.items (c.survey.invariant honest listed)))

pub returns-clause-whole : goal.returns-clause-whole
returns-clause-whole g c = λ honest listed.
    let tree = (g.F.Files.history c.args.files.now).tree in
    let none = rw c.in_default.is at c.in_ok-id.ensures.fewer in
    let stands = rw c.in_default.is at (c.in_ok-id.ensures.stands c.args.kind tree c.args.ids.items (c.survey.invariant honest listed)) in
    whole_part c.args.kind tree c.args.ids.items c.next.new.self.unmet c.next.new.self.stored
    (subst (λ (frames : List Frame). Stands c.args.kind tree c.args.ids.items c.next.new.self.unmet c.next.new.self.stored (reverse frames) None) none.0 stands) none.1
