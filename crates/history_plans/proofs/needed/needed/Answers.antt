use Rattle.std.proofs.Common.{◌≡◌, ◌∙◌, ◌⊎◌, sym, subst, arith, map-id, refl, List}
use Rattle.std.proofs.lemmas.Iterator.Adapters.{YieldsList-from_vec}
use Rattle.std.proofs.lemmas.Iterator.Consumers.{YieldsList-end}
use Rattle.history_texts.specs.declared.object.NewObject.{NewObject}
use Rattle.history_plans.specs.Needed.{AreNeededOf, HasEqual, WasRead}
use Rattle.history_plans.proofs.NeededLemmas.{goes, none_of, stays}
use Rattle.history_plans.proofs.needed.needed.Goals as goal

pub loop-object-init : goal.loop-object-init
loop-object-init c = none_of c.args.read.now _ _ refl c.new-needed.ensures.items

pub loop-object-preserved : goal.loop-object-preserved
loop-object-preserved c =
    goes c.args.read.now c.loop-object.yielded c.loop-object.needed.items c.in-Some.object c.loop-object.invariant
    (subst (λ (objects : List NewObject). HasEqual objects c.in-Some.object ⊎ WasRead c.args.read.now c.in-Some.object) c.deref.ensures.value (c.is_needless.ensures c.if-not-is_needless.false))

pub loop-object-preserved-in-Continue-branch-2 : goal.loop-object-preserved-in-Continue-branch-2
loop-object-preserved-in-Continue-branch-2 c =
    stays c.args.read.now c.loop-object.yielded c.loop-object.needed.items c.in-Some.object c.loop-object.invariant c.push.new.self.items c.in_ok-push.ensures.items

pub returns : goal.returns
returns c =
    let gives = c.into_iter-object-iterator.ensures.into_iter_gives in
    let ends = YieldsList-end (YieldsList-from_vec {s = c.into_iter-object-iterator.result} c.args.objects.items gives.0 (omega (arith, gives.1, c.args.objects.ok.0))) c.loop-object.yielded c.loop-object.object-iterator c.loop-object.yielded_by c.next.result c.next.new.self c.in-None.is c.next.ensures.steps in
    let all : c.loop-object.yielded ≡ c.args.objects.items = sym (map-id c.loop-object.yielded) ∙ ends.0 in
    subst (λ (objects : List NewObject). AreNeededOf c.args.read.now objects c.loop-object.needed.items) all c.loop-object.invariant
