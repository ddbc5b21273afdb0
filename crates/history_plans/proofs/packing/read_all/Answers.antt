use Rattle.std.specs.Prelude.{IsSome}
use Rattle.std.proofs.Common.{◌≡◌, ◌∙◌, None, Some, ap, arith, length, map, map-id, refl, subst, sym}
use Rattle.std.proofs.lemmas.Iterator.Adapters.{YieldsList-from_vec}
use Rattle.std.proofs.lemmas.Iterator.Consumers.{YieldsList-end, YieldsList-turn}
use Rattle.gix_hash.specs.Id.{id_of}
use Rattle.history_model.specs.Repository.{peeled}
use Rattle.history_store.specs.declared.listed.NamedId.{NamedId}
use Rattle.history_repository.specs.NamesShown.{shown_name, told_name}
use Rattle.history_repository.proofs.ReadingFaults.{fault_told}
use Rattle.history_repository.proofs.NameLines.{one_peeled, one_shown}
use Rattle.history_repository.proofs.HeldKept.{commit_told}
use Rattle.history_plans.proofs.packing.read_all.Goals as goal

pub loop-named-init : goal.loop-named-init
loop-named-init g c = λ r h are held. (ap (map shown_name) c.new-shown.ensures.items, held)

pub loop-named-preserved : goal.loop-named-preserved
loop-named-preserved g c = λ r h are held.
    let gives = c.into_iter-named-iterator.ensures.into_iter_gives in
    let turn = YieldsList-turn (YieldsList-from_vec {s = c.into_iter-named-iterator.result} c.args.names.items gives.0 (omega (arith, gives.1, c.args.names.ok.0))) c.loop-named.yielded c.loop-named.named-iterator c.loop-named.yielded_by c.next.result c.next.new.self c.in-Some.named c.in-Some.is c.next.ensures.steps in
    let some = subst (λ (named : NamedId). IsSome (peeled r (id_of named.id))) (sym turn.1) (one_peeled r c.args.names.items c.in-Some.named (length c.loop-named.yielded) turn.0 are) in
    let peels = commit_told r (id_of c.in-Some.named.id) some in
    let so_far = c.loop-named.invariant r h are held in
    let read = c.in_ok-peeled.ensures r peels.0 h peels.1 so_far.1 in (
      ap (map shown_name) c.in_ok-push.ensures.items
          ∙ one_shown r c.loop-named.shown.items c.loop-named.yielded c.in-Some.named (record { name = c.in-Some.named.name; held = record { id = c.in-Some.named.id; commit = record { id = c.in_ok-peeled.peeled; root = None } } }) so_far.0 refl refl (ap Some read.0 ∙ sym peels.1),
      read.1,
    )

pub returns-in_err-peeled : goal.returns-in_err-peeled
returns-in_err-peeled g c = λ r h are held.
    let gives = c.into_iter-named-iterator.ensures.into_iter_gives in
    let turn = YieldsList-turn (YieldsList-from_vec {s = c.into_iter-named-iterator.result} c.args.names.items gives.0 (omega (arith, gives.1, c.args.names.ok.0))) c.loop-named.yielded c.loop-named.named-iterator c.loop-named.yielded_by c.next.result c.next.new.self c.in-Some.named c.in-Some.is c.next.ensures.steps in
    let some = subst (λ (named : NamedId). IsSome (peeled r (id_of named.id))) (sym turn.1) (one_peeled r c.args.names.items c.in-Some.named (length c.loop-named.yielded) turn.0 are) in
    let peels = commit_told r (id_of c.in-Some.named.id) some in
    fault_told g.F.Files.reading_may_fail _ c.from_residual.result _ c.from_residual.ensures.1 (c.in_err-peeled.ensures r peels.0 h peels.1 (c.loop-named.invariant r h are held).1)

pub returns : goal.returns
returns g c = λ r h are held.
    let gives = c.into_iter-named-iterator.ensures.into_iter_gives in
    let ends = YieldsList-end (YieldsList-from_vec {s = c.into_iter-named-iterator.result} c.args.names.items gives.0 (omega (arith, gives.1, c.args.names.ok.0))) c.loop-named.yielded c.loop-named.named-iterator c.loop-named.yielded_by c.next.result c.next.new.self c.in-None.is c.next.ensures.steps in
    let all : c.loop-named.yielded ≡ c.args.names.items = sym (map-id c.loop-named.yielded) ∙ ends.0 in
    let so_far = c.loop-named.invariant r h are held in
    (so_far.0 ∙ ap (map (told_name r)) all, so_far.1)
