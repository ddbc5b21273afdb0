use Rattle.std.proofs.Common.{◌≡◌, ◌∙◌, Option, true, false, ap, arith, length, map, map-id, subst, sym}
use Rattle.std.specs.Prelude.{IfSome, IfNone}
use Rattle.std.proofs.lemmas.Iterator.Adapters.{YieldsList-from_vec}
use Rattle.std.proofs.lemmas.Iterator.Consumers.{YieldsList-end, YieldsList-turn}
use Rattle.gix_object_lines.specs.NameTest.{is_full_name}
use Rattle.history_store.specs.Packed.{record_of_name, records_of}
use Rattle.history_store.specs.declared.packs.PackedName.{PackedName}
use Rattle.history_repository.specs.NamesShown.{shown_name}
use Rattle.history_plans.specs.Packing.{AreFull, line_record}
use Rattle.history_repository.specs.declared.shown.Shown.{Shown}
use Rattle.history_plans.proofs.PackedLines.{full_split, one_full, one_packed}
use Rattle.history_plans.proofs.packing.all_to_pack.Goals as goal

pub loop-one-init : goal.loop-one-init
loop-one-init c = λ full. ap records_of c.new-names.ensures.items

pub loop-one-preserved : goal.loop-one-preserved
loop-one-preserved c = λ full.
    ap records_of c.in_ok-push.ensures.items
    ∙ one_packed c.loop-one.names.items c.loop-one.yielded c.in-Some.one c.in_ok-named.named (c.loop-one.invariant (full_split c.loop-one.yielded c.in-Some.one full))
    (subst (λ (o : Option PackedName). IfSome o (λ named. record_of_name named ≡ line_record (shown_name c.in-Some.one))) c.in_ok-named.ensures.ok_part c.to_pack.ensures.some)

pub returns-in_err-named : goal.returns-in_err-named
returns-in_err-named c = λ full.
    let gives = c.into_iter-one-iterator.ensures.into_iter_gives in
    let turn = YieldsList-turn (YieldsList-from_vec {s = c.into_iter-one-iterator.result} c.args.shown.items gives.0 (omega (arith, gives.1, c.args.shown.ok.0))) c.loop-one.yielded c.loop-one.one-iterator c.loop-one.yielded_by c.next.result c.next.new.self c.in-Some.one c.in-Some.is c.next.ensures.steps in
    let is_full = subst (λ (shown : Shown). is_full_name shown.name.items ≡ true) (sym turn.1) (one_full c.args.shown.items c.in-Some.one (length c.loop-one.yielded) turn.0 full) in
    let none = subst (λ (o : Option PackedName). IfNone o (is_full_name c.in-Some.one.name.items ≡ false)) c.in_err-named.ensures.ok_part c.to_pack.ensures.none in
    absurd (cc (is_full, none))

pub returns : goal.returns
returns c = λ full.
    let gives = c.into_iter-one-iterator.ensures.into_iter_gives in
    let ends = YieldsList-end (YieldsList-from_vec {s = c.into_iter-one-iterator.result} c.args.shown.items gives.0 (omega (arith, gives.1, c.args.shown.ok.0))) c.loop-one.yielded c.loop-one.one-iterator c.loop-one.yielded_by c.next.result c.next.new.self c.in-None.is c.next.ensures.steps in
    let all : c.loop-one.yielded ≡ c.args.shown.items = sym (map-id c.loop-one.yielded) ∙ ends.0 in
    c.loop-one.invariant (subst AreFull (sym all) full) ∙ ap (λ shown. map line_record (map shown_name shown)) all
