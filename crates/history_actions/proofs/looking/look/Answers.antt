use Rattle.std.proofs.lemmas.Result.{err_from_is_err_and}
use Rattle.history_repository.specs.Opened.{trees_of}
use Rattle.history_actions.proofs.Foreign.{foreign_head, foreign_objects, foreign_names, foreign_packed, is_recoverable}
use Rattle.history_actions.proofs.Looked.{all_at}
use Rattle.history_texts.specs.declared.parts.Part.TheVariants.{Objects, Names}
use Rattle.history_actions.proofs.looking.look.Goals as goal

pub returns-in_err-look_at_head-clause-foreign : goal.returns-in_err-look_at_head-clause-foreign
returns-in_err-look_at_head-clause-foreign g c = λ honest_objects honest_names.
    let p = err_from_is_err_and c.from_residual.result c.from_residual.ensures.1 in
    rw (p.1, p.2) (foreign_head g.F.Files.reading_may_fail c.args.kind (trees_of g.F.Files.history c.args.objects.now c.args.names.now) c.in_err-look_at_head.field-0.0 (c.in_err-look_at_head.ensures.wrong honest_names))

pub returns-in_err-look_below-clause-foreign : goal.returns-in_err-look_below-clause-foreign
returns-in_err-look_below-clause-foreign g c = λ honest_objects honest_names.
    let p = err_from_is_err_and c.from_residual-in_err-look_below.result c.from_residual-in_err-look_below.ensures.1 in
    rw (p.1, p.2) (foreign_objects g.F.Files.reading_may_fail c.args.kind (trees_of g.F.Files.history c.args.objects.now c.args.names.now) c.in_err-look_below.field-0.0 (c.in_err-look_below.ensures.stray honest_objects))

pub returns-in_err-look_below-2-clause-foreign : goal.returns-in_err-look_below-2-clause-foreign
returns-in_err-look_below-2-clause-foreign g c = λ honest_objects honest_names.
    let p = err_from_is_err_and c.from_residual-in_err-look_below-2.result c.from_residual-in_err-look_below-2.ensures.1 in
    rw (p.1, p.2) (foreign_names g.F.Files.reading_may_fail c.args.kind (trees_of g.F.Files.history c.args.objects.now c.args.names.now) c.in_err-look_below-2.field-0.0 (c.in_err-look_below-2.ensures.stray honest_names))

pub returns-in_err-test_long_packed-clause-foreign : goal.returns-in_err-test_long_packed-clause-foreign
returns-in_err-test_long_packed-clause-foreign g c = λ honest_objects honest_names.
    let p = err_from_is_err_and c.from_residual-in_err-test_long_packed.result c.from_residual-in_err-test_long_packed.ensures.1 in
    rw (p.1, p.2) (foreign_packed g.F.Files.reading_may_fail c.args.kind (trees_of g.F.Files.history c.args.objects.now c.args.names.now) c.in_err-test_long_packed.field-0.0 (c.in_err-test_long_packed.ensures.wrong honest_names))

pub returns-clause-own : goal.returns-clause-own
returns-clause-own g c = λ honest_objects honest_names.
    is_recoverable c.args.kind (trees_of g.F.Files.history c.args.objects.now c.args.names.now) (c.in_ok-look_at_head.ensures.named honest_names)
    (all_at Objects c.args.kind (g.F.Files.history c.args.objects.now).tree (g.met.F.Files.rooted c.args.objects.now honest_objects) (c.in_ok-look_below.ensures.own honest_objects))
    (all_at Names c.args.kind (g.F.Files.history c.args.names.now).tree (g.met.F.Files.rooted c.args.names.now honest_names) (c.in_ok-look_below-2.ensures.own honest_names))
    (c.in_ok-test_long_packed.ensures.tested honest_names)
