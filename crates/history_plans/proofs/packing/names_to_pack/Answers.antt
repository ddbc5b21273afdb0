use Rattle.std.proofs.Common.{◌∙◌, Err, None, ap, refl, subst}
use Rattle.std.specs.Prelude.{Result, Vec, map}
use Rattle.std.specs.declared.alloc.Global.{Global}
use Rattle.std.proofs.lemmas.Result.{err_from_is_err_and}
use Rattle.history_files.specs.Laws.{table_of}
use Rattle.history_store.specs.declared.packs.PackedName.{PackedName}
use Rattle.history_repository.specs.NamesShown.{shown_name, told_name}
use Rattle.history_repository.specs.Reads.{GivesMeant}
use Rattle.history_repository.specs.declared.stopped.Stopped.{Stopped}
use Rattle.history_plans.specs.Packing.{AreAllNames, IsPacking}
use Rattle.history_repository.proofs.ReadingFaults.{gave_fault, gives_fault}
use Rattle.history_repository.proofs.NameLines.{listed_are, listed_peeled, listing_fault}
use Rattle.history_plans.proofs.PackedLines.{all_given, shown_full}
use Rattle.history_plans.proofs.packing.names_to_pack.Goals as goal

pub returns-in_err-listed : goal.returns-in_err-listed
returns-in_err-listed g c = λ r s.
    let MayFail = g.F.Files.reading_may_fail in
    let stopped = err_from_is_err_and c.from_residual.result c.from_residual.ensures.1 in
    gives_fault MayFail (IsPacking r) c.from_residual.result _ (stopped.1 ∙ ap Err stopped.2) (listing_fault MayFail c.in_err-listed.field-0.0 (λ failed. c.in_err-listed.ensures.failed (ap Err failed)))

pub returns-in_err-shown : goal.returns-in_err-shown
returns-in_err-shown g c = λ r s.
    let F = g.F.Files in
    let here = c.args.repository.now in
    let lists = c.in_ok-listed.ensures.found s.honest_names s.records in
    let peeled = listed_peeled F.is_honest F.history here r s here.names.kind s.names_kind None c.in_ok-listed.listed.items refl lists in
    let stopped = err_from_is_err_and c.from_residual-in_err-shown.result c.from_residual-in_err-shown.ensures.1 in
    gives_fault F.reading_may_fail (IsPacking r) c.from_residual-in_err-shown.result _ (stopped.1 ∙ ap Err stopped.2) (c.in_err-shown.ensures r s peeled (c.new-held.ensures (table_of r)))

pub returns-in_err-names : goal.returns-in_err-names
returns-in_err-names g c = λ r s.
    let F = g.F.Files in
    let here = c.args.repository.now in
    let lists = c.in_ok-listed.ensures.found s.honest_names s.records in
    let peeled = listed_peeled F.is_honest F.history here r s here.names.kind s.names_kind None c.in_ok-listed.listed.items refl lists in
    let read = c.in_ok-shown.ensures r s peeled (c.new-held.ensures (table_of r)) in
    let are = read.0 ∙ listed_are F.is_honest F.history here r s here.names.kind s.names_kind None c.in_ok-listed.listed.items refl lists in
    let full = shown_full r s.whole.whole s.whole.written c.in_ok-shown.shown.items are in
    let stopped = err_from_is_err_and c.from_residual-in_err-names.result c.from_residual-in_err-names.ensures.1 in
    gives_fault F.reading_may_fail (IsPacking r) c.from_residual-in_err-names.result _ (stopped.1 ∙ ap Err stopped.2)
    (gave_fault F.reading_may_fail (λ names. AreAllNames r names.items) c.all_to_pack.result c.in_err-names.field-0.0 c.in_err-names.was (all_given F.reading_may_fail r c.in_ok-shown.shown.items c.all_to_pack.result are (c.all_to_pack.ensures full)))

pub returns : goal.returns
returns g c = λ r s.
    let F = g.F.Files in
    let here = c.args.repository.now in
    let lists = c.in_ok-listed.ensures.found s.honest_names s.records in
    let peeled = listed_peeled F.is_honest F.history here r s here.names.kind s.names_kind None c.in_ok-listed.listed.items refl lists in
    let read = c.in_ok-shown.ensures r s peeled (c.new-held.ensures (table_of r)) in
    let are = read.0 ∙ listed_are F.is_honest F.history here r s here.names.kind s.names_kind None c.in_ok-listed.listed.items refl lists in
    let full = shown_full r s.whole.whole s.whole.written c.in_ok-shown.shown.items are in
    record {
      names = subst (λ (result : Result (Vec PackedName Global) Stopped). GivesMeant F.reading_may_fail (λ names. AreAllNames r names.items) result) c.in_ok-names.was (all_given F.reading_may_fail r c.in_ok-shown.shown.items c.all_to_pack.result are (c.all_to_pack.ensures full));
      held = read.1;
    }
