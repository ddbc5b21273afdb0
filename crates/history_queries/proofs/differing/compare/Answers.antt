use Rattle.std.proofs.Common.{◌∙◌, ap, sym, subst, map, option_map}
use Rattle.std.specs.List.{AllByRecursion}
use Rattle.gix_hash.specs.Id.{id_of}
use Rattle.history_files.specs.Reading.{entry_of}
use Rattle.history_model.specs.Repository.{HoldsCommit}
use Rattle.history_repository.proofs.Befores.{first_of, none_of}
use Rattle.history_repository.proofs.ReadingFaults.{fault_told}
use Rattle.history_queries.proofs.DifferingLemmas.{before_first, before_none, differs_told, parents_held}
use Rattle.history_queries.proofs.FoundLemmas.{each_found_same}
use Rattle.history_queries.proofs.differing.compare.Goals as goal

pub returns-in_default : goal.returns-in_default
returns-in_default g c = λ r s read seen trees.
    let here = c.args.here.now in
    let none = none_of c.as_slice.result.now c.first.result c.in_default.is c.first.ensures.value in
    let alone = sym seen.parents ∙ ap (map id_of) (sym c.as_slice.ensures ∙ none) in
    let own = ap (map (option_map entry_of)) c.as_slice-in_default.ensures.value ∙ seen.found in
    let there = ap (map (option_map entry_of)) (c.as_slice-in_default-2.ensures.value) ∙ before_none r (id_of here.id) c.args.paths.now c.in_ok-nothing.nothing.items alone c.in_ok-nothing.ensures in (
      record {
        differs = c.ne.ensures ∙ differs_told _ _ c.args.repository.now r s c.args.paths.now (id_of here.id) c.as_slice-in_default.result.now c.as_slice-in_default-2.result.now _ seen.holds own there (each_found_same c.as_slice-in_default.result.now c.as_slice-in_default-2.result.now);
        before = tt;
      },
      trees,
    )

pub returns-in_err-before : goal.returns-in_err-before
returns-in_err-before g c = λ r s read seen trees.
    let first = first_of c.as_slice.result.now c.first.result c.in-Some.parent c.in-Some.is c.first.ensures.value in
    let are = sym seen.parents ∙ ap (map id_of) (sym c.as_slice.ensures ∙ first.1) in
    let holds = (subst (AllByRecursion (HoldsCommit r)) are (parents_held _ _ c.args.repository.now r s (id_of c.args.here.now.id) seen.holds)).0 in
    fault_told g.F.Files.reading_may_fail _ c.from_residual-in_err-before.result _ c.from_residual-in_err-before.ensures.1 (c.in_err-before.ensures r c.args.paths.now s read holds trees)

pub returns : goal.returns
returns g c = λ r s read seen trees.
    let here = c.args.here.now in
    let first = first_of c.as_slice.result.now c.first.result c.in-Some.parent c.in-Some.is c.first.ensures.value in
    let are = sym seen.parents ∙ ap (map id_of) (sym c.as_slice.ensures ∙ first.1) in
    let holds = (subst (AllByRecursion (HoldsCommit r)) are (parents_held _ _ c.args.repository.now r s (id_of here.id) seen.holds)).0 in
    let before = c.in_ok-before.ensures r c.args.paths.now s read holds trees in
    let own = ap (map (option_map entry_of)) c.as_slice-2.ensures.value ∙ seen.found in
    let there = ap (map (option_map entry_of)) c.as_slice-3.ensures.value ∙ before_first r (id_of here.id) c.args.paths.now c.in_ok-before.before (id_of (c.in-Some.parent).now) (map id_of first.0) are before.0 in (
      record {
        differs = c.ne-2.ensures ∙ differs_told _ _ c.args.repository.now r s c.args.paths.now (id_of here.id) c.as_slice-2.result.now c.as_slice-3.result.now _ seen.holds own there (each_found_same c.as_slice-2.result.now c.as_slice-3.result.now);
        before = before.0.1;
      },
      before.1,
    )
