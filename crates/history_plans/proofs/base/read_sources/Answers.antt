use Rattle.std.proofs.Common.{◌≤◌, ◌∙◌, List, Option, ap, map, option_map, subst, sym}
use Rattle.std.specs.List.{AllByRecursion}
use Rattle.std.proofs.lemmas.List.{take_all}
use Rattle.history_word.specs.Commands.{IsEdit}
use Rattle.history_plans.specs.Bases.{IsRootedWord, line_word}
use Rattle.history_repository.specs.Meanings.{commit_or_cause, meaning_of}
use Rattle.history_repository.specs.declared.words.WordMeaning.{WordMeaning}
use Rattle.history_repository.proofs.ReadingFaults.{fault_told}
use Rattle.history_plans.proofs.BaseLemmas.{all_more}
use Rattle.history_plans.proofs.SourceLemmas.{line_there, source_added}
use Rattle.history_plans.proofs.Zipped.{zip_length}
use Rattle.history_plans.proofs.base.read_sources.Goals as goal

pub loop-edit-init : goal.loop-edit-init
loop-edit-init g c = λ r lines h are known.
    ((ap (map (option_map meaning_of)) c.new-sources.ensures.items, subst (λ (sources : List (Option WordMeaning)). AllByRecursion (IsRootedWord r) sources) (sym c.new-sources.ensures.items) tt), known)

pub loop-edit-preserved : goal.loop-edit-preserved
loop-edit-preserved g c = λ r lines h are known.
    let so_far = c.loop-edit.invariant r lines h are known in
    let asked = line_there c.args.edits.now lines are c.loop-edit.edit-index c.edit-item.result c.loop-edit-test.true c.edit-item.is in
    let read = c.in_ok-read_source.ensures.reads r asked.0 h asked.1 so_far.1 in (
      (
        source_added r c.args.edits.now lines are c.loop-edit.edit-index c.edit-item.result c.in_ok-read_source.field-0 c.loop-edit.sources.items c.push.new.self.items c.loop-edit-test.true c.edit-item.is
            (λ line is. (c.in_ok-read_source.ensures.reads r line h is so_far.1).0) so_far.0.0 c.in_ok-push.ensures.items,
        all_more (IsRootedWord r) c.loop-edit.sources.items c.push.new.self.items c.in_ok-read_source.field-0 so_far.0.1 read.1 c.in_ok-push.ensures.items,
      ),
      c.in_ok-read_source.ensures.kept r h so_far.1,
    )

pub returns-in_err-read_source : goal.returns-in_err-read_source
returns-in_err-read_source g c = λ r lines h are known.
    let asked = line_there c.args.edits.now lines are c.loop-edit.edit-index c.edit-item.result c.loop-edit-test.true c.edit-item.is in
    fault_told g.F.Files.reading_may_fail _ c.from_residual.result _ c.from_residual.ensures.1 (c.in_err-read_source.ensures.reads r asked.0 h asked.1 (c.loop-edit.invariant r lines h are known).1)

pub returns : goal.returns
returns g c = λ r lines h are known.
    let so_far = c.loop-edit.invariant r lines h are known in
    let whole = take_all c.loop-edit.edit-index lines (subst (λ n. n ≤ c.loop-edit.edit-index) (zip_length IsEdit c.args.edits.now lines are) c.loop-edit-test.false) in
    ((so_far.0.0 ∙ ap (map (λ line. option_map (commit_or_cause r) (line_word line))) whole, so_far.0.1), so_far.1)
