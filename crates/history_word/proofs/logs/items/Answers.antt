use Rattle.std.proofs.Common.{refl, sym, ◌∙◌}
use Rattle.std.specs.Prelude.{codes}
use Rattle.std.proofs.lemmas.Slice.Eq.{slice_eq-Decides}
use Rattle.std.proofs.lemmas.Bool.Decides.{Decides-eqb}
use Rattle.history_word.specs.Words.{left}
use Rattle.history_word.proofs.UnofferedLemmas.{is_other}
use Rattle.history_word.proofs.LogLemmas.{none_come, one_more, no_item, none_said, no_paths}
use Rattle.history_word.proofs.logs.items.Goals as goal

pub loop-word-init : goal.loop-word-init
loop-word-init c = (none_come (left c.args.words.now) _ c.new.ensures.items, c.new-paths.ensures)

pub loop-word-preserved : goal.loop-word-preserved
loop-word-preserved c =
    (one_more _ _ _ _ _ _ _ _ _ _ c.loop-word.invariant.0 c.in-Some.ensures.found c.in_ok-is_tip.ensures.found c.in_ok-is_tip.ensures.nonempty c.log_item.ensures c.pushed-items.ensures, c.loop-word.invariant.1)

pub returns-in_err-paths : goal.returns-in_err-paths
returns-in_err-paths c =
    let name = (slice_eq-Decides Decides-eqb _ _ _ c.eq.ensures).0 c.if-eq.true ∙ c.as_slice.ensures in
    rw c.from_residual.ensures (none_said _ _ _ _ c.loop-word.invariant.0 (no_paths _ _ _ c.in-Some.ensures.found name c.in_err-paths.ensures))

pub returns-in_err-is_tip : goal.returns-in_err-is_tip
returns-in_err-is_tip c =
    let other = is_other c.in-Some.word.now _ (codes "path") _ (slice_eq-Decides Decides-eqb _ _ _ c.eq.ensures).1 c.as_slice.ensures c.if-eq.false in
    rw c.from_residual-in_err-is_tip.ensures (no_item _ _ _ _ _ _ c.loop-word.invariant.0 c.in-Some.ensures.found other c.in_err-is_tip.ensures.none)
