use Rattle.std.proofs.Common.{◌∙◌, [], sym, subst}
use Rattle.std.proofs.lemmas.Result.{err_from_is_err_and}
use Rattle.history_word.specs.LineTable as table
use Rattle.history_word.specs.Progress.{StopsFrom}
use Rattle.history_word.specs.Sizes.{listed}
use Rattle.history_word.proofs.TakingLemmas.{took_none}
use Rattle.history_word.proofs.StopLemmas.{stops_then}
use Rattle.history_word.proofs.reader.read_log.Goals as goal

pub returns-in_err-paths : goal.returns-in_err-paths
returns-in_err-paths g c =
    let p = err_from_is_err_and c.from_residual.result c.from_residual.ensures.1 in
    rw (p.1, p.2) (stops_then g.R.Source.left g.R.Source.has_failed g.R.Source.readings _ _ _ _ _ _ []
    (λ bytes cause. (place : table.Place) → StopsFrom c.as_slice.result.now place bytes cause)
    (λ bytes cause. (place : table.Place) → StopsFrom (listed c.args.line.paths) place bytes cause)
    (λ ys m bad place. subst (λ sizes. StopsFrom sizes place ys m) c.as_slice.ensures (bad place))
    c.in_err-paths.field-0.0 (took_none g.R.Source.left g.R.Source.readings c.args.source.now c.args.buffer.now) c.in_err-paths.ensures)

pub returns : goal.returns
returns g c =
    let a = c.in_ok-paths.ensures in
    let took = a.2.0 in (
      a.0,
      a.1,
      (record { paths = took.paths; heads = sym c.as_slice.ensures ∙ took.heads; spelled = took.spelled; is = λ sent h. c.finish.ensures sent took.paths h took.is }, a.2.1),
    )
