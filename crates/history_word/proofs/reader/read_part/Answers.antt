use Rattle.std.proofs.Common.{◌++◌, []}
use Rattle.std.proofs.lemmas.Result.{err_from_is_err_and}
use Rattle.history_word.specs.LineTable as table
use Rattle.history_word.specs.TableRuns.{StopsAt}
use Rattle.history_word.specs.Progress.{StopsFrom}
use Rattle.history_word.specs.Drafts.{place_of}
use Rattle.history_word.specs.Come.{heading_sizes}
use Rattle.history_word.proofs.TakingLemmas.{asks_then, took_then, took_none}
use Rattle.history_word.proofs.StopLemmas.{stops_then}
use Rattle.history_word.proofs.ProgressLemmas.{stops_here}
use Rattle.history_word.proofs.LineEndLemmas.{fields_stop}
use Rattle.history_word.proofs.DraftLemmas.{takes_parts}
use Rattle.history_word.proofs.reader.read_part.Goals as goal

pub returns-in_err-heading : goal.returns-in_err-heading
returns-in_err-heading g c =
    let p = err_from_is_err_and c.from_residual.result c.from_residual.ensures.1 in
    let here = place_of c.args.place in
    rw (p.1, p.2) (stops_then g.R.Source.left g.R.Source.has_failed g.R.Source.readings _ _ _ _ _ _ [] (StopsAt [] here) (StopsFrom [] here) (λ ys m bad. stops_here [] here ys m bad)
    c.in_err-heading.field-0.0 (took_none g.R.Source.left g.R.Source.readings c.args.source.now c.args.buffer.now) c.in_err-heading.ensures)

pub returns-in_err-read_fields : goal.returns-in_err-read_fields
returns-in_err-read_fields g c =
    let p = err_from_is_err_and c.from_residual-in_err-read_fields.result c.from_residual-in_err-read_fields.ensures.1 in
    let h = c.in_ok-heading.ensures in
    rw (p.1, p.2) (stops_then g.R.Source.left g.R.Source.has_failed g.R.Source.readings _ _ _ _ _ _ h.0
    (λ bytes cause. (place : table.Place) → StopsFrom (heading_sizes c.in_ok-heading.heading) place bytes cause) (StopsFrom [] (place_of c.args.place))
    (fields_stop c.args.place c.in_ok-heading.next c.in_ok-heading.heading h.0 h.2.0)
    c.in_err-read_fields.field-0.0 h.1 c.in_err-read_fields.ensures)

pub returns : goal.returns
returns g c =
    let h = c.in_ok-heading.ensures in
    let a = c.in_ok-read_fields.ensures in (
      h.0 ++ a.0,
      took_then g.R.Source.left g.R.Source.readings _ _ _ _ _ _ h.0 a.0 h.1 a.1,
      (takes_parts c.args.place c.in_ok-heading.next c.in_ok-heading.heading h.0 a.0 _ _ h.2.0 a.2.0, asks_then g.R.Source.left g.R.Source.readings _ _ _ _ _ h.0 a.0 h.1 h.2.1 a.2.1),
    )
