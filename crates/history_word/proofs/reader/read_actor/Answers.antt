use Rattle.std.proofs.Common.{[], ◌∷◌, ◌++◌, sym}
use Rattle.std.proofs.lemmas.Result.{err_from_is_err_and}
use Rattle.history_word.specs.LineTable as table
use Rattle.history_word.specs.Progress.{IsNoField, StopsFrom}
use Rattle.history_word.proofs.TakingLemmas.{asks_then, took_then, took_none}
use Rattle.history_word.proofs.StopLemmas.{stops_then}
use Rattle.history_word.proofs.LineEndLemmas.{field_first_stops, field_second_stops, two_texts}
use Rattle.history_word.proofs.reader.read_actor.Goals as goal

pub returns-in_err-name : goal.returns-in_err-name
returns-in_err-name g c =
    let p = err_from_is_err_and c.from_residual.result c.from_residual.ensures.1 in
    rw (p.1, p.2) (stops_then g.R.Source.left g.R.Source.has_failed g.R.Source.readings _ _ _ _ _ _ [] (IsNoField c.args.heading.name)
    (λ bytes cause. (place : table.Place) → StopsFrom (c.args.heading.name ∷ c.args.heading.email ∷ []) place bytes cause)
    (λ ys m bad place. field_first_stops c.args.heading.name (c.args.heading.email ∷ []) place ys m bad)
    c.in_err-name.field-0.0 (took_none g.R.Source.left g.R.Source.readings c.args.source.now c.args.buffer.now) c.in_err-name.ensures)

pub returns-in_err-email : goal.returns-in_err-email
returns-in_err-email g c =
    let p = err_from_is_err_and c.from_residual-in_err-email.result c.from_residual-in_err-email.ensures.1 in
    let a = c.in_ok-name.ensures in
    rw (p.1, p.2) (stops_then g.R.Source.left g.R.Source.has_failed g.R.Source.readings _ _ _ _ _ _ a.0 (IsNoField c.args.heading.email)
    (λ bytes cause. (place : table.Place) → StopsFrom (c.args.heading.name ∷ c.args.heading.email ∷ []) place bytes cause)
    (λ ys m bad place. field_second_stops a.2.0 a.0 c.args.heading.name c.args.heading.email [] place a.2.1 a.2.2 ys m bad)
    c.in_err-email.field-0.0 a.1 c.in_err-email.ensures)

pub returns : goal.returns
returns g c =
    let a = c.in_ok-name.ensures in
    let b = c.in_ok-email.ensures in (
      a.0 ++ b.0,
      took_then g.R.Source.left g.R.Source.readings _ _ _ _ _ _ a.0 b.0 a.1 b.1,
      (
        record {
          name = a.2.0;
          email = b.2.0;
          sized = (sym a.2.1, sym b.2.1);
          spelled = two_texts a.0 b.0 a.2.0 b.2.0 a.2.2 b.2.2;
          is = λ s o es eo. c.actor_line.ensures (record { name = a.2.0; email = b.2.0; seconds = s; offset = o }) a.2.3 b.2.3 es eo;
        },
        asks_then g.R.Source.left g.R.Source.readings _ _ _ _ _ a.0 b.0 a.1 a.2.4 b.2.4,
      ),
    )
