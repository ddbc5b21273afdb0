use Rattle.std.proofs.Common.{[], ◌∷◌, refl}
use Rattle.std.specs.Prelude.{IfSome}
use Rattle.std.proofs.lemmas.Result.{err_from_is_err_and}
use Rattle.history_word.specs.LineTable as table
use Rattle.history_word.specs.Commands.{IsActor}
use Rattle.history_word.specs.Progress.{IsNoField, StopsFrom}
use Rattle.history_word.specs.Come.{edit_sizes, opening_sizes}
use Rattle.history_word.proofs.TakingLemmas.{took_none}
use Rattle.history_word.proofs.StopLemmas.{stops_then}
use Rattle.history_word.proofs.LineEndLemmas.{field_first_stops}
use Rattle.history_word.proofs.DraftLemmas.{opening_fields, parent_fields, to_fields, edit_takes, actor_takes, message_fields, end_fields}
use Rattle.history_word.proofs.reader.read_fields.Goals as goal

pub returns-in_err-draft-in-Opening : goal.returns-in_err-draft-in-Opening
returns-in_err-draft-in-Opening g c =
    let p = err_from_is_err_and c.from_residual.result c.from_residual.ensures.1 in
    rw (p.1, p.2, c.in-Opening.is) (stops_then g.R.Source.left g.R.Source.has_failed g.R.Source.readings _ _ _ _ _ _ []
    (λ bytes cause. (place : table.Place) → StopsFrom (opening_sizes c.in-Opening.line) place bytes cause)
    (λ bytes cause. (place : table.Place) → StopsFrom (opening_sizes c.in-Opening.line) place bytes cause)
    (λ ys m bad. bad)
    c.in_err-draft-in-Opening.field-0.0 (took_none g.R.Source.left g.R.Source.readings c.args.source.now c.args.buffer.now) c.in_err-draft-in-Opening.ensures)

pub returns-in_err-read_edit-in-Edit : goal.returns-in_err-read_edit-in-Edit
returns-in_err-read_edit-in-Edit g c =
    let p = err_from_is_err_and c.from_residual-in_err-read_edit-in-Edit.result c.from_residual-in_err-read_edit-in-Edit.ensures.1 in
    rw (p.1, p.2, c.in-Edit.is) (stops_then g.R.Source.left g.R.Source.has_failed g.R.Source.readings _ _ _ _ _ _ []
    (λ bytes cause. (place : table.Place) → StopsFrom (edit_sizes c.in-Edit.line) place bytes cause)
    (λ bytes cause. (place : table.Place) → StopsFrom (edit_sizes c.in-Edit.line) place bytes cause)
    (λ ys m bad. bad)
    c.in_err-read_edit-in-Edit.field-0.0 (took_none g.R.Source.left g.R.Source.readings c.args.source.now c.args.buffer.now) c.in_err-read_edit-in-Edit.ensures)

pub returns-in_err-read_actor-in-Actor : goal.returns-in_err-read_actor-in-Actor
returns-in_err-read_actor-in-Actor g c =
    let p = err_from_is_err_and c.from_residual-in_err-read_actor-in-Actor.result c.from_residual-in_err-read_actor-in-Actor.ensures.1 in
    rw (p.1, p.2, c.in-Actor.is) (stops_then g.R.Source.left g.R.Source.has_failed g.R.Source.readings _ _ _ _ _ _ []
    (λ bytes cause. (place : table.Place) → StopsFrom (c.in-Actor.line.name ∷ c.in-Actor.line.email ∷ []) place bytes cause)
    (λ bytes cause. (place : table.Place) → StopsFrom (c.in-Actor.line.name ∷ c.in-Actor.line.email ∷ []) place bytes cause)
    (λ ys m bad. bad)
    c.in_err-read_actor-in-Actor.field-0.0 (took_none g.R.Source.left g.R.Source.readings c.args.source.now c.args.buffer.now) c.in_err-read_actor-in-Actor.ensures)

pub returns-in_err-read_field-in-Message : goal.returns-in_err-read_field-in-Message
returns-in_err-read_field-in-Message g c =
    let p = err_from_is_err_and c.from_residual-in_err-read_field-in-Message.result c.from_residual-in_err-read_field-in-Message.ensures.1 in
    rw (p.1, p.2, c.in-Message.is) (stops_then g.R.Source.left g.R.Source.has_failed g.R.Source.readings _ _ _ _ _ _ [] (IsNoField c.in-Message.size)
    (λ bytes cause. (place : table.Place) → StopsFrom (c.in-Message.size ∷ []) place bytes cause)
    (λ ys m bad place. field_first_stops c.in-Message.size [] place ys m bad)
    c.in_err-read_field-in-Message.field-0.0 (took_none g.R.Source.left g.R.Source.readings c.args.source.now c.args.buffer.now) c.in_err-read_field-in-Message.ensures)

pub returns-in_ok-draft-in-Opening : goal.returns-in_ok-draft-in-Opening
returns-in_ok-draft-in-Opening g c =
    let a = c.in_ok-draft-in-Opening.ensures in
    rw (c.in-Opening.is) (a.0, a.1, (opening_fields c.in-Opening.line _ _ a.0 a.2.0, a.2.1))

pub returns-in_ok-read_edit-in-Edit : goal.returns-in_ok-read_edit-in-Edit
returns-in_ok-read_edit-in-Edit g c =
    let a = c.in_ok-read_edit-in-Edit.ensures in
    rw (c.in-Edit.is) (a.0, a.1, (edit_takes c.in-Edit.line _ a.0 _ _ a.2.0 c.add_edit.ensures, a.2.1))

pub returns-in_ok-read_actor-in-Actor : goal.returns-in_ok-read_actor-in-Actor
returns-in_ok-read_actor-in-Actor g c =
    let a = c.in_ok-read_actor-in-Actor.ensures in
    let actor = c.in_ok-read_actor-in-Actor.field-0 in
    rw (c.in-Actor.is) (
      a.0,
      a.1,
      (actor_takes c.in-Actor.line actor a.0 _ _ a.2.0 (λ l. IfSome actor (λ x. IsActor x l)) (λ sent l d k. c.set_actor.ensures.commit sent l d k) (λ sent l d k. c.set_actor.ensures.tag sent l d k) (λ sent l d k. c.set_actor.ensures.moves sent l d k) a.2.0.is, a.2.1),
    )

pub returns-in_ok-read_field-in-Message : goal.returns-in_ok-read_field-in-Message
returns-in_ok-read_field-in-Message g c =
    let a = c.in_ok-read_field-in-Message.ensures in
    rw (c.in-Message.is) (
      a.0,
      a.1,
      (message_fields c.in-Message.size a.0 _ _ a.2.0 a.2.1 a.2.2 (λ sent d. c.set_message.ensures.commit sent a.2.0 d a.2.3) (λ sent d. c.set_message.ensures.tag sent a.2.0 d a.2.3) (λ sent d. c.set_message.ensures.moves sent a.2.0 d a.2.3), a.2.4),
    )

pub returns-in-Parent : goal.returns-in-Parent
returns-in-Parent g c = rw (c.in-Parent.is) ([], took_none g.R.Source.left g.R.Source.readings c.args.source.now c.args.buffer.now, (parent_fields c.in-Parent.word _ _ c.add_parent.ensures, λ _. refl))

pub returns-in-To : goal.returns-in-To
returns-in-To g c = rw (c.in-To.is) ([], took_none g.R.Source.left g.R.Source.readings c.args.source.now c.args.buffer.now, (to_fields c.in-To.to _ _ c.add_to.ensures, λ _. refl))

pub returns-in-End : goal.returns-in-End
returns-in-End g c = rw (c.in-End.is) ([], took_none g.R.Source.left g.R.Source.readings c.args.source.now c.args.buffer.now, (end_fields _, λ _. refl))
