use Rattle.std.proofs.Common.{◌∙◌, ap, Ok, Err}
use Rattle.std.proofs.lemmas.Result.{err_from_is_err_and}
use Rattle.gix_object_lines.specs.Actor.{IsSpellable}
use Rattle.gix_object_lines.specs.Person.{actor_line, own_person}
use Rattle.gix_object_commit.specs.OwnedText.{own_person_piece}
use Rattle.gix_object_commit.specs.Writing.{unspellable_unless}
use Rattle.gix_object_commit.proofs.OwnPieces.{as_piece, line_piece, front_stops, text_stops, line_ends, from_line}
use Rattle.gix_object_commit.proofs.OwnTexts.{front_fine}
use Rattle.gix_object_commit.proofs.commit.write_owned.write_own_person.Goals as goal

pub returns-in_err-write_piece : goal.returns-in_err-write_piece
returns-in_err-write_piece g c =
    let p = err_from_is_err_and c.from_residual.result c.from_residual.ensures.1 in
    let word = c.args.word.now in
    let actor = c.args.actor.now in
    let text = actor_line (own_person actor) in
    let e = c.in_err-write_piece.field-0.0 in
    let cause = c.unless.ensures ∙ ap unspellable_unless c.is_own_person.ensures in
    rw (p.1, p.2) (as_piece _ _ (line_piece word text c.unless.result) (own_person_piece word actor) (Err e) (ap (line_piece word text) cause)
    (front_stops word text c.unless.result _ _ e c.in_err-write_piece.ensures))

pub returns-in_err-write_actor : goal.returns-in_err-write_actor
returns-in_err-write_actor g c =
    let p = err_from_is_err_and c.from_residual-in_err-write_actor.result c.from_residual-in_err-write_actor.ensures.1 in
    let word = c.args.word.now in
    let actor = c.args.actor.now in
    let text = actor_line (own_person actor) in
    let e = c.in_err-write_actor.field-0.0 in
    let cause = c.unless.ensures ∙ ap unspellable_unless c.is_own_person.ensures in
    let fits = front_fine actor c.unless.result cause c.in_ok-write_piece.ensures.0 in
    let wrote = from_line (IsSpellable actor.name actor.email actor.time) _ _ text (Err e) fits c.in_err-write_actor.ensures.written in
    rw (p.1, p.2) (as_piece _ _ (line_piece word text c.unless.result) (own_person_piece word actor) (Err e) (ap (line_piece word text) cause)
    (text_stops word text c.unless.result _ _ _ e c.in_ok-write_piece.ensures wrote))

pub returns : goal.returns
returns g c =
    let word = c.args.word.now in
    let actor = c.args.actor.now in
    let text = actor_line (own_person actor) in
    let r = c.write_piece-2.result in
    let cause = c.unless.ensures ∙ ap unspellable_unless c.is_own_person.ensures in
    let fits = front_fine actor c.unless.result cause c.in_ok-write_piece.ensures.0 in
    let wrote = from_line (IsSpellable actor.name actor.email actor.time) _ _ text (Ok tt) fits c.in_ok-write_actor.ensures.written in
    as_piece _ _ (line_piece word text c.unless.result) (own_person_piece word actor) r (ap (line_piece word text) cause)
    (line_ends word text c.unless.result _ _ _ _ r c.in_ok-write_piece.ensures wrote c.write_piece-2.ensures)
