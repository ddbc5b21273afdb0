use Rattle.std.proofs.lemmas.Result.{IfOk-weaker}
use Rattle.history_texts.proofs.ActorTexts.{parts_read, text_answered, time_words}
use Rattle.history_texts.proofs.actor.Actor.parse.Goals as goal

pub returns-in-Err : goal.returns-in-Err
returns-in-Err c actor formed is = c.in-Err.ensures.every actor.name actor.email (time_words actor) (parts_read c.args.text.now actor formed is)

pub returns-in-Ok : goal.returns-in-Ok
returns-in-Ok c =
    IfOk-weaker c.from_ref.result _ _ (λ found. text_answered c.args.text.now _ found (c.in-Ok.ensures.read).cut.spelled
    (λ actor formed is. let told = c.in-Ok.ensures.every actor.name actor.email (time_words actor) (parts_read c.args.text.now actor formed is) in λ i. record { name = told.0 i; email = told.1 i; time = told.2 i })) c.from_ref.ensures
