-- How a run ended, of which less is said, and what follows from it.
use Rattle.std.proofs.Common.{◌≡◌, Bool, true, false, not, ◌||◌, List, [], ◌∷◌, ◌++◌, Result, Ok, Err, sym, ◌∙◌, ap}
use Rattle.std.specs.Bool.{⊤}
use Rattle.history_model.specs.Bytes.{Bytes}
use Rattle.history_model.specs.Commands.{Command}
use Rattle.history_model.specs.Replies.{Reply}
use Rattle.history_model.specs.Repository.{Repository}
use Rattle.history_model.specs.Steps.{some_failed}
use Rattle.history_model.specs.Runs.{CutsShort}
use Rattle.history_model.specs.Rounds.{WritesReplies}
use Rattle.history_model.specs.declared.End.{End}
use Rattle.history_model.proofs.RoundLemmas.{runs_have_written}
use Rattle.history_model.proofs.RunsTold.{runs_told, reading_told, writing_told}
use Rattle.history.specs.Runs.{EndsRun}
use Rattle.history.specs.declared.running.RunError.{RunError}
use Rattle.history.specs.declared.running.RunError.TheVariants.{Read, Write}
use Rattle.history.proofs.RunLemmas.{fails_then}

pub ends_told : (AtEnd NowAtEnd Last NowLast Fail NowFail : Type 0) → (AtEnd → NowAtEnd) → (Last → NowLast) → (Fail → NowFail)
    → (r : Repository) (commands : List Command) (replies : List Reply) (read written : Bytes) (result : Result End RunError) (failed : Bool) (new : Repository)
    → EndsRun AtEnd Last Fail r commands replies read written result failed new → EndsRun NowAtEnd NowLast NowFail r commands replies read written result failed new
ends_told AtEnd NowAtEnd Last NowLast Fail NowFail at last fails r commands replies read written (Ok end) failed new h =
    runs_told AtEnd NowAtEnd Fail NowFail at fails r new commands replies read written end failed h
ends_told AtEnd NowAtEnd Last NowLast Fail NowFail at last fails r commands replies read written (Err Read) failed new h =
    reading_told Last NowLast Fail NowFail last fails r new commands replies read written failed h
ends_told AtEnd NowAtEnd Last NowLast Fail NowFail at last fails r commands replies read written (Err Write) failed new h =
    writing_told AtEnd NowAtEnd Fail NowFail at fails r new commands replies read written failed h

short_failed : (AtEnd Fail : Type 0) (old : Repository) (commands : List Command) (replies : List Reply) (rest part : Bytes) (failed : Bool) (new : Repository)
    → CutsShort AtEnd Fail old commands replies rest part failed new → failed ≡ some_failed commands replies
short_failed AtEnd Fail old (command ∷ []) (reply ∷ []) rest part failed new h = h.4
short_failed AtEnd Fail old [] [] rest part failed new h = h.3
short_failed AtEnd Fail old [] (reply ∷ replies) rest part failed new h = absurd h
short_failed AtEnd Fail old (command ∷ []) [] rest part failed new h = absurd h
short_failed AtEnd Fail old (command ∷ []) (reply ∷ other ∷ replies) rest part failed new h = absurd h
short_failed AtEnd Fail old (command ∷ next ∷ commands) [] rest part failed new h = absurd h
short_failed AtEnd Fail old (command ∷ next ∷ commands) (reply ∷ replies) rest part failed new h = absurd h

module _ (AtEnd Last Fail : Type 0) (r : Repository) (commands : List Command) (replies : List Reply) (read written : Bytes) (failed : Bool) (new : Repository) where
  -- whether the repository has failed follows from the replies
  pub ends_failed : (result : Result End RunError) → EndsRun AtEnd Last Fail r commands replies read written result failed new → failed ≡ some_failed commands replies
  ends_failed (Ok end) h = h.ran.fails
  ends_failed (Err Read) h = h.ran.fails
  ends_failed (Err Write) h =
      short_failed AtEnd Fail h.mid h.last h.cut_off h.rest h.part failed new h.cut
      ∙ sym (fails_then r h.mid h.answered h.last h.written h.cut_off h.ran.steps (sym h.ran.fails))
      ∙ sym (ap (λ cs. some_failed cs (h.written ++ h.cut_off)) h.all.0) ∙ sym (ap (λ rs. some_failed commands rs) h.all.1)

  wrote : (result : Result End RunError) → EndsRun ⊤ ⊤ ⊤ r commands replies read written result failed new → WritesReplies read commands replies written
  wrote (Ok end) h = runs_have_written.0 r new commands replies read written end failed h
  wrote (Err Read) h = runs_have_written.1 r new commands replies read written failed h
  wrote (Err Write) h = runs_have_written.2 r new commands replies read written failed h

  pub ends_written : (result : Result End RunError) → EndsRun AtEnd Last Fail r commands replies read written result failed new → WritesReplies read commands replies written
  ends_written result h = wrote result (ends_told AtEnd ⊤ Last ⊤ Fail ⊤ (λ at. tt) (λ last. tt) (λ fail. tt) r commands replies read written result failed new h)
