-- A run of which less is said: of the end of its input, of its last reading and of failed calls.
use Rattle.std.proofs.Common.{◌≡◌, ◌⊎◌, inl, inr, Bool, true, false, List, [], ◌∷◌}
use Rattle.std.specs.List.{AllByRecursion}
use Rattle.history_model.specs.Bytes.{Bytes}
use Rattle.history_model.specs.Repository.{Repository}
use Rattle.history_model.specs.Commands.{Command}
use Rattle.history_model.specs.Grammar.{HasRestCause}
use Rattle.history_model.specs.Replies.{Reply, Faulted}
use Rattle.history_model.specs.Runs.{IsNoCommand, Ran, Ends, Runs, EndsReading, EndsWriting, CutsShort}
use Rattle.history_model.specs.declared.Cause.{Cause}
use Rattle.history_model.specs.declared.Cause.TheVariants.{Truncated}
use Rattle.history_model.specs.declared.Fault.TheVariants.{File}
use Rattle.history_model.specs.declared.End.{End}
use Rattle.history_model.specs.declared.End.TheVariants.{Input, Refused as ByRefusal, Fault as ByFault}

module _ (AtEnd NowAtEnd Fail NowFail : Type 0) (ends : AtEnd → NowAtEnd) (fails : Fail → NowFail) where
  faults_told : (replies : List Reply) → AllByRecursion (λ reply. reply ≡ Faulted File → Fail) replies → AllByRecursion (λ reply. reply ≡ Faulted File → NowFail) replies
  faults_told [] all = tt
  faults_told (reply ∷ replies) all = (λ faulted. fails (all.0 faulted), faults_told replies all.1)

  none_told : (rest : Bytes) (cause : Cause) → IsNoCommand AtEnd rest cause → IsNoCommand NowAtEnd rest cause
  none_told rest cause none = record { because = none.because; at_end = λ cut. ends (none.at_end cut) }

  ends_told : (rest last : Bytes) (end : End) (failed : Bool) → Ends AtEnd rest last end failed → Ends NowAtEnd rest last end failed
  ends_told rest last Input failed told = (told.0, ends told.1, told.2, told.3)
  ends_told rest last ByRefusal failed told = (told.0, none_told rest told.0 told.1, told.2, told.3)
  ends_told rest last ByFault true told = told
  ends_told rest last ByFault false told = (told.0, none_told rest told.0 told.1, told.2)

  ran_told : (old new : Repository) (commands : List Command) (replies : List Reply) (input output rest last : Bytes) (failed : Bool)
      → Ran Fail old commands replies input output rest last failed new → Ran NowFail old commands replies input output rest last failed new
  ran_told old new commands replies input output rest last failed ran = record {
    splits = ran.splits;
    steps = ran.steps;
    fails = ran.fails;
    written = ran.written;
    file_faults = faults_told replies ran.file_faults;
  }

  short_told : (old : Repository) (commands : List Command) (replies : List Reply) (rest part : Bytes) (failed : Bool) (new : Repository)
      → CutsShort AtEnd Fail old commands replies rest part failed new → CutsShort NowAtEnd NowFail old commands replies rest part failed new
  short_told old (command ∷ []) (reply ∷ []) rest part failed new h = (h.0, h.1, h.2, h.3, h.4, λ e. fails (h.5 e), h.6)
  short_told old [] [] rest part failed new h = (h.0, none_told rest h.0 h.1, h.2, h.3, h.4)
  short_told old [] (reply ∷ replies) rest part failed new h = absurd h
  short_told old (command ∷ []) [] rest part failed new h = absurd h
  short_told old (command ∷ []) (reply ∷ other ∷ replies) rest part failed new h = absurd h
  short_told old (command ∷ next ∷ commands) [] rest part failed new h = absurd h
  short_told old (command ∷ next ∷ commands) (reply ∷ replies) rest part failed new h = absurd h

  pub runs_told : (old new : Repository) (commands : List Command) (replies : List Reply) (input output : Bytes) (end : End) (failed : Bool)
      → Runs AtEnd Fail old commands replies input output end failed new → Runs NowAtEnd NowFail old commands replies input output end failed new
  runs_told old new commands replies input output end failed runs = record {
    rest = runs.rest;
    last = runs.last;
    ran = ran_told old new commands replies input output runs.rest runs.last failed runs.ran;
    ends = ends_told runs.rest runs.last end failed runs.ends;
  }

  -- the reader failed; AtEnd speaks of the last reading
  pub reading_told : (old new : Repository) (commands : List Command) (replies : List Reply) (input output : Bytes) (failed : Bool)
      → EndsReading AtEnd Fail old commands replies input output failed new → EndsReading NowAtEnd NowFail old commands replies input output failed new
  reading_told old new commands replies input output failed runs = record {
    rest = runs.rest;
    ran = ran_told old new commands replies input output runs.rest [] failed runs.ran;
    unfailed = runs.unfailed;
    cut = cut_told runs.cut;
  }
    where
      cut_told : (runs.rest ≡ []) ⊎ HasRestCause runs.rest Truncated ⊎ AtEnd → (runs.rest ≡ []) ⊎ HasRestCause runs.rest Truncated ⊎ NowAtEnd
      cut_told (inl none) = inl none
      cut_told (inr (inl cut)) = inr (inl cut)
      cut_told (inr (inr last)) = inr (inr (ends last))

  pub writing_told : (old new : Repository) (commands : List Command) (replies : List Reply) (input output : Bytes) (failed : Bool)
      → EndsWriting AtEnd Fail old commands replies input output failed new → EndsWriting NowAtEnd NowFail old commands replies input output failed new
  writing_told old new commands replies input output failed runs = record {
    answered = runs.answered;
    written = runs.written;
    last = runs.last;
    cut_off = runs.cut_off;
    all = runs.all;
    rest = runs.rest;
    part = runs.part;
    mid = runs.mid;
    ran = ran_told old runs.mid runs.answered runs.written input output runs.rest runs.part false runs.ran;
    cut = short_told runs.mid runs.last runs.cut_off runs.rest runs.part failed new runs.cut;
  }
