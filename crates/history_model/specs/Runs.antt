-- Runs over a stream of commands: what they write, how they end, and when a reader or a writer cuts
-- them off. AtEnd says that nothing follows what was read; CallFailed says that a call of the files
-- failed.
use Rattle.std.specs.Prelude.{◌≡◌, ◌⊎◌, ◌<◌, Bool, true, false, List, [], ◌∷◌, ◌++◌, length, IsTrue}
use Rattle.std.specs.List.{flat_map, list_all, AllByRecursion}
use Rattle.history_model.specs.Bytes.{Bytes, begins}
use Rattle.history_model.specs.Repository.{Repository}
use Rattle.history_model.specs.Commands.{Command}
use Rattle.history_model.specs.Spelling.{spelling}
use Rattle.history_model.specs.Grammar.{is_command, HasRestCause}
use Rattle.history_model.specs.Replies.{Reply, RefusedFor, Faulted, reply_text}
use Rattle.history_model.specs.Steps.{Step, Steps, some_failed}
use Rattle.history_model.specs.declared.Cause.{Cause}
use Rattle.history_model.specs.declared.Cause.TheVariants.{Truncated}
use Rattle.history_model.specs.declared.Fault.TheVariants.{Memory, File}
use Rattle.history_model.specs.declared.End.{End}
use Rattle.history_model.specs.declared.End.TheVariants.{Input, Refused as ByRefusal, Fault as ByFault}

-- the input begins with these commands, and the rest follows
pub record BeginsWith (input : Bytes) (commands : List Command) (rest : Bytes) : Type 0 where
  pub known : IsTrue (list_all is_command commands)
  pub split : input ≡ flat_map spelling commands ++ rest

-- The rest is not empty and begins with no command, for this cause. A command is cut short only at
-- the end of the input.
pub record IsNoCommand (AtEnd : Type 0) (rest : Bytes) (cause : Cause) : Type 0 where
  pub because : HasRestCause rest cause
  pub at_end : cause ≡ Truncated → AtEnd

-- These commands were acted on one after another, and their replies are written, followed by these
-- last bytes; this rest of the input follows the commands. The run has failed if a changing command
-- had a fault.
pub record Ran (CallFailed : Type 0) (old : Repository) (commands : List Command)
    (replies : List Reply) (input output rest last : Bytes) (failed : Bool)
    (new : Repository) : Type 0 where
  pub splits : BeginsWith input commands rest
  pub steps : Steps old commands replies new
  pub fails : failed ≡ some_failed commands replies
  pub written : output ≡ flat_map reply_text replies ++ last
  -- `fault File` is reported only if a call of the files failed
  pub file_faults : AllByRecursion (λ reply. reply ≡ Faulted File → CallFailed) replies

-- How a run ends at the rest of the input, what is written last, and whether it has failed.
abbrev pub Ends : Type 0 → Bytes → Bytes → End → Bool → Type 0
Ends AtEnd rest last Input failed = (rest ≡ []) × AtEnd × (last ≡ []) × (failed ≡ false)
Ends AtEnd rest last ByRefusal failed =
    (cause : Cause) × IsNoCommand AtEnd rest cause × (last ≡ reply_text (RefusedFor cause))
    × (failed ≡ false)
-- a changing command had a fault: what follows it is not acted on
Ends AtEnd rest last ByFault true = last ≡ []
-- memory ran out while a rest that is no command was read: nothing changes
Ends AtEnd rest last ByFault false =
    (cause : Cause) × IsNoCommand AtEnd rest cause × (last ≡ reply_text (Faulted Memory))

-- A run over the input acts on these commands with these replies, writes the output, ends so, and
-- leaves new.
pub record Runs (AtEnd CallFailed : Type 0) (old : Repository) (commands : List Command)
    (replies : List Reply) (input output : Bytes) (end : End) (failed : Bool)
    (new : Repository) : Type 0 where
  pub rest : Bytes
  pub last : Bytes
  pub ran : Ran CallFailed old commands replies input output rest last failed new
  pub ends : Ends AtEnd rest last end failed

-- ---- runs that a reader or a writer cuts off

-- The reader failed after the last command, or within one more; or the last reading was made.
pub record EndsReading (LastReading CallFailed : Type 0) (old : Repository)
    (commands : List Command) (replies : List Reply) (input output : Bytes) (failed : Bool)
    (new : Repository) : Type 0 where
  pub rest : Bytes
  pub ran : Ran CallFailed old commands replies input output rest [] failed new
  pub unfailed : failed ≡ false
  pub cut : (rest ≡ []) ⊎ HasRestCause rest Truncated ⊎ LastReading

-- a proper beginning of the text
abbrev pub IsCutFrom : Bytes → Bytes → Type 0
IsCutFrom part text = IsTrue (begins part text) × (length part < length text)

-- The writer failed within the reply to one more command, which was acted on, or within the answer
-- to a rest that is no command.
abbrev pub CutsShort : Type 0 → Type 0 → Repository → List Command → List Reply → Bytes → Bytes
    → Bool → Repository → Type 0
CutsShort AtEnd CallFailed old (command ∷ []) (reply ∷ []) rest part failed new =
    (more : Bytes) × IsTrue (is_command command) × (rest ≡ spelling command ++ more)
    × Step old command reply new × (failed ≡ some_failed (command ∷ []) (reply ∷ []))
    × (reply ≡ Faulted File → CallFailed)
    × IsCutFrom part (reply_text reply)
CutsShort AtEnd CallFailed old [] [] rest part failed new =
    (cause : Cause) × IsNoCommand AtEnd rest cause × (new ≡ old) × (failed ≡ false)
    × (IsCutFrom part (reply_text (RefusedFor cause))
    ⊎ IsCutFrom part (reply_text (Faulted Memory)))
CutsShort _ _ _ _ _ _ _ _ _ = ⊥

-- The writer failed: the replies to these commands are written whole, and at most one more command
-- was acted on.
pub record EndsWriting (AtEnd CallFailed : Type 0) (old : Repository) (commands : List Command)
    (replies : List Reply) (input output : Bytes) (failed : Bool)
    (new : Repository) : Type 0 where
  pub answered : List Command
  pub written : List Reply
  pub last : List Command
  pub cut_off : List Reply
  pub all : (commands ≡ answered ++ last) × (replies ≡ written ++ cut_off)
  pub rest : Bytes
  pub part : Bytes
  pub mid : Repository
  pub ran : Ran CallFailed old answered written input output rest part false mid
  pub cut : CutsShort AtEnd CallFailed mid last cut_off rest part failed new
