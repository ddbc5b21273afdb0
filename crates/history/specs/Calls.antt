-- What each call over a repository keeps, and what it does for a plain repository that is represented.
use Rattle.std.specs.Prelude.{◌≡◌, ℕ, List, Option, Result, Vec, OnOk}
use Rattle.std.specs.Io.KnownBytes.{Appends, Consumes, IsAtEnd}
use Rattle.std.specs.declared.alloc.Global.{Global}
use Rattle.gix_ref_file.specs.History.{Adds}
use Rattle.gix_ref_file.specs.declared.files.Files.{Ghosts}
use Rattle.history_model.specs.Bytes.{Bytes}
use Rattle.history_model.specs.Commands.{Command}
use Rattle.history_model.specs.Meaning.{after, store_all}
use Rattle.history_model.specs.Moments.{LeavesStopped}
use Rattle.history_model.specs.Objects.{Value}
use Rattle.history_model.specs.Places.{Pair}
use Rattle.history_model.specs.Repository.{Values}
use Rattle.history_model.specs.declared.Fault.{Fault}
use Rattle.history_model.specs.declared.End.{End}
use Rattle.history_word.specs.Taking.{AsksForMore, Came, IsLast, Took}
use Rattle.history_word.specs.declared.buffer.Buffer.{Buffer}
use Rattle.history_word.specs.declared.streams.Sink.{Ghosts as SinkGhosts}
use Rattle.history_word.specs.declared.streams.Source.{Ghosts as SourceGhosts}
use Rattle.history_layout.specs.EditSteps.{EditsMade}
use Rattle.history_layout.specs.PackSteps.{PacksNames, PacksOnTheWay}
use Rattle.history_layout.specs.Passing.{HoldsBetween, HoldsFirst}
pub use Rattle.history_store.specs.Calls.{KeepsHonesty}
use Rattle.history_store.specs.KnownObjects.{KnownExist}
use Rattle.history_store.specs.NamesFace.{kind_of_names}
use Rattle.history_store.specs.ObjectsFace.{kind_of_objects}
use Rattle.history_repository.specs.Face.{KeepsAllButObjects, has_failed, names_part, objects_part, rows_in}
use Rattle.history_repository.specs.Stands.{RecoversTo, Stands}
use Rattle.history_repository.specs.declared.repository.Repository.{Repository}
use Rattle.history_repository.specs.declared.stopped.Stopped.{Stopped}
use Rattle.history_plans.specs.Halves.{KnowsIds, NamesStand, ObjectsStand, StoresValues, names_tree, objects_tree}
use Rattle.history.specs.Acts.{Acts, IsAnswer, LeavesAsAsked, LeavesFiles}
use Rattle.history.specs.Runs.{CountsFailure, EndsHere, MadeLastReading}
use Rattle.history.specs.Turns.{Turns}
use Rattle.history.specs.Moments.{GoesLater, IsTraced, ObjectsPass, StoodOnTheWay, moment_of}
use Rattle.history.specs.Moving.{LeavesMoved, MovesNamesAlone}
use Rattle.history.specs.Storing.{HasStored, StoresObjects}
use Rattle.history.specs.declared.moves.Moves.{Moves}
use Rattle.history.specs.declared.reply.Reply.{Reply}
use Rattle.history.specs.declared.running.RunError.{RunError}
use Rattle.history_layout.specs.EditSteps as edits
use Rattle.history_model.specs.Repository as plain

-- ---- what it keeps, whatever it returns

-- Both parts stay honest. Their counts of failed calls only rise, and not at all unless the call
-- reports a failed one.
pub record KeepsBoth {F : Type 0} (files : Ghosts F) (Reports : Type 0) (old new : Repository F) : Type 0 where
  pub objects : KeepsHonesty files Reports (objects_part old) (objects_part new)
  pub names : KeepsHonesty files Reports (names_part old) (names_part new)

-- The objects part stays so, the kind of its ids stays and what is known of it stays so, and all but
-- the objects is as it was.
pub record StoresAlone {F : Type 0} (files : Ghosts F) (Reports : Type 0) (old new : Repository F) : Type 0 where
  pub kept : KeepsAllButObjects old new
  pub kind : kind_of_objects new.objects ≡ kind_of_objects old.objects
  pub objects : KeepsHonesty files Reports (objects_part old) (objects_part new)
  pub exist : KnownExist files.is_honest files.history old.objects
      → KnownExist files.is_honest files.history new.objects

-- The names part stays so, the kind of its ids stays, and names alone move.
pub record MovesAlone {F : Type 0} (files : Ghosts F) (Reports : Type 0) (old new : Repository F) : Type 0 where
  pub kept : MovesNamesAlone old new
  pub kind : kind_of_names new.names ≡ kind_of_names old.names
  pub names : KeepsHonesty files Reports (names_part old) (names_part new)

-- ---- what it does, from one state of a repository to another

module _ {F : Type 0} (files : Ghosts F) where
  -- These values are put: what is stored at the end, what each tree on the way, once recovered,
  -- holds of them, and which ids are known.
  pub record PutsValues (more : List Value) (old new : Repository F)
      (result : Result (Unit {0}) Stopped) : Type 0 where
    pub stores : (values : Values) → ObjectsStand files.is_honest files.history old values
        → KnowsIds old values → StoresValues (CountsFailure files.failures files.reading_may_fail old new)
        (kind_of_objects old.objects) values more (objects_tree files.history new) result
    pub passes : (values : Values) → ObjectsStand files.is_honest files.history old values
        → KnowsIds old values → Adds (HoldsFirst (kind_of_objects old.objects) values more)
        (files.history (objects_part old)) (files.history (objects_part new))
    pub known : (values : Values) → KnowsIds old values
        → OnOk result (KnowsIds new (store_all (kind_of_objects old.objects) values more))

  module _ (r : plain.Repository) where
    -- The objects of a command are stored, and its moves are returned. If anything is put, no cause
    -- holds, and each tree on the way, once recovered, holds some of what is stored and is whole.
    pub record StoresAsAsked (sent : Command) (old new : Repository F)
        (result : Result Moves Stopped) : Type 0 where
      pub ends : StoresObjects (CountsFailure files.failures files.reading_may_fail old new)
          (HasStored files.is_honest files.history new r sent) r sent result
      pub passes : ObjectsPass files.history r sent old new

    -- On the way each name, once recovered, is as before the command or as after it.
    abbrev pub NamesPass : Command → Repository F → Repository F → Type 0
    NamesPass sent old new =
        Adds (HoldsBetween r sent) (files.history (names_part old)) (files.history (names_part new))

    -- The names of a command move, and no other files change than its own.
    pub record MovesAsAsked (sent : Command) (old new : Repository F)
        (result : Result (Unit {0}) Fault) : Type 0 where
      pub ends : LeavesMoved (CountsFailure files.failures files.reading_may_fail old new)
          (Stands files.is_honest files.history new (after r sent)) result
      pub passes : NamesPass sent old new
      pub leaves : OnOk result
          (LeavesAsAsked r sent (names_tree files.history old) (names_tree files.history new))

    -- These names move, and that one goes. Each file that isn't of them is as it was, except
    -- `packed-refs`.
    pub record EditsAsAsked (sent : Command) (moved : List edits.MovedName) (gone : Option Bytes)
        (old new : Repository F) (result : Result (Unit {0}) Fault) : Type 0 where
      pub ends : LeavesMoved (CountsFailure files.failures files.reading_may_fail old new)
          (NamesStand files.is_honest files.history new (after r sent)) result
      pub passes : NamesPass sent old new
      pub made : OnOk result
          (EditsMade r.kind moved gone (names_tree files.history old) (names_tree files.history new))

    -- All names are packed.
    pub record PacksAll (old new : Repository F) (result : Result (Unit {0}) Fault) : Type 0 where
      pub ends : LeavesMoved (CountsFailure files.failures files.reading_may_fail old new)
          (PacksNames r (names_tree files.history old) (names_tree files.history new)) result
      pub passes : Adds (PacksOnTheWay r (names_tree files.history old))
          (files.history (names_part old)) (files.history (names_part new))

    -- A command is acted on. A stop at any moment on the way, once recovered, leaves what it may.
    pub record ActsAsAsked (CallFailed : Type 0) (sent : Command) (old new : Repository F)
        (result : Result (Vec ℕ Global) Stopped) : Type 0 where
      pub later : GoesLater files.history files.failures old new
      pub stops : (pair : Pair) → StoodOnTheWay files.history files.failures old new pair
          → LeavesStopped r sent pair
      pub acts : Acts CallFailed (Stands files.is_honest files.history new) r sent result
      pub leaves : LeavesFiles r sent result
          (names_tree files.history old) (names_tree files.history new)

    -- It was acted on between two moments, with this reply.
    abbrev pub AnswersAsAsked : Command → Repository F → Repository F → Reply → Type 0
    AnswersAsAsked sent old new answer =
        IsAnswer (files.history (objects_part new)) (files.history (names_part new))
        files.reading_may_fail (Stands files.is_honest files.history new)
        (RecoversTo files.history new) (moment_of files.history files.failures old)
        (moment_of files.history files.failures new) (rows_in old) (rows_in new) (has_failed new)
        r sent answer

-- ---- turns and runs

module _ {F R W : Type 0} (files : Ghosts F) (source : SourceGhosts R) (sink : SinkGhosts W) (r : plain.Repository) where
  -- A run that begins here acted on commands, read and wrote, and ended so.
  abbrev pub RunsFrom : Repository F → Repository F → R → R → W → W → Result End RunError → Type 0
  RunsFrom old new reader reader' writer writer' result =
      EndsHere (Consumes (source.left reader) (source.left reader'))
      (Appends (sink.contents writer) (sink.contents writer'))
      (Stands files.is_honest files.history new) (RecoversTo files.history new)
      (IsTraced files.history files.failures files.reading_may_fail old new r)
      (IsAtEnd (source.left reader')) (MadeLastReading source.left source.readings reader reader')
      (CountsFailure files.failures files.reading_may_fail old new) r result (has_failed new)

  -- So did a turn, through a buffer; or the run goes on.
  abbrev pub TurnsFrom : Repository F → Repository F → R → Buffer → R → Buffer → W → W
      → Result (Option End) RunError → Type 0
  TurnsFrom old new reader buffer reader' buffer' writer writer' result =
      Turns (λ taken. Took source.left source.readings reader buffer reader' buffer' taken
      × AsksForMore reader buffer reader' taken)
      (Came source.left source.readings reader buffer reader' buffer')
      (Appends (sink.contents writer) (sink.contents writer'))
      (Stands files.is_honest files.history new) (RecoversTo files.history new)
      (IsTraced files.history files.failures files.reading_may_fail old new r)
      (IsAtEnd (source.left reader')) (IsLast buffer')
      (CountsFailure files.failures files.reading_may_fail old new) r result (has_failed new)
