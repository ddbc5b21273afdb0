-- How turns and runs end.
use Rattle.std.specs.Prelude.{◌≡◌, ◌≤◌, ◌+◌, ◌-◌, ◌^◌, ℕ, min, length, Bool, true, false, List, [], Option, Result, Ok, Err, ◌⊎◌}
use Rattle.history_model.specs.Bytes.{Bytes}
use Rattle.history_model.specs.Commands.{Command}
use Rattle.history_model.specs.Replies.{Reply}
use Rattle.history_model.specs.Runs.{Runs, EndsReading, EndsWriting}
use Rattle.history_model.specs.declared.End.{End}
use Rattle.history_model.specs.declared.End.TheVariants.{Input, Refused, Fault}
use Rattle.std.specs.Io.KnownBytes.{Consumes}
use Rattle.history_word.specs.Buffer.{readings_made}
use Rattle.history_word.specs.Taking.{Gave}
use Rattle.history_word.specs.declared.buffer.Buffer.{Buffer}
use Rattle.history.specs.declared.running.RunError.{RunError}
use Rattle.history.specs.declared.running.RunError.TheVariants.{Read, Write}
use Rattle.history_model.specs.Repository as plain
use Rattle.gix_ref_file.specs.History.{HasRisen}
use Rattle.history_repository.specs.Face.{objects_part, names_part}
use Rattle.history_repository.specs.declared.repository.Repository.{Repository}

abbrev pub is_fault_end : End → Bool
is_fault_end Fault = true
is_fault_end Input = false
is_fault_end Refused = false

module _ {S : Type 0} (left : S → Option (List ℕ)) (readings : S → ℕ) where
  -- The readings made through the buffer meanwhile were counted by the reader, as far as a `u64`
  -- counts, and gave bytes.
  pub record MadeReadings (s : S) (b : Buffer) (t : S) (c : Buffer) : Type 0 where
    pub more : List ℕ
    pub came : Consumes (left s) (left t) more
    pub made : ℕ
    pub made_through : readings_made c ≡ readings_made b + made
    pub counted : min (readings s + made) (2 ^ 64 - 1) ≤ readings t
    pub gave : Gave b c made more

  -- As many readings as a `u64` counts were made meanwhile, and each but the last gave a byte.
  pub record MadeLastReading (s t : S) : Type 0 where
    pub read : List ℕ
    pub came : Consumes (left s) (left t) read
    pub many : 2 ^ 64 - 2 ≤ length read
    pub counted : 2 ^ 64 - 1 ≤ readings t

-- ---- what was read, written and left

-- A run from old that acted on these commands with these replies, over what was read and written,
-- ends as it returned, and leaves new.
abbrev pub EndsRun : Type 0 → Type 0 → Type 0 → plain.Repository → List Command → List Reply
    → Bytes → Bytes → Result End RunError → Bool → plain.Repository → Type 0
EndsRun AtEnd LastReading CallFailed old commands replies read written (Ok end) failed new =
    Runs AtEnd CallFailed old commands replies read written end failed new
EndsRun AtEnd LastReading CallFailed old commands replies read written (Err Read) failed new =
    EndsReading LastReading CallFailed old commands replies read written failed new
EndsRun AtEnd LastReading CallFailed old commands replies read written (Err Write) failed new =
    EndsWriting AtEnd CallFailed old commands replies read written failed new

-- ---- turns

-- The last turn of a run from old: it acted on these commands with these replies, read and wrote
-- these bytes, and ended so. The repository represents what it leaves; or, after a fault in a
-- changing command, the recovered files do.
pub record EndsHere (Reads Writes : Bytes → Type 0)
    (StandsNow RecoversNow : plain.Repository → Type 0)
    (IsTraced : List Command → List Reply → plain.Repository → Type 0)
    (AtEnd LastReading CallFailed : Type 0) (old : plain.Repository)
    (result : Result End RunError) (failed : Bool) : Type 0 where
  pub commands : List Command
  pub replies : List Reply
  pub read : Bytes
  pub written : Bytes
  pub new : plain.Repository
  pub reads : Reads read
  pub writes : Writes written
  pub ends : EndsRun AtEnd LastReading CallFailed old commands replies read written result failed
      new
  pub traced : IsTraced commands replies new
  pub stands : failed ≡ false → StandsNow new
  pub recovers : failed ≡ true → RecoversNow new

-- a failed call was counted in one of the parts, or a reading may fail
abbrev pub CountsFailure : {F : Type 0} → (F → ℕ) → Type 0 → Repository F → Repository F → Type 0
CountsFailure failures MayFail old new =
    HasRisen (failures (objects_part old)) (failures (objects_part new))
    ⊎ HasRisen (failures (names_part old)) (failures (names_part new)) ⊎ MayFail
