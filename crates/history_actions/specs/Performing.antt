-- What each action does.
use Rattle.std.specs.Prelude.{◌≡◌, ℕ, Bool, [], Option}
use Rattle.gix_hash.specs.declared.kind.Kind.{Kind}
use Rattle.gix_ref_file.specs.History.{History}
use Rattle.history_actions.specs.declared.command_line.asked.Action.{Action}
use Rattle.history_actions.specs.declared.command_line.asked.Action.TheVariants.{Create, Run, Check, Recover}
use Rattle.history_actions.specs.declared.command_line.asked.Asked.{Asked}
use Rattle.history_model.specs.Bytes.{Bytes}
use Rattle.history_actions.specs.Creating.{Creates}
use Rattle.history_actions.specs.Opening.{Checks, RunsOn}
use Rattle.history_actions.specs.Recovering.{Recovers}
use Rattle.history_actions.specs.Saying.{Says, created, recovered, whole}
use Rattle.history_actions.specs.Told.{Took, status, told}
use Rattle.history_actions.specs.declared.answers.Performed.{Performed}

module _ {F R W : Type 0} (IsHonest : F → Type 0) (history : F → History) (failures : F → ℕ)
    (MayFail : Type 0) (left : R → Option Bytes) (readings : R → ℕ) (contents : W → Option Bytes)
    (reader_failed : R → Bool) (writer_failed : W → Bool) where
  abbrev pub Performs : Action → Kind → F → F → R → R → W → W → Performed F → Type 0
  Performs Create kind objects names reader reader' writer writer' performed =
      Creates IsHonest history failures MayFail kind objects names performed.objects
      performed.names performed.answer
      × Says contents writer_failed writer writer' created performed.answer
      × (reader' ≡ reader)
  Performs Run kind objects names reader reader' writer writer' performed =
      RunsOn IsHonest history failures MayFail left readings contents reader_failed writer_failed
      kind objects names reader reader' writer writer' performed
  Performs Check kind objects names reader reader' writer writer' performed =
      Checks IsHonest history MayFail kind objects names performed
      × Says contents writer_failed writer writer' whole performed.answer
      × (reader' ≡ reader)
  Performs Recover kind objects names reader reader' writer writer' performed =
      Recovers IsHonest history failures MayFail kind objects names performed.objects
      performed.names performed.answer
      × Says contents writer_failed writer writer' recovered performed.answer
      × (reader' ≡ reader)

  -- The action was performed, its failure reported, and the status follows from that.
  pub record Acts (asked : Asked) (objects names : F) (reader reader' : R) (writer writer' : W)
      {E : Type 0} (told_by : E → Option Bytes) (errors_failed : E → Bool) (errors errors' : E)
      (answered : ℕ) : Type 0 where
    pub performed : Performed F
    pub performs : Performs asked.action asked.kind objects names reader reader' writer writer'
        performed
    pub is_told : Took (told_by errors) (told_by errors') (errors_failed errors')
        (told asked.kind performed.answer)
    pub is_silent : told asked.kind performed.answer ≡ [] → errors' ≡ errors
    pub is_status : answered ≡ status performed.answer
