-- The statements of the laws on failed calls.
use Rattle.std.specs.Prelude.{◌≡◌, ◌≢◌, ◌<◌, ◌-◌, ◌^◌, List, [], ◌∷◌, ◌++◌, Contains, IsTrue, IsFalse}
use Rattle.std.specs.List.{AllByRecursion}
use Rattle.gix_ref_file.specs.History.{History}
use Rattle.history_model.specs.Repository.{Repository}
use Rattle.history_model.specs.Commands.{Command}
use Rattle.history_model.specs.Replies.{Reply, Faulted}
use Rattle.history_model.specs.Steps.{some_failed}
use Rattle.history_model.specs.Stops.{is_changing}
use Rattle.history_model.specs.Moments.{Moment, Traces, CountsStay, HasCountedFailure}
use Rattle.history_model.specs.declared.Fault.TheVariants.{File}

-- Both parts count as many failed calls as before, and neither count is at its last value.
pub record IsUncounted (begin finish : Moment) : Type 0 where
  pub objects : finish.object_failures ≡ begin.object_failures
  pub names : finish.name_failures ≡ begin.name_failures
  pub objects_last : finish.object_failures < 2 ^ 64 - 1
  pub names_last : finish.name_failures < 2 ^ 64 - 1

-- Over files whose readings can't fail: if a run counted no failed call, no reply is `fault File`.
abbrev pub FaultsAreCounted : Type 0
FaultsAreCounted =
    (objects names : History) (old : Repository) (begin : Moment) (commands : List Command)
    (replies : List Reply) (finish : Moment) (new : Repository)
    → Traces objects names ⊥ old begin commands replies finish new → IsUncounted begin finish
    → AllByRecursion (λ reply. reply ≢ Faulted File) replies

-- A run met a failed call in its last command, which changes files: until then the counts stayed as
-- at its beginning, and then one rose.
pub record EndsByFailedCall (begin : Moment) (commands : List Command) (replies : List Reply)
    (moments : List Moment) (finish : Moment) : Type 0 where
  pub done : List Command
  pub answered : List Reply
  pub between : List Moment
  pub last : Command
  pub commands_are : commands ≡ done ++ last ∷ []
  pub replies_are : replies ≡ answered ++ Faulted File ∷ []
  pub moments_are : moments ≡ between ++ finish ∷ []
  pub unfaulted : AllByRecursion (λ reply. reply ≢ Faulted File) answered
  pub uncounted : AllByRecursion (CountsStay begin) between
  pub changing : IsTrue (is_changing last)
  pub counted : HasCountedFailure begin finish

-- Over files whose readings can't fail, a run with a reply `fault File` ends so.
abbrev pub FaultsComeLast : Type 0
FaultsComeLast =
    (objects names : History) (old : Repository) (begin : Moment) (commands : List Command)
    (replies : List Reply) (finish : Moment) (new : Repository)
    → (traces : Traces objects names ⊥ old begin commands replies finish new)
    → Contains replies (Faulted File)
    → EndsByFailedCall begin commands replies traces.moments finish

-- If no command that changes files has a fault, a run counts no failed call.
abbrev pub UnfailedCountNone : Type 0
UnfailedCountNone =
    (objects names : History) (old : Repository) (begin : Moment) (commands : List Command)
    (replies : List Reply) (finish : Moment) (new : Repository)
    → Traces objects names (Unit {0}) old begin commands replies finish new
    → IsFalse (some_failed commands replies) → CountsStay begin finish
