-- Why a folder isn't opened: what its error says of the two trees.
use Rattle.std.specs.Prelude.{◌⊎◌, option_map}
use Rattle.std.specs.FinMap.{get}
use Rattle.gix_hash.specs.declared.kind.Kind.{Kind}
use Rattle.history_model.specs.Places.{Pair}
use Rattle.history_model.specs.Repository.{Values}
use Rattle.history_check_names.specs.Causes.{HasCause}
pub use Rattle.history_check_names.specs.Causes.{IsOpenFault}
use Rattle.history_check_names.specs.Joined.{StandsStore}
use Rattle.history_check_objects.specs.Stored.{Facts, fact_of}
use Rattle.history_check_objects.specs.Flaws.{IsObjectsFlaw}
use Rattle.history_texts.specs.declared.open_error.OpenError.{OpenError}

-- the fact of each of these values
abbrev pub facts_of : Values → Facts
facts_of values id = option_map fact_of (get values id)

-- the objects part holds whole values, and over their facts this is a cause of the names part
pub record IsNamesCause (MayFail : Type 0) (kind : Kind) (pair : Pair) (error : OpenError)
    : Type 0 where
  pub values : Values
  pub store : StandsStore kind pair.objects values
  pub holds : HasCause MayFail kind (facts_of values) pair.names error

-- The error says of one of the two parts what holds of it; `File` says that a reading may fail.
abbrev pub IsOpenCause : Type 0 → Kind → Pair → OpenError → Type 0
IsOpenCause MayFail kind pair error =
    IsObjectsFlaw MayFail kind pair.objects error ⊎ IsNamesCause MayFail kind pair error
