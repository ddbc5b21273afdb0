-- What edits expect of references, and what they make them point to (git-update-ref).
use Rattle.std.specs.Prelude.{◌≡◌, false, [], Option, Some, None}
use Rattle.gix_ref_name.specs.Targets.{Points, target_view}
use Rattle.gix_ref_edit.specs.declared.change.Change.{Change}
use Rattle.gix_ref_edit.specs.declared.change.Change.TheVariants.{Update, Delete}
use Rattle.gix_ref_edit.specs.declared.change.PreviousValue.{PreviousValue}
use Rattle.gix_ref_edit.specs.declared.change.PreviousValue.TheVariants.{Any, MustExist, MustNotExist, MustExistAndMatch, ExistingMustMatch}
use Rattle.gix_ref_edit.specs.declared.log.LogChange.{LogChange}
use Rattle.gix_ref_edit.specs.declared.log.RefLog.TheVariants.{AndReference}

-- what an update makes of the reference
abbrev pub new_target : Change → Option Points
new_target (Update log expected new) = Some (target_view new)
new_target (Delete expected log) = None

abbrev pub expected_of : Change → PreviousValue
expected_of (Update log expected new) = expected
expected_of (Delete expected log) = expected

-- what the reference must point to before
abbrev pub expected_target : PreviousValue → Option Points
expected_target Any = None
expected_target MustExist = None
expected_target MustNotExist = None
expected_target (MustExistAndMatch target) = Some (target_view target)
expected_target (ExistingMustMatch target) = Some (target_view target)

-- the log with the reference, not forced, and with an empty message
pub record IsUsualLog (log : LogChange) : Type 0 where
  pub mode : log.mode ≡ AndReference
  pub unforced : log.force_create_reflog ≡ false
  pub empty : log.message ≡ []
