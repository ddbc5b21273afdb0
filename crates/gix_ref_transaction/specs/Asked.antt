-- What edits expect of references that point to this, or don't exist (git-update-ref: "verify the
-- old value").
use Rattle.std.specs.Prelude.{◌≡◌, ◌⊎◌, Option, Some, None, IsSome}
use Rattle.gix_ref_name.specs.Targets.{Points, target_view}
use Rattle.gix_ref_store.specs.declared.reference.Reference.{Reference}
use Rattle.gix_ref_edit.specs.declared.change.Change.{Change}
use Rattle.gix_ref_edit.specs.declared.change.Change.TheVariants.{Update, Delete}
use Rattle.gix_ref_edit.specs.declared.change.PreviousValue.{PreviousValue}
use Rattle.gix_ref_edit.specs.declared.change.PreviousValue.TheVariants.{Any, MustExist, MustNotExist, MustExistAndMatch, ExistingMustMatch}

abbrev pub points_of : Reference → Points
points_of r = target_view r.target

-- it exists, and is the stated target or the new one
abbrev pub IsOneOf : Points → Option Points → Option Points → Type 0
IsOneOf stated new None = ⊥
IsOneOf stated None (Some found) = found ≡ stated
IsOneOf stated (Some new) (Some found) = (found ≡ stated) ⊎ (found ≡ new)

-- it doesn't exist, or is the new target already; what is removed must exist
abbrev pub IsFree : Option Points → Option Points → Type 0
IsFree None found = ⊥
IsFree (Some new) None = Unit {0}
IsFree (Some new) (Some found) = found ≡ new

-- what was found passes the test, for an update to this target or a deletion
abbrev pub Meets : PreviousValue → Option Points → Option Points → Type 0
Meets Any new found = Unit {0}
Meets MustExist new found = IsSome found
Meets MustNotExist new found = IsFree new found
Meets (MustExistAndMatch stated) new found = IsOneOf (target_view stated) new found
Meets (ExistingMustMatch stated) new None = Unit {0}
Meets (ExistingMustMatch stated) new (Some found) = IsOneOf (target_view stated) new (Some found)

abbrev pub MeetsOf : Change → Option Points → Type 0
MeetsOf (Update log expected new) found = Meets expected (Some (target_view new)) found
MeetsOf (Delete expected log) found = Meets expected None found
