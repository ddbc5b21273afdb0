-- What a fuse holds, which call it fails, and what each call does then.
use Rattle.std.specs.Prelude.{◌≡◌, ◌⊎◌, ℕ, ◌+◌, ◌-◌, ◌^◌, min, nat_lt, ◌==◌, ◌||◌, Bool, true, false, Option, Some, None, if◌then◌else◌, Result, IsErr, IsErrOf}
use Rattle.gix_ref_file.specs.declared.files.FileError.{FileError}
use Rattle.gix_ref_file.specs.declared.files.FileError.TheVariants.{Failed}
use Rattle.gix_ref_fuse.specs.declared.fuse.Fuse.{Fuse}
use Rattle.gix_ref_fuse.specs.declared.fuse.Turn.{Turn}
use Rattle.gix_ref_fuse.specs.declared.fuse.Turn.TheVariants.{Whole, Part, Nothing}
use Rattle.gix_ref_file.specs.Changes.{Change, allows, after, cut}
use Rattle.gix_ref_file.specs.History.{History, HasRisen}

-- the files that a fuse wraps
abbrev pub inner : {F : Type 0} → Fuse F → F
inner fuse = fuse.files

-- how many changes it failed itself
abbrev pub own_failures : {F : Type 0} → Fuse F → ℕ
own_failures fuse = fuse.failures

-- how many changes failed, by it or by the files, up to the last value
abbrev pub failed_in : {F : Type 0} → (F → ℕ) → Fuse F → ℕ
failed_in failures fuse = min (own_failures fuse + failures (inner fuse)) (2 ^ 64 - 1)

-- the number of the last change, 0 before the first: readings before it count too
abbrev pub last_change : {F : Type 0} → Fuse F → ℕ
last_change fuse = fuse.calls

-- the number of the call that fails, or 0; how much it leaves of what it was to write, or nothing;
-- and whether later calls do nothing
pub record Plan : Type 0 where
  pub chosen : ℕ
  pub kept : Option ℕ
  pub stops : Bool

abbrev pub plan_of : {F : Type 0} → Fuse F → Plan
plan_of fuse = record { chosen = fuse.chosen; kept = fuse.kept; stops = fuse.stops }

abbrev pub stop_at : ℕ → Option ℕ → Plan
stop_at call kept = record { chosen = call; kept = kept; stops = true }

abbrev pub fail_at : ℕ → Option ℕ → Plan
fail_at call kept = record { chosen = call; kept = kept; stops = false }

-- what the chosen call does
abbrev pub part_of : Option ℕ → Turn
part_of (Some n) = Part n
part_of None = Nothing

-- what the call of this number does
abbrev pub turn_at : Plan → ℕ → Turn
turn_at plan call =
    if nat_lt call plan.chosen || plan.chosen == 0 then Whole
    else if call == plan.chosen then part_of plan.kept
    else if plan.stops then Nothing else Whole

-- a reading returns what the files do, or fails
abbrev pub Reads : {T : Type 0} → Type 0 → Turn → Result T FileError → Type 0
Reads MayFail Whole result = IsErrOf result Failed → MayFail
Reads MayFail (Part n) result = IsErrOf result Failed
Reads MayFail Nothing result = IsErrOf result Failed

-- n bytes of a change are made, if the files allow it and don't fail
abbrev pub IsKept : ℕ → Change → History → History → ℕ → ℕ → Type 0
IsKept n change old new before now =
    (new.tree ≡ after (cut n change) old.tree) ⊎ (allows old.tree change ≡ false) ⊎ HasRisen before now

-- a change is left to the files, or is made in part and fails, or fails at once
abbrev pub Acts : {F T : Type 0} → (F → History) → (F → ℕ) → Turn → Change → Fuse F → Fuse F
    → Result T FileError → Type 0
Acts history failures Whole change old new result = own_failures new ≡ own_failures old
Acts history failures (Part n) change old new result =
    IsErr result × (IsErrOf result Failed
    → IsKept n change (history (inner old)) (history (inner new)) (failures (inner old))
    (failures (inner new)))
Acts history failures Nothing change old new result = IsErrOf result Failed × (inner new ≡ inner old)
