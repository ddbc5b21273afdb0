-- Edits of symbolic references, split: the log of the reference that is named, and the same change
-- of the one that it leads to (git-update-ref(1): without `--no-deref` the reference that a
-- symbolic one points to is changed).
use Rattle.std.specs.Prelude.{ℕ, zero, suc, ◌≡◌, ◌≢◌, ⊤, ◌+◌, ◌++◌, Bool, true, false, is_some, if◌then◌else◌, List, [], ◌∷◌, map, Option, Some, None}
use Rattle.std.specs.List.{filter_map}
use Rattle.gix_ref_name.specs.Targets.{Points, ToObject, ToName}
use Rattle.gix_ref_edit.specs.declared.change.RefEdit.{RefEdit}
use Rattle.gix_ref_edit.specs.declared.change.Change.{Change}
use Rattle.gix_ref_edit.specs.declared.change.Change.TheVariants.{Update, Delete}
use Rattle.gix_ref_edit.specs.declared.change.PreviousValue.TheVariants.{Any}
use Rattle.gix_ref_edit.specs.declared.log.RefLog.TheVariants.{Only}
use Rattle.gix_ref_edit.specs.declared.splits.FindTargetError.{FindTargetError}
use Rattle.gix_ref_edit.specs.declared.splits.FindTargetError.TheVariants as finding
use Rattle.gix_ref_edit.specs.declared.splits.FindTargetError.TheVariants.{Failed}
use Rattle.gix_ref_edit.specs.declared.splits.SplitError.{SplitError}
use Rattle.gix_ref_edit.specs.declared.splits.SplitError.TheVariants.{Find, Cycle, Memory}

-- what each name points to: none if there is no reference
abbrev pub Targets : Type 0
Targets = List ℕ → Option Points

-- ---- one edit

abbrev pub hop_to : RefEdit → Option Points → Option RefEdit
hop_to edit None = None
hop_to edit (Some (ToObject id)) = None
hop_to edit (Some (ToName name)) = Some (record edit { name = name })

-- the same edit of the reference that this one's leads to, if it wants that and is symbolic
abbrev pub hop : Targets → RefEdit → Option RefEdit
hop read edit = if edit.deref then hop_to edit (read edit.name) else None

abbrev pub leads_on : Targets → RefEdit → Bool
leads_on read edit = is_some (hop read edit)

-- the log's part of a change: an update expects nothing any more, a deletion what it expected
abbrev pub log_part : Change → Change
log_part (Update log expected new) = Update (record log { mode = Only }) Any new
log_part (Delete expected log) = Delete expected Only

-- what is left of an edit that was split, or wasn't
abbrev pub settled_as : Bool → RefEdit → RefEdit
settled_as true edit = record edit { change = log_part edit.change; deref = false }
settled_as false edit = record edit { deref = false }

abbrev pub settled : Targets → RefEdit → RefEdit
settled read edit = settled_as (leads_on read edit) edit

-- ---- lists of edits

abbrev pub hops : Targets → List RefEdit → List RefEdit
hops read edits = filter_map (hop read) edits

-- the edits that these lead to, and on over so many rounds, each round's after those of the one
-- before
abbrev pub further : Targets → ℕ → List RefEdit → List RefEdit
further read zero edits = []
further read (suc rounds) edits = hops read edits ++ further read rounds (hops read edits)

-- the edits that these lead to after so many rounds
abbrev pub behind : Targets → ℕ → List RefEdit → List RefEdit
behind read zero edits = hops read edits
behind read (suc rounds) edits = behind read rounds (hops read edits)

-- the edits, and those that they lead to over four rounds
abbrev pub with_hops : Targets → List RefEdit → List RefEdit
with_hops read edits = edits ++ further read 4 edits

-- the places, counted from this one on, that are marked
abbrev pub marked : ℕ → List Bool → List ℕ
marked place [] = []
marked place (true ∷ marks) = place ∷ marked (place + 1) marks
marked place (false ∷ marks) = marked (place + 1) marks

-- Each edit has lost what leads on. After them come those that they lead to, none of which leads on
-- after the fourth round. These are the places of all that were split, so that the first leads to
-- the first that was added, and so on.
pub record Splits (read : Targets) (before after : List RefEdit) (places : List ℕ) : Type 0 where
  pub edits : after ≡ map (settled read) (with_hops read before)
  pub ends : behind read 4 before ≡ []
  pub split : places ≡ marked 0 (map (leads_on read) (with_hops read before))

-- ---- of the single steps

-- each edit with the mark of its place; those without one stay
abbrev pub settled_by : List Bool → List RefEdit → List RefEdit
settled_by [] edits = edits
settled_by (mark ∷ marks) [] = []
settled_by (mark ∷ marks) (edit ∷ edits) = settled_as mark edit ∷ settled_by marks edits

abbrev pub as_split : FindTargetError → SplitError
as_split Failed = Find
as_split finding.Memory = Memory

-- why one edit isn't followed
abbrev pub HopFault : Type 0 → SplitError → Type 0
HopFault may_fail Find = may_fail
HopFault may_fail Cycle = ⊥
HopFault may_fail Memory = ⊤

-- why edits aren't split: `honest` says whether names are read as they are, `may_fail` whether a
-- reading may fail
abbrev pub SplitFault : Type 0 → Type 0 → Targets → ℕ → List RefEdit → SplitError → Type 0
SplitFault honest may_fail read rounds edits Find = may_fail
SplitFault honest may_fail read rounds edits Cycle = honest → behind read rounds edits ≢ []
SplitFault honest may_fail read rounds edits Memory = ⊤
