-- What a call finds in files, and does to them: of honest files, the trees before it, after it, and
-- at each moment between.
use Rattle.std.specs.Prelude.{◌⊎◌, ℕ, Result, OnOk}
use Rattle.gix_ref_file.specs.Tree.{Tree}
use Rattle.gix_ref_file.specs.History.{History, Adds, HasRisen}

-- this holds of the current tree
abbrev pub Finds : {F : Type 0} → (F → Type 0) → (F → History) → F → (Tree → Type 0) → Type 0
Finds IsHonest history files What = IsHonest files → What (history files).tree

-- this holds of the tree before the call and of the one after it, if the call succeeds
abbrev pub Achieves : {F T E : Type 0} → (F → Type 0) → (F → History) → F → F → Result T E
    → (Tree → Tree → Type 0) → Type 0
Achieves IsHonest history old new result What =
    IsHonest old → OnOk result (What (history old).tree (history new).tree)

-- this holds of the tree before the call and of each that came to be, the last being the one after
-- it
abbrev pub Passes : {F : Type 0} → (F → Type 0) → (F → History) → F → F → (Tree → Tree → Type 0)
    → Type 0
Passes IsHonest history old new What =
    IsHonest old → Adds (What (history old).tree) (history old) (history new)

-- a failure of a change was counted, or a reading may fail
abbrev pub HasFault : {F : Type 0} → (F → ℕ) → Type 0 → F → F → Type 0
HasFault failures ReadingMayFail old new = HasRisen (failures old) (failures new) ⊎ ReadingMayFail
