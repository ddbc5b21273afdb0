-- What may be in a part that holds no names and no objects.
use Rattle.std.specs.Prelude.{◌≡◌, ◌≢◌, ⊤, ℕ, suc, Bool, Option, Some, None, IsTrue, IsFalse}
use Rattle.std.specs.FinMap.{get}
use Rattle.gix_ref_file.specs.Tree.{Tree, Node, file, folder, is_folder}
use Rattle.gix_ref_file.specs.Changes.{is_file_at}
use Rattle.gix_ref_way.specs.Ways.{above}
use Rattle.history_model.specs.Bytes.{Bytes}
use Rattle.history_model.specs.Places.{is_object_folder, is_name_folder}
use Rattle.history_texts.specs.declared.parts.Part.{Part}
use Rattle.history_texts.specs.declared.parts.Part.TheVariants.{Objects, Names}
use Rattle.history_texts.specs.declared.parts.Stray.{Stray}
use Rattle.history_texts.specs.declared.parts.Stray.TheVariants as strays

-- this holds if both parts are honest
abbrev pub OverBoth : {F : Type 0} → (F → Type 0) → F → F → Type 0 → Type 0
OverBoth IsHonest objects names What = IsHonest objects → IsHonest names → What

-- whether a folder of the part may have this path
abbrev pub may_hold_folder : Part → Bytes → Bool
may_hold_folder Objects path = is_object_folder path
may_hold_folder Names path = is_name_folder path

-- at the path is the permitted file, a folder that the part may hold, or nothing
abbrev pub IsClearAt : Part → Bytes → Bytes → Option Node → Type 0
IsClearAt part permitted path None = ⊤
IsClearAt part permitted path (Some (file bytes)) = path ≡ permitted
IsClearAt part permitted path (Some folder) = IsTrue (may_hold_folder part path)

-- there is no other file, and each folder is one that the part may hold
abbrev pub IsClear : Part → Bytes → Tree → Type 0
IsClear part permitted tree = (path : Bytes) → IsClearAt part permitted path (get tree path)

-- there is a file that isn't the permitted one, or a folder that the part may not hold
abbrev pub IsStray : Part → Bytes → Tree → Stray → Type 0
IsStray part permitted tree (strays.File path) =
    IsTrue (is_file_at tree path.items) × (path.items ≢ permitted)
IsStray part permitted tree (strays.Folder path) =
    IsTrue (is_folder (get tree path.items)) × IsFalse (may_hold_folder part path.items)

-- there is something at the path that the part may not hold
abbrev pub IsStrayAt : Part → Bytes → Bytes → Tree → Type 0
IsStrayAt part permitted path tree = ¬ IsClearAt part permitted path (get tree path)

-- ---- below a folder

-- `IsClear` for everything below a folder
abbrev pub IsClearBelow : Part → Bytes → Bytes → Tree → Type 0
IsClearBelow part permitted place tree =
    (n : ℕ) (path : Bytes) → above (suc n) path ≡ place
    → IsClearAt part permitted path (get tree path)
