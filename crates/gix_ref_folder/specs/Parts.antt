-- The two parts of a repository's folder (gitrepository-layout(5)).
use Rattle.std.specs.Prelude.{ℕ, Bool, not, ◌||◌, List, bytes_eq, codes, take}
use Rattle.gix_ref_folder.specs.declared.part.Part.{Part}
use Rattle.gix_ref_folder.specs.declared.part.Part.TheVariants.{Objects, Names}

-- `objects`, or what is below it
abbrev pub is_object_path : List ℕ → Bool
is_object_path path =
    bytes_eq path (codes "objects") || bytes_eq (take 8 path) (codes "objects/")

-- whether what is at a path belongs to the part
abbrev pub has : Part → List ℕ → Bool
has Objects path = is_object_path path
has Names path = not (is_object_path path)
