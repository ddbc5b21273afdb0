-- What the system reports of a path, as a folder returns it.
use Rattle.std.proofs.Common.{◌≡◌, ℕ, cond, ◌&&◌, List, [], ◌∷◌, ◌++◌, Option, Some, None, length, filter_map, refl, sym, ap, subst, arith}
use Rattle.std.specs.Prelude.{IsTrue, IsFalse, ◌==◌, option_map, unwrap_or}
use Rattle.std.specs.FinMap.{keys}
use Rattle.std.specs.List.Sorted.{IsPermutation}
use Rattle.std.proofs.lemmas.Grind.{common_steps}
use Rattle.std.proofs.lemmas.List.Sorted.{IsPermutation-refl}
use Rattle.gix_ref_file.specs.Tree.{Tree, Node, file, folder, is_path, node_at, bytes_of, is_folder, place_of, name_in, part, overwritten}
use Rattle.gix_ref_file.specs.declared.files.Place.TheVariants.{Absent, File, Folder}
use Rattle.gix_ref_folder.specs.Parts.{has}
use Rattle.gix_ref_folder.specs.Systems.{IsShown, AreNames}
use Rattle.gix_ref_folder.specs.declared.part.Part.{Part}
use Rattle.gix_ref_folder.proofs.Made.{absent_outside, not_empty}
use Rattle.gix_ref_folder.proofs.Sorting.{Key}

-- ---- places

pub file_place : (node : Option Node) (len : ℕ) → option_map length (bytes_of node) ≡ Some len → File len ≡ place_of node
file_place None len is = absurd (cc is)
file_place (Some (file bytes)) len is = ap (λ o. File (unwrap_or o 0)) (sym is)
file_place (Some folder) len is = absurd (cc is)

pub folder_place : (node : Option Node) → IsTrue (is_folder node) → Folder ≡ place_of node
folder_place None is = absurd (cc is)
folder_place (Some (file bytes)) is = absurd (cc is)
folder_place (Some folder) is = refl

pub none_place : (there : Option Node) → there ≡ None → Absent ≡ place_of there
none_place there is = sym (ap place_of is)

pub absent_no_folder : (node : Option Node) → Absent ≡ place_of node → IsFalse (is_folder node)
absent_no_folder None is = refl
absent_no_folder (Some (file bytes)) is = refl
absent_no_folder (Some folder) is = absurd (cc is)

-- ---- a path that is none of the part

pub no_file_outside : (part : Part) (tree : Tree) (path : List ℕ) → IsShown part tree → IsFalse (is_path path && has part path) → bytes_of (node_at tree path) ≡ None
no_file_outside part tree [] shown out = refl
no_file_outside part tree (b ∷ path) shown out = ap bytes_of (absent_outside part tree (b ∷ path) shown out)

pub nothing_outside : (part : Part) (tree : Tree) (path : List ℕ) → IsFalse (length path == 0) → IsShown part tree → IsFalse (is_path path && has part path) → Absent ≡ place_of (node_at tree path)
nothing_outside part tree [] some shown out = absurd (cc some)
nothing_outside part tree (b ∷ path) some shown out = none_place _ (absent_outside part tree (b ∷ path) shown out)

-- ---- names

pub empty_path : (path : List ℕ) → IsTrue (length path == 0) → [] ≡ path
empty_path [] none = refl
empty_path (b ∷ path) none = not_empty b path none

pub no_names : (tree : Tree) (path : List ℕ) (names : List Key) → names ≡ [] → IsFalse (is_folder (node_at tree path)) → AreNames tree path names
no_names tree path names none isnt =
    subst (AreNames tree path) (sym none) (subst (IsPermutation []) (sym (ap (λ b. cond b (filter_map (name_in path) (keys tree)) []) isnt)) (IsPermutation-refl []))

-- ---- bytes

pub none_read : (o : Option (List ℕ)) (at : ℕ) (buffer : List ℕ) → o ≡ None → buffer ≡ overwritten buffer (part (unwrap_or o []) at (length buffer))
none_read None at buffer none = grind (arith, common_steps)
none_read (Some bytes) at buffer none = absurd (cc none)

-- what is read of a path, appended to what was there
pub appended : (o found : Option (List ℕ)) (before : List ℕ) → found ≡ o → before ++ unwrap_or found [] ≡ before ++ unwrap_or o []
appended o found before is = ap (λ f. before ++ unwrap_or f []) is
