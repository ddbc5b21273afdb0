-- Folders that are seen one after another, and that one of them is a folder.
use Rattle.std.proofs.Common.{◌≡◌, refl, sym, subst, List, [], ◌∷◌, Bool, true, false, ◌||◌, Option, Some, None, Vec, ℕ}
use Rattle.std.specs.Prelude.{IsTrue}
use Rattle.std.specs.BTreeSet.{BTreeSet, insert_key}
use Rattle.std.specs.List.{AllByRecursion, list_any}
use Rattle.std.specs.Ordering.{match_ordering}
use Rattle.std.specs.declared.alloc.Global.{Global}
use Rattle.std.specs.declared.cmp.Ordering.{Ordering}
use Rattle.std.specs.declared.cmp.Ordering.TheVariants.{Less, Equal, Greater}
use Rattle.gix_ref_file.specs.Tree.{Tree, Node, file, folder, is_folder, node_at, place_of}
use Rattle.gix_ref_file.specs.declared.files.Place.TheVariants as places
use Rattle.history_check_objects.specs.Folders.{HasFolders}

-- what holds of each and of one more holds of all
all_inserted : {K : Type 0} (P : K → Type 0) (cmp : K → K → Ordering) (keys : List K) (key : K) → AllByRecursion P keys → P key → AllByRecursion P (insert_key cmp keys key)
all_inserted P cmp [] key all here = (here, tt)
all_inserted P cmp (x ∷ xs) key all here =
    elim (cmp key x) as (λ r. AllByRecursion P (match_ordering r (key ∷ x ∷ xs) (x ∷ xs) (x ∷ insert_key cmp xs key))) [
      | Less ↦ (here, all)
      | Equal ↦ all
      | Greater ↦ (all.0, all_inserted P cmp xs key all.1 here)
    ]

-- a folder more is known
pub one_known : (tree : Tree) (old new : BTreeSet (Vec ℕ Global)) (path : Vec ℕ Global) (cmp : Vec ℕ Global → Vec ℕ Global → Ordering) → new.keys ≡ insert_key cmp old.keys path
    → IsTrue (is_folder (node_at tree path.items)) → HasFolders tree old → HasFolders tree new
one_known tree old new path cmp keys is has = subst (AllByRecursion (λ (own : Vec ℕ Global). IsTrue (is_folder (node_at tree own.items)))) (sym keys) (all_inserted _ cmp old.keys path has is)

-- a folder more was seen
pub one_seen : (tree : Tree) (old new : BTreeSet (Vec ℕ Global)) (path : Vec ℕ Global) (cmp : Vec ℕ Global → Vec ℕ Global → Ordering) → new.keys ≡ insert_key cmp old.keys path
    → place_of (node_at tree path.items) ≡ places.Folder → HasFolders tree old → HasFolders tree new
one_seen tree old new path cmp keys there has = one_known tree old new path cmp keys (folder_at (node_at tree path.items) there) has
  where
    folder_at : (o : Option Node) → place_of o ≡ places.Folder → IsTrue (is_folder o)
    folder_at None h = cc
    folder_at (Some (file bytes)) h = cc
    folder_at (Some folder) h = refl
