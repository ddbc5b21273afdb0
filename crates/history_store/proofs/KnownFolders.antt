-- Folders that are known to exist: a known path is one, and so are the folders of a place whose own folder is; all are still there
-- after what keeps folders.
use Rattle.std.proofs.Common.{◌≡◌, ◌⊎◌, inl, inr, refl, sym, ◌∙◌, ap, subst, Bool, true, false, ◌||◌, List, [], ◌∷◌, Vec, ℕ}
use Rattle.std.specs.Prelude.{IsTrue}
use Rattle.std.specs.BTreeSet.{BTreeSet, contains_by}
use Rattle.std.specs.List.{AllByRecursion, list_any}
use Rattle.std.specs.Ordering.{is_eq}
use Rattle.std.specs.declared.alloc.Global.{Global}
use Rattle.gix_ref_file.specs.History.{History, Adds}
use Rattle.gix_ref_file.specs.Tree.{Tree, is_folder, node_at, parent, path_cmp}
use Rattle.gix_ref_file.proofs.Rooted.{adds_now}
use Rattle.gix_ref_file.proofs.Trees.{one_path}
use Rattle.gix_ref_way.specs.Ways.{HasFoldersAbove, IsAbove, KeepsFolders}
use Rattle.history_model.specs.Bytes.{Bytes}
use Rattle.history_check_objects.specs.Folders.{HasFolders}
use Rattle.history_store.proofs.OwnFolders.{own_folder}

-- ---- folders of a tree
module _ (tree : Tree) where
  abbrev IsOne : Vec ℕ Global → Type 0
  IsOne path = IsTrue (is_folder (node_at tree path.items))

  pub known_is_folder : (folders : BTreeSet (Vec ℕ Global)) (path : Bytes) → IsTrue (contains_by (λ (own : Vec ℕ Global). path_cmp path own.items) folders) → HasFolders tree folders → IsTrue (is_folder (node_at tree path))
  known_is_folder folders path has exist = among folders.keys has exist
    where
      among : (keys : List (Vec ℕ Global)) → IsTrue (list_any (λ (own : Vec ℕ Global). is_eq (path_cmp path own.items)) keys) → AllByRecursion IsOne keys → IsTrue (is_folder (node_at tree path))
      among [] has all = absurd (cc has)
      among (own ∷ keys) has all = by_first (is_eq (path_cmp path own.items)) refl has (λ rest. among keys rest all.1)
        where
          by_first : (b : Bool) → is_eq (path_cmp path own.items) ≡ b → IsTrue (b || list_any (λ (other : Vec ℕ Global). is_eq (path_cmp path other.items)) keys)
              → (IsTrue (list_any (λ (other : Vec ℕ Global). is_eq (path_cmp path other.items)) keys) → IsTrue (is_folder (node_at tree path))) → IsTrue (is_folder (node_at tree path))
          by_first true same has further = ap (λ p. is_folder (node_at tree p)) (one_path path own.items same) ∙ all.0
          by_first false other has further = further has

  pub same_folders : (old new : BTreeSet (Vec ℕ Global)) → new.keys ≡ old.keys → HasFolders tree old → HasFolders tree new
  same_folders old new same has = subst (AllByRecursion IsOne) (sym same) has

  -- the folder that a place is in
  pub own_is_folder : (place : Bytes) → HasFoldersAbove place tree → IsTrue (is_folder (node_at tree (parent place)))
  own_is_folder place above = by_case (own_folder place (parent place) refl)
    where
      by_case : (parent place ≡ []) ⊎ IsAbove (parent place) place → IsTrue (is_folder (node_at tree (parent place)))
      by_case (inl root) = ap (λ p. is_folder (node_at tree p)) root
      by_case (inr within) = above (parent place) within

-- ---- what keeps folders
folders_stay : (old new : Tree) → KeepsFolders old new → (keys : List (Vec ℕ Global)) → AllByRecursion (IsOne old) keys → AllByRecursion (IsOne new) keys
folders_stay old new keeps [] all = tt
folders_stay old new keeps (path ∷ keys) all = (keeps path.items all.0, folders_stay old new keeps keys all.1)

pub folders_now : (old new : History) (folders : BTreeSet (Vec ℕ Global)) → Adds (KeepsFolders old.tree) old new → HasFolders old.tree folders → HasFolders new.tree folders
folders_now old new folders adds has = from_now (adds_now _ old new adds)
  where
    from_now : (new.tree ≡ old.tree) ⊎ KeepsFolders old.tree new.tree → HasFolders new.tree folders
    from_now (inl same) = subst (λ (tree : Tree). HasFolders tree folders) (sym same) has
    from_now (inr keeps) = folders_stay old.tree new.tree keeps folders.keys has
