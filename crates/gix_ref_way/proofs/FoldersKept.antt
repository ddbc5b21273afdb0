-- Which folders stay while folders come and go.
use Rattle.std.proofs.Common.{◌≡◌, ◌⊎◌, inl, inr, refl, sym, ◌∙◌, ap, subst, [], ◌∷◌}
use Rattle.std.specs.Prelude.{IsTrue, Option, Some, None}
use Rattle.std.specs.FinMap.{get}
use Rattle.gix_ref_file.specs.Tree.{Tree, Node, file, folder, node_at, is_folder}
use Rattle.gix_ref_file.specs.Changes.{to_make_folder, to_rename, MayLeave}
use Rattle.gix_ref_file.specs.History.{History, Adds}
use Rattle.gix_ref_file.proofs.Histories.{adds_weaker, adds_joined}
use Rattle.gix_ref_file.proofs.Rooted.{adds_now}
use Rattle.gix_ref_way.specs.Ways.{Bytes, KeepsFolders, ClearsWay, IsAtOrBelow, KeepsOtherFolders}
use Rattle.gix_ref_way.proofs.Clearings.{way_now}
use Rattle.gix_ref_way.proofs.FoldersMade.{folder_put}
use Rattle.gix_ref_way.proofs.FoldersStay as stay

-- ---- all folders
pub same_keeps : (t x : Tree) → x ≡ t → KeepsFolders t x
same_keeps t x same place is = ap (λ y. is_folder (node_at y place)) same ∙ is

keeps_now : (old new : History) → Adds (KeepsFolders old.tree) old new → KeepsFolders old.tree new.tree
keeps_now old new adds = from_now (adds_now _ old new adds)
  where
    from_now : (new.tree ≡ old.tree) ⊎ KeepsFolders old.tree new.tree → KeepsFolders old.tree new.tree
    from_now (inl same) = same_keeps old.tree new.tree same
    from_now (inr keeps) = keeps

pub keeps_joined : (old mid new : History) → Adds (KeepsFolders old.tree) old mid → Adds (KeepsFolders mid.tree) mid new → Adds (KeepsFolders old.tree) old new
keeps_joined old mid new first second = adds_joined old mid new first (adds_weaker mid new second (λ x keeps place is. keeps place (keeps_now old mid first place is)))

pub while_folder_made : (k : Bytes) (t x : Tree) → MayLeave (to_make_folder k) t x → KeepsFolders t x
while_folder_made k t x (inl same) = same_keeps t x same
while_folder_made k t x (inr (n, may, is)) = subst (KeepsFolders t) (sym is) (folder_put t k)

-- ---- all but those in a file's way
pub clears_keeps : (path : Bytes) (t x : Tree) → ClearsWay path t x → KeepsOtherFolders path t x
clears_keeps path t x clears [] is = inl refl
clears_keeps path t x clears (b ∷ place) is = still (clears.others (b ∷ place) (stood (get t (b ∷ place)) is))
  where
    stood : (o : Option Node) → IsTrue (is_folder o) → o ≡ Some folder
    stood None h = cc
    stood (Some (file bytes)) h = cc
    stood (Some folder) h = refl

    still : (get x (b ∷ place) ≡ Some folder) ⊎ IsAtOrBelow path (b ∷ place) → IsTrue (is_folder (get x (b ∷ place))) ⊎ IsAtOrBelow path (b ∷ place)
    still (inl stands) = inl (ap is_folder stands)
    still (inr gone) = inr gone

pub then_keeps : (path : Bytes) (t u x : Tree) → KeepsOtherFolders path t u → KeepsFolders u x → KeepsOtherFolders path t x
then_keeps path t u x first second place is = on (first place is)
  where
    on : IsTrue (is_folder (node_at u place)) ⊎ IsAtOrBelow path place → IsTrue (is_folder (node_at x place)) ⊎ IsAtOrBelow path place
    on (inl stands) = inl (second place stands)
    on (inr gone) = inr gone

pub clear_stay : (path : Bytes) (old cleared : History) → Adds (ClearsWay path old.tree) old cleared → Adds (KeepsOtherFolders path old.tree) old cleared
clear_stay path old cleared first = adds_weaker old cleared first (λ x clears. clears_keeps path old.tree x clears)

pub way_stay : (path : Bytes) (old cleared made : History) → Adds (ClearsWay path old.tree) old cleared → Adds (KeepsFolders cleared.tree) cleared made → Adds (KeepsOtherFolders path old.tree) old made
way_stay path old cleared made first second =
    adds_joined old cleared made (clear_stay path old cleared first)
    (adds_weaker cleared made second (λ x keeps. then_keeps path old.tree cleared.tree x (clears_keeps path old.tree cleared.tree (way_now path old cleared first)) keeps))

-- a file's folders are there, and no folder is in its place
pub while_nothing : (path : Bytes) (t x : Tree) → KeepsFolders t x → KeepsOtherFolders path t x
while_nothing path t x keeps place is = inl (keeps place is)

-- ---- while files come and go

pub while_renamed : (from to : Bytes) (t x : Tree) → MayLeave (to_rename from to) t x → KeepsFolders t x
while_renamed from to t x left = stay.same_stay t x (stay.while_renamed from to t x left)

-- a change that keeps the folders, after others that did
pub then_stay : {P : Tree → Type 0} (old mid new : History) → Adds (KeepsFolders old.tree) old mid → Adds P mid new → ((x : Tree) → P x → KeepsFolders mid.tree x) → Adds (KeepsFolders old.tree) old new
then_stay old mid new first second keeps = keeps_joined old mid new first (adds_weaker mid new second keeps)
