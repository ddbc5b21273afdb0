-- Folders stay where a file comes or goes.
use Rattle.std.proofs.Common.{◌≡◌, inl, inr, Bool, true, false, cond, ◌||◌, [], ◌∷◌, ◌++◌, Option, Some, None, take, refl, sym, ◌∙◌, ap}
use Rattle.std.specs.Prelude.{IsTrue, IsFalse, is_some, Result, Ok, Err, OnOk}
use Rattle.std.specs.FinMap.{get, insert, remove}
use Rattle.gix_ref_file.specs.History.{History, Makes}
use Rattle.gix_ref_file.specs.declared.files.FileError.{FileError}
use Rattle.gix_ref_file.specs.Tree.{Tree, Node, file, folder, same_path, node_at, bytes_at, is_folder}
use Rattle.gix_ref_file.specs.Changes.{to_create, to_write, to_append, to_rename, to_remove_file, allows, after, is_file_at, may_hold_file, MayLeave}
use Rattle.gix_ref_file.proofs.Trees.{one_path, get-inserted, get-removed, no_folder}
use Rattle.gix_ref_file.proofs.Rooted.{both, file_no_folder}
use Rattle.gix_ref_way.specs.Ways.{Bytes, SameFolders, KeepsFolders}

folders_kept : (t u : Tree) (k : Bytes) (left : Option Node) → IsFalse (is_folder (get t k)) → IsFalse (is_folder left) → ((q : Bytes) → get u q ≡ cond (same_path q k) left (get t q)) → SameFolders t u
folders_kept t u k left no_folder not_folder is q = ap is_folder (is q) ∙ by_case (same_path q k) refl
  where
    by_case : (b : Bool) → same_path q k ≡ b → is_folder (cond b left (get t q)) ≡ is_folder (get t q)
    by_case false other = refl
    by_case true same = not_folder ∙ sym (ap (λ p. is_folder (get t p)) (one_path q k same) ∙ no_folder)

node_is_file : (t : Tree) (k : Bytes) → IsTrue (is_file_at t k) → IsFalse (is_folder (get t k))
node_is_file t [] h = cc
node_is_file t (b ∷ k) h = file_no_folder (get t (b ∷ k)) h

room : (t : Tree) (k : Bytes) → IsTrue (may_hold_file t k) → IsFalse (is_folder (get t k))
room t [] may = absurd (cc (no_folder t [] may))
room t (b ∷ k) may = no_folder t (b ∷ k) may

put_folders : (t u : Tree) (k bytes : Bytes) → IsTrue (may_hold_file t k) → u ≡ insert t k (file bytes) → SameFolders t u
put_folders t u k bytes may is = folders_kept t u k (Some (file bytes)) (room t k may) refl (λ q. ap (λ x. get x q) is ∙ get-inserted t k (file bytes) q)

pub removed_folders : (t u : Tree) (k : Bytes) → IsTrue (allows t (to_remove_file k)) → u ≡ after (to_remove_file k) t → SameFolders t u
removed_folders t u k may is = folders_kept t u k None (node_is_file t k may) refl (λ q. ap (λ x. get x q) is ∙ get-removed t k q)

pub written_folders : (t u : Tree) (k bytes : Bytes) → IsTrue (allows t (to_write k bytes)) → u ≡ after (to_write k bytes) t → SameFolders t u
written_folders t u k bytes may is = put_folders t u k bytes may is

pub renamed_folders : (t u : Tree) (from to : Bytes) → IsTrue (allows t (to_rename from to)) → u ≡ after (to_rename from to) t → SameFolders t u
renamed_folders t u from to may is q =
    let parts = both (is_file_at t from) (may_hold_file t to) may in
    let gone : SameFolders t (remove t from) = folders_kept t (remove t from) from None (node_is_file t from parts.0) refl (λ p. get-removed t from p) in
    folders_kept (remove t from) u to (Some (file (bytes_at t from))) (gone to ∙ room t to parts.1) refl (λ p. ap (λ x. get x p) is ∙ get-inserted (remove t from) to (file (bytes_at t from)) p) q ∙ gone q

pub same_twice : (t u v : Tree) → SameFolders t u → SameFolders u v → SameFolders t v
same_twice t u v first then path = then path ∙ first path

-- ---- at Ok
pub removed_ok : (k : Bytes) (old new : History) (r : Result (Unit {0}) FileError) → Makes (to_remove_file k) old new r → OnOk r (SameFolders old.tree new.tree)
removed_ok k old new (Ok u) makes = removed_folders old.tree new.tree k makes.allowed makes.made
removed_ok k old new (Err e) makes = tt

pub renamed_ok : (from bytes to : Bytes) (t : Tree) (old new : History) (r : Result (Unit {0}) FileError) → IsTrue (allows t (to_write from bytes)) → old.tree ≡ after (to_write from bytes) t
    → Makes (to_rename from to) old new r → OnOk r (SameFolders t new.tree)
renamed_ok from bytes to t old new (Ok u) may is makes = same_twice t old.tree new.tree (written_folders t old.tree from bytes may is) (renamed_folders old.tree new.tree from to makes.allowed makes.made)
renamed_ok from bytes to t old new (Err e) may is makes = tt

-- ---- at each moment
as_before : (t x : Tree) → x ≡ t → SameFolders t x
as_before t x same q = ap (λ y. is_folder (get y q)) same

pub while_created : (k bytes : Bytes) (t x : Tree) → MayLeave (to_create k bytes) t x → SameFolders t x
while_created k bytes t x (inl same) = as_before t x same
while_created k bytes t x (inr (n, may, is)) = by_case (is_some (node_at t k)) may is
  where
    by_case : (b : Bool) → IsTrue (b || may_hold_file t k) → x ≡ cond b t (insert t k (file (take n bytes))) → SameFolders t x
    by_case true may is = as_before t x is
    by_case false may is = put_folders t x k (take n bytes) may is

pub while_written : (k bytes : Bytes) (t x : Tree) → MayLeave (to_write k bytes) t x → SameFolders t x
while_written k bytes t x (inl same) = as_before t x same
while_written k bytes t x (inr (n, may, is)) = put_folders t x k (take n bytes) may is

pub while_appended : (k bytes : Bytes) (t x : Tree) → MayLeave (to_append k bytes) t x → SameFolders t x
while_appended k bytes t x (inl same) = as_before t x same
while_appended k bytes t x (inr (n, may, is)) = put_folders t x k (bytes_at t k ++ take n bytes) may is

pub while_renamed : (from to : Bytes) (t x : Tree) → MayLeave (to_rename from to) t x → SameFolders t x
while_renamed from to t x (inl same) = as_before t x same
while_renamed from to t x (inr (n, may, is)) = renamed_folders t x from to may is

pub while_removed : (k : Bytes) (t x : Tree) → MayLeave (to_remove_file k) t x → SameFolders t x
while_removed k t x (inl same) = as_before t x same
while_removed k t x (inr (n, may, is)) = removed_folders t x k may is

-- ---- so none came, and none went
folder_so : (o : Option Node) → is_folder o ≡ true → o ≡ Some folder
folder_so None e = cc
folder_so (Some (file bytes)) e = cc
folder_so (Some folder) e = refl

pub same_stood : (t x : Tree) → SameFolders t x → (q : Bytes) → get x q ≡ Some folder → get t q ≡ Some folder
same_stood t x same q is = folder_so (get t q) (sym (same q) ∙ ap is_folder is)

pub same_stay : (t x : Tree) → SameFolders t x → KeepsFolders t x
same_stay t x same [] is = refl
same_stay t x same (b ∷ q) is = same (b ∷ q) ∙ is
