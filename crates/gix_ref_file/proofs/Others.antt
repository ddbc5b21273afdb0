-- What a change leaves, and what is read after it.
use Rattle.std.proofs.Common.{◌≡◌, Bool, true, false, cond, ◌||◌, List, [], ◌∷◌, ◌++◌, ℕ, take, Some, None, refl, ◌∙◌, ap}
use Rattle.std.specs.Prelude.{IsTrue, IsFalse, is_some, unwrap_or}
use Rattle.std.specs.List.{list_any}
use Rattle.std.specs.FinMap.{insert, remove, get}
use Rattle.gix_ref_file.specs.Tree.{Tree, Node, file, folder, same_path, node_at, bytes_of, bytes_at, IsRooted}
use Rattle.gix_ref_file.specs.Changes.{Change, to_create, to_write, to_append, to_shorten, to_rename, to_remove_file, to_make_folder, to_remove_folder, allows, after, paths_of, is_file_at, may_hold_file}
use Rattle.gix_ref_file.proofs.Trees.{get_inserted, get-inserted, get-removed, bytes_at_inserted, same_path_itself}
use Rattle.gix_ref_file.proofs.Rooted.{both, file_room}
use Rattle.std.proofs.lemmas.Bool.{or_parts}

inserted_elsewhere : (t : Tree) (p : List ℕ) (n : Node) (q : List ℕ) → same_path q p ≡ false → node_at (insert t p n) q ≡ node_at t q
inserted_elsewhere t p n [] apart = refl
inserted_elsewhere t p n (b ∷ q) apart = get-inserted t p n (b ∷ q) ∙ ap (λ x. cond x (Some n) (get t (b ∷ q))) apart

removed_elsewhere : (t : Tree) (p q : List ℕ) → same_path q p ≡ false → node_at (remove t p) q ≡ node_at t q
removed_elsewhere t p [] apart = refl
removed_elsewhere t p (b ∷ q) apart = get-removed t p (b ∷ q) ∙ ap (λ x. cond x None (get t (b ∷ q))) apart

pub others_stay : (change : Change) (tree : Tree) (path : List ℕ) → IsFalse (list_any (same_path path) (paths_of change)) → node_at (after change tree) path ≡ node_at tree path
others_stay (to_create p bytes) tree path apart = by_case (is_some (node_at tree p))
  where
    by_case : (there : Bool) → node_at (cond there tree (insert tree p (file bytes))) path ≡ node_at tree path
    by_case true = refl
    by_case false = inserted_elsewhere tree p (file bytes) path (or_parts (same_path path p) false apart).0
others_stay (to_write p bytes) tree path apart = inserted_elsewhere tree p (file bytes) path (or_parts (same_path path p) false apart).0
others_stay (to_append p bytes) tree path apart = inserted_elsewhere tree p (file (bytes_at tree p ++ bytes)) path (or_parts (same_path path p) false apart).0
others_stay (to_shorten p count) tree path apart = inserted_elsewhere tree p (file (take count (bytes_at tree p))) path (or_parts (same_path path p) false apart).0
others_stay (to_rename from to) tree path apart =
    let parts = or_parts (same_path path from) (same_path path to || false) apart in
    inserted_elsewhere (remove tree from) to (file (bytes_at tree from)) path (or_parts (same_path path to) false parts.1).0 ∙ removed_elsewhere tree from path parts.0
others_stay (to_remove_file p) tree path apart = removed_elsewhere tree p path (or_parts (same_path path p) false apart).0
others_stay (to_make_folder p) tree path apart = inserted_elsewhere tree p folder path (or_parts (same_path path p) false apart).0
others_stay (to_remove_folder p) tree path apart = removed_elsewhere tree p path (or_parts (same_path path p) false apart).0

pub append_read : (tree : Tree) (path bytes : List ℕ) → IsTrue (allows tree (to_append path bytes)) → bytes_at (after (to_append path bytes) tree) path ≡ bytes_at tree path ++ bytes
append_read tree path bytes may = bytes_at_inserted tree path (bytes_at tree path ++ bytes) may

pub shorten_read : (tree : Tree) (path : List ℕ) (count : ℕ) → IsRooted tree → IsTrue (allows tree (to_shorten path count)) → bytes_at (after (to_shorten path count) tree) path ≡ take count (bytes_at tree path)
shorten_read tree path count rooted may = bytes_at_inserted tree path (take count (bytes_at tree path)) (file_room tree path rooted (both _ _ may).0)

pub rename_read : (tree : Tree) (from to : List ℕ) → IsTrue (allows tree (to_rename from to)) → bytes_at (after (to_rename from to) tree) to ≡ bytes_at tree from
rename_read tree from [] may = absurd (cc (both (is_file_at tree from) false may).1)
rename_read tree from (b ∷ to) may = ap (λ node. unwrap_or (bytes_of node) []) (get_inserted (remove tree from) (b ∷ to) (file (bytes_at tree from)))

pub rename_gone : (tree : Tree) (from to : List ℕ) → IsTrue (allows tree (to_rename from to)) → IsFalse (same_path from to) → node_at (after (to_rename from to) tree) from ≡ None
rename_gone tree [] to may apart = absurd (cc (both false (may_hold_file tree to) may).0)
rename_gone tree (b ∷ from) to may apart =
    get-inserted (remove tree (b ∷ from)) to (file (bytes_at tree (b ∷ from))) (b ∷ from) ∙ ap (λ x. cond x (Some (file (bytes_at tree (b ∷ from)))) (get (remove tree (b ∷ from)) (b ∷ from))) apart
    ∙ get-removed tree (b ∷ from) (b ∷ from) ∙ ap (λ x. cond x None (get tree (b ∷ from))) (same_path_itself (b ∷ from))
