-- To undo a change gives the tree before it.
use Rattle.std.proofs.Common.{◌≡◌, ℕ, Bool, true, false, cond, List, [], ◌∷◌, ◌++◌, Option, Some, None, refl, sym, ◌∙◌, ap}
use Rattle.std.specs.FinMap.{insert, remove, get}
use Rattle.gix_ref_file.specs.Tree.{Tree, Node, same_path}
use Rattle.gix_ref_file.specs.History.{History, Steps}
use Rattle.gix_ref_file.proofs.Trees.{same_tree, one_path, get-inserted, get-removed}
use Rattle.gix_ref_file.specs.declared.memory.record.Undo.{Undo}
use Rattle.gix_ref_file.specs.Nodes.{with_node}
use Rattle.gix_ref_file.specs.Past.{undone, undone_all, trees_before}

-- ---- a change more
undone_all-push : (undos : List Undo) (undo : Undo) (tree : Tree) → undone_all (undos ++ undo ∷ []) tree ≡ undone_all undos (undone undo tree)
undone_all-push [] undo tree = refl
undone_all-push (u ∷ undos) undo tree = ap (undone u) (undone_all-push undos undo tree)

trees_before-push : (undos : List Undo) (undo : Undo) (tree : Tree) → trees_before (undos ++ undo ∷ []) tree ≡ trees_before undos (undone undo tree) ++ undone undo tree ∷ []
trees_before-push [] undo tree = refl
trees_before-push (u ∷ undos) undo tree = λ i. undone u (undone_all-push undos undo tree i) ∷ trees_before-push undos undo tree i

abbrev pub history_from : List Undo → Tree → History
history_from undos tree = record { past = trees_before undos tree; tree = tree }

pub steps : (undos later : List Undo) (old new : Tree) (undo : Undo) (tree : Tree) → new ≡ tree → later ≡ undos ++ undo ∷ [] → undone undo tree ≡ old → Steps (history_from undos old) (history_from later new) tree
steps undos later old new undo tree made kept back = record {
  made = made;
  kept = (λ i. trees_before (kept i) (made i)) ∙ trees_before-push undos undo tree ∙ (λ i. trees_before undos (back i) ++ back i ∷ []);
}

-- ---- what was at one path
pub get-with_node : (t : Tree) (path : List ℕ) (node : Option Node) (q : List ℕ) → get (with_node t path node) q ≡ cond (same_path q path) node (get t q)
get-with_node t path None q = get-removed t path q
get-with_node t path (Some node) q = get-inserted t path node q

restored : (t changed : Tree) (path : List ℕ) (left before : Option Node) → get t path ≡ before → ((q : List ℕ) → get changed q ≡ cond (same_path q path) left (get t q)) → with_node changed path before ≡ t
restored t changed path left before was is = same_tree _ _ (λ q. get-with_node changed path before q ∙ ap (cond (same_path q path) before) (is q) ∙ by_case q (same_path q path) refl)
  where
    by_case : (q : List ℕ) (b : Bool) → same_path q path ≡ b → cond b before (cond b left (get t q)) ≡ get t q
    by_case q true same = sym (ap (get t) (one_path q path same) ∙ was)
    by_case q false apart = refl

pub restored_after_insert : (t : Tree) (path : List ℕ) (node : Node) (before : Option Node) → before ≡ get t path → with_node (insert t path node) path before ≡ t
restored_after_insert t path node before was = restored t _ path (Some node) before (sym was) (get-inserted t path node)

pub restored_after_remove : (t : Tree) (path : List ℕ) (before : Option Node) → before ≡ get t path → with_node (remove t path) path before ≡ t
restored_after_remove t path before was = restored t _ path None before (sym was) (get-removed t path)
