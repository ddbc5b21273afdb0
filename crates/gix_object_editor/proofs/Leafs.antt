-- A folder that isn't removed as a file.
use Rattle.std.proofs.Common.{◌≡◌, Bool, true, false, Some, None, [], refl, ap, ◌∙◌, if◌then◌else◌}
use Rattle.std.specs.Prelude.{Result, Ok, Err, IfErr}
use Rattle.gix_hash.specs.Id.{Id}
use Rattle.gix_object_tree.specs.Mode.{is_tree_value}
use Rattle.gix_object_lookup.specs.Table.{Table}
use Rattle.gix_object_editor.specs.declared.tree.editor.error.Error.{Error}
use Rattle.gix_object_editor.specs.declared.tree.editor.error.Error.TheVariants.{EmptyPathComponent, FindExistingObject, CannotRemoveNonLeaf, MalformedTree, EmptyTree, Memory}
use Rattle.gix_object_editor.specs.declared.tree.editor.state.Editor.{Editor}
use Rattle.gix_object_editor.specs.Editor.{files_of, LeafFault, IsFilled, IsFolder, IsNonLeaf}
use Rattle.gix_object_nodes.specs.Nodes.{leaf_in}
use Rattle.gix_object_nodes.specs.Files.{Path, Leaf, HasSomeBelow, no_trees, is_null, unless_tree, tree_under, files_of_entry}

-- over the table without trees an entry that isn't null is a file
pub entry_is_file : (leaf : Leaf) → is_null leaf.id ≡ false → files_of_entry no_trees [] leaf ≡ Some leaf
entry_is_file leaf some = ap (λ b. if b then None else unless_tree (tree_under no_trees leaf) leaf) some ∙ alone (is_tree_value leaf.mode.value)
  where
    alone : (b : Bool) → unless_tree (if b then no_trees leaf.id else None) leaf ≡ Some leaf
    alone true = refl
    alone false = refl

pub filled_without : {S : Type 0} (editor : Editor S) → IsFilled no_trees editor
filled_without editor i m s stands closed some = ([], leaf_in s, entry_is_file (leaf_in s) some)

pub leaf_fault_folder : {S X : Type 0} (honest may_fail : Type 0) (table : Table) (names : Path) (Into : Id → Type 0) (path : Path) (editor : Editor S) (r : Result X Error)
    → IfErr r (LeafFault honest may_fail table names Into (IsFolder (λ trees. IsFilled trees editor) (λ trees. files_of trees editor) path))
    → IfErr r (λ error. IsNonLeaf error → HasSomeBelow path (files_of no_trees editor))
leaf_fault_folder honest may_fail table names Into path editor (Ok x) h = tt
leaf_fault_folder honest may_fail table names Into path editor (Err EmptyPathComponent) h = λ no. absurd no
leaf_fault_folder honest may_fail table names Into path editor (Err (FindExistingObject error)) h = λ no. absurd no
leaf_fault_folder honest may_fail table names Into path editor (Err (CannotRemoveNonLeaf filename)) h = λ _. h.1 no_trees (filled_without editor)
leaf_fault_folder honest may_fail table names Into path editor (Err (MalformedTree oid)) h = λ no. absurd no
leaf_fault_folder honest may_fail table names Into path editor (Err EmptyTree) h = λ no. absurd no
leaf_fault_folder honest may_fail table names Into path editor (Err Memory) h = λ no. absurd no
