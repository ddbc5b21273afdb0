-- A root's tree is opened.
use Rattle.std.proofs.Common.{sym, subst}
use Rattle.gix_hash.specs.Id.{Id}
use Rattle.gix_hash.specs.declared.kind.Kind.{Kind}
use Rattle.gix_object_lines.specs.declared.kind.Kind.TheVariants as objects
use Rattle.gix_object_any.specs.Object.{Tree}
use Rattle.gix_object_lookup.specs.Table.{Table}
use Rattle.gix_object_find.specs.Values.{StandsAs}
use Rattle.history_model.specs.FileMap.{FileMap}
use Rattle.history_model.proofs.WholeRoots.{has_all}
use Rattle.history_files.specs.Unfolding.{IsInTable}
use Rattle.history_files.specs.Reading.{IsRootOf, RootFault, OwnFault}
use Rattle.history_files.specs.declared.error.ReadError.{ReadError}
use Rattle.history_files.specs.declared.error.ReadError.TheVariants.{Failed, Broken, Memory}
use Rattle.history_files.proofs.AtNames.{tree_of_map}
use Rattle.history_files.proofs.InOrder.{root_well_formed}
use Rattle.history_files.proofs.Items.{items, items_spelled}
use Rattle.history_files.proofs.Unfolded.{plain_map}

-- the tree of a file map is in the table and well-formed, so it isn't reported as broken
pub own_root : (honest may_fail : Type 0) (table : Table) (kind : Kind) (files : FileMap) (top : Id) → honest → IsRootOf table kind files top → (error : ReadError)
    → RootFault honest may_fail table top error → OwnFault may_fail error
own_root honest may_fail table kind files top answers is Failed h = h
own_root honest may_fail table kind files top answers is Memory h = tt
own_root honest may_fail table kind files top answers is (Broken oid) h =
    h.1 answers (items kind files) (subst (λ i. StandsAs table i objects.Tree (Tree (items kind files))) (sym is.id) (tree_of_map table kind files is.map (has_all (IsInTable table kind) files is.trees)))
    (root_well_formed kind files is.map (items kind files) (items_spelled kind files (plain_map files is.map)))
