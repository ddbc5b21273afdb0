-- The file map without files.
use Rattle.std.proofs.Common.{◌≡◌, ◌∙◌, ap, sym, refl, true, [], ◌∷◌, None, option_map, is_some}
use Rattle.std.specs.List.{AllByRecursion, flat_map}
use Rattle.std.specs.FinMap.{empty, get, get-empty, keys, contains_key}
use Rattle.gix_hash.specs.declared.kind.Kind.{Kind}
use Rattle.gix_object_lookup.specs.Table.{Table}
use Rattle.gix_object_nodes.specs.Files as unfolded
use Rattle.gix_object_nodes.specs.Files.{Path, Trees, files_of_tree}
use Rattle.history_model.specs.Bytes.{Bytes, by_bytes}
use Rattle.history_model.specs.FileMap.{FileMap, Content, IsFileMap, beginnings, components, inside}
use Rattle.history_model.proofs.WholeLists.{in_all, none_is_some, of_map}
use Rattle.history_files.specs.Entries.{own_folders}
use Rattle.history_files.specs.Unfolding.{HasTrees, IsUnfolded, file_leaf}
use Rattle.history_files.proofs.Inside.{file_inside, file_of_beginning}
use Rattle.gix_object_nodes.proofs.WrittenFiles.{no_files as no_entries}

no_files : FileMap
no_files = empty

nothing : (path : Bytes) → get no_files path ≡ None
unfolding no_files
nothing path = get-empty {X = Content} by_bytes path

no_key : {A : Type 0} (path : Bytes) → contains_key no_files path ≡ true → A
no_key path h = absurd (cc (sym (ap is_some (nothing path)) ∙ h))

pub empty_map : IsFileMap empty
unfolding no_files
empty_map = record { paths = λ p h. no_key p h; apart = λ p q h k. no_key p h }

pub empty_trees : (kind : Kind) (table : Table) → AllByRecursion (HasTrees table kind) (own_folders empty)
unfolding no_files
empty_trees kind table = in_all (HasTrees table kind) (own_folders no_files) (λ g i.
    let from = of_map (λ folder. inside folder no_files) g (flat_map beginnings (keys no_files)) i in
    let file = file_of_beginning no_files from.0 from.1 in
    absurd (none_is_some file.1 (sym (nothing _) ∙ file_inside no_files from.0 file.0 file.1 file.2)))

pub empty_unfolds : (kind : Kind) (there : unfolded.FileMap) → ((q : Path) → there q ≡ None) → IsUnfolded kind empty there
unfolding no_files
empty_unfolds kind there none = record {
  at = λ path. none (components path) ∙ sym (ap (option_map (file_leaf kind)) (nothing path));
  only = λ names leaf e. none_is_some leaf (sym (none names) ∙ e);
}
