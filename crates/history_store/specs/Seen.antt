-- What exists at an object's place, or of the folders that it is in.
use Rattle.std.specs.Prelude.{if◌then◌else◌}
use Rattle.gix_ref_file.specs.Changes.{is_file_at}
use Rattle.gix_ref_file.specs.Tree.{Tree, is_folder, node_at, parent}
use Rattle.history_model.specs.Bytes.{Bytes}
use Rattle.history_store.specs.declared.folders.Seen.{Seen}
use Rattle.history_store.specs.declared.folders.Seen.TheVariants.{Nothing, Top, Folder, File}

-- the innermost of the file, its folder and the folder above that which exists
abbrev pub seen_at : Tree → Bytes → Seen
seen_at tree place =
    if is_file_at tree place then File
    else if is_folder (node_at tree (parent place)) then Folder
    else if is_folder (node_at tree (parent (parent place))) then Top
    else Nothing
