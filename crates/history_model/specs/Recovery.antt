-- What recovery leaves of a pair of file trees.
use Rattle.std.specs.Prelude.{Bool, not, ◌&&◌, ◌||◌, map, if◌then◌else◌, is_some, bytes_eq, codes}
use Rattle.std.specs.List.{list_any}
use Rattle.std.specs.FinMap.{entries, keys, get, from_entries, retain_keys}
use Rattle.gix_ref_file.specs.Tree.{Tree, Node, file, folder, is_folder}
use Rattle.history_model.specs.Bytes.{Bytes}
use Rattle.history_model.specs.FileMap.{is_below}
use Rattle.history_model.specs.Logs.{whole_lines}
use Rattle.history_model.specs.Places.{Pair, file_at, unfinished_place, is_log_place, log_name, is_lock_file}
use Rattle.history_model.specs.NameStates.{name_state, is_absent}
use Rattle.gix_hash.specs.declared.kind.Kind.{Kind}

-- without the file of an object that was not renamed to its place
abbrev pub recovered_objects : Tree → Tree
recovered_objects tree =
    retain_keys tree (λ path. not (bytes_eq path unfinished_place && is_some (file_at tree path)))

-- a lock file, or the log of a name that reads as absent
abbrev pub is_leftover : Kind → Tree → Bytes → Bool
is_leftover kind tree path =
    is_some (file_at tree path)
    && (is_lock_file path
    || (is_log_place path && is_absent (name_state kind tree (log_name path))))

-- of a log only the whole lines
abbrev pub recovered_node : Bytes → Node → Node
recovered_node path folder = folder
recovered_node path (file bytes) = file (if is_log_place path then whole_lines bytes else bytes)

-- the files that stay, and all folders
abbrev pub recovered_files : Kind → Tree → Tree
recovered_files kind tree =
    from_entries
    (map (λ e. (e.0, recovered_node e.0 e.1))
    (entries (retain_keys tree (λ path. not (is_leftover kind tree path)))))

-- a folder below `refs` or `logs` that has no file below it
abbrev pub is_deserted : Tree → Bytes → Bool
is_deserted tree path =
    is_folder (get tree path) && (is_below (codes "refs") path || is_below (codes "logs") path)
    && not (list_any (λ below. is_below path below && is_some (file_at tree below)) (keys tree))

-- without leftovers, and then without the folders that have no file
abbrev pub recovered_names : Kind → Tree → Tree
recovered_names kind tree =
    let left = recovered_files kind tree in retain_keys left (λ path. not (is_deserted left path))

abbrev pub recovered : Kind → Pair → Pair
recovered kind pair =
    record { objects = recovered_objects pair.objects; names = recovered_names kind pair.names }
