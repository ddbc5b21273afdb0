-- Paths, file maps and edits. A file map has the files of a commit by their paths, without trees.
use Rattle.std.specs.Prelude.{◌+◌, Bool, false, not, ◌&&◌, ◌||◌, List, [], ◌∷◌, ◌++◌, length, drop, map, ◌==◌, if◌then◌else◌, Option, Some, None, option_map, bytes_eq, IsTrue, IsFalse}
use Rattle.std.specs.List.{list_any, slice_split, flat_map, filter_map}
use Rattle.std.specs.FinMap.{FinMap, entries, keys, contains_key, insert, retain_keys, from_entries}
use Rattle.history_model.specs.Bytes.{Bytes, by_bytes, begins, has_byte, is_empty}
use Rattle.history_model.specs.declared.FileKind.{FileKind}

-- The components of a path, between its slashes.
abbrev pub components : Bytes → List Bytes
components path = slice_split (λ b. b == 47) path

-- A path has no empty component and no zero byte.
abbrev pub is_path : Bytes → Bool
is_path path = not (list_any is_empty (components path)) && not (has_byte 0 path)

-- whether the first path is a proper prefix of the second, component by component
abbrev pub is_below : Bytes → Bytes → Bool
is_below folder path = begins (folder ++ 47 ∷ []) path

-- the same, or the paths are equal
abbrev pub is_within : Bytes → Bytes → Bool
is_within folder path = bytes_eq folder path || is_below folder path

-- the file at a path
pub record Content : Type 0 where
  pub kind : FileKind
  pub bytes : Bytes

-- A file map is ordered by the bytes of its paths.
abbrev pub FileMap : Type 0
FileMap = FinMap by_bytes Content

-- Each key is a path, and none is a proper prefix of another.
pub record IsFileMap (files : FileMap) : Type 0 where
  pub paths : (p : Bytes) → IsTrue (contains_key files p) → IsTrue (is_path p)
  pub apart : (p q : Bytes) → IsTrue (contains_key files p) → IsTrue (contains_key files q)
      → IsFalse (is_below p q)

-- whether there is a file below the path
abbrev pub has_below : FileMap → Bytes → Bool
has_below files path = list_any (is_below path) (keys files)

-- the files at or below one of the paths
abbrev pub cut_to : List Bytes → FileMap → FileMap
cut_to paths files = retain_keys files (λ q. list_any (λ path. is_within path q) paths)

-- the files below a folder, by their paths in it
abbrev pub inside : Bytes → FileMap → FileMap
inside folder files =
    from_entries
    (filter_map
    (λ e. if is_below folder e.0 then Some (drop (length folder + 1) e.0, e.1) else None)
    (entries files))

-- the proper prefixes of a path that follows `front`, with `front` before each
abbrev pub beginnings_from : Bytes → Bytes → List Bytes
beginnings_from front [] = []
beginnings_from front (b ∷ path) =
    if b == 47 then front ∷ beginnings_from (front ++ b ∷ []) path
    else beginnings_from (front ++ b ∷ []) path

abbrev pub beginnings : Bytes → List Bytes
beginnings path = beginnings_from [] path

-- the file map itself and each folder of it
abbrev pub folders_of : FileMap → List FileMap
folders_of files = files ∷ map (λ folder. inside folder files) (flat_map beginnings (keys files))

-- ---- edits

-- a put, two removals, and a graft, which puts at a path what other files have at or below a source
pub data Edit : Type 0 where
  Put : FileKind → Bytes → Bytes → Edit
  Remove : Bytes → Edit
  RemoveFile : Bytes → Edit
  Graft : Bytes → Bytes → FileMap → Edit

-- without the files at or below the path
abbrev pub removed : Bytes → FileMap → FileMap
removed path files = retain_keys files (λ q. not (is_within path q))

-- also without a file at a prefix of the path
abbrev pub cleared : Bytes → FileMap → FileMap
cleared path files = retain_keys files (λ q. not (is_within path q || is_within q path))

-- and then with this content at the path
abbrev pub put_at : Bytes → Content → FileMap → FileMap
put_at path content files = insert (cleared path files) path content

-- what follows the source in a path at or below it: nothing if they are equal. Every path is below
-- the empty source, and follows it whole
abbrev pub rest_behind : Bytes → Bytes → Option Bytes
rest_behind [] path = Some path
rest_behind (b ∷ source) path =
    if bytes_eq (b ∷ source) path then Some []
    else if is_below (b ∷ source) path then Some (drop (length (b ∷ source) + 1) path) else None

-- the path followed by the rest
abbrev pub with_rest : Bytes → Bytes → Bytes
with_rest path [] = path
with_rest path (b ∷ rest) = path ++ 47 ∷ b ∷ rest

-- the files at or below the source, but at and below the path instead
abbrev pub carried : Bytes → Bytes → FileMap → List (Bytes × Content)
carried path source files =
    filter_map (λ e. option_map (λ rest. (with_rest path rest, e.1)) (rest_behind source e.0))
    (entries files)

abbrev pub with_all : List (Bytes × Content) → FileMap → FileMap
with_all [] files = files
with_all (e ∷ more) files = with_all more (insert files e.0 e.1)

abbrev pub edited : FileMap → Edit → FileMap
edited files (Put kind path bytes) = put_at path (record { kind = kind; bytes = bytes }) files
edited files (Remove path) = removed path files
edited files (RemoveFile path) = removed path files
edited files (Graft path source from) = with_all (carried path source from) (cleared path files)

-- after these edits, in order
abbrev pub edited_by : FileMap → List Edit → FileMap
edited_by files [] = files
edited_by files (edit ∷ edits) = edited_by (edited files edit) edits

-- a `remove-file` of a path with files below it
abbrev pub is_refused : FileMap → Edit → Bool
is_refused files (Put kind path bytes) = false
is_refused files (Remove path) = false
is_refused files (RemoveFile path) = has_below files path
is_refused files (Graft path source from) = false

-- whether one of the edits is refused when its turn comes
abbrev pub some_refused : FileMap → List Edit → Bool
some_refused files [] = false
some_refused files (edit ∷ edits) = is_refused files edit || some_refused (edited files edit) edits

-- the files that a graft puts, with their paths
abbrev pub grafted : Edit → List (Bytes × Content)
grafted (Graft path source from) = carried path source from
grafted _ = []

abbrev pub grafted_paths : Edit → List Bytes
grafted_paths edit = map (λ e. e.0) (grafted edit)

-- whether a graft finds nothing at or below its source
abbrev pub grafts_nothing : Edit → Bool
grafts_nothing (Graft path source from) = is_empty (carried path source from)
grafts_nothing _ = false
