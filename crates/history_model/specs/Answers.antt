-- The reply to a command if no cause holds.
use Rattle.std.specs.Prelude.{◌≡◌, ℕ, zero, suc, Bool, true, false, not, ◌&&◌, List, [], ◌∷◌, ◌++◌, length, map, max, fold, filter, nat_le, Option, Some, None, option_map, option_to_list, unwrap_or, bytes_eq, pos, if◌then◌else◌}
use Rattle.std.specs.List.{filter_map, list_any}
use Rattle.std.specs.FinMap.{entries, keys, get, len}
use Rattle.history_model.specs.Bytes.{Bytes, begins, digits_value}
use Rattle.history_model.specs.FileMap.{FileMap, Content, cut_to}
use Rattle.history_model.specs.Objects.{CommitValue, StoredCommit, StoredTag, id_of, blob_id, folder_id}
use Rattle.gix_hash.specs.declared.kind.Kind.{Kind}
use Rattle.gix_hash.specs.Id.{Id, null_id}
use Rattle.history_model.specs.Repository.{Repository, Reference, moves_at, commit_at, peeled}
use Rattle.history_model.specs.Words.{commit_of}
use Rattle.history_model.specs.Commands.{Command, Commit, Tag, Move, Rename, Delete, Switch, Pack, Index, Names, Files, Past, Log, Show, LogCommand, Order, Breadth, Newest, Oldest, NewestSince, OldestSince, Date, Topological, LogItem, Tip, Hidden}
use Rattle.history_model.specs.Replies.{Reply, Committed, Tagged, Moved, Renamed, Deleted, Switched, Packed, Indexed, NamesAre, LogIs, FilesAre, ShowsCommit, ShowsContent, PastIs, NameLine, FileLine, CommitShown, ContentShown}
use Rattle.history_model.specs.Meaning.{past_name, files_at, first_files, new_commit, new_tag}
use Rattle.gix_traverse_graph.specs.Commits.{Commits, WalkRequest}
use Rattle.gix_traverse_graph.specs.Rows.{generation_limit}
use Rattle.gix_traverse_graph.specs.Walks.{InBreadth, ByNewest, ByOldest, InDate, InTopological}
use Rattle.gix_traverse_graph.specs.declared.parents.Parents.TheVariants.{All as AllParents, First as FirstParent}
use Rattle.history_model.specs.declared.FileKind.{FileKind}
use Rattle.history_model.specs.declared.FileKind.TheVariants.{File, Exec, Link}

-- ---- `index`

abbrev pub parents_at : Repository → Id → List Id
parents_at r id = unwrap_or (option_map (λ commit. commit.parents) (commit_at r id)) []

abbrev pub time_at : Repository → Id → ℕ
time_at r id = unwrap_or (option_map (λ commit. (commit.committer).seconds) (commit_at r id)) 0

-- 1 for a root, else one more than the greatest among its parents; counts at most so many steps
unfoldable pub generation_within : ℕ → Repository → Id → ℕ
generation_within zero r id = 0
generation_within (suc steps) r id =
    suc (fold max 0 (map (λ parent. generation_within steps r parent) (parents_at r id)))

-- the number of commits on the longest chain of parents
abbrev pub generation : Repository → Id → ℕ
generation r id = generation_within (len r.objects) r id

abbrev pub is_counted : Repository → Id → Bool
is_counted r id =
    list_any (λ commit. nat_le (generation r id) generation_limit) (option_to_list (commit_at r id))

abbrev pub counted : Repository → List Id
counted r = filter (is_counted r) (keys r.objects)

-- what a walk reads of a commit
pub record Row : Type 0 where
  pub id : Id
  pub tree : Id
  pub parents : List Id
  pub time : ℕ
  pub generation : ℕ

abbrev pub row_of : Repository → Id → Row
row_of r id = record {
  id = id;
  tree = folder_id r.kind (files_at r id);
  parents = parents_at r id;
  time = time_at r id;
  generation = generation r id;
}

abbrev pub rows_of : Repository → List Row
rows_of r = map (row_of r) (counted r)

-- ---- `names`, `files`, `show`

abbrev pub is_in_folder : Option Bytes → Bytes → Bool
is_in_folder None name = true
is_in_folder (Some folder) name = begins (folder ++ 47 ∷ []) name

abbrev pub name_line : Repository → Bytes × Reference → NameLine
name_line r e =
    record { id = (e.1).id; commit = unwrap_or (peeled r (e.1).id) (null_id r.kind); name = e.0 }

abbrev pub names_shown : Repository → Option Bytes → List NameLine
names_shown r folder = map (name_line r) (filter (λ e. is_in_folder folder e.0) (entries r.names))

abbrev pub file_line : Kind → Bytes × Content → FileLine
file_line kind e = record { kind = (e.1).kind; id = blob_id kind (e.1).bytes; path = e.0 }

abbrev pub files_shown : Repository → FileMap → List FileLine
files_shown r files = map (file_line r.kind) (entries files)

-- the word means this commit
pub record StandsForCommit (r : Repository) (word : Bytes) (id : Id)
    (commit : CommitValue) : Type 0 where
  pub read : commit_of r word ≡ Some id
  pub holds : commit_at r id ≡ Some commit

abbrev pub commit_shown : Repository → Id → CommitValue → CommitShown
commit_shown r id commit = record {
  id = id;
  tree = folder_id r.kind commit.files;
  parents = commit.parents;
  author = commit.author;
  committer = commit.committer;
  message = commit.message;
}

abbrev pub content_shown : Repository → Content → ContentShown
content_shown r content =
    record { kind = content.kind; id = blob_id r.kind content.bytes; bytes = content.bytes }

-- ---- `log`

-- the commit graph that a walk goes over
abbrev pub commits_of : Repository → Commits Id
commits_of r id = record { parents = parents_at r id; time = pos (time_at r id) }

abbrev pub tip_word : LogItem → Option Bytes
tip_word (Tip word) = Some word
tip_word (Hidden word) = None

abbrev pub hidden_word : LogItem → Option Bytes
hidden_word (Tip word) = None
hidden_word (Hidden word) = Some word

abbrev pub since_of : Order → Option ℕ
since_of (NewestSince seconds) = Some (digits_value seconds)
since_of (OldestSince seconds) = Some (digits_value seconds)
since_of _ = None

-- the walk that a log requests; it accepts every commit
abbrev pub walk_request : Repository → LogCommand → WalkRequest Id
walk_request r c = record {
  tips = filter_map (commit_of r) (filter_map tip_word c.items);
  hidden = filter_map (commit_of r) (filter_map hidden_word c.items);
  parents = if c.first_parents then FirstParent else AllParents;
  since = option_map pos (since_of c.order);
  accepts = λ _. true;
}

abbrev pub IsWalk : Order → Commits Id → WalkRequest Id → List Id → Type 0
IsWalk Breadth g q ids = InBreadth g q ids
IsWalk Newest g q ids = ByNewest g q ids
IsWalk Oldest g q ids = ByOldest g q ids
IsWalk (NewestSince seconds) g q ids = ByNewest g q ids
IsWalk (OldestSince seconds) g q ids = ByOldest g q ids
IsWalk Date g q ids = InDate g q ids
IsWalk Topological g q ids = InTopological g q ids

abbrev pub same_kind : FileKind → FileKind → Bool
same_kind File File = true
same_kind Exec Exec = true
same_kind Link Link = true
same_kind _ _ = false

abbrev pub same_entries : List (Bytes × Content) → List (Bytes × Content) → Bool
same_entries [] [] = true
same_entries (a ∷ left) (b ∷ right) =
    bytes_eq a.0 b.0 && same_kind (a.1).kind (b.1).kind && bytes_eq (a.1).bytes (b.1).bytes
    && same_entries left right
same_entries _ _ = false

-- the files of a commit's first parent; none if it has no parent
abbrev pub files_before : Repository → Id → FileMap
files_before r id = first_files r (parents_at r id)

-- whether the files at or below one of the paths differ from the first parent's
abbrev pub differs_at : Repository → List Bytes → Id → Bool
differs_at r paths id =
    not
    (same_entries (entries (cut_to paths (files_at r id)))
    (entries (cut_to paths (files_before r id))))

-- the commits of the walk that differ at one of the paths; all of them if no path is given
abbrev pub kept : Repository → List Bytes → List Id → List Id
kept r [] ids = ids
kept r (path ∷ paths) ids = filter (differs_at r (path ∷ paths)) ids

abbrev pub IsLog : Repository → LogCommand → List Id → Type 0
IsLog r c ids =
    (walked : List Id) × IsWalk c.order (commits_of r) (walk_request r c) walked
    × (ids ≡ kept r c.paths walked)

-- ---- all commands

abbrev pub Answers : Repository → Command → Reply → Type 0
Answers r (Commit c) reply = reply ≡ Committed (id_of r.kind (StoredCommit (new_commit r c)))
Answers r (Tag c) reply = reply ≡ Tagged (id_of r.kind (StoredTag (new_tag r c)))
Answers r (Move c) reply = reply ≡ Moved
Answers r (Rename from to) reply = reply ≡ Renamed
Answers r (Delete name at) reply = reply ≡ Deleted
Answers r (Switch name) reply = reply ≡ Switched
Answers r Pack reply = reply ≡ Packed
Answers r Index reply = reply ≡ Indexed (length (counted r))
Answers r (Names folder) reply = reply ≡ NamesAre r.branch (names_shown r folder)
Answers r (Files word) reply =
    (id : Id) × (commit : CommitValue) × StandsForCommit r word id commit
    × (reply ≡ FilesAre (files_shown r commit.files))
Answers r (Past word) reply = reply ≡ PastIs (moves_at r (past_name r word))
Answers r (Log c) reply = (ids : List Id) × IsLog r c ids × (reply ≡ LogIs ids)
Answers r (Show word None) reply =
    (id : Id) × (commit : CommitValue) × StandsForCommit r word id commit
    × (reply ≡ ShowsCommit (commit_shown r id commit))
Answers r (Show word (Some path)) reply = (id : Id) × (commit : CommitValue) × (content : Content)
    × StandsForCommit r word id commit × (get commit.files path ≡ Some content)
    × (reply ≡ ShowsContent (content_shown r content))
