-- What a command does to a repository if no cause holds.
use Rattle.std.specs.Prelude.{Bool, false, not, ◌&&◌, ◌||◌, List, [], ◌∷◌, ◌++◌, map, drop, find, Option, option_map, option_and_then, option_to_list, unwrap_or, bytes_eq, codes, if◌then◌else◌}
use Rattle.std.specs.List.{flat_map, filter_map}
use Rattle.std.specs.FinMap.{FinMap, get, insert, remove, contains_key, empty}
use Rattle.history_model.specs.Bytes.{Bytes, by_bytes, digits_value}
use Rattle.history_model.specs.FileMap.{FileMap, Edit, Put, Remove, RemoveFile, Graft, edited_by, folders_of}
use Rattle.history_model.specs.Objects.{by_id, Actor, CommitValue, TagValue, Value, StoredCommit, StoredTag, StoredBytes, StoredFolder, value_text, id_of, empty_tree_id}
use Rattle.gix_hash.specs.Order.{id_eq}
use Rattle.gix_hash.specs.Id.{Id, null_id}
use Rattle.history_model.specs.Repository.{Reference, Repository, id_at, moves_at, stands, commit_at, peeled}
use Rattle.history_model.specs.Forms.{title, is_name}
use Rattle.history_model.specs.Words.{head_word, candidates, commit_of}
use Rattle.history_model.specs.Commands.{Command, Commit, Tag, Move, Rename, Delete, Switch, ActorLine, EditLine, PutLine, RemoveLine, RemoveFileLine, GraftLine, CommitCommand, TagCommand, To}
use Rattle.gix_hash.specs.declared.kind.Kind.{Kind}

-- ---- what is read before anything is stored

-- HEAD in `commit` means its branch
abbrev pub branch_or_name : Repository → Bytes → Bytes
branch_or_name r name = if bytes_eq name head_word then r.branch else name

-- In `past` too. Any other word there is a name, or means its first candidate that exists.
abbrev pub past_name : Repository → Bytes → Bytes
past_name r word =
    if bytes_eq word head_word then r.branch
    else if is_name word then word
    else unwrap_or (find (stands r) (candidates word)) word

-- the commit that a name peels to
abbrev pub name_commit : Repository → Bytes → Option Id
name_commit r name = option_and_then (peeled r) (id_at r name)

abbrev pub read_actor : ActorLine → Actor
read_actor actor =
    record {
      name =
          actor.name;
      email = actor.email;
      seconds = digits_value actor.seconds;
      offset = actor.offset;
    }

-- the name's commit, if the name exists, and then those of the words
abbrev pub parents_of : Repository → CommitCommand → List Id
parents_of r c =
    option_to_list (name_commit r (branch_or_name r c.name)) ++ filter_map (commit_of r) c.parents

abbrev pub files_at : Repository → Id → FileMap
files_at r id = unwrap_or (option_map (λ commit. commit.files) (commit_at r id)) empty

-- the files of the first of these commits; none if there is none
abbrev pub first_files : Repository → List Id → FileMap
first_files r [] = empty
first_files r (id ∷ ids) = files_at r id

-- the files of the commit that a word means
abbrev pub word_files : Repository → Bytes → FileMap
word_files r word = first_files r (option_to_list (commit_of r word))

-- what an edit's line does to the files; `files` gives those of a graft's word
abbrev pub read_line : (Bytes → FileMap) → EditLine → Edit
read_line files (PutLine kind path bytes) = Put kind path bytes
read_line files (RemoveLine path) = Remove path
read_line files (RemoveFileLine path) = RemoveFile path
read_line files (GraftLine path word source) = Graft path source (files word)

-- a graft's word means what it meant before the command
abbrev pub read_edit : Repository → EditLine → Edit
read_edit r = read_line (word_files r)

abbrev pub edits_of : Repository → CommitCommand → List Edit
edits_of r c = map (read_edit r) c.edits

abbrev pub new_commit : Repository → CommitCommand → CommitValue
new_commit r c = record {
  parents = parents_of r c;
  author = read_actor c.author;
  committer = read_actor c.committer;
  message = c.message;
  files = edited_by (first_files r (parents_of r c)) (edits_of r c);
}

-- what follows `refs/tags/`
abbrev pub tag_rest : Bytes → Bytes
tag_rest name = drop 10 name

abbrev pub new_tag : Repository → TagCommand → TagValue
new_tag r c = record {
  target = unwrap_or (commit_of r c.word) (null_id r.kind);
  name = tag_rest c.name;
  tagger = read_actor c.tagger;
  message = c.message;
}

-- ---- what is stored

abbrev pub put_bytes : Edit → List Value
put_bytes (Put kind path bytes) = StoredBytes bytes ∷ []
put_bytes (Remove path) = []
put_bytes (RemoveFile path) = []
put_bytes (Graft path source from) = []

-- The bytes of each `put`, even if a later edit removes the file, the folders of the commit's
-- files, and the commit; or a tag. What is grafted is already stored.
abbrev pub stored_by : Repository → Command → List Value
stored_by r (Commit c) =
    flat_map put_bytes (edits_of r c) ++ map StoredFolder (folders_of (new_commit r c).files)
    ++ StoredCommit (new_commit r c) ∷ []
stored_by r (Tag c) = StoredTag (new_tag r c) ∷ []
stored_by r _ = []

-- what is already stored stays
abbrev pub store_one : Kind → FinMap by_id Value → Value → FinMap by_id Value
store_one kind objects value =
    if contains_key objects (id_of kind value) then objects
    else insert objects (id_of kind value) value

abbrev pub store_all : Kind → FinMap by_id Value → List Value → FinMap by_id Value
store_all kind objects [] = objects
store_all kind objects (value ∷ values) = store_all kind (store_one kind objects value) values

-- whether the value's text is other than these bytes
abbrev pub is_other : Kind → Bytes → Value → Bool
is_other kind text value = not (bytes_eq text (value_text kind value))

-- whether the value's id is null, or the empty tree's though the value isn't the empty tree, or
-- that of other stored bytes
abbrev pub is_taken : Kind → FinMap by_id Value → Value → Bool
is_taken kind objects value =
    let id = id_of kind value in
    id_eq id (null_id kind)
    || (id_eq id (empty_tree_id kind) && is_other kind (value_text kind (StoredFolder empty)) value)
    || unwrap_or (option_map (is_other kind (value_text kind value)) (get objects id)) false

-- whether a value's id is taken, by the store or by the command's values before it
abbrev pub some_taken : Kind → FinMap by_id Value → List Value → Bool
some_taken kind objects [] = false
some_taken kind objects (value ∷ values) =
    is_taken kind objects value || some_taken kind (store_one kind objects value) values

abbrev pub takes_id : Repository → Command → Bool
takes_id r command = some_taken r.kind r.objects (stored_by r command)

-- ---- what names hold afterwards

-- The name gets the id and, unless it had that id, a new move before its other moves.
abbrev pub moved_reference : Repository → Bytes → Id → Actor → Bytes → Reference
moved_reference r name id actor message =
    let before = unwrap_or (id_at r name) (null_id r.kind) in
    record {
      id = id;
      moves = if id_eq before id then moves_at r name
          else record { before = before; after = id; actor = actor; message = message }
          ∷ moves_at r name;
    }

abbrev pub References : Type 0
References = FinMap by_bytes Reference

abbrev pub with_name : Repository → Bytes → Id → Actor → Bytes → References → References
with_name r name id actor message names =
    insert names name (moved_reference r name id actor message)

-- each line's name at its word's commit; words mean what they meant before the command
abbrev pub with_lines : Repository → Actor → Bytes → List To → References → References
with_lines r actor message [] names = names
with_lines r actor message (to ∷ lines) names =
    with_lines r actor message lines
    (with_name r to.name (unwrap_or (commit_of r to.word) (null_id r.kind)) actor message names)

-- the actor of a rename
abbrev pub history_actor : Actor
history_actor = record { name = codes "history"; email = []; seconds = 0; offset = codes "+0000" }

abbrev pub names_after : Repository → Command → References
names_after r (Commit c) =
    with_name r (branch_or_name r c.name) (id_of r.kind (StoredCommit (new_commit r c)))
    (read_actor c.committer) (title c.message) r.names
names_after r (Tag c) =
    with_name r c.name (id_of r.kind (StoredTag (new_tag r c))) (read_actor c.tagger)
    (title c.message) r.names
names_after r (Move c) = with_lines r (read_actor c.actor) c.message c.to r.names
names_after r (Rename from to) =
    with_name r to (unwrap_or (id_at r from) (null_id r.kind)) history_actor (codes "rename")
    (remove r.names from)
names_after r (Delete name at) = remove r.names name
names_after r _ = r.names

abbrev pub branch_after : Repository → Command → Bytes
branch_after r (Switch name) = name
branch_after r _ = r.branch

-- the repository after a command if no cause holds
abbrev pub after : Repository → Command → Repository
after r command = record {
  kind = r.kind;
  names = names_after r command;
  branch = branch_after r command;
  objects = store_all r.kind r.objects (stored_by r command);
}
