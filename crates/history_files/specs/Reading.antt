-- What is read of the trees of files, and why they aren't read. `honest` says that a store returns
-- what its table has, `may_fail` that its lookups may fail.
use Rattle.std.specs.Prelude.{◌≡◌, ◌⊎◌, ⊤, Option, Some, None, option_map, option_and_then, List, [], codes}
use Rattle.gix_hash.specs.Id.{Id, id_of}
use Rattle.gix_hash.specs.declared.kind.Kind.{Kind}
use Rattle.gix_object_lines.specs.declared.kind.Kind.TheVariants as objects
use Rattle.gix_object_lines.specs.declared.decode.Error as decode
use Rattle.gix_object_lines.specs.declared.decode.Error.TheVariants as unread
use Rattle.gix_object_tree.specs.Entry.{Item}
use Rattle.gix_object_tree.specs.WellFormed.{IsWellFormed}
use Rattle.gix_object_tree.specs.Mode.{kind_of}
use Rattle.gix_object_tree.specs.declared.tree.mode.EntryKind.{EntryKind}
use Rattle.gix_object_tree.specs.declared.tree.mode.EntryKind.TheVariants as entries
use Rattle.gix_object_any.specs.Object.{Tree}
use Rattle.gix_object_lookup.specs.Table.{Table}
use Rattle.gix_object_find.specs.Values.{StandsAs}
use Rattle.gix_object_lookup.specs.declared.find.Error as looking_up
use Rattle.gix_object_lookup.specs.declared.find.Error.TheVariants as looked_up
use Rattle.gix_object_lookup.specs.declared.find.existing_iter.Error as existing
use Rattle.gix_object_lookup.specs.declared.find.existing_iter.Error.TheVariants as not_given
use Rattle.gix_object_nodes.specs.Files.{named}
use Rattle.history_model.specs.Bytes.{Bytes}
use Rattle.history_model.specs.FileMap.{FileMap, Content, IsFileMap}
use Rattle.history_model.specs.Objects.{mode_of, folder_id, blob_id}
use Rattle.history_model.specs.Replies.{FileLine}
use Rattle.gix_traverse_tree.specs.AtPaths.{Answer, EntriesFault}
use Rattle.gix_traverse_tree.specs.Calls.{Call}
use Rattle.gix_traverse_tree.specs.Depth.{InDepth, before}
use Rattle.gix_traverse_tree.specs.Recorder.{Recorded}
use Rattle.gix_traverse_tree.specs.Trees.{failed}
use Rattle.gix_traverse_tree.specs.declared.error.Error as walking
use Rattle.gix_traverse_tree.specs.declared.error.Error.TheVariants as walked
use Rattle.gix_hash.specs.declared.object_id.ObjectId.{ObjectId}
use Rattle.history_model.specs.declared.FileKind.TheVariants.{File as PlainFile, Exec, Link}
use Rattle.history_files.specs.Unfolding.{HasTrees}
use Rattle.history_files.specs.declared.error.ReadError.{ReadError}
use Rattle.history_files.specs.declared.error.ReadError.TheVariants.{Failed, Broken, Memory}
use Rattle.history_files.specs.declared.listing.File as listing
use Rattle.history_files.specs.declared.found.Found.{Found}
use Rattle.history_files.specs.declared.found.Found.TheVariants.{File, Folder}

-- ---- errors

abbrev pub as_looked_up : looking_up.Error → ReadError
as_looked_up looked_up.Failed = Failed
as_looked_up looked_up.Memory = Memory

-- a content that isn't read; or memory ran out
abbrev pub unless_memory : decode.Error → ReadError → ReadError
unless_memory unread.FieldName error = error
unless_memory unread.HexDigits error = error
unless_memory unread.LineEnd error = error
unless_memory unread.InvalidActor error = error
unless_memory unread.InvalidTime error = error
unless_memory unread.Memory error = Memory

abbrev pub as_read : existing.Error → ReadError
as_read (not_given.Find error) = as_looked_up error
as_read (not_given.NotFound oid) = Broken oid
as_read (not_given.ObjectKind oid actual expected) = Broken oid

-- there is no readable tree under the id
abbrev pub HasNoTree : Table → Id → Type 0
HasNoTree table id = (items : List Item) → StandsAs table id objects.Tree (Tree items) → ⊥

-- the tree whose id an error has can't be read, if the store is honest
abbrev pub TellsUnread : Type 0 → Table → ReadError → Type 0
TellsUnread honest table Failed = ⊤
TellsUnread honest table (Broken oid) = honest → HasNoTree table (id_of oid)
TellsUnread honest table Memory = ⊤

-- why the tree under an id isn't read
abbrev pub TreeFault : Type 0 → Type 0 → Table → Id → ReadError → Type 0
TreeFault honest may_fail table id Failed = may_fail
TreeFault honest may_fail table id (Broken oid) = (id_of oid ≡ id) × (honest → HasNoTree table id)
TreeFault honest may_fail table id Memory = ⊤

-- the root's tree and those below it are in the table, and it is the root of these files
pub record IsRootOf (table : Table) (kind : Kind) (files : FileMap) (root : Id) : Type 0 where
  pub map : IsFileMap files
  pub trees : HasTrees table kind files
  pub id : root ≡ folder_id kind files

-- it holds of each file map with this root, if the store is honest
abbrev pub OfFiles : Type 0 → Table → Id → (Kind → FileMap → Type 0) → Type 0
OfFiles honest table root P =
    honest → (kind : Kind) (files : FileMap) → IsRootOf table kind files root → P kind files

-- a store that has the trees fails only if a lookup fails or memory runs out
abbrev pub OwnFault : Type 0 → ReadError → Type 0
OwnFault may_fail Failed = may_fail
OwnFault may_fail (Broken oid) = ⊥
OwnFault may_fail Memory = ⊤

-- ---- what is at a path

-- the mode and the id of what was found
abbrev pub entry_of : Found → Bytes × Id
entry_of (File kind id) = (mode_of kind, id_of id)
entry_of (Folder id) = (codes "40000", id_of id)

-- what an entry of this kind names: a submodule is neither a file nor a folder
abbrev pub named_as : EntryKind → Id → Option (Bytes × Id)
named_as entries.Tree id = Some (codes "40000", id)
named_as entries.Blob id = Some (mode_of PlainFile, id)
named_as entries.BlobExecutable id = Some (mode_of Exec, id)
named_as entries.Link id = Some (mode_of Link, id)
named_as entries.Commit id = None

abbrev pub named_by : Item → Option (Bytes × Id)
named_by item = named_as (kind_of item.mode.value) item.id

-- what the entry names, if one was returned
abbrev pub told_entry : Option Answer → Option (Bytes × Id)
told_entry answer =
    option_and_then (λ (a : Answer). named_as (kind_of a.0.value) (id_of a.1)) answer

-- from what was found to what has a name in it: nothing in a file, and in a folder what its tree's
-- entry names
abbrev pub StepsBelow : Table → Found → Bytes → Option Found → Type 0
StepsBelow table (File kind id) name next = next ≡ None
StepsBelow table (Folder id) name next =
    (items : List Item) → StandsAs table (id_of id) objects.Tree (Tree items)
    → option_map entry_of next ≡ option_and_then named_by (named name items)

-- ---- all files below a root

-- the line of a file
abbrev pub line_of : listing.File → FileLine
line_of file = record { kind = file.kind; id = id_of file.id; path = file.path.items }

-- the line of the file that an entry names; none for any other entry
abbrev pub line_named : EntryKind → Id → Bytes → Option FileLine
line_named entries.Tree id path = None
line_named entries.Blob id path = Some (record { kind = PlainFile; id = id; path = path })
line_named entries.BlobExecutable id path = Some (record { kind = Exec; id = id; path = path })
line_named entries.Link id path = Some (record { kind = Link; id = id; path = path })
line_named entries.Commit id path = None

abbrev pub line_recorded : Recorded → Option FileLine
line_recorded entry = line_named (kind_of entry.mode.value) entry.id entry.path

-- why a walk from this root ended early
abbrev pub as_walked : ObjectId → walking.Error → ReadError
as_walked root (walked.Find error) = as_read error
as_walked root walked.Cancelled = Broken root
as_walked root (walked.ObjectDecode error) = Broken root
as_walked root walked.Cycle = Broken root
as_walked root walked.Memory = Memory

-- Why files aren't listed: the walk in depth order from the root ends at a tree that is missing or
-- is below itself, or in one of which an entry can't be read; or memory ran out.
abbrev pub StopsBelow : Type 0 → Type 0 → Table → ObjectId → ReadError → Type 0
StopsBelow honest may_fail table root error = (error ≡ Memory)
    ⊎ ((calls : List Call) × (cause : walking.Error) × (error ≡ as_walked root cause)
    × InDepth honest may_fail table [] (before (id_of root)) calls (failed cause))

-- Why what is at some paths isn't returned: a tree on the way of one is missing, or has an entry
-- that can't be read; or memory ran out.
abbrev pub StopsAtPaths : Type 0 → Type 0 → Table → ObjectId → List (List Bytes) → ReadError
    → Type 0
StopsAtPaths honest may_fail table root paths error = (error ≡ Memory)
    ⊎ ((cause : walking.Error) × (error ≡ as_walked root cause)
    × EntriesFault honest may_fail table (id_of root) paths cause)

-- there is no readable and well-formed tree under the id
abbrev pub HasNoGoodTree : Table → Id → Type 0
HasNoGoodTree table id =
    (items : List Item) → StandsAs table id objects.Tree (Tree items) → IsWellFormed items → ⊥

-- why the tree under a root's id isn't opened for edits
abbrev pub RootFault : Type 0 → Type 0 → Table → Id → ReadError → Type 0
RootFault honest may_fail table id Failed = may_fail
RootFault honest may_fail table id (Broken oid) =
    (id_of oid ≡ id) × (honest → HasNoGoodTree table id)
RootFault honest may_fail table id Memory = ⊤
