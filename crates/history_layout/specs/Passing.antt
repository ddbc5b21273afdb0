-- What the two parts pass through while a command is acted on: each tree, once recovered.
use Rattle.std.specs.Prelude.{◌≡◌, ◌≢◌, ◌⊎◌, ◌≤◌, not, ◌||◌, bytes_eq, List, [], ◌∷◌, ◌++◌, map, Option, Some, None, unwrap_or, MatchOption, Contains, IsTrue, IsFalse}
use Rattle.std.specs.List.{flat_map}
use Rattle.std.specs.FinMap.{get}
use Rattle.gix_ref_file.specs.Tree.{Tree, folder}
use Rattle.history_model.specs.Bytes.{Bytes}
use Rattle.history_model.specs.FileMap.{FileMap, folders_of, is_below}
use Rattle.history_model.specs.Objects.{Value, StoredCommit, StoredFolder, value_text, id_of}
use Rattle.history_model.specs.Repository.{Repository, IsWholeStore, id_at, moves_at, stands, Values, HaveOwnIds}
use Rattle.gix_hash.specs.Id.{Id}
use Rattle.history_model.specs.NameStates.{NameState, Holds, Absent, is_absent, name_state}
use Rattle.history_model.specs.PackedNames.{packed_file, PackedAgrees}
use Rattle.history_model.specs.Commands.{Command, CommitCommand, Commit, Rename, Tag, TagCommand}
use Rattle.history_model.specs.Meaning.{References, after, edits_of, is_taken, new_commit, put_bytes, some_taken, store_all, stored_by, takes_id}
use Rattle.history_model.specs.Causes.{first_cause}
use Rattle.history_model.specs.Logs.{log_text, whole_lines}
use Rattle.history_model.specs.Places.{Pair, file_at, head_place, is_log_place, object_place, unfinished_place, is_object_folder, packed_place, log_place, is_name_folder, is_lock_file}
use Rattle.history_model.specs.StandsFor.{StandsFor, head_text}
use Rattle.history_layout.specs.TreeHalves.{HoldsValues, HoldsNames}
use Rattle.history_layout.specs.TreeSteps.{HasText}
use Rattle.history_model.specs.Recovery.{recovered_objects, recovered_names}
use Rattle.history_model.specs.Stops.{NameBetween, IsNotLost, deletes, is_changing}
use Rattle.gix_ref_file.specs.History.{History, moment}
use Rattle.history_model.specs.Replies.{Reply}
use Rattle.history_model.specs.Steps.{some_failed}
use Rattle.history_model.specs.Moments.{GoesOnFrom, LeavesStopped, Moment, ActsOn, last_moment}
use Rattle.history_model.specs.laws.Wholeness.{IsSound}
use Rattle.gix_hash.specs.declared.kind.Kind.{Kind}

-- ---- values

-- The tree, once recovered, holds the values of before and the first of those to be stored, none of
-- which has a taken id.
pub record HoldsFirst (kind : Kind) (values : Values) (more : List Value)
    (tree : Tree) : Type 0 where
  pub first : List Value
  pub rest : List Value
  pub split : more ≡ first ++ rest
  pub free : IsFalse (some_taken kind values first)
  pub holds : HoldsValues kind (recovered_objects tree) (store_all kind values first)

-- The tree while a value is put: the file at its place is as before or has the value's text, and
-- each other file but the unfinished one is as before.
pub record MayPut (kind : Kind) (value : Value) (old tree : Tree) : Type 0 where
  pub here :
      (file_at tree (object_place (id_of kind value))
      ≡ file_at old (object_place (id_of kind value)))
      ⊎ (file_at tree (object_place (id_of kind value)) ≡ Some (value_text kind value))
  pub others : (path : Bytes) → path ≢ unfinished_place → path ≢ object_place (id_of kind value)
      → file_at tree path ≡ file_at old path
  pub folders : (path : Bytes) → get tree path ≡ Some folder → IsTrue (is_object_folder path)

-- So a value whose id isn't taken is stored, or not yet.
abbrev pub PutsPass : Type 0
PutsPass =
    (kind : Kind) (old tree : Tree) (values : Values) (value : Value) → HaveOwnIds kind values
    → HoldsValues kind old values
    → IsFalse (is_taken kind values value) → MayPut kind value old tree
    → HoldsFirst kind values (value ∷ []) tree

-- Each beginning of the values that takes no id leaves a whole store: what a value names comes
-- before it.
abbrev pub StoresWhole : Repository → List Value → Type 0
StoresWhole r more =
    (first rest : List Value) → more ≡ first ++ rest → IsFalse (some_taken r.kind r.objects first)
    → IsWholeStore (record r { objects = store_all r.kind r.objects first })

-- Each folder in a folder of these comes before it, or its text is stored: the folders come
-- children first.
abbrev pub AreChildrenFirst : Repository → List FileMap → Type 0
AreChildrenFirst r folders =
    (before after : List FileMap) (folder inner : FileMap) → folders ≡ before ++ folder ∷ after
    → Contains (folders_of folder) inner
    → Contains (before ++ folder ∷ []) inner ⊎ HasText r.kind r.objects (StoredFolder inner)

-- These are folders of the files, children first, and the text of each other one is stored.
pub record AreNewFolders (r : Repository) (files : FileMap) (folders : List FileMap) : Type 0 where
  pub among : (folder : FileMap) → Contains folders folder → Contains (folders_of files) folder
  pub all : (folder : FileMap) → Contains (folders_of files) folder
      → Contains folders folder ⊎ HasText r.kind r.objects (StoredFolder folder)
  pub in_order : AreChildrenFirst r folders

-- the bytes of each `put`, these folders, and the commit
abbrev pub commit_puts : Repository → CommitCommand → List FileMap → List Value
commit_puts r c folders =
    flat_map put_bytes (edits_of r c) ++ map StoredFolder folders
    ++ StoredCommit (new_commit r c) ∷ []

-- So a commit stores its values in such an order.
abbrev pub CommitsStoreWhole : Type 0
CommitsStoreWhole =
    (r : Repository) (c : CommitCommand) (folders : List FileMap) → IsSound r
    → first_cause r (Commit c) ≡ None
    → AreNewFolders r (new_commit r c).files folders → StoresWhole r (commit_puts r c folders)

-- So does a tag, whose commit is stored already.
abbrev pub TagsStoreWhole : Type 0
TagsStoreWhole =
    (r : Repository) (c : TagCommand) → IsSound r → first_cause r (Tag c) ≡ None
    → StoresWhole r (stored_by r (Tag c))

-- A stop while a command's values are stored, before its first name moves.
abbrev pub StoringStops : Type 0
StoringStops =
    (old : Repository) (command : Command) (pair : Pair) → IsSound old
    → IsTrue (is_changing command) → first_cause old command ≡ None
    → StoresWhole old (stored_by old command)
    → HoldsFirst old.kind old.objects (stored_by old command) pair.objects
    → HoldsNames (recovered_names old.kind pair.names) old → LeavesStopped old command pair

-- ---- names

-- what the command stores, with these names and this branch
abbrev pub passing : Repository → Command → References → Bytes → Repository
passing old command names branch = record (after old command) { names = names; branch = branch }

-- The tree, once recovered, holds names and a branch that are each as before the command or as
-- after it.
pub record HoldsBetween (old : Repository) (command : Command) (tree : Tree) : Type 0 where
  pub names : References
  pub branch : Bytes
  pub holds : HoldsNames (recovered_names old.kind tree) (passing old command names branch)
  pub each : (name : Bytes)
      → NameBetween old (after old command) (passing old command names branch)
      (deletes command name) name
  pub apart : (a b : Bytes) → IsTrue (stands (passing old command names branch) a)
      → IsTrue (stands (passing old command names branch) b) → IsFalse (is_below a b)
  pub branch_is : (branch ≡ old.branch) ⊎ (branch ≡ (after old command).branch)
  pub not_lost : IsNotLost old command (passing old command names branch)

-- A stop while names move, once all values are stored.
abbrev pub MovingStops : Type 0
MovingStops =
    (old : Repository) (command : Command) (pair : Pair) → IsSound old
    → IsTrue (is_changing command) → first_cause old command ≡ None
    → IsFalse (takes_id old command)
    → HoldsValues old.kind (recovered_objects pair.objects) (after old command).objects
    → HoldsBetween old command pair.names → LeavesStopped old command pair

-- ---- moments

-- The moment is within these histories.
abbrev pub IsWithin : History → History → Moment → Type 0
IsWithin objects names at = (at.objects ≤ moment objects) × (at.names ≤ moment names)

-- What commands did to the files remains true when the files go on.
abbrev pub ActsLater : Type 0 → Type 0
ActsLater MayFail =
    (objects names later_objects later_names : History) (old : Repository) (begin : Moment)
    (commands : List Command) (replies : List Reply) (moments : List Moment) (new : Repository)
    → GoesOnFrom objects later_objects → GoesOnFrom names later_names
    → IsWithin objects names (last_moment begin moments)
    → ActsOn objects names MayFail old begin commands replies moments new
    → ActsOn later_objects later_names MayFail old begin commands replies moments new

-- Commands after others, none of which failed, are one sequence of commands.
abbrev pub ActsThen : Type 0 → Type 0
ActsThen MayFail =
    (objects names : History) (old : Repository) (begin : Moment) (commands : List Command)
    (replies : List Reply) (moments : List Moment) (mid : Repository)
    (more : List Command) (others : List Reply) (behind : List Moment) (new : Repository)
    → IsFalse (some_failed commands replies)
    → ActsOn objects names MayFail old begin commands replies moments mid
    → ActsOn objects names MayFail mid (last_moment begin moments) more others behind new
    → ActsOn objects names MayFail old begin (commands ++ more) (replies ++ others)
    (moments ++ behind) new

-- ---- in any order

-- The tree, once recovered, holds the values of before and some of those to be stored, in any
-- order, and what is then stored is whole.
pub record HoldsSome (r : Repository) (more : List Value) (tree : Tree) : Type 0 where
  pub some : List Value
  pub among : (value : Value) → Contains some value → Contains more value
  pub whole : IsWholeStore (record r { objects = store_all r.kind r.objects some })
  pub holds : HoldsValues r.kind (recovered_objects tree) (store_all r.kind r.objects some)

-- A stop at such a tree leaves what a stop in the command may leave.
abbrev pub SomeStops : Type 0
SomeStops =
    (old : Repository) (command : Command) (pair : Pair) → IsSound old
    → IsTrue (is_changing command) → first_cause old command ≡ None
    → HoldsSome old (stored_by old command) pair.objects
    → HoldsNames (recovered_names old.kind pair.names) old → LeavesStopped old command pair

-- The first of values, of which each beginning leaves a whole store, are some of them.
abbrev pub FirstAreSome : Type 0
FirstAreSome =
    (r : Repository) (more : List Value) (tree : Tree) → StoresWhole r more
    → HoldsFirst r.kind r.objects more tree → HoldsSome r more tree

-- ---- several names

-- what a name that holds this id reads as, or one that doesn't exist
abbrev pub reads_as : Option Id → NameState
reads_as (Some id) = Holds id
reads_as None = Absent

-- the whole lines of a name's log
abbrev pub log_in : Tree → Bytes → Bytes
log_in tree name = whole_lines (unwrap_or (file_at tree (log_place name)) [])

-- a rename leaves the id at the old name or at the new one
abbrev pub ReadsKept : Repository → Command → Tree → Type 0
ReadsKept old (Rename from to) tree =
    (name_state old.kind tree from ≡ reads_as (id_at old from))
    ⊎ (name_state old.kind tree to ≡ reads_as (id_at old from))
ReadsKept old _ tree = Unit {0}

-- What the files show while a command is acted on, by the states of names: each name is as before
-- or as after, and of one that exists the log too; besides there are only logs and lock files. The
-- log of a name that reads as absent may be anything.
pub record NamesOnTheWay (old : Repository) (command : Command) (tree : Tree) : Type 0 where
  pub head : (file_at tree head_place ≡ Some (head_text old.branch))
      ⊎ (file_at tree head_place ≡ Some (head_text (after old command).branch))
  pub reads : (name : Bytes)
      → (name_state old.kind tree name ≡ reads_as (id_at old name))
      ⊎ (name_state old.kind tree name ≡ reads_as (id_at (after old command) name))
  pub logs : (name : Bytes) → IsFalse (is_absent (name_state old.kind tree name))
      → (log_in tree name ≡ log_text (moves_at old name))
      ⊎ (log_in tree name ≡ log_text (moves_at (after old command) name))
      ⊎ (IsTrue (deletes command name) × (log_in tree name ≡ []))
  -- if an existing name has moved, its log says so
  pub log_first : (name : Bytes) → IsFalse (is_absent (name_state old.kind tree name))
      → (name_state old.kind tree name ≡ reads_as (id_at old name))
      ⊎ (log_in tree name ≡ log_text (moves_at (after old command) name))
  pub packed : (text : Bytes) → file_at tree packed_place ≡ Some text
      → MatchOption (packed_file old.kind text) ⊥ (PackedAgrees (after old command))
  pub places : (path text : Bytes) → file_at tree path ≡ Some text
      → IsTrue
      (bytes_eq path head_place || bytes_eq path packed_place || is_lock_file path
      || is_log_place path || not (is_absent (name_state old.kind tree path)))
  pub folders : (path : Bytes) → get tree path ≡ Some folder → IsTrue (is_name_folder path)
  pub not_lost : ReadsKept old command tree

-- Such files, once recovered, hold names and a branch that are each as before the command or as
-- after it.
abbrev pub NamesPass : Type 0
NamesPass =
    (old : Repository) (command : Command) (tree : Tree) → IsSound old
    → first_cause old command ≡ None → NamesOnTheWay old command tree
    → HoldsBetween old command tree

-- Files that represent the repository are at the beginning of that way.
abbrev pub NamesBegin : Type 0
NamesBegin =
    (old : Repository) (command : Command) (pair : Pair) → StandsFor old.kind pair old
    → NamesOnTheWay old command pair.names
