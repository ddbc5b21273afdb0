-- What edits make of packed records (git-pack-refs; gitrepository-layout, "packed-refs"): the
-- records of what is removed are removed, and those of updates to objects are added if updates are
-- packed. Names that each worktree has of its own have no record.
use Rattle.std.specs.Prelude.{◌≡◌, ◌≢◌, ◌||◌, Bool, true, false, is_some, List, [], ◌∷◌, ◌++◌, Option, Some, None, option_map, IfSome}
use Rattle.std.specs.Borrow.{Bor}
use Rattle.std.specs.List.{list_any}
use Rattle.std.specs.Option.{option_to_list}
use Rattle.gix_hash.specs.Id.{Id}
use Rattle.gix_hash.specs.declared.kind.Kind.{Kind}
use Rattle.gix_object_lookup.specs.Table.{Table}
use Rattle.gix_object_lookup.specs.declared.traits.Lookup.{Ghosts as LookupGhosts}
use Rattle.gix_ref_file.specs.Tree.{Tree, node_at}
use Rattle.gix_ref_file.specs.declared.files.Files.{Ghosts}
use Rattle.gix_ref_name.specs.Targets.{Points, ToObject, ToName, target_view}
use Rattle.gix_ref_edit.specs.declared.change.Change.{Change}
use Rattle.gix_ref_edit.specs.declared.change.Change.TheVariants.{Update, Delete}
use Rattle.gix_ref_edit.specs.declared.change.RefEdit.{RefEdit}
use Rattle.gix_ref_edit.specs.declared.log.RefLog.{RefLog}
use Rattle.gix_ref_edit.specs.declared.log.RefLog.TheVariants.{AndReference, Only}
use Rattle.gix_ref_format.specs.Lookup.{packed_key, packed_hit}
use Rattle.gix_ref_format.specs.Packed.{Record}
use Rattle.gix_ref_format.specs.PackedBuffer.{KeepsFile}
use Rattle.gix_ref_format.specs.PackedKept.{kept}
use Rattle.gix_ref_format.specs.declared.packed.buffer.Buffer.{Buffer}
use Rattle.gix_ref_format.specs.Edited.{Line}
use Rattle.gix_ref_store.specs.Peels.{PeelsTo}
use Rattle.gix_ref_store.specs.Places.{Base, packed_place}
use Rattle.gix_ref_store.specs.RefStates.{packed_text_in, records_of}
use Rattle.gix_ref_store.specs.Stores.{base_of}
use Rattle.gix_ref_store.specs.declared.store.file.Store.{Store}
use Rattle.gix_ref_lock.specs.PackedEdits.{place_of, lock_path_of}
use Rattle.gix_ref_lock.specs.Records.{records_in, IsTextOf}
use Rattle.gix_ref_lock.specs.declared.packed.Transaction.{Transaction}
use Rattle.gix_ref_way.specs.Ways.{Bytes, file_at}
use Rattle.gix_ref_transaction.specs.Modes.{objects_in, packs_in}
use Rattle.gix_ref_transaction.specs.declared.repacking.packed_refs.PackedRefs.{PackedRefs}

-- what a record holds besides this id: nothing if the id is that of an object that is no tag, else
-- the id that tags lead to
abbrev pub TellsPeeled : Table → Id → Option Id → Type 0
TellsPeeled table id None = PeelsTo table id id
TellsPeeled table id (Some end) = PeelsTo table id end × (end ≢ id)

-- the record of an id is written under this name
abbrev pub WritesRecord : Table → Id → Bytes → Option Line → Type 0
WritesRecord table id key line =
    (peeled : Option Id) × TellsPeeled table id peeled
    × (line ≡ Some (record {
      name = key;
      says = Some (record { name = key; target = id; peeled = peeled });
    }))

-- the record of an update to an object is written with it, if updates are packed
abbrev pub UpdatesRecord : Option Table → RefLog → Points → Bytes → Option Line → Type 0
UpdatesRecord None log new key line = line ≡ None
UpdatesRecord (Some table) Only new key line = line ≡ None
UpdatesRecord (Some table) AndReference (ToObject id) key line = WritesRecord table id key line
UpdatesRecord (Some table) AndReference (ToName name) key line = line ≡ None

abbrev pub removal_line : RefLog → Bytes → Option Line
removal_line AndReference key = Some (record { name = key; says = None })
removal_line Only key = None

abbrev pub ChangesRecord : Option Table → Change → Bytes → Option Line → Type 0
ChangesRecord packs (Update log expected new) key line =
    UpdatesRecord packs log.mode (target_view new) key line
ChangesRecord packs (Delete expected log) key line = line ≡ removal_line log key

-- what an edit says of the record that its name may have
abbrev pub SaysByKey : Option Table → Change → Option Bytes → Option Line → Type 0
SaysByKey packs change None line = line ≡ None
SaysByKey packs change (Some key) line = ChangesRecord packs change key line

abbrev pub SaysOfRecord : Option Table → RefEdit → Option Line → Type 0
SaysOfRecord packs edit line = SaysByKey packs edit.change (packed_key edit.name) line

-- it is added after what was said before
abbrev pub AddsSaid : Option Table → RefEdit → List Line → List Line → Type 0
AddsSaid packs edit old new =
    (own : Option Line) × SaysOfRecord packs edit own × (new ≡ old ++ option_to_list own)

-- what all edits say, one after another
abbrev pub SayOfRecords : Option Table → List RefEdit → List Line → Type 0
SayOfRecords packs [] lines = lines ≡ []
SayOfRecords packs (edit ∷ edits) lines =
    (own : Option Line) × (rest : List Line) × SaysOfRecord packs edit own
    × SayOfRecords packs edits rest × (lines ≡ option_to_list own ++ rest)

-- whether a line changes these records: it adds one, or removes the one of a name that has one
abbrev pub changes_record : List Record → Line → Bool
changes_record records line = is_some line.says || is_some (packed_hit records line.name)

-- whether one of these lines does; of records that can't be read nothing is known, so they count as
-- changed
abbrev pub changes_records : Option (List Record) → List Line → Bool
changes_records None lines = true
changes_records (Some records) lines = list_any (changes_record records) lines

-- whether they change the records of this tree
abbrev pub changes_tree : Base → Tree → List Line → Bool
changes_tree b tree lines = changes_records (records_of b.kind (packed_text_in b tree)) lines

-- The lock of the records at this path is held, at whose path nothing was before, and it has the
-- text of the old tree's records under these lines.
pub record HoldsRecords (kind : Kind) (place : Bytes) (old new : Tree) (lines : List Line)
    (t : Transaction) : Type 0 where
  pub here : place_of t ≡ place
  pub free : node_at old (lock_path_of t) ≡ None
  pub written : t.is_written ≡ true
  pub keeps : KeepsFile kind (file_at old place) (option_map kept t.buffer)
  pub text : Bytes
  pub holds : file_at new (lock_path_of t) ≡ Some text
  pub told : IsTextOf kind (records_in t.buffer) lines text

-- these are the packed records of the tree, if its file can be read
abbrev pub KnowsRecords : Base → Tree → Option (Bor Buffer) → Type 0
KnowsRecords b tree records =
    KeepsFile b.kind (packed_text_in b tree) (option_map (λ buffer. kept buffer.now) records)

-- it is held if records change; otherwise no record does
abbrev pub HoldsIf : Base → Tree → Tree → List Line → Option Transaction → Type 0
HoldsIf b old new lines None = changes_tree b old lines ≡ false
HoldsIf b old new lines (Some t) =
    (changes_tree b old lines ≡ true)
    × HoldsRecords b.kind (packed_place b) old new lines t

-- packed records are changed as the edits say
abbrev pub AreRepacked : Base → Option Table → Tree → Tree → List RefEdit → Option Transaction
    → Type 0
AreRepacked b packs old new edits t =
    (lines : List Line) × SayOfRecords packs edits lines × HoldsIf b old new lines t

-- The same of a store that was in these files, with the records that are known of it.
abbrev pub Repacks : {F O : Type 0} → Ghosts F → LookupGhosts O → PackedRefs O → Store F
    → Option (Bor Buffer) → Store F → List RefEdit → Option Transaction → Type 0
Repacks files objects mode old records new edits t =
    let b = base_of old in let tree = (files.history old.files).tree in
    files.is_honest old.files → IfSome (objects_in mode) objects.is_honest
    → KnowsRecords b tree records
    → AreRepacked b (packs_in objects mode) tree (files.history new.files).tree edits t
