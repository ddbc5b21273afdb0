-- What a change of names by a transaction wants.
use Rattle.std.specs.Prelude.{◌≡◌, ◌≢◌, ◌⊎◌, ⊤, List, [], ◌∷◌, ◌++◌, Option, Some, None, decimal, IsTrue, false}
use Rattle.std.specs.List.{AllByRecursion}
use Rattle.gix_hash.specs.Id.{Id, null_id}
use Rattle.gix_object_lines.specs.declared.lines.actor.ActorRef.{ActorRef}
use Rattle.gix_ref_edit.specs.declared.change.Change.{Change}
use Rattle.gix_ref_edit.specs.declared.change.Change.TheVariants.{Update, Delete}
use Rattle.gix_ref_edit.specs.declared.change.PreviousValue.{PreviousValue}
use Rattle.gix_ref_edit.specs.declared.change.PreviousValue.TheVariants.{MustNotExist}
use Rattle.gix_ref_edit.specs.declared.change.RefEdit.{RefEdit}
use Rattle.gix_hash.specs.declared.kind.Kind.{Kind}
use Rattle.gix_ref_file.specs.History.{History}
use Rattle.gix_ref_file.specs.Tree.{Tree}
use Rattle.gix_ref_format.specs.Packed.{packed_records}
use Rattle.history_layout.specs.EditSteps.{EditsMade}
use Rattle.history_model.specs.Places.{file_at, packed_place}
use Rattle.history_model.specs.Bytes.{Bytes}
use Rattle.history_model.specs.Forms.{is_name}
use Rattle.history_model.specs.Repository.{Repository, id_at}
use Rattle.history_layout.specs.TreeHalves.{HoldsNames}
use Rattle.history_layout.specs.EditFits.{CanBeEdited}
use Rattle.history_texts.specs.Formats.{entry_of}
use Rattle.history_edits.specs.Bridges.{Commits}
use Rattle.history_edits.specs.EditChanges.{AreAsked}
use Rattle.history_edits.specs.EditFaults.{AllTest, AreApart, Expects}
use Rattle.history_edits.specs.EditPlans.{AsksDeletion, AsksMove}
use Rattle.history_store.specs.Packing.{KeepsRecords, kept_hit}
use Rattle.history_store.specs.declared.changing.MovedName.{MovedName}
use Rattle.history_store.specs.declared.names.Names.{Names}
use Rattle.history_layout.specs.EditSteps as edits

-- a name that moves, as steps have it
abbrev pub moved_in : MovedName → edits.MovedName
moved_in m = record { name = m.name.items; entry = entry_of m.entry }

-- The files are honest and hold the names of this repository, of which none is below another and none
-- holds the null id, and the records that are kept are those of its `packed-refs`.
pub record HoldNamesOf {F : Type 0} (IsHonest : F → Type 0) (history : F → History)
    (names : Names F) (r : Repository) : Type 0 where
  pub honest : IsHonest names.store.files
  pub holds : HoldsNames (history names.store.files).tree r
  pub apart : AreApart r
  pub set : (name : Bytes) → id_at r name ≢ Some (null_id r.kind)
  pub kind : names.kind ≡ r.kind
  pub records : KeepsRecords names (history names.store.files).tree

-- all entries have one actor
abbrev pub HaveOneActor : List edits.MovedName → Type 0
HaveOneActor [] = ⊤
HaveOneActor (m ∷ moved) = AllByRecursion (λ other. other.entry.actor ≡ m.entry.actor) moved

-- They do, and these names can be moved by one actor, and that one removed.
pub record MayChange {F : Type 0} (IsHonest : F → Type 0) (history : F → History)
    (names : Names F) (r : Repository) (moved : List edits.MovedName) (taken : Option Bytes)
    : Type 0 where
  pub whole : HoldNamesOf IsHonest history names r
  pub fit : CanBeEdited r moved taken
  pub one_actor : HaveOneActor moved

-- They do, HEAD names the one branch, and it can name the other.
pub record MaySwitch {F : Type 0} (IsHonest : F → Type 0) (history : F → History)
    (names : Names F) (r : Repository) (from to : Bytes) : Type 0 where
  pub whole : HoldNamesOf IsHonest history names r
  pub branch : r.branch ≡ from
  pub named : IsTrue (is_name from)
  pub names_to : IsTrue (is_name to)

-- ---- the edits

-- the name of one that moves
abbrev pub moved_text : MovedName → Bytes
moved_text m = m.name.items

-- of a name that is moved from this id: that it doesn't exist, if the id is null, and otherwise that
-- it has the id
abbrev pub ExpectsId : Id → PreviousValue → Type 0
ExpectsId id expected =
    ((id ≡ null_id id.kind) × (expected ≡ MustNotExist))
    ⊎ ((id ≢ null_id id.kind) × Expects (Some id) expected)

abbrev pub ExpectsBefore : edits.MovedName → Change → Type 0
ExpectsBefore m (Update log expected new) = ExpectsId m.entry.before expected
ExpectsBefore m (Delete expected log) = ⊥

-- The edit moves the name if it is as its entry says. It doesn't follow symbolic references.
pub record AsksAs (m : edits.MovedName) (edit : RefEdit) : Type 0 where
  pub move : AsksMove m edit
  pub expects : ExpectsBefore m edit.change
  pub plain : edit.deref ≡ false

-- no edit follows symbolic references
abbrev pub AreUnsplit : List RefEdit → Type 0
AreUnsplit asked = AllByRecursion (λ edit. edit.deref ≡ false) asked

-- The edit deletes the name.
pub record AsksToDelete (name : Bytes) (edit : RefEdit) : Type 0 where
  pub deletes : AsksDeletion name edit
  pub plain : edit.deref ≡ false

-- ---- who makes it

-- the text spells the time of the first entry
abbrev pub SpellsTimeOf : List edits.MovedName → Bytes → Type 0
SpellsTimeOf [] text = ⊤
SpellsTimeOf (m ∷ moved) text =
    text ≡ decimal m.entry.actor.seconds ++ 32 ∷ m.entry.actor.offset

-- this is who makes the first entry, or there is none
abbrev pub IsCommitter : List edits.MovedName → Option ActorRef → Type 0
IsCommitter [] who = who ≡ None
IsCommitter (m ∷ moved) None = ⊥
IsCommitter (m ∷ moved) (Some who) = Commits m.entry.actor who

-- ---- one transaction

-- The same, and these are the edits that make the change, which test what the names hold.
pub record AsksChange {F : Type 0} (IsHonest : F → Type 0) (history : F → History)
    (names : Names F) (r : Repository) (moved : List edits.MovedName) (taken : Option Bytes)
    (committer : Option ActorRef) (asked : List RefEdit) : Type 0 where
  pub may : MayChange IsHonest history names r moved taken
  pub edits : AreAsked r committer moved taken asked
  pub tests : AllTest r asked

-- the file of records is as before if the deleted name has none
abbrev pub RecordsStay : {F : Type 0} → Names F → Option Bytes → Tree → Tree → Type 0
RecordsStay names None old new = ⊤
RecordsStay names (Some name) old new =
    kept_hit names.packed name ≡ None → file_at new packed_place ≡ file_at old packed_place

-- The change is made.
pub record MakesChange {F : Type 0} (names : Names F) (moved : List edits.MovedName)
    (taken : Option Bytes) (old new : Tree) : Type 0 where
  pub made : EditsMade names.kind moved taken old new
  pub stay : RecordsStay names taken old new

-- `packed-refs` is read, if it exists
abbrev pub IsReadable : Kind → Tree → Type 0
IsReadable kind tree =
    (text : Bytes) → file_at tree packed_place ≡ Some text → packed_records kind text ≢ None
