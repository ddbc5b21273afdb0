-- The edits of a pack, what is made of them, and the moments of its commit.
use Rattle.std.specs.Prelude.{◌≡◌, ◌⊎◌, List, [], ◌∷◌, map, bytes_eq, Option, Some, None, option_map, unwrap_or, if◌then◌else◌, IsTrue, IsFalse, false, true}
use Rattle.std.specs.List.{AllByRecursion, AllZip, list_any}
use Rattle.std.specs.FinMap.{get}
use Rattle.gix_hash.specs.Id.{Id}
use Rattle.gix_object_lines.specs.declared.lines.actor.ActorRef.{ActorRef}
use Rattle.gix_object_lookup.specs.Table.{Table}
use Rattle.gix_ref_file.specs.History.{Adds, History}
use Rattle.gix_ref_file.specs.Tree.{Tree}
use Rattle.gix_ref_edit.specs.declared.change.RefEdit.{RefEdit}
use Rattle.gix_ref_format.specs.Lookup.{packed_hit}
use Rattle.gix_ref_format.specs.Packed.{Record}
use Rattle.gix_ref_format.specs.PackedBuffer.{KeepsFile, hit}
use Rattle.gix_ref_lock.specs.declared.packed.Transaction.{Transaction}
use Rattle.gix_ref_lock.specs.Committing.{IsCommitted, OnTheWay}
use Rattle.gix_ref_lock.specs.Contents.{place_of, log_path_of}
use Rattle.gix_ref_lock.specs.Moments.{SameButLocks}
use Rattle.gix_ref_lock.specs.Needs.{log_paths}
use Rattle.gix_ref_lock.specs.declared.act.Act.TheVariants.{Pack}
use Rattle.gix_ref_lock.specs.declared.act.Move.{Move}
use Rattle.gix_ref_store.specs.Peels.{IsLost}
use Rattle.gix_ref_store.specs.RefStates.{RefState}
use Rattle.gix_ref_transaction.specs.Causes.{GivenFault}
use Rattle.gix_ref_transaction.specs.Plans.{FoldersOfEdits}
use Rattle.gix_ref_transaction.specs.Repacking.{TellsPeeled}
use Rattle.gix_ref_transaction.specs.Rollback.{SameFilesBut, all_locks}
use Rattle.gix_ref_transaction.specs.declared.error.PrepareError.{PrepareError}
use Rattle.gix_ref_way.specs.Ways.{FoldersOnlyOf}
use Rattle.history_model.specs.Bytes.{Bytes, has_twice}
use Rattle.history_model.specs.Forms.{is_private}
use Rattle.history_model.specs.Meaning.{history_actor}
use Rattle.history_model.specs.Objects.{object_kind, content_of}
use Rattle.history_model.specs.Places.{file_at, log_place, packed_place}
use Rattle.history_model.specs.Repository.{Repository, id_at, is_tag, peeled, stands}
use Rattle.history_model.specs.laws.Wholeness.{IsSound}
use Rattle.history_layout.specs.EditFits.{CanBeEdited}
use Rattle.history_layout.specs.EditSteps.{MovedName}
use Rattle.history_layout.specs.PackSteps.{ArePacked, PacksAll, PacksNames, PacksOnTheWay, WritesAll, record_for}
use Rattle.history_layout.specs.TreeHalves.{HoldsNames}
use Rattle.history_edits.specs.Bridges.{records_end, root_base}
use Rattle.history_edits.specs.EditCommits.{HasNameFolders, IsOfRecords}
use Rattle.history_edits.specs.EditFaults.{IsExcused, Tests}
use Rattle.history_edits.specs.EditPlans.{AreEdits, AsksMove, IsPrepared, logging_of}

-- ---- what tags lead to

-- the table has the objects of the repository, and no others
abbrev pub IsTableOf : Repository → Table → Type 0
IsTableOf r table =
    (id : Id) → table id
    ≡ option_map
    (λ value. record { kind = object_kind value; content = content_of r.kind value })
    (get r.objects id)

-- Over this table the id of each name leads to what the repository says, and to that alone.
pub record PeelsAlike (r : Repository) (table : Table) : Type 0 where
  pub peels : (name : Bytes) (id : Id) → id_at r name ≡ Some id → (told : Option Id)
      → TellsPeeled table id told → told ≡ (if is_tag r id then peeled r id else None)
  pub found : (name : Bytes) (id : Id) → id_at r name ≡ Some id → (end : Id)
      → ¬ IsLost table id end

abbrev pub PeelsWhole : Type 0
PeelsWhole = (r : Repository) (table : Table) → IsSound r → IsTableOf r table → PeelsAlike r table

-- ---- the edits

abbrev pub record_name : Record → Bytes
record_name e = e.name

-- a name that is packed, as one that moves from its id to the same
abbrev pub still : Record → MovedName
still e = record {
  name = e.name;
  entry = record { before = e.target; after = e.target; actor = history_actor; message = [] };
}

-- The edit updates the name to the id that its record is to have, if it holds that.
pub record AsksPack (e : Record) (edit : RefEdit) : Type 0 where
  pub move : AsksMove (still e) edit
  pub tests : Tests (Some e.target) edit.change
  pub plain : edit.deref ≡ false

-- the name has no file of its own, and its record is this
abbrev pub IsPackedSo : Tree → List Record → Record → Type 0
IsPackedSo tree kept e = (file_at tree e.name ≡ None) × (packed_hit kept e.name ≡ Some e)

-- some of these are asked for, in their order, and the others are so
abbrev pub LeavesOut : (Record → Type 0) → List Record → List Record → Type 0
LeavesOut IsOut [] asked = asked ≡ []
LeavesOut IsOut (e ∷ wanted) asked = (IsOut e × LeavesOut IsOut wanted asked)
    ⊎ ((rest : List Record) × LeavesOut IsOut wanted rest × (asked ≡ e ∷ rest))

-- Each of these that isn't packed already has an edit.
pub record AsksToPack (tree : Tree) (kept wanted : List Record) (edits : List RefEdit)
    : Type 0 where
  pub asked : List Record
  pub left : LeavesOut (IsPackedSo tree kept) wanted asked
  pub asks : AllZip AsksPack asked edits

-- These are the records of all names, each once, and the edits are those of such as aren't packed.
pub record AsksAll (r : Repository) (tree : Tree) (kept : Option (List Record))
    (wanted : List Record) (edits : List RefEdit) : Type 0 where
  pub sound : IsSound r
  pub holds : HoldsNames tree r
  pub keeps : KeepsFile r.kind (file_at tree packed_place) kept
  pub each : (name : Bytes) → hit wanted name ≡ record_for r name
  pub once : IsFalse (has_twice bytes_eq (map record_name wanted))
  pub asks : AsksToPack tree (unwrap_or kept []) wanted edits

-- Such edits fit: their locks can be made, and there is room.
abbrev pub PacksFit : Type 0
PacksFit =
    (r : Repository) (tree : Tree) (kept : Option (List Record)) (wanted : List Record)
    (edits : List RefEdit) (all : AsksAll r tree kept wanted edits)
    → CanBeEdited r (map still all.asks.asked) None
    × AreEdits (map still all.asks.asked) None edits
    × AllByRecursion (λ edit. edit.deref ≡ false) edits

-- they aren't refused
abbrev pub PacksAreExcused : Type 0 → Type 0
PacksAreExcused may_fail =
    (r : Repository) (kept : Option (List Record)) (committer : Option ActorRef)
    (wanted : List Record) (edits : List RefEdit) (tree : Tree) (error : PrepareError)
    → AsksAll r tree kept wanted edits
    → GivenFault (logging_of r.kind kept committer tree) (root_base r.kind) false tree may_fail
    edits error
    → IsExcused may_fail error

-- ---- what is ready

-- The move removes the name's file, and its log gets no line.
pub record PacksName (name : Bytes) (made : Move) : Type 0 where
  pub act : made.act ≡ Pack None
  pub place : place_of made ≡ name
  pub log : log_path_of made ≡ log_place name

-- records that are locked are written anew, for a name that exists
abbrev pub WritesRecords : Repository → Tree → Tree → Option Transaction → Type 0
WritesRecords r old locked None = ArePacked r old
WritesRecords r old locked (Some t) =
    (name : Bytes) × IsTrue (stands r name) × WritesAll r (records_end old locked (Some t))

-- What is ready to be committed: of the tree before, at most locks have changed.
pub record IsPackReady (r : Repository) (names : List Bytes) (old locked : Tree)
    (t : Option Transaction) (moves : List Move) : Type 0 where
  pub holds : HoldsNames old r
  pub stood : AllByRecursion (λ name. IsTrue (stands r name)) names
  pub others : (name : Bytes) → IsTrue (stands r name) → IsFalse (list_any (bytes_eq name) names)
      → file_at old name ≡ None
  pub public : (name : Bytes) → IsTrue (stands r name) → IsFalse (is_private name)
  pub moves_are : AllZip PacksName names moves
  pub at_records : IsOfRecords t
  pub records : PacksAll r (records_end old locked t)
  pub written : WritesRecords r old locked t
  pub files : SameFilesBut (all_locks t moves) old locked

-- Once the edits are prepared, it is.
abbrev pub PackIsReady : Type 0
PackIsReady =
    (r : Repository) (table : Table) (kept : Option (List Record)) (committer : Option ActorRef)
    (wanted : List Record) (edits : List RefEdit) (old locked : Tree) (t : Option Transaction)
    (moves : List Move) → (all : AsksAll r old kept wanted edits) → PeelsAlike r table
    → IsPrepared r.kind kept committer true (Some table) edits old locked t moves
    → IsPackReady r (map record_name all.asks.asked) old locked t moves

-- ---- the moments

-- While the edits are prepared nothing is packed, and no folders come but those of names.
abbrev pub PackPrepares : Type 0
PackPrepares =
    (r : Repository) (read : Bytes → RefState) (kept : Option (List Record))
    (wanted : List Record) (edits : List RefEdit) (old mid : History)
    → AsksAll r old.tree kept wanted edits
    → Adds (SameButLocks old.tree) old mid
    → Adds (FoldersOfEdits read (root_base r.kind) edits old.tree) old mid
    → Adds (PacksOnTheWay r old.tree) old mid × HasNameFolders mid.tree

-- While they are committed the names are on the way.
abbrev pub PackCommits : Type 0
PackCommits =
    (r : Repository) (names : List Bytes) (old : Tree) (mid new : History)
    (t : Option Transaction) (moves : List Move) → IsPackReady r names old mid.tree t moves
    → HasNameFolders mid.tree → Adds (OnTheWay t moves mid.tree) mid new
    → Adds (FoldersOnlyOf (log_paths moves) mid.tree) mid new
    → Adds (PacksOnTheWay r old) mid new × HasNameFolders new.tree

-- After it all are packed.
abbrev pub PackIsMade : Type 0
PackIsMade =
    (r : Repository) (names : List Bytes) (old locked new : Tree) (t : Option Transaction)
    (moves : List Move) → IsPackReady r names old locked t moves → IsCommitted t moves locked new
    → HasNameFolders new → PacksNames r old new
