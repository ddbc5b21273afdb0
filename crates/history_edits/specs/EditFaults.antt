-- Edits of names that test what these hold are prepared and committed, unless a call of the files
-- fails or memory is wanting.
use Rattle.std.specs.Prelude.{◌≡◌, List, Option, Some, None, IsTrue, IsFalse, false}
use Rattle.std.specs.List.{AllByRecursion}
use Rattle.gix_hash.specs.Id.{Id}
use Rattle.gix_object_lines.specs.declared.lines.actor.ActorRef.{ActorRef}
use Rattle.gix_ref_file.specs.Tree.{Tree}
use Rattle.gix_ref_name.specs.Targets.{ToObject, target_view}
use Rattle.gix_ref_name.specs.declared.target.Target.{Target}
use Rattle.gix_ref_edit.specs.declared.change.Change.{Change}
use Rattle.gix_ref_edit.specs.declared.change.Change.TheVariants.{Update, Delete}
use Rattle.gix_ref_edit.specs.declared.change.PreviousValue.{PreviousValue}
use Rattle.gix_ref_edit.specs.declared.change.PreviousValue.TheVariants.{MustExistAndMatch, MustNotExist}
use Rattle.gix_ref_edit.specs.declared.change.RefEdit.{RefEdit}
use Rattle.gix_ref_edit.specs.declared.ext.PreProcessError.TheVariants.{Split}
use Rattle.gix_ref_edit.specs.declared.splits.SplitError.TheVariants as splitting
use Rattle.gix_ref_format.specs.Packed.{Record}
use Rattle.gix_ref_format.specs.PackedBuffer.{KeepsFile}
use Rattle.gix_ref_store.specs.declared.store.file.find.Error.TheVariants as find
use Rattle.gix_ref_transaction.specs.Causes.{GivenFault}
use Rattle.gix_ref_transaction.specs.Locking.{AreLockable, AreRecordsLockable, HaveRoom}
use Rattle.gix_ref_transaction.specs.declared.error.PrepareError.{PrepareError}
use Rattle.gix_ref_transaction.specs.declared.error.PrepareError.TheVariants.{PackedTransactionAcquire, PackedTransactionPrepare, PreprocessingFailed, Io, ReferenceDecode, Resolve, Memory}
use Rattle.history_model.specs.Bytes.{Bytes}
use Rattle.history_model.specs.FileMap.{is_below}
use Rattle.history_model.specs.Places.{file_at, packed_place}
use Rattle.history_model.specs.Repository.{Repository, id_at, stands}
use Rattle.history_layout.specs.EditFits.{CanBeEdited}
use Rattle.history_layout.specs.EditSteps.{MovedName}
use Rattle.history_layout.specs.TreeHalves.{HoldsNames}
use Rattle.history_edits.specs.Bridges.{root_base}
use Rattle.history_edits.specs.EditPlans.{AreEdits, IsLogged, logging_of}

-- ---- what edits test

-- the reference is expected to have this id, or not to exist if it has none
abbrev pub Expects : Option Id → PreviousValue → Type 0
Expects None expected = expected ≡ MustNotExist
Expects (Some id) expected =
    (stated : Target) × (expected ≡ MustExistAndMatch stated) × (target_view stated ≡ ToObject id)

abbrev pub Tests : Option Id → Change → Type 0
Tests held (Update log expected new) = Expects held expected
Tests held (Delete expected log) = Expects held expected

-- each edit tests that its name holds what it does
abbrev pub AllTest : Repository → List RefEdit → Type 0
AllTest r edits = AllByRecursion (λ edit. Tests (id_at r edit.name) edit.change) edits

-- ---- locks

-- no name is a folder of another
abbrev pub AreApart : Repository → Type 0
AreApart r = (a b : Bytes) → IsTrue (stands r a) → IsTrue (stands r b) → IsFalse (is_below a b)

-- The locks of such edits can be made.
abbrev pub EditsAreLockable : Type 0
EditsAreLockable =
    (r : Repository) (moved : List MovedName) (taken : Option Bytes) (asked : List RefEdit)
    (tree : Tree)
    → HoldsNames tree r → AreApart r → CanBeEdited r moved taken → AreEdits moved taken asked
    → AreLockable (root_base r.kind) tree asked

-- What is prepared of them has room.
abbrev pub EditsHaveRoom : Type 0
EditsHaveRoom =
    (r : Repository) (moved : List MovedName) (taken : Option Bytes) (asked : List RefEdit)
    (tree : Tree)
    → HoldsNames tree r → AreApart r → CanBeEdited r moved taken → AreEdits moved taken asked
    → HaveRoom (root_base r.kind) tree asked

-- The packed records can be locked, and read.
abbrev pub RecordsAreLockable : Type 0
RecordsAreLockable =
    (r : Repository) (tree : Tree) → HoldsNames tree r → AreRecordsLockable (root_base r.kind) tree

-- ---- errors

-- of these errors other clauses say when they come; `may_fail` says whether a reading may fail
abbrev pub IsExcused : Type 0 → PrepareError → Type 0
IsExcused may_fail Memory = Unit {0}
IsExcused may_fail Io = Unit {0}
IsExcused may_fail (PackedTransactionAcquire error) = Unit {0}
IsExcused may_fail (PackedTransactionPrepare error) = Unit {0}
IsExcused may_fail (Resolve error) = Unit {0}
IsExcused may_fail (ReferenceDecode find.ReadFileContents) = may_fail
IsExcused may_fail (PreprocessingFailed (Split splitting.Find)) = may_fail
IsExcused may_fail _ = ⊥

-- Over the names of a repository, edits that test what these hold aren't refused.
abbrev pub EditsAreExcused : Type 0 → Type 0
EditsAreExcused may_fail =
    (r : Repository) (kept : Option (List Record)) (committer : Option ActorRef)
    (moved : List MovedName) (taken : Option Bytes) (asked : List RefEdit) (tree : Tree)
    (error : PrepareError)
    → HoldsNames tree r → KeepsFile r.kind (file_at tree packed_place) kept → AreApart r
    → CanBeEdited r moved taken → AreEdits moved taken asked
    → AllByRecursion (λ edit. edit.deref ≡ false) asked → AllTest r asked
    → AllByRecursion (IsLogged r committer) moved
    → GivenFault (logging_of r.kind kept committer tree) (root_base r.kind) false tree may_fail
    asked error
    → IsExcused may_fail error
