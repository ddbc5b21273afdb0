-- Edits that test what a repository's names hold aren't refused.
use Rattle.std.proofs.Common.{◌≡◌, inl, inr, Bool, true, false, List, [], ◌∷◌, sym, ◌∙◌, ap, subst, Option, Some, None, bytes_eq}
use Rattle.std.specs.Prelude.{Contains}
use Rattle.std.specs.List.{AllByRecursion}
use Rattle.std.proofs.lemmas.Bool.{and_from}
use Rattle.gix_object_lines.specs.declared.lines.actor.ActorRef.{ActorRef}
use Rattle.gix_ref_file.specs.Tree.{Tree}
use Rattle.gix_ref_edit.specs.Names.{StandsTwice, names_of}
use Rattle.gix_ref_edit.specs.Splits.{behind}
use Rattle.gix_ref_edit.specs.declared.change.RefEdit.{RefEdit}
use Rattle.gix_ref_edit.specs.declared.ext.PreProcessError.TheVariants.{Split, Twice}
use Rattle.gix_ref_edit.specs.declared.names.TwiceError.TheVariants as twice
use Rattle.gix_ref_edit.specs.declared.splits.SplitError.TheVariants as splitting
use Rattle.gix_ref_format.specs.Packed.{Record}
use Rattle.gix_ref_store.specs.Places as store
use Rattle.gix_ref_store.specs.declared.store.file.find.Error.TheVariants as find
use Rattle.gix_ref_transaction.specs.Causes.{GivenFault, LockFault, ReadyFault}
use Rattle.gix_ref_transaction.specs.Found.{points_at}
use Rattle.gix_ref_transaction.specs.Locking.{AreLockable, are_known, is_known_change, is_known_edit, is_known_target}
use Rattle.gix_ref_transaction.specs.LogLines.{Logging, has_log}
use Rattle.gix_ref_transaction.specs.Paths as paths
use Rattle.gix_ref_transaction.specs.Plans.{AreSplit}
use Rattle.gix_ref_transaction.specs.declared.error.PrepareError.{PrepareError}
use Rattle.gix_ref_transaction.specs.declared.error.PrepareError.TheVariants as faults
use Rattle.history_model.specs.Bytes.{Bytes}
use Rattle.history_model.specs.Forms.{is_name}
use Rattle.history_model.specs.Repository.{Repository}
use Rattle.history_model.proofs.PlaceLemmas.{text_itself}
use Rattle.history_layout.specs.EditFits.{CanBeEdited}
use Rattle.history_layout.specs.EditSteps.{MovedName, edited_names}
use Rattle.history_layout.specs.TreeHalves.{HoldsNames}
use Rattle.history_edits.specs.Bridges.{root_base}
use Rattle.history_edits.specs.EditFaults.{AreApart, EditsAreExcused, IsExcused}
use Rattle.history_edits.specs.EditPlans.{AreEdits, AsksDeletion, AsksMove, logging_of}
use Rattle.history_edits.proofs.EditLocks.{edits_are_lockable, same_paths}
use Rattle.history_edits.proofs.EditNames.{each_of, names_are}
use Rattle.history_edits.proofs.EditTests.{IsFine, all_fine}
use Rattle.history_edits.proofs.EditsOnce.{all_of_each, none_twice}
use Rattle.history_edits.proofs.PathsApart.{paths_once}
use Rattle.history_edits.proofs.Unsplit.{no_hops, unsplit_stay}

clash : {A : Type 0} {b : Bool} → b ≡ true → b ≡ false → A
clash e f = absurd (go (sym e ∙ f))
  where
    go : true ≡ false → ⊥
    go e = cc

-- ---- names are known as they are

move_known : (m : MovedName) (edit : RefEdit) → AsksMove m edit → is_known_edit false edit ≡ true
move_known m edit asks = and_from (bytes_eq edit.name edit.name) (is_known_change false edit.change) (text_itself edit.name)
    (ap (is_known_change false) asks.change ∙ ap (λ new. is_known_target false new) asks.target)

deletion_known : (name : Bytes) (edit : RefEdit) → AsksDeletion name edit → is_known_edit false edit ≡ true
deletion_known name edit asks = and_from (bytes_eq edit.name edit.name) (is_known_change false edit.change) (text_itself edit.name) (ap (is_known_change false) asks.change)

all_known : (moved : List MovedName) (taken : Option Bytes) (asked : List RefEdit) → AreEdits moved taken asked → are_known false asked ≡ true
all_known [] None asked are = ap (are_known false) are
all_known [] (Some name) [] are = absurd are
all_known [] (Some name) (edit ∷ asked) are = and_from (is_known_edit false edit) (are_known false asked) (deletion_known name edit are.0) (ap (are_known false) are.1)
all_known (m ∷ moved) taken [] are = absurd are
all_known (m ∷ moved) taken (edit ∷ asked) are = and_from (is_known_edit false edit) (are_known false asked) (move_known m edit are.0) (all_known moved taken asked are.1)

-- ---- all edits

module _ (may_fail : Type 0) (r : Repository) (kept : Option (List Record)) (committer : Option ActorRef) (moved : List MovedName) (taken : Option Bytes) (asked : List RefEdit) (tree : Tree)
    (holds : HoldsNames tree r) (whole : AreApart r) (fits : CanBeEdited r moved taken) (are : AreEdits moved taken asked)
    (plain : AllByRecursion (λ (edit : RefEdit). edit.deref ≡ false) asked) (each : AllByRecursion (IsFine (logging_of r.kind kept committer tree)) asked) where
  abbrev l : Logging
  l = logging_of r.kind kept committer tree

  abbrev b : store.Base
  b = root_base r.kind

  stay : (edits : List RefEdit) → AreSplit l.read asked edits → edits ≡ asked
  stay edits split = unsplit_stay l.read asked edits plain split

  none_behind : behind (λ name. points_at (l.read name)) 4 asked ≡ []
  none_behind = ap (behind (λ name. points_at (l.read name)) 3) (no_hops (λ name. points_at (l.read name)) asked plain)

  never_twice : (edits : List RefEdit) (name : Bytes) → AreSplit l.read asked edits → StandsTwice (names_of edits) name → ⊥
  never_twice edits name split stood =
      none_twice (edited_names moved taken) fits.once name (subst (λ ns. StandsTwice ns name) (ap names_of (stay edits split) ∙ names_are moved taken asked are) stood)

  places_once : paths.has_twice (paths.edit_paths b asked) ≡ false
  places_once = ap paths.has_twice (same_paths r moved taken asked tree holds whole fits are) ∙ paths_once (edited_names moved taken) (all_of_each is_name (edited_names moved taken) fits.named) fits.once

  lockable : (edits : List RefEdit) → AreSplit l.read asked edits → AreLockable b tree edits
  lockable edits split = subst (AreLockable b tree) (sym (stay edits split)) (edits_are_lockable r moved taken asked tree holds whole fits are)

  fine : (edits : List RefEdit) (edit : RefEdit) → AreSplit l.read asked edits → Contains edits edit → IsFine l edit
  fine edits edit split among = each_of (IsFine l) asked each edit (subst (λ es. Contains es edit) (stay edits split) among)

  ready : (error : PrepareError) → ReadyFault l.read b false tree may_fail asked error → IsExcused may_fail error
  ready (faults.Packed error) fault = fault
  ready (faults.PackedTransactionAcquire error) fault = tt
  ready (faults.PackedTransactionPrepare error) fault = tt
  ready (faults.PreprocessingFailed (Split splitting.Find)) (edits, fault) = fault.1
  ready (faults.PreprocessingFailed (Split splitting.Memory)) fault = fault
  ready (faults.PreprocessingFailed (Split splitting.Cycle)) (edits, fault) = fault.1 tt none_behind
  ready (faults.PreprocessingFailed (Twice twice.Memory)) fault = fault
  ready (faults.PreprocessingFailed (Twice (twice.Name name))) (edits, fault) = never_twice edits name (fault.0 tt) fault.1.twice
  ready faults.SamePlace (edits, split, again) = clash again (ap (λ es. paths.has_twice (paths.edit_paths b es)) (stay edits split) ∙ places_once)
  ready faults.Uncomposed (edits, split, unknown) = clash (ap (are_known false) (stay edits split) ∙ all_known moved taken asked are) unknown
  ready faults.LockAcquire (edits, split, never) = never (lockable edits split)
  ready faults.Io fault = tt
  ready (faults.Refused why) fault = fault
  ready (faults.ReferenceDecode error) fault = absurd fault
  ready (faults.CreateOrUpdateRefLog error) fault = fault
  ready (faults.Resolve error) fault = tt
  ready faults.Memory fault = tt

  lock : (error : PrepareError) (edits : List RefEdit) → AreSplit l.read asked edits → LockFault l b tree may_fail edits error → IsExcused may_fail error
  lock (faults.Packed error) edits split fault = fault
  lock (faults.PackedTransactionAcquire error) edits split fault = tt
  lock (faults.PackedTransactionPrepare error) edits split fault = tt
  lock (faults.PreprocessingFailed error) edits split fault = absurd fault
  lock faults.SamePlace edits split fault = fault
  lock faults.Uncomposed edits split fault = fault
  lock faults.LockAcquire edits split never = never (lockable edits split)
  lock faults.Io edits split fault = tt
  lock (faults.Refused why) edits split (edit, among, full, fault) = fault.2 ((fine edits edit split among).meets fault.0 fault.1)
  lock (faults.ReferenceDecode (find.ReferenceCreation error)) edits split (edit, among, full, fault) = (fine edits edit split among).reads error fault
  lock (faults.ReferenceDecode (find.PackedOpen error)) edits split (edit, among, full, fault) = fault
  lock (faults.ReferenceDecode find.ReadFileContents) edits split (edit, among, full, fault) = fault
  lock (faults.ReferenceDecode find.Memory) edits split (edit, among, full, fault) = fault
  lock (faults.CreateOrUpdateRefLog error) edits split (edit, among, full, unlined) = (fine edits edit split among).lines (has_log b tree edit.name) error unlined
  lock (faults.Resolve error) edits split fault = tt
  lock faults.Memory edits split fault = tt

  pub excused : (error : PrepareError) → GivenFault l b false tree may_fail asked error → IsExcused may_fail error
  excused error given = elim given [
    | inl fault ↦ ready error fault
    | inr locks ↦ lock error locks.0 locks.1 locks.2
  ]

pub edits_are_excused : (may_fail : Type 0) → EditsAreExcused may_fail
edits_are_excused may_fail r kept committer moved taken asked tree error holds keeps whole fits are plain tests logged given =
    excused may_fail r kept committer moved taken asked tree holds whole fits are plain
    (all_fine r kept committer tree holds keeps moved taken asked fits.named fits.gone fits.each are tests logged) error given
