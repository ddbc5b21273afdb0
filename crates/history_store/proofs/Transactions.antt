-- What the transactions of the store of a names part say, in the terms of a repository, and their errors.
use Rattle.std.proofs.Common.{◌≡◌, ◌⊎◌, inl, inr, ℕ, Bool, false, List, [], refl, sym, subst, Option, Some, None, option_map, unwrap_or}
use Rattle.std.specs.Borrow.{Bor}
use Rattle.std.specs.Prelude.{option_copied}
use Rattle.gix_hash.specs.declared.kind.Kind.{Kind}
use Rattle.gix_object_lines.specs.declared.lines.actor.ActorRef.{ActorRef}
use Rattle.gix_object_lookup.specs.Table.{Table}
use Rattle.gix_ref_file.specs.History.{HasRisen}
use Rattle.gix_ref_file.specs.Tree.{Tree}
use Rattle.gix_ref_file.specs.declared.files.FileError.TheVariants.{Failed, Memory}
use Rattle.gix_ref_name.specs.Targets.{Points, ToObject, ToName, target_view}
use Rattle.gix_ref_edit.specs.declared.change.Change.{Change}
use Rattle.gix_ref_edit.specs.declared.change.Change.TheVariants.{Update, Delete}
use Rattle.gix_ref_edit.specs.declared.change.RefEdit.{RefEdit}
use Rattle.gix_ref_edit.specs.declared.ext.PreProcessError.TheVariants.{Split, Twice}
use Rattle.gix_ref_edit.specs.declared.names.TwiceError.TheVariants as twice
use Rattle.gix_ref_edit.specs.declared.splits.SplitError.TheVariants as splitting
use Rattle.gix_ref_format.specs.Packed.{Record}
use Rattle.gix_ref_format.specs.PackedBuffer.{KeepsFile}
use Rattle.gix_ref_format.specs.PackedKept.{kept}
use Rattle.gix_ref_format.specs.declared.packed.buffer.Buffer.{Buffer}
use Rattle.gix_ref_format.specs.declared.packed.buffer.Error.TheVariants as opening
use Rattle.gix_ref_lock.specs.declared.packed.CommitError.TheVariants as packed_case
use Rattle.gix_ref_lock.specs.Needs.{IsOutOfMemory}
use Rattle.gix_ref_lock.specs.declared.act.CommitError.{CommitError}
use Rattle.gix_ref_lock.specs.declared.act.CommitError.TheVariants as moving
use Rattle.gix_ref_transaction.specs.Repacking.{AreRepacked}
use Rattle.gix_ref_transaction.specs.Resolving.{ChangeFault, PackFault, TargetFault}
use Rattle.gix_ref_store.specs.Finds.{records_in}
use Rattle.gix_ref_store.specs.Lookups.{reads_with}
use Rattle.gix_ref_store.specs.Places.{Base, packed_place}
use Rattle.gix_ref_store.specs.RefStates.{RefState, packed_text_in, state_among}
use Rattle.gix_ref_store.specs.Stores.{base_of}
use Rattle.gix_ref_store.specs.declared.store.file.Store.{Store}
use Rattle.gix_ref_store.specs.declared.store.file.find.Error.TheVariants as find
use Rattle.gix_ref_store.specs.declared.store.file.peel.Error.{Error as PeelError}
use Rattle.gix_ref_transaction.specs.Causes.{GivenFault, IfUnresolved}
use Rattle.gix_ref_transaction.specs.Errors.{Counts, IsOfRecords, IsQuiet}
use Rattle.gix_ref_transaction.specs.LogLines.{AllLined, logging}
use Rattle.gix_ref_transaction.specs.Plans.{AllHold, AllPlanned}
use Rattle.gix_ref_transaction.specs.Rollback.{SameFilesBut, all_locks}
use Rattle.gix_ref_transaction.specs.declared.error.PrepareError.{PrepareError}
use Rattle.gix_ref_transaction.specs.declared.error.PrepareError.TheVariants as fault
use Rattle.gix_ref_transaction.specs.declared.transaction.Transaction.{Transaction}
use Rattle.history_model.specs.Bytes.{Bytes}
use Rattle.history_model.specs.Places as model
use Rattle.history_edits.specs.Bridges.{root_base}
use Rattle.history_edits.specs.EditFaults.{IsExcused}
use Rattle.history_edits.specs.EditPlans.{IsPrepared, logging_of}
use Rattle.history_store.specs.Faults.{of_committing, of_peeling, of_preparing}
use Rattle.history_store.specs.RootStore.{IsRootStore}

-- ---- the store

-- the records that are lent
abbrev pub lent : Option (Bor Buffer) → Option (List Record)
lent packed = option_map (λ (buffer : Bor Buffer). kept buffer.now) packed

-- those are the records that are kept
pub lent_keeps : (kind : Kind) (file : Option Bytes) (records : Option Buffer) (packed : Option (Bor Buffer)) → option_copied packed ≡ records → KeepsFile kind file (option_map kept records) → KeepsFile kind file (lent packed)
lent_keeps kind file records None is keeps = subst (λ (r : Option Buffer). KeepsFile kind file (option_map kept r)) (sym is) keeps
lent_keeps kind file records (Some buffer) is keeps = subst (λ (r : Option Buffer). KeepsFile kind file (option_map kept r)) (sym is) keeps

lent_are : (packed : Option (Bor Buffer)) → records_in packed ≡ unwrap_or (lent packed) []
lent_are None = refl
lent_are (Some buffer) = refl

module _ {F : Type 0} (kind : Kind) (store : Store F) (root : IsRootStore kind store) where
  pub root_is : base_of store ≡ root_base kind
  root_is i = record { kind = root.hash i; git = root.git i; common = root.common i }

  module _ (tree : Tree) (packed : Option (Bor Buffer)) where
    pub file_kept : KeepsFile kind (model.file_at tree model.packed_place) (lent packed) → KeepsFile (base_of store).kind (packed_text_in (base_of store) tree) (lent packed)
    file_kept keeps = subst (λ (b : Base). KeepsFile b.kind (packed_text_in b tree) (lent packed)) (sym root_is) keeps

    module _ (committer : Option ActorRef) where
      logging_is : logging store.options (reads_with store tree packed) committer ≡ logging_of kind (lent packed) committer tree
      logging_is i = record { logged = root.logs i; kind = root.hash i; read = state_among (root_is i) tree (lent_are packed i); committer = committer }

      -- why edits aren't prepared
      pub given_so : (may_fail : Type 0) (edits : List RefEdit) (error : PrepareError) → GivenFault (logging store.options (reads_with store tree packed) committer) (base_of store) store.options.precompose_unicode tree may_fail edits error
          → GivenFault (logging_of kind (lent packed) committer tree) (root_base kind) false tree may_fail edits error
      given_so may_fail edits error why =
          subst (λ composes. GivenFault (logging_of kind (lent packed) committer tree) (root_base kind) composes tree may_fail edits error) root.plain
          (subst (λ b. GivenFault (logging_of kind (lent packed) committer tree) b store.options.precompose_unicode tree may_fail edits error) root_is
          (subst (λ l. GivenFault l (base_of store) store.options.precompose_unicode tree may_fail edits error) logging_is why))

      -- what is prepared
      pub prepared_so : (removes : Bool) (packs : Option Table) (edits : List RefEdit) (locked : Tree) (t : Transaction) → t.edits.items ≡ edits → AllPlanned (base_of store) removes t.edits.items t.moves.items → AllHold locked t.edits.items t.moves.items
          → AllLined (logging store.options (reads_with store tree packed) committer) (base_of store) tree t.edits.items t.moves.items → AreRepacked (base_of store) packs tree locked t.edits.items t.packed
          → SameFilesBut (all_locks t.packed t.moves.items) tree locked → IsPrepared kind (lent packed) committer removes packs edits tree locked t.packed t.moves.items
      prepared_so removes packs edits locked t are plans hold lined repacked files = record {
        plans = subst (λ es. AllPlanned (root_base kind) removes es t.moves.items) are (subst (λ b. AllPlanned b removes t.edits.items t.moves.items) root_is plans);
        hold = subst (λ es. AllHold locked es t.moves.items) are hold;
        lined = subst (λ es. AllLined (logging_of kind (lent packed) committer tree) (root_base kind) tree es t.moves.items) are
            (subst (λ b. AllLined (logging_of kind (lent packed) committer tree) b tree t.edits.items t.moves.items) root_is
            (subst (λ l. AllLined l (base_of store) tree t.edits.items t.moves.items) logging_is lined));
        repacked = subst (λ es. AreRepacked (root_base kind) packs tree locked es t.packed) are (subst (λ b. AreRepacked b packs tree locked t.edits.items t.packed) root_is repacked);
        files = files;
      }

-- ---- errors

-- no object is looked for
none_sought : {O : Type 0} (R : Type 0) (fails : O → Type 0) (table : O → Table) (change : Change) (error : PeelError) → ChangeFault (PackFault R fails table None) change error → ⊥
none_sought {O = O} R fails table (Update log expected new) error why = go (target_view new) why
  where
    go : (points : Points) → TargetFault (PackFault R fails table None) points error → ⊥
    go (ToObject id) why = cc why.1
    go (ToName name) why = why
none_sought R fails table (Delete expected log) error why = why

module _ {O : Type 0} (before now : ℕ) (may_fail : Type 0) (read : Bytes → RefState) (fails : O → Type 0) (table : O → Table) (edits : List RefEdit) where
  -- the calls of the files tell of it, or the search for objects
  pub prepare_told : (Out : Type 0) → (HasRisen before now ⊎ may_fail → Out) → (error : PrepareError) → of_preparing error ≡ Failed → IsExcused may_fail error → Counts before now error → (IsOfRecords error → HasRisen before now ⊎ may_fail)
      → ((why : PeelError) → error ≡ fault.Resolve why → of_peeling why ≡ Failed → Out) → Out
  prepare_told Out to fault.Io told own counts records sought = to (inl counts)
  prepare_told Out to (fault.PackedTransactionAcquire error) told own counts records sought = to (records tt)
  prepare_told Out to (fault.PackedTransactionPrepare error) told own counts records sought = to (records tt)
  prepare_told Out to (fault.Resolve error) told own counts records sought = sought error refl told
  prepare_told Out to (fault.PreprocessingFailed (Split splitting.Find)) told own counts records sought = to (inr own)
  prepare_told Out to (fault.PreprocessingFailed (Split splitting.Cycle)) told own counts records sought = absurd own
  prepare_told Out to (fault.PreprocessingFailed (Split splitting.Memory)) told own counts records sought = cc
  prepare_told Out to (fault.PreprocessingFailed (Twice (twice.Name name))) told own counts records sought = absurd own
  prepare_told Out to (fault.PreprocessingFailed (Twice twice.Memory)) told own counts records sought = cc
  prepare_told Out to (fault.ReferenceDecode find.ReadFileContents) told own counts records sought = to (inr own)
  prepare_told Out to (fault.ReferenceDecode find.Memory) told own counts records sought = cc
  prepare_told Out to (fault.ReferenceDecode (find.ReferenceCreation error)) told own counts records sought = absurd own
  prepare_told Out to (fault.ReferenceDecode (find.PackedOpen error)) told own counts records sought = absurd own
  prepare_told Out to fault.Memory told own counts records sought = cc
  prepare_told Out to (fault.Packed error) told own counts records sought = absurd own
  prepare_told Out to fault.SamePlace told own counts records sought = absurd own
  prepare_told Out to fault.Uncomposed told own counts records sought = absurd own
  prepare_told Out to fault.LockAcquire told own counts records sought = absurd own
  prepare_told Out to (fault.Refused why) told own counts records sought = absurd own
  prepare_told Out to (fault.CreateOrUpdateRefLog error) told own counts records sought = absurd own

  none_told : (error : PrepareError) → IfUnresolved read (PackFault may_fail fails table None) edits error → (why : PeelError) → error ≡ fault.Resolve why → HasRisen before now ⊎ may_fail
  none_told error sought why is = by (subst (IfUnresolved read (PackFault may_fail fails table None) edits) is sought)
    where
      by : IfUnresolved read (PackFault may_fail fails table None) edits (fault.Resolve why) → HasRisen before now ⊎ may_fail
      by (split, are, (edit, among, fault)) = absurd (none_sought may_fail fails table edit.change why fault)

  pub prepare_failed : (error : PrepareError) → of_preparing error ≡ Failed → IsExcused may_fail error → Counts before now error → (IsOfRecords error → HasRisen before now ⊎ may_fail) → IfUnresolved read (PackFault may_fail fails table None) edits error
      → HasRisen before now ⊎ may_fail
  prepare_failed error told own counts records sought = prepare_told (HasRisen before now ⊎ may_fail) (λ x. x) error told own counts records (λ why is failed. none_told error sought why is)

pub prepare_quiet : (error : PrepareError) → of_preparing error ≡ Memory → IsQuiet error
prepare_quiet fault.Io told = cc
prepare_quiet (fault.PackedTransactionAcquire error) told = cc
prepare_quiet (fault.PackedTransactionPrepare error) told = cc
prepare_quiet (fault.Resolve error) told = tt
prepare_quiet (fault.PreprocessingFailed error) told = tt
prepare_quiet (fault.ReferenceDecode error) told = tt
prepare_quiet fault.Memory told = tt
prepare_quiet (fault.Packed error) told = tt
prepare_quiet fault.SamePlace told = tt
prepare_quiet fault.Uncomposed told = tt
prepare_quiet fault.LockAcquire told = tt
prepare_quiet (fault.Refused why) told = tt
prepare_quiet (fault.CreateOrUpdateRefLog error) told = tt

pub commit_wants : (error : CommitError) → of_committing error ≡ Memory → IsOutOfMemory error
commit_wants moving.Memory told = tt
commit_wants (moving.PackedTransactionCommit packed_case.Memory) told = tt
commit_wants (moving.PackedTransactionCommit packed_case.Commit) told = cc
commit_wants moving.LockCommit told = cc
commit_wants moving.DeleteReference told = cc
commit_wants moving.DeleteReflog told = cc
commit_wants (moving.CreateOrUpdateRefLog error) told = cc

pub commit_failed : (error : CommitError) → of_committing error ≡ Failed → IsOutOfMemory error → ⊥
commit_failed moving.Memory told short = cc
commit_failed (moving.PackedTransactionCommit packed_case.Memory) told short = cc
commit_failed (moving.PackedTransactionCommit packed_case.Commit) told short = short
commit_failed moving.LockCommit told short = short
commit_failed moving.DeleteReference told short = short
commit_failed moving.DeleteReflog told short = short
commit_failed (moving.CreateOrUpdateRefLog error) told short = short
