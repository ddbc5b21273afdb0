-- HEAD is changed by a transaction.
use Rattle.std.proofs.Common.{◌≡◌, ◌⊎◌, ℕ, true, false, List, [], ◌∷◌, sym, ◌∙◌, ap, subst, Option, None, option_map, bytes_eq}
use Rattle.std.specs.Borrow.{Bor}
use Rattle.std.specs.Prelude.{option_copied}
use Rattle.gix_hash.specs.declared.kind.Kind.{Kind}
use Rattle.gix_object_lookup.specs.Table.{Table}
use Rattle.gix_ref_file.specs.Calls.{HasFault}
use Rattle.gix_ref_file.specs.History.{Adds, HasRisen, History}
use Rattle.gix_ref_file.specs.Tree.{IsRooted}
use Rattle.gix_ref_file.specs.declared.files.FileError.TheVariants.{Failed}
use Rattle.gix_ref_file.proofs.Histories.{adds_joined}
use Rattle.gix_ref_edit.specs.declared.change.RefEdit.{RefEdit}
use Rattle.gix_ref_format.specs.PackedBuffer.{KeepsFile}
use Rattle.gix_ref_format.specs.PackedKept.{kept}
use Rattle.gix_ref_format.specs.declared.packed.buffer.Buffer.{Buffer}
use Rattle.gix_ref_lock.specs.Committing.{IsCommitted, OnTheWay}
use Rattle.gix_ref_lock.specs.Moments.{SameButLocks}
use Rattle.gix_ref_lock.specs.Needs.{CanCommit, log_paths}
use Rattle.gix_ref_transaction.specs.Repacking.{AreRepacked}
use Rattle.gix_ref_transaction.specs.Resolving.{PackFault}
use Rattle.gix_ref_store.specs.Lookups.{reads_with}
use Rattle.gix_ref_store.specs.RefStates.{RefState, packed_text_in}
use Rattle.gix_ref_store.specs.Stores.{base_of}
use Rattle.gix_ref_store.specs.declared.store.file.Store.{Store}
use Rattle.gix_ref_transaction.specs.Causes.{GivenFault, IfUnresolved}
use Rattle.gix_ref_transaction.specs.Errors.{Counts, IsOfRecords}
use Rattle.gix_ref_transaction.specs.Locking.{AreRecordsLockable}
use Rattle.gix_ref_transaction.specs.LogLines.{AllLined, logging}
use Rattle.gix_ref_transaction.specs.Plans.{AllHold, AllPlanned, AreSplit, FoldersOfEdits}
use Rattle.gix_ref_transaction.specs.Rollback.{SameFilesBut, all_locks}
use Rattle.gix_ref_transaction.specs.declared.error.PrepareError.{PrepareError}
use Rattle.gix_ref_transaction.specs.declared.transaction.Transaction.{Transaction}
use Rattle.gix_ref_way.specs.Ways.{FoldersOnlyOf}
use Rattle.history_model.specs.Bytes.{Bytes}
use Rattle.history_model.specs.Forms.{is_name}
use Rattle.history_model.specs.Places.{file_at, packed_place}
use Rattle.history_model.specs.Repository.{Repository}
use Rattle.history_layout.specs.SwitchSteps.{HeadOnTheWay, NamesBranch}
use Rattle.history_layout.specs.TreeHalves.{HoldsNames}
use Rattle.history_edits.specs.Bridges.{root_base}
use Rattle.history_edits.specs.EditCommits.{HasNameFolders}
use Rattle.history_edits.specs.EditFaults.{IsExcused}
use Rattle.history_edits.specs.EditPlans.{IsPrepared, logging_of}
use Rattle.history_edits.specs.SwitchPlans.{AsksHead, IsHeadReady}
use Rattle.history_edits.proofs.HeadCommitted.{head_commits, head_switched}
use Rattle.history_edits.proofs.HeadMoments.{head_committing, head_preparing}
use Rattle.history_edits.proofs.HeadPlanned.{head_is_ready}
use Rattle.history_edits.proofs.HeadPrepared.{head_can_be_prepared}
use Rattle.history_edits.proofs.RecordLocks.{records_are_lockable}
use Rattle.history_edits.proofs.Unsplit.{unsplit_stay}
use Rattle.history_store.specs.Changing.{MaySwitch}
use Rattle.history_store.specs.Faults.{of_preparing}
use Rattle.history_store.specs.RootStore.{IsRootStore}
use Rattle.history_store.specs.declared.names.Names.{Names}
use Rattle.history_store.proofs.Transactions.{file_kept, given_so, lent, lent_keeps, prepare_failed, prepared_so, root_is}

other_place : true ≡ false → ⊥
other_place e = cc

-- The edits are HEAD's alone.
abbrev pub AskHead : Bytes → Bytes → List RefEdit → Type 0
AskHead from to edits = (edit : RefEdit) × (edits ≡ edit ∷ []) × AsksHead from to edit

module _ (r : Repository) (from to : Bytes) (edits : List RefEdit) (asks : AskHead from to edits) (old : History) (holds : HoldsNames old.tree r) (kind : Kind) (same : kind ≡ r.kind) {F : Type 0} (store : Store F) (root : IsRootStore kind store) (packed : Option (Bor Buffer)) where
  abbrev edit : RefEdit
  edit = asks.0

  abbrev read : Bytes → RefState
  read = reads_with store old.tree packed

  based : base_of store ≡ root_base r.kind
  based = root_is kind store root ∙ ap root_base same

  -- while it is prepared
  pub preparing : (mid : History) → Adds (SameButLocks old.tree) old mid → Adds (FoldersOfEdits read (base_of store) edits old.tree) old mid → Adds (HeadOnTheWay to old.tree) old mid × HasNameFolders mid.tree
  preparing mid stays only =
      head_preparing r from to read edit old mid holds asks.2 stays
      (subst (λ es. Adds (FoldersOfEdits read (root_base r.kind) es old.tree) old mid) asks.1 (subst (λ b. Adds (FoldersOfEdits read b edits old.tree) old mid) based only))

  -- why it isn't
  pub unprepared : (from ≡ r.branch) → is_name from ≡ true → (before now : ℕ) (may_fail : Type 0) {O : Type 0} (fails : O → Type 0) (table : O → Table) → IsRooted old.tree → (error : PrepareError) → of_preparing error ≡ Failed
      → GivenFault (logging store.options read None) (base_of store) store.options.precompose_unicode old.tree may_fail edits error → Counts before now error → (AreRecordsLockable (base_of store) old.tree → IsOfRecords error → HasRisen before now ⊎ may_fail)
      → IfUnresolved read (PackFault may_fail fails table None) edits error → HasRisen before now ⊎ may_fail
  unprepared branch named before now may_fail fails table rooted error told given counts records sought =
      prepare_failed before now may_fail read fails table edits error told own counts
      (records (subst (λ b. AreRecordsLockable b old.tree) (sym based) (records_are_lockable r old.tree holds))) sought
    where
      given_here : GivenFault (logging_of r.kind (lent packed) None old.tree) (root_base r.kind) false old.tree may_fail (edit ∷ []) error
      given_here = subst (λ k. GivenFault (logging_of k (lent packed) None old.tree) (root_base k) false old.tree may_fail (edit ∷ []) error) same
          (subst (λ es. GivenFault (logging_of kind (lent packed) None old.tree) (root_base kind) false old.tree may_fail es error) asks.1 (given_so kind store root old.tree packed None may_fail edits error given))

      own : IsExcused may_fail error
      own = head_can_be_prepared r to old.tree (lent packed) None may_fail edit error holds (ap is_name (sym branch) ∙ named) (subst (λ b. AsksHead b to edit) branch asks.2) given_here

  module _ (t : Transaction) (mid : History) (split : AreSplit read edits t.edits.items) (plans : AllPlanned (base_of store) false t.edits.items t.moves.items) (hold : AllHold mid.tree t.edits.items t.moves.items)
      (lined : AllLined (logging store.options read None) (base_of store) old.tree t.edits.items t.moves.items) (repacked : AreRepacked (base_of store) None old.tree mid.tree t.edits.items t.packed)
      (files : SameFilesBut (all_locks t.packed t.moves.items) old.tree mid.tree) where
    ready : IsHeadReady to old.tree mid.tree t.packed t.moves.items
    ready = head_is_ready r from to (lent packed) None edit old.tree mid.tree t.packed t.moves.items holds asks.2
        (subst (λ k. IsPrepared k (lent packed) None false None (edit ∷ []) old.tree mid.tree t.packed t.moves.items) same
        (prepared_so kind store root old.tree packed None false None (edit ∷ []) mid.tree t only plans hold lined repacked files))
      where
        only : t.edits.items ≡ edit ∷ []
        only = unsplit_stay read (edit ∷ []) t.edits.items (asks.2.plain, tt) (subst (λ es. AreSplit read es t.edits.items) asks.1 split)

    -- it can be committed
    pub can_commit : IsRooted mid.tree → CanCommit t.packed t.moves.items mid.tree
    can_commit rooted = head_commits r to old.tree mid.tree t.packed t.moves.items holds ready rooted

    module _ (prepared : Adds (HeadOnTheWay to old.tree) old mid × HasNameFolders mid.tree) (new : History) (way : Adds (OnTheWay t.packed t.moves.items mid.tree) mid new) (only : Adds (FoldersOnlyOf (log_paths t.moves.items) mid.tree) mid new) where
      committed : Adds (HeadOnTheWay to old.tree) mid new × HasNameFolders new.tree
      committed = head_committing to old.tree mid new t.packed t.moves.items ready prepared.1 way only

      -- while it is committed
      pub switching : Adds (HeadOnTheWay to old.tree) old new
      switching = adds_joined old mid new prepared.0 committed.0

      -- and after that
      pub switched : IsCommitted t.packed t.moves.items mid.tree new.tree → NamesBranch to old.tree new.tree
      switched done = head_switched r to old.tree mid.tree new.tree t.packed t.moves.items holds ready done committed.1

-- ---- of names

module _ {F : Type 0} (IsHonest : F → Type 0) (history : F → History) (failures : F → ℕ) (may_fail : Type 0) (names : Names F) (from to : Bytes) (edits : List RefEdit) (asks : AskHead from to edits) (packed : Option (Bor Buffer)) (own : option_copied packed ≡ names.packed)
    (r : Repository) (may : MaySwitch IsHonest history names r from to) where
  abbrev old : History
  old = history names.store.files

  abbrev found : Bytes → RefState
  found = reads_with names.store old.tree packed

  -- records that are lent are those of the file
  pub file_lent : KeepsFile (base_of names.store).kind (packed_text_in (base_of names.store) old.tree) (lent packed)
  file_lent = file_kept names.kind names.store names.root old.tree packed (lent_keeps names.kind (file_at old.tree packed_place) names.packed packed own may.whole.records)

  module _ (locked : F) (stays : Adds (SameButLocks old.tree) old (history locked)) (folders : Adds (FoldersOfEdits found (base_of names.store) edits old.tree) old (history locked)) where
    prepares : Adds (HeadOnTheWay to old.tree) old (history locked) × HasNameFolders (history locked).tree
    prepares = preparing r from to edits asks old may.whole.holds names.kind may.whole.kind names.store names.root packed (history locked) stays folders

    -- on the way, if it isn't prepared
    pub unprepared_passes : Adds (HeadOnTheWay to old.tree) old (history locked)
    unprepared_passes = prepares.0

    module _ (t : Transaction) (split : AreSplit found edits t.edits.items) (plans : AllPlanned (base_of names.store) false t.edits.items t.moves.items) (hold : AllHold (history locked).tree t.edits.items t.moves.items)
        (lined : AllLined (logging names.store.options found None) (base_of names.store) old.tree t.edits.items t.moves.items) (repacked : AreRepacked (base_of names.store) None old.tree (history locked).tree t.edits.items t.packed)
        (same : SameFilesBut (all_locks t.packed t.moves.items) old.tree (history locked).tree) where
      can : IsRooted (history locked).tree → CanCommit t.packed t.moves.items (history locked).tree
      can = can_commit r from to edits asks old may.whole.holds names.kind may.whole.kind names.store names.root packed t (history locked) split plans hold lined repacked same

      -- why it isn't committed
      pub uncommitted : (new : F) → IsRooted (history locked).tree → (CanCommit t.packed t.moves.items (history locked).tree → HasFault failures may_fail locked new) → failures locked ≡ failures names.store.files
          → HasFault failures may_fail names.store.files new
      uncommitted new rooted failed counted = subst (λ (before : ℕ). HasRisen before (failures new) ⊎ may_fail) counted (failed (can rooted))

      module _ (new : F) (way : Adds (OnTheWay t.packed t.moves.items (history locked).tree) (history locked) (history new)) (only : Adds (FoldersOnlyOf (log_paths t.moves.items) (history locked).tree) (history locked) (history new)) where
        -- on the way
        pub switch_passes : Adds (HeadOnTheWay to old.tree) old (history new)
        switch_passes = switching r from to edits asks old may.whole.holds names.kind may.whole.kind names.store names.root packed t (history locked) split plans hold lined repacked same prepares (history new) way only

        module _ (done : IsCommitted t.packed t.moves.items (history locked).tree (history new).tree) where
          -- in the end
          pub switch_names : NamesBranch to old.tree (history new).tree
          switch_names = switched r from to edits asks old may.whole.holds names.kind may.whole.kind names.store names.root packed t (history locked) split plans hold lined repacked same prepares (history new) way only done

          pub switch_keeps : KeepsFile names.kind (file_at (history new).tree packed_place) (option_map kept names.packed)
          switch_keeps = subst (λ o. KeepsFile names.kind o (option_map kept names.packed)) (sym (switch_names.others packed_place (λ same. other_place (ap (bytes_eq packed_place) same)))) may.whole.records

  -- why it isn't prepared
  pub unprepared_told : (now : ℕ) {O : Type 0} (fails : O → Type 0) (table : O → Table) → IsRooted old.tree → (error : PrepareError) → of_preparing error ≡ Failed
      → GivenFault (logging names.store.options found None) (base_of names.store) names.store.options.precompose_unicode old.tree may_fail edits error → Counts (failures names.store.files) now error
      → (AreRecordsLockable (base_of names.store) old.tree → IsOfRecords error → HasRisen (failures names.store.files) now ⊎ may_fail) → IfUnresolved found (PackFault may_fail fails table None) edits error → HasRisen (failures names.store.files) now ⊎ may_fail
  unprepared_told now fails table = unprepared r from to edits asks old may.whole.holds names.kind may.whole.kind names.store names.root packed (sym may.branch) may.named (failures names.store.files) now may_fail fails table
