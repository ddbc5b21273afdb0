-- Names are changed by a transaction.
use Rattle.std.proofs.Common.{◌≡◌, ◌⊎◌, ℕ, false, List, [], refl, sym, ◌∙◌, ap, subst, Option, Some, None, option_map, unwrap_or}
use Rattle.std.specs.Prelude.{option_and_then, option_copied}
use Rattle.std.specs.Borrow.{Bor}
use Rattle.gix_hash.specs.declared.kind.Kind.{Kind}
use Rattle.gix_object_lines.specs.declared.lines.actor.ActorRef.{ActorRef}
use Rattle.gix_ref_file.specs.History.{Adds, HasRisen, History}
use Rattle.gix_ref_file.specs.declared.files.FileError.TheVariants.{Failed}
use Rattle.gix_ref_file.proofs.Histories.{adds_joined}
use Rattle.gix_ref_edit.specs.declared.change.RefEdit.{RefEdit}
use Rattle.gix_ref_edit.specs.declared.names.TwiceError.TheVariants as twice
use Rattle.gix_ref_edit.specs.declared.splits.SplitError.TheVariants as splitting
use Rattle.gix_ref_format.specs.Lookup.{packed_hit, packed_key}
use Rattle.gix_ref_format.specs.PackedBuffer.{KeepsFile, hit}
use Rattle.gix_ref_format.specs.PackedKept.{kept}
use Rattle.gix_ref_format.specs.declared.packed.buffer.Buffer.{Buffer}
use Rattle.gix_ref_lock.specs.Committing.{IsCommitted, OnTheWay}
use Rattle.gix_ref_lock.specs.Moments.{SameButLocks}
use Rattle.gix_ref_lock.specs.Needs.{log_paths}
use Rattle.gix_object_lookup.specs.Table.{Table}
use Rattle.gix_ref_transaction.specs.Repacking.{AreRepacked}
use Rattle.gix_ref_transaction.specs.Resolving.{PackFault}
use Rattle.gix_ref_store.specs.Lookups.{reads_with}
use Rattle.gix_ref_store.specs.RefStates.{RefState}
use Rattle.gix_ref_store.specs.Stores.{base_of}
use Rattle.gix_ref_store.specs.declared.store.file.Store.{Store}
use Rattle.gix_ref_store.specs.declared.store.file.find.Error.TheVariants as find
use Rattle.gix_ref_transaction.specs.Causes.{GivenFault, IfUnresolved}
use Rattle.gix_ref_transaction.specs.Errors.{Counts, IsOfRecords}
use Rattle.gix_ref_transaction.specs.Locking.{AreRecordsLockable, HaveRoom}
use Rattle.gix_ref_transaction.specs.LogLines.{AllLined, logging}
use Rattle.gix_ref_transaction.specs.Plans.{AllHold, AllPlanned, AreSplit, FoldersOfEdits}
use Rattle.gix_ref_transaction.specs.Rollback.{SameFilesBut, all_locks}
use Rattle.gix_ref_transaction.specs.declared.error.PrepareError.{PrepareError}
use Rattle.gix_ref_transaction.specs.declared.error.PrepareError.TheVariants as fault
use Rattle.gix_ref_transaction.specs.declared.transaction.Transaction.{Transaction}
use Rattle.gix_ref_way.specs.Ways.{FoldersOnlyOf}
use Rattle.history_model.specs.Bytes.{Bytes}
use Rattle.history_model.specs.Places.{file_at, packed_place}
use Rattle.history_model.specs.Repository.{Repository}
use Rattle.history_layout.specs.EditFits.{CanBeEdited}
use Rattle.history_layout.specs.EditSteps.{EditsMade, EditsOnTheWay, MovedName}
use Rattle.history_layout.specs.TreeHalves.{HoldsNames}
use Rattle.history_edits.specs.Bridges.{root_base}
use Rattle.history_edits.specs.EditChanges.{AreAsked}
use Rattle.history_edits.specs.EditCommits.{HasNameFolders, IsReady}
use Rattle.history_edits.specs.EditFaults.{AllTest, AreApart, IsExcused}
use Rattle.history_edits.specs.EditPlans.{AreEdits, IsPrepared, logging_of}
use Rattle.history_edits.proofs.EditChanges.{committing_makes, committing_passes, preparing_passes}
use Rattle.history_edits.proofs.EditLocks.{edits_have_room}
use Rattle.history_edits.proofs.EditsExcused.{edits_are_excused}
use Rattle.history_edits.proofs.EditsReady.{edits_ready}
use Rattle.history_edits.proofs.RecordLocks.{records_are_lockable}
use Rattle.history_edits.proofs.RecordsStay.{records_stay}
use Rattle.history_edits.proofs.Unsplit.{unsplit_stay}
use Rattle.history_store.specs.Changing.{MakesChange, RecordsStay}
use Rattle.history_store.specs.Faults.{of_preparing}
use Rattle.history_store.specs.Packing.{KeepsRecords, kept_hit}
use Rattle.history_store.specs.RootStore.{IsRootStore}
use Rattle.history_store.specs.declared.names.Names.{Names}
use Rattle.history_store.proofs.Transactions.{given_so, lent, prepare_failed, prepared_so, root_is}

module _ (r : Repository) (moved : List MovedName) (taken : Option Bytes) (committer : Option ActorRef) (edits : List RefEdit) (asked : AreAsked r committer moved taken edits) (old : History) (holds : HoldsNames old.tree r) (kind : Kind) (same : kind ≡ r.kind)
    {F : Type 0} (store : Store F) (root : IsRootStore kind store) (packed : Option (Bor Buffer)) where
  abbrev read : Bytes → RefState
  read = reads_with store old.tree packed

  based : base_of store ≡ root_base r.kind
  based = root_is kind store root ∙ ap root_base same

  -- while they are prepared
  pub preparing : (mid : History) → Adds (SameButLocks old.tree) old mid → Adds (FoldersOfEdits read (base_of store) edits old.tree) old mid → Adds (EditsOnTheWay r.kind moved taken old.tree) old mid × HasNameFolders mid.tree
  preparing mid stays only = preparing_passes r read committer moved taken edits old mid holds asked stays (subst (λ b. Adds (FoldersOfEdits read b edits old.tree) old mid) based only)

  module _ (apart : AreApart r) (fit : CanBeEdited r moved taken) where
    -- why they aren't
    pub unprepared : AllTest r edits → KeepsFile r.kind (file_at old.tree packed_place) (lent packed) → (before now : ℕ) (may_fail : Type 0) {O : Type 0} (look_fails : O → Type 0) (table : O → Table)
        → (error : PrepareError) → of_preparing error ≡ Failed → GivenFault (logging store.options read committer) (base_of store) store.options.precompose_unicode old.tree may_fail edits error → Counts before now error
        → (AreRecordsLockable (base_of store) old.tree → IsOfRecords error → HasRisen before now ⊎ may_fail) → IfUnresolved read (PackFault may_fail look_fails table None) edits error → HasRisen before now ⊎ may_fail
    unprepared tests keeps before now may_fail look_fails table error told given counts records sought =
        prepare_failed before now may_fail read look_fails table edits error told own counts
        (records (subst (λ b. AreRecordsLockable b old.tree) (sym based) (records_are_lockable r old.tree holds))) sought
      where
        given_here : GivenFault (logging_of r.kind (lent packed) committer old.tree) (root_base r.kind) false old.tree may_fail edits error
        given_here = subst (λ k. GivenFault (logging_of k (lent packed) committer old.tree) (root_base k) false old.tree may_fail edits error) same (given_so kind store root old.tree packed committer may_fail edits error given)

        own : IsExcused may_fail error
        own = edits_are_excused may_fail r (lent packed) committer moved taken edits old.tree error holds keeps apart fit asked.asks asked.plain tests asked.logged given_here

    -- what is prepared has room
    pub room : (prepared : List RefEdit) → AreSplit read edits prepared → HaveRoom (base_of store) old.tree prepared
    room prepared split =
        subst (λ es. HaveRoom (base_of store) old.tree es) (sym (unsplit_stay read edits prepared asked.plain split))
        (subst (λ b. HaveRoom b old.tree edits) (sym based) (edits_have_room r moved taken edits old.tree holds apart fit asked.asks))

  module _ (keeps : KeepsFile r.kind (file_at old.tree packed_place) (lent packed)) (t : Transaction) (mid : History) (split : AreSplit read edits t.edits.items) (plans : AllPlanned (base_of store) false t.edits.items t.moves.items)
      (hold : AllHold mid.tree t.edits.items t.moves.items) (lined : AllLined (logging store.options read committer) (base_of store) old.tree t.edits.items t.moves.items)
      (repacked : AreRepacked (base_of store) None old.tree mid.tree t.edits.items t.packed) (files : SameFilesBut (all_locks t.packed t.moves.items) old.tree mid.tree) where
    only : t.edits.items ≡ edits
    only = unsplit_stay read edits t.edits.items asked.plain split

    ready : IsReady r.kind moved taken old.tree mid.tree t.packed t.moves.items
    ready = edits_ready r (lent packed) committer moved taken edits old.tree mid.tree t.packed t.moves.items holds keeps asked.named asked.logged asked.asks
        (subst (λ k. IsPrepared k (lent packed) committer false None edits old.tree mid.tree t.packed t.moves.items) same
        (prepared_so kind store root old.tree packed committer false None edits mid.tree t only plans hold lined repacked files))

    module _ (prepared : Adds (EditsOnTheWay r.kind moved taken old.tree) old mid × HasNameFolders mid.tree) (new : History) (way : Adds (OnTheWay t.packed t.moves.items mid.tree) mid new) (logs : Adds (FoldersOnlyOf (log_paths t.moves.items) mid.tree) mid new) where
      committed : Adds (EditsOnTheWay r.kind moved taken old.tree) mid new × HasNameFolders new.tree
      committed = committing_passes r moved taken old.tree mid new t.packed t.moves.items ready prepared.1 way logs

      -- while they are committed
      pub passing : Adds (EditsOnTheWay r.kind moved taken old.tree) old new
      passing = adds_joined old mid new prepared.0 committed.0

      -- after that
      pub changed : IsCommitted t.packed t.moves.items mid.tree new.tree → EditsMade r.kind moved taken old.tree new.tree
      changed done = committing_makes r moved taken old.tree mid.tree new.tree t.packed t.moves.items holds ready files done committed.1

      -- and records are as before if the name that goes has none
      pub stayed : IsCommitted t.packed t.moves.items mid.tree new.tree → (name : Bytes) → taken ≡ Some name → packed_hit (unwrap_or (lent packed) []) name ≡ None → file_at new.tree packed_place ≡ file_at old.tree packed_place
      stayed done name goes none =
          records_stay r.kind moved name edits (lent packed) old.tree mid.tree new.tree t.packed t.moves.items (subst (λ o. IsReady r.kind moved o old.tree mid.tree t.packed t.moves.items) goes ready) done keeps
          (subst (λ o. AreEdits moved o edits) goes asked.asks)
          (subst (λ es. AreRepacked (root_base r.kind) None old.tree mid.tree es t.packed) only (subst (λ b. AreRepacked b None old.tree mid.tree t.edits.items t.packed) based repacked)) none

-- ---- the records that are kept

-- what is lent of what was read
pub lent_of : (read : Option Buffer) (packed : Option (Bor Buffer)) → option_copied packed ≡ read → option_map kept read ≡ lent packed
lent_of read None is = ap (option_map kept) (sym is)
lent_of read (Some buffer) is = ap (option_map kept) (sym is)

module _ {F : Type 0} (names : Names F) (packed : Option (Bor Buffer)) (is : option_copied packed ≡ names.packed) where
  pub lent_here : (old : History) → KeepsRecords names old.tree → KeepsFile names.kind (file_at old.tree packed_place) (lent packed)
  lent_here old keeps = subst (KeepsFile names.kind (file_at old.tree packed_place)) (lent_of names.packed packed is) keeps

  pub all_lent : (r : Repository) (old : History) → names.kind ≡ r.kind → KeepsRecords names old.tree → KeepsFile r.kind (file_at old.tree packed_place) (lent packed)
  all_lent r old same keeps = subst (λ k. KeepsFile k (file_at old.tree packed_place) (lent packed)) same (lent_here old keeps)

  no_hit : (read : Option Buffer) (name : Bytes) → kept_hit read name ≡ None → packed_hit (unwrap_or (option_map kept read) []) name ≡ None
  no_hit None name none = go (packed_key name)
    where
      go : (key : Option Bytes) → option_and_then (hit []) key ≡ None
      go None = refl
      go (Some key) = refl
  no_hit (Some buffer) name none = none

  pub none_lent : (name : Bytes) → kept_hit names.packed name ≡ None → packed_hit (unwrap_or (lent packed) []) name ≡ None
  none_lent name none = subst (λ ks. packed_hit (unwrap_or ks []) name ≡ None) (lent_of names.packed packed is) (no_hit names.packed name none)

  pub makes : (r : Repository) (moved : List MovedName) (taken : Option Bytes) (old new : History) → names.kind ≡ r.kind → EditsMade r.kind moved taken old.tree new.tree
      → ((name : Bytes) → taken ≡ Some name → packed_hit (unwrap_or (lent packed) []) name ≡ None → file_at new.tree packed_place ≡ file_at old.tree packed_place) → MakesChange names moved taken old.tree new.tree
  makes r moved taken old new same made stay = record {
    made = subst (λ k. EditsMade k moved taken old.tree new.tree) (sym same) made;
    stay = by_taken taken stay;
  }
    where
      by_taken : (o : Option Bytes) → ((name : Bytes) → o ≡ Some name → packed_hit (unwrap_or (lent packed) []) name ≡ None → file_at new.tree packed_place ≡ file_at old.tree packed_place) → RecordsStay names o old.tree new.tree
      by_taken None stays = tt
      by_taken (Some name) stays = λ none. stays name refl (none_lent name none)
