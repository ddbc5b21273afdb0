-- What a store is when its transaction has ended.
use Rattle.std.specs.Prelude.{◌≡◌, ◌⊎◌, Result, Vec, IfOk, OnOk}
use Rattle.std.specs.Borrow.{RestsIfErr, MutBor, Fml, RattleType}
use Rattle.std.specs.declared.alloc.Global.{Global}
use Rattle.gix_ref_file.specs.Calls.{Achieves, Passes}
use Rattle.gix_ref_file.specs.History.{Adds, HasRisen}
use Rattle.gix_ref_file.specs.declared.files.Files.{Ghosts}
use Rattle.gix_ref_edit.specs.declared.change.RefEdit.{RefEdit}
use Rattle.gix_ref_lock.specs.Calls.{EndsQuietly, FailsByFault, KeepsFolders, StaysHonest}
use Rattle.gix_ref_lock.specs.Committing.{IsCommitted, OnTheWay}
use Rattle.gix_ref_lock.specs.Moments.{SameButLocks}
use Rattle.gix_ref_lock.specs.Needs.{CanCommit, IsOutOfMemory, log_paths}
use Rattle.gix_ref_lock.specs.declared.act.CommitError.{CommitError}
use Rattle.gix_ref_store.specs.contracts.store.file.Store.{the_row}
use Rattle.gix_ref_store.specs.declared.store.file.Store.{Store}
use Rattle.gix_ref_way.specs.Ways.{FoldersOnlyOf}
use Rattle.gix_ref_transaction.specs.Locking.{AreHeld}
use Rattle.gix_ref_transaction.specs.Parts.{OncePrepared, parts}
use Rattle.gix_ref_transaction.specs.Reads.{ReadsEdited, ReadsOnWay}
use Rattle.gix_ref_transaction.specs.Rollback.{AllGone, FailsForMemory}
use Rattle.gix_ref_transaction.specs.declared.file.Transaction.{Transaction as OfStore}
use Rattle.gix_ref_transaction.specs.declared.transaction.Transaction.{Transaction}

module _ (F : RattleType) where
  -- the store is lent to the transaction, or it is left so
  abbrev pub LendsOrLeaves : {S E : Type 0} → MutBor (Store F.Denot) → Result (OfStore F.Denot S) E
      → (Store F.Denot → Type 0) → Fml
  LendsOrLeaves store result Left =
      RestsIfErr (the_row F) store (λ t. t.store.ghost_name) result Left

-- The edits are made, each with its log's line: on the way each name reads as before or as its edit
-- says, afterwards as it says.
pub record Commits {F : Type 0} (files : Ghosts F) (t : Transaction) (old new : F)
    (result : Result (Vec RefEdit Global) CommitError) : Type 0 where
  pub keeps : StaysHonest files (EndsQuietly IsOutOfMemory result) old new
  pub edits : IfOk result (λ edits. edits ≡ t.edits)
  pub failed : files.is_honest old → CanCommit t.packed t.moves.items (files.history old).tree
      → FailsByFault files IsOutOfMemory old new result
  pub moments : Passes files.is_honest files.history old new (OnTheWay t.packed t.moves.items)
  pub folders : Passes files.is_honest files.history old new (FoldersOnlyOf (log_paths t.moves.items))
  pub done : Achieves files.is_honest files.history old new result (IsCommitted t.packed t.moves.items)
  pub on_way : OncePrepared files t old (λ b packs removes before.
      Adds (ReadsOnWay b packs removes before (parts t)) (files.history old) (files.history new))
  pub read : OncePrepared files t old (λ b packs removes before.
      OnOk result (ReadsEdited b packs removes before (parts t) (files.history new).tree))

-- All locks are given back, and nothing else changes; also after an error none is left, unless a
-- failure was counted or memory was wanting.
pub record RollsBack {F : Type 0} (files : Ghosts F) (t : Transaction) (old new : F)
    (result : Result (Vec RefEdit Global) CommitError) : Type 0 where
  pub keeps : KeepsFolders files (EndsQuietly IsOutOfMemory result) old new
  pub edits : IfOk result (λ edits. edits ≡ t.edits)
  pub failed : files.is_honest old → AreHeld t.packed t.moves.items (files.history old).tree
      → FailsByFault files IsOutOfMemory old new result
  pub moments : Passes files.is_honest files.history old new SameButLocks
  pub gone : Achieves files.is_honest files.history old new result (AllGone t.moves.items t.packed)
  pub rolled_back : files.is_honest old → AreHeld t.packed t.moves.items (files.history old).tree
      → FailsForMemory result ⊎ (HasRisen (files.failures old) (files.failures new)
      ⊎ AllGone t.moves.items t.packed (files.history old).tree (files.history new).tree)
