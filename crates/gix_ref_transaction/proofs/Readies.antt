-- Why edits aren't made ready, or their packed records aren't opened.
use Rattle.std.proofs.Common.{◌≡◌, ◌∙◌, true, false, sym, subst, ℕ, Bool, List}
use Rattle.std.specs.Prelude.{Result, Ok, Err, IfErr, IsTrue, OnOk}
use Rattle.std.specs.List.{list_all}
use Rattle.gix_hash.specs.Id.{Id}
use Rattle.gix_ref_file.specs.Tree.{Tree, is_path}
use Rattle.gix_ref_edit.specs.Names.{AllOnce, names_of}
use Rattle.gix_ref_edit.specs.declared.change.RefEdit.{RefEdit}
use Rattle.gix_ref_edit.specs.declared.ext.PreProcessError.{PreProcessError}
use Rattle.gix_ref_edit.specs.declared.ext.PreProcessError.TheVariants.{Split, Twice}
use Rattle.gix_ref_edit.specs.declared.names.TwiceError.TheVariants as twice
use Rattle.gix_ref_edit.specs.declared.splits.SplitError.TheVariants as splitting
use Rattle.gix_ref_edit.specs.Ready.{PreFault}
use Rattle.gix_ref_format.specs.PackedBuffer.{FileFault}
use Rattle.gix_ref_format.specs.declared.packed.buffer.Error.{Error as OpenError}
use Rattle.gix_ref_format.specs.declared.packed.buffer.Error.TheVariants as opening
use Rattle.gix_ref_transaction.specs.Resolving.{SomeChangeFault}
use Rattle.gix_ref_store.specs.Places.{Base}
use Rattle.gix_ref_store.specs.RefStates.{RefState, packed_text_in}
use Rattle.gix_ref_store.specs.declared.store.file.peel.Error.{Error as PeelError}
use Rattle.gix_ref_way.specs.Ways.{Bytes}
use Rattle.gix_ref_transaction.specs.Causes.{IfUnresolved, NotAllowed, OpenFault, ReadyFault, Unresolved}
use Rattle.gix_ref_transaction.specs.Errors.{Counts, IsOfRecords, of_opening, of_splitting}
use Rattle.gix_ref_transaction.specs.Found.{points_at}
use Rattle.gix_ref_transaction.specs.Locking.{AreLockable, are_known}
use Rattle.gix_ref_transaction.specs.Paths.{edit_paths, has_twice}
use Rattle.gix_ref_transaction.specs.Plans.{AreSplit}
use Rattle.gix_ref_transaction.specs.Preparing.{AreReady}
use Rattle.gix_ref_transaction.specs.declared.error.PrepareError.{PrepareError}
use Rattle.gix_ref_transaction.specs.declared.error.PrepareError.TheVariants as fault
use Rattle.gix_ref_transaction.proofs.Counting.{counts_other}

-- ---- packed records aren't opened
pub open_fault : (b : Base) (tree : Tree) (may : Type 0) (e : OpenError) → FileFault b.kind (packed_text_in b tree) e → (e ≡ opening.Io → may) → OpenFault b tree may (of_opening e)
open_fault b tree may opening.Memory why reading = tt
open_fault b tree may opening.Io why reading = (why, reading)
open_fault b tree may opening.HeaderParsing why reading = (why, reading)
open_fault b tree may (opening.Iter number) why reading = (why, reading)

pub open_counts : (n : ℕ) (e : OpenError) → Counts n n (of_opening e)
open_counts n opening.Memory = tt
open_counts n opening.Io = tt
open_counts n opening.HeaderParsing = tt
open_counts n (opening.Iter number) = tt

pub open_no_records : (e : OpenError) → IsOfRecords (of_opening e) → ⊥
open_no_records opening.Memory of = of
open_no_records opening.Io of = of
open_no_records opening.HeaderParsing of = of
open_no_records (opening.Iter number) of = of

pub open_resolves : (read : Bytes → RefState) (why : Id → PeelError → Type 0) (asked : List RefEdit) (e : OpenError) → IfUnresolved read why asked (of_opening e)
open_resolves read why asked opening.Memory = tt
open_resolves read why asked opening.Io = tt
open_resolves read why asked opening.HeaderParsing = tt
open_resolves read why asked (opening.Iter number) = tt

-- what is said of an error, some of it under a premise
pub err_three : {T E : Type 0} (H K : Type 0) (P Q R S : E → Type 0) (r : Result T E) → ((e : E) → P e → (H → Q e) → (H → K → R e) → S e)
    → IfErr r P → (H → IfErr r Q) → (H → K → IfErr r R) → IfErr r S
err_three H K P Q R S (Ok x) f p q w = tt
err_three H K P Q R S (Err e) f p q w = f e p q w

-- ---- edits are ready
pub are_ready : {T E : Type 0} (b : Base) (composes : Bool) (edits given : List RefEdit) (r : Result T E) → given ≡ edits → AllOnce (names_of edits)
    → OnOk r (IsTrue (are_known composes given)) → OnOk r (has_twice (edit_paths b given) ≡ false) → OnOk r (IsTrue (list_all is_path (edit_paths b given))) → OnOk r (AreReady b composes edits)
are_ready b composes edits given (Ok x) is once known apart paths = record {
  once = once;
  known = subst (λ (es : List RefEdit). IsTrue (are_known composes es)) is known;
  apart = subst (λ (es : List RefEdit). has_twice (edit_paths b es) ≡ false) is apart;
  paths = subst (λ (es : List RefEdit). IsTrue (list_all is_path (edit_paths b es))) is paths;
}
are_ready b composes edits given (Err e) is once known apart paths = tt

-- ---- edits aren't ready
module _ (read : Bytes → RefState) (b : Base) (composes : Bool) (tree : Tree) (may : Type 0) (asked : List RefEdit) where
  pub splitting_fault : (Honest : Type 0) → Honest → (edits : List RefEdit) (e : PreProcessError) → PreFault Honest may (λ name. points_at (read name)) asked edits e → ReadyFault read b composes tree may asked (of_splitting e)
  splitting_fault Honest honest edits (Split splitting.Memory) why = tt
  splitting_fault Honest honest edits (Split splitting.Find) why = (edits, why)
  splitting_fault Honest honest edits (Split splitting.Cycle) (same, far) = (edits, (same, λ _. far honest))
  splitting_fault Honest honest edits (Twice twice.Memory) why = tt
  splitting_fault Honest honest edits (Twice (twice.Name name)) (split, two) = (edits, (λ _. split honest, two))

  pub ready_counts : (n : ℕ) (error : PrepareError) → ReadyFault read b composes tree may asked error → Counts n n error
  ready_counts n error why = counts_other n n error (λ is. subst (ReadyFault read b composes tree may asked) is why)

  pub ready_no_records : (error : PrepareError) → ReadyFault read b composes tree may asked error → IsOfRecords error → ⊥
  ready_no_records (fault.Packed e) why of = of
  ready_no_records (fault.PackedTransactionAcquire e) why of = why
  ready_no_records (fault.PackedTransactionPrepare e) why of = why
  ready_no_records (fault.PreprocessingFailed e) why of = of
  ready_no_records fault.SamePlace why of = of
  ready_no_records fault.Uncomposed why of = of
  ready_no_records fault.LockAcquire why of = of
  ready_no_records fault.Io why of = of
  ready_no_records (fault.Refused e) why of = of
  ready_no_records (fault.ReferenceDecode e) why of = of
  ready_no_records (fault.CreateOrUpdateRefLog e) why of = of
  ready_no_records (fault.Resolve e) why of = of
  ready_no_records fault.Memory why of = of

  pub ready_resolves : (why : Id → PeelError → Type 0) (error : PrepareError) → ReadyFault read b composes tree may asked error → IfUnresolved read why asked error
  ready_resolves why (fault.Packed e) h = tt
  ready_resolves why (fault.PackedTransactionAcquire e) h = tt
  ready_resolves why (fault.PackedTransactionPrepare e) h = tt
  ready_resolves why (fault.PreprocessingFailed e) h = tt
  ready_resolves why fault.SamePlace h = tt
  ready_resolves why fault.Uncomposed h = tt
  ready_resolves why fault.LockAcquire h = tt
  ready_resolves why fault.Io h = tt
  ready_resolves why (fault.Refused e) h = tt
  ready_resolves why (fault.ReferenceDecode e) h = tt
  ready_resolves why (fault.CreateOrUpdateRefLog e) h = tt
  ready_resolves why (fault.Resolve e) h = absurd h
  ready_resolves why fault.Memory h = tt

  pub split_resolves : (why : Id → PeelError → Type 0) (edits : List RefEdit) (error : PrepareError) → AreSplit read asked edits → Unresolved (SomeChangeFault why edits) error → IfUnresolved read why asked error
  split_resolves why edits (fault.Packed e) split h = tt
  split_resolves why edits (fault.PackedTransactionAcquire e) split h = tt
  split_resolves why edits (fault.PackedTransactionPrepare e) split h = tt
  split_resolves why edits (fault.PreprocessingFailed e) split h = tt
  split_resolves why edits fault.SamePlace split h = tt
  split_resolves why edits fault.Uncomposed split h = tt
  split_resolves why edits fault.LockAcquire split h = tt
  split_resolves why edits fault.Io split h = tt
  split_resolves why edits (fault.Refused e) split h = tt
  split_resolves why edits (fault.ReferenceDecode e) split h = tt
  split_resolves why edits (fault.CreateOrUpdateRefLog e) split h = tt
  split_resolves why edits (fault.Resolve e) split h = (edits, split, h)
  split_resolves why edits fault.Memory split h = tt

  no_paths : (edits : List RefEdit) → list_all is_path (edit_paths b edits) ≡ false → ¬ AreLockable b tree edits
  no_paths edits none can = let wrong : true ≡ false = sym can.paths ∙ none in cc

  pub not_allowed : (edits : List RefEdit) (error : PrepareError) → AreSplit read asked edits → NotAllowed b composes edits error → ReadyFault read b composes tree may asked error
  not_allowed edits (fault.Packed e) split h = absurd h
  not_allowed edits (fault.PackedTransactionAcquire e) split h = absurd h
  not_allowed edits (fault.PackedTransactionPrepare e) split h = absurd h
  not_allowed edits (fault.PreprocessingFailed e) split h = absurd h
  not_allowed edits fault.SamePlace split h = (edits, split, h)
  not_allowed edits fault.Uncomposed split h = (edits, split, h)
  not_allowed edits fault.LockAcquire split h = (edits, split, no_paths edits h)
  not_allowed edits fault.Io split h = absurd h
  not_allowed edits (fault.Refused e) split h = absurd h
  not_allowed edits (fault.ReferenceDecode e) split h = absurd h
  not_allowed edits (fault.CreateOrUpdateRefLog e) split h = absurd h
  not_allowed edits (fault.Resolve e) split h = absurd h
  not_allowed edits fault.Memory split h = tt
