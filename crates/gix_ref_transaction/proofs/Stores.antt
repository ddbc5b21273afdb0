-- What calls over a store keep together, and what holds of an outcome.
use Rattle.std.proofs.Common.{◌≡◌, ◌∙◌, Option, Some, None, arith}
use Rattle.std.specs.Prelude.{IfErr, IfOk, IfSome, IsTrue, MatchResult, OnOk, Result, Ok, Err}
use Rattle.gix_ref_file.specs.Changes.{is_file_at}
use Rattle.gix_ref_file.specs.Tree.{Tree}
use Rattle.gix_ref_file.specs.declared.files.Files.{Ghosts}
use Rattle.gix_ref_lock.specs.Calls.{EndsQuietly}
use Rattle.gix_ref_lock.specs.Locks.{lock_of}
use Rattle.gix_ref_lock.specs.PackedEdits.{lock_path_of}
use Rattle.gix_ref_lock.specs.declared.packed.Transaction.{Transaction}
use Rattle.gix_ref_store.specs.declared.store.file.Store.{Store}
use Rattle.gix_ref_way.specs.Ways.{Bytes}
use Rattle.gix_ref_transaction.specs.Calls.{HoldsLock, KeepsStore}

pub store_joined : {F A B C : Type 0} (files : Ghosts F) (old mid new : Store F) → KeepsStore files A old mid → KeepsStore files B mid new → (C → A × B) → KeepsStore files C old new
store_joined files old mid new first second both = record {
  honest = λ honest. second.honest (first.honest honest);
  base = second.base ∙ first.base;
  options = second.options ∙ first.options;
  later = omega (arith, first.later, second.later);
  quiet = λ quiet. second.quiet (both quiet).1 ∙ first.quiet (both quiet).0;
}

-- ---- of an outcome
pub ok_given : {T E H : Type 0} (P : T → Type 0) (r : Result T E) → (H → IfOk r P) → IfOk r (λ x. H → P x)
ok_given P (Ok x) all = all
ok_given P (Err e) all = tt

pub ok_five : {T E : Type 0} {A B C D G P : T → Type 0} (r : Result T E) → ((x : T) → A x → B x → C x → D x → G x → P x) → IfOk r A → IfOk r B → IfOk r C → IfOk r D → IfOk r G → IfOk r P
ok_five (Ok x) then a b c d g = then x a b c d g
ok_five (Err e) then a b c d g = tt

pub ok_quiet : {T E Same : Type 0} (Quiet : E → Type 0) (r : Result T E) → (EndsQuietly Quiet r → Same) → OnOk r Same
ok_quiet Quiet (Ok x) same = same tt
ok_quiet Quiet (Err e) same = tt

pub err_quiet : {T E Same : Type 0} (Quiet : E → Type 0) (r : Result T E) → (EndsQuietly Quiet r → Same) → IfErr r (λ error. Quiet error → Same)
err_quiet Quiet (Ok x) same = tt
err_quiet Quiet (Err e) same = same

pub ok_part : {T E : Type 0} (P : T → Type 0) (Q : E → Type 0) (r : Result T E) → MatchResult r P Q → IfOk r P
ok_part P Q (Ok x) both = both
ok_part P Q (Err e) both = tt

pub err_part : {T E : Type 0} (P : T → Type 0) (Q : E → Type 0) (r : Result T E) → MatchResult r P Q → IfErr r Q
err_part P Q (Ok x) both = tt
err_part P Q (Err e) both = both

-- ---- of packed records whose lock is held
pub records_there : (place : Bytes) (t : Option Transaction) (tree : Tree) → IfSome t (HoldsLock place tree) → IfSome t (λ t. IsTrue (is_file_at tree (lock_path_of t)))
records_there place None tree holds = tt
records_there place (Some t) tree holds = holds.held

pub records_here : (place : Bytes) (t : Option Transaction) (tree : Tree) → IfSome t (HoldsLock place tree) → IfSome t (λ t. lock_path_of t ≡ lock_of place)
records_here place None tree holds = tt
records_here place (Some t) tree holds = holds.here
