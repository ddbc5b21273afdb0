-- What came of giving all locks back.
use Rattle.std.proofs.Common.{◌≡◌, ◌≢◌, ◌⊎◌, inl, inr, refl, sym, ◌∙◌, subst, ℕ, ◌≤◌, arith}
use Rattle.std.specs.Prelude.{Result, Ok, Err, IfErr, OnOk}
use Rattle.gix_ref_file.specs.History.{HasRisen}
use Rattle.gix_ref_lock.specs.Calls.{EndsQuietly}
use Rattle.gix_ref_lock.specs.GivenBacks.{worse}
use Rattle.gix_ref_lock.specs.PackedErrors.{IsUncommitted}
use Rattle.gix_ref_lock.specs.declared.lock.GivenBack.{GivenBack}
use Rattle.gix_ref_lock.specs.declared.lock.GivenBack.TheVariants as given
use Rattle.gix_ref_lock.specs.declared.packed.CommitError.{CommitError as PackedError}
use Rattle.gix_ref_lock.specs.declared.packed.CommitError.TheVariants as packed_case
use Rattle.gix_ref_lock.specs.Needs.{IsOutOfMemory}
use Rattle.gix_ref_lock.specs.declared.act.CommitError.{CommitError}
use Rattle.gix_ref_lock.specs.declared.act.CommitError.TheVariants as moving
use Rattle.gix_ref_way.proofs.FoldersMade.{risen_later}
use Rattle.gix_ref_transaction.specs.Rollback.{of_back, of_commit, of_giving}
use Rattle.gix_ref_transaction.proofs.Counting.{worse_failed, worse_unfailed}

-- ---- of packed records
pub commit_done : {P : Type 0} (r : Result (Unit {0}) PackedError) → OnOk r P → of_commit r ≡ given.Done → P
commit_done (Ok u) p is = p
commit_done (Err packed_case.Commit) p is = cc
commit_done (Err packed_case.Memory) p is = cc

pub commit_failed : (P : Type 0) (r : Result (Unit {0}) PackedError) → IfErr r (λ error. P ⊎ IsUncommitted error) → of_commit r ≡ given.Failed → P
commit_failed P (Ok u) h is = cc
commit_failed P (Err packed_case.Commit) (inl p) is = p
commit_failed P (Err packed_case.Commit) (inr short) is = absurd short
commit_failed P (Err packed_case.Memory) h is = cc

pub commit_quiet : (r : Result (Unit {0}) PackedError) → of_commit r ≢ given.Failed → EndsQuietly IsUncommitted r
commit_quiet (Ok u) none = tt
commit_quiet (Err packed_case.Commit) none = absurd (none refl)
commit_quiet (Err packed_case.Memory) none = tt

-- ---- of both
pub both_risen : (a b c : ℕ) (one other : GivenBack) → a ≤ b → b ≤ c → (one ≡ given.Failed → HasRisen a b) → (other ≡ given.Failed → HasRisen b c) → worse one other ≡ given.Failed → HasRisen a c
both_risen a b c one other first second risen later is = elim (worse_failed one other is) [
  | inl failed ↦ risen_later a a b c (omega arith) (risen failed) second
  | inr failed ↦ risen_later a b c c first (later failed) (omega arith)
]

pub both_same : (a b c : ℕ) (one other : GivenBack) → (one ≢ given.Failed → b ≡ a) → (other ≢ given.Failed → c ≡ b) → worse one other ≢ given.Failed → c ≡ a
both_same a b c one other same later none = let parts = worse_unfailed one other none in later parts.1 ∙ same parts.0

back_done : (w : GivenBack) (u : Unit {0}) → of_back w ≡ Ok u → w ≡ given.Done
back_done given.Done u is = refl
back_done given.Memory u is = cc
back_done given.Failed u is = cc

back_memory : (w : GivenBack) (error : CommitError) → of_back w ≡ Err error → IsOutOfMemory error → w ≢ given.Failed
back_memory given.Done error is short none = cc
back_memory given.Memory error is short none = cc
back_memory given.Failed error is short none = let same : error ≡ moving.LockCommit = cc in subst IsOutOfMemory same short

back_failed : (w : GivenBack) (error : CommitError) → of_back w ≡ Err error → IsOutOfMemory error ⊎ (w ≡ given.Failed)
back_failed given.Done error is = cc
back_failed given.Memory error is = let same : moving.Memory ≡ error = cc in inl (subst IsOutOfMemory same tt)
back_failed given.Failed error is = inr refl

pub giving_done : (one other : GivenBack) (u : Unit {0}) → of_giving one other ≡ Ok u → worse one other ≡ given.Done
giving_done given.Failed other u is = cc
giving_done given.Done other u is = back_done (worse given.Done other) u is
giving_done given.Memory other u is = back_done (worse given.Memory other) u is

pub giving_memory : (one other : GivenBack) (error : CommitError) → of_giving one other ≡ Err error → IsOutOfMemory error → worse one other ≢ given.Failed
giving_memory given.Failed other error is short none = let same : error ≡ moving.PackedTransactionCommit packed_case.Commit = cc in subst IsOutOfMemory same short
giving_memory given.Done other error is short none = back_memory (worse given.Done other) error is short none
giving_memory given.Memory other error is short none = back_memory (worse given.Memory other) error is short none

pub giving_failed : (one other : GivenBack) (error : CommitError) → of_giving one other ≡ Err error → IsOutOfMemory error ⊎ (worse one other ≡ given.Failed)
giving_failed given.Failed other error is = inr refl
giving_failed given.Done other error is = back_failed (worse given.Done other) error is
giving_failed given.Memory other error is = back_failed (worse given.Memory other) error is

pub none_of_done : {w : GivenBack} → w ≡ given.Done → w ≢ given.Failed
none_of_done is failed = let wrong : given.Done ≡ given.Failed = sym is ∙ failed in cc
