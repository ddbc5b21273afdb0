-- What is left of edits that aren't prepared.
use Rattle.std.specs.Prelude.{ℕ, ◌≡◌, ◌⊎◌, false, List, [], ◌∷◌, ◌++◌, Option, Some, None, Result, Ok, Err, IsTrue}
use Rattle.std.specs.List.{AllByRecursion}
use Rattle.gix_ref_file.specs.Tree.{Tree}
use Rattle.gix_ref_file.specs.Changes.{is_file_at}
use Rattle.gix_ref_file.specs.History.{HasRisen}
use Rattle.gix_ref_lock.specs.GivenBacks.{worse}
use Rattle.gix_ref_lock.specs.declared.lock.GivenBack.{GivenBack}
use Rattle.gix_ref_lock.specs.declared.lock.GivenBack.TheVariants as given
use Rattle.gix_ref_lock.specs.declared.packed.CommitError.{CommitError as PackedError}
use Rattle.gix_ref_lock.specs.declared.packed.CommitError.TheVariants as packed_case
use Rattle.gix_ref_lock.specs.PackedEdits as packed
use Rattle.gix_ref_lock.specs.declared.packed.Transaction.{Transaction}
use Rattle.gix_ref_lock.specs.Contents.{lock_path_of}
use Rattle.gix_ref_lock.specs.Moments.{NoFileMore}
use Rattle.gix_ref_lock.specs.Moves.{IsNone, lock_paths}
use Rattle.gix_ref_lock.specs.Needs.{IsOutOfMemory}
use Rattle.gix_ref_lock.specs.declared.act.CommitError.{CommitError}
use Rattle.gix_ref_lock.specs.declared.act.CommitError.TheVariants as moving
use Rattle.gix_ref_lock.specs.declared.act.Move.{Move}
use Rattle.gix_ref_way.specs.Ways.{Bytes, file_at}
use Rattle.gix_ref_transaction.specs.declared.error.PrepareError.{PrepareError}
use Rattle.gix_ref_transaction.specs.Errors.{MayStay}

-- each file that exists existed before: no lock is left, unless a failure was counted or memory was
-- wanting
abbrev pub IsRolledBack : ℕ → ℕ → Tree → Tree → PrepareError → Type 0
IsRolledBack before now old new error =
    NoFileMore old new ⊎ (HasRisen before now ⊎ MayStay error)

-- files came at these paths alone
abbrev pub MoreFilesAt : List Bytes → Tree → Tree → Type 0
MoreFilesAt paths old new =
    (path : Bytes) → IsNone path paths → IsTrue (is_file_at new path) → IsTrue (is_file_at old path)

-- each file but those at these paths is as before
abbrev pub SameFilesBut : List Bytes → Tree → Tree → Type 0
SameFilesBut paths old new =
    (path : Bytes) → IsNone path paths → file_at new path ≡ file_at old path

-- the locks of packed records, and all
abbrev pub packed_locks : Option Transaction → List Bytes
packed_locks None = []
packed_locks (Some t) = packed.lock_path_of t ∷ []

abbrev pub all_locks : Option Transaction → List Move → List Bytes
all_locks t moves = packed_locks t ++ lock_paths moves

-- the lock of packed records doesn't exist
abbrev pub PackedGone : Option Transaction → Tree → Type 0
PackedGone None tree = Unit {0}
PackedGone (Some t) tree = is_file_at tree (packed.lock_path_of t) ≡ false

-- No lock exists, and no file that didn't.
pub record AllGone (moves : List Move) (t : Option Transaction) (old new : Tree) : Type 0 where
  pub locks : AllByRecursion (λ m. is_file_at new (lock_path_of m) ≡ false) moves
  pub packed : PackedGone t new
  pub none : NoFileMore old new

abbrev pub FailsForMemory : {T : Type 0} → Result T CommitError → Type 0
FailsForMemory (Ok x) = ⊥
FailsForMemory (Err error) = IsOutOfMemory error

-- ---- what came of giving locks back

abbrev pub of_commit : Result (Unit {0}) PackedError → GivenBack
of_commit (Ok done) = given.Done
of_commit (Err packed_case.Commit) = given.Failed
of_commit (Err packed_case.Memory) = given.Memory

abbrev pub of_back : GivenBack → Result (Unit {0}) CommitError
of_back given.Done = Ok tt
of_back given.Memory = Err moving.Memory
of_back given.Failed = Err moving.LockCommit

-- first of packed records, then of references
abbrev pub of_giving : GivenBack → GivenBack → Result (Unit {0}) CommitError
of_giving given.Failed locks = Err (moving.PackedTransactionCommit packed_case.Commit)
of_giving given.Done locks = of_back (worse given.Done locks)
of_giving given.Memory locks = of_back (worse given.Memory locks)
