-- What moves need so that they fail only if a call of the files does, and the logs for which
-- folders are made and removed.
use Rattle.std.specs.Prelude.{ℕ, List, [], ◌∷◌, ◌++◌, Option, Some, None, Vec, Contains, IsTrue, IsSome}
use Rattle.std.specs.List.{AllByRecursion}
use Rattle.std.specs.declared.alloc.Global.{Global}
use Rattle.gix_ref_file.specs.Tree.{Tree, is_path}
use Rattle.gix_ref_file.specs.Changes.{is_file_at, may_hold_file}
use Rattle.gix_ref_lock.specs.PackedEdits as packed
use Rattle.gix_ref_lock.specs.PackedErrors.{IsUncommitted}
use Rattle.gix_ref_lock.specs.declared.packed.Transaction.{Transaction}
use Rattle.gix_ref_way.specs.Ways.{Bytes, IsAbove, HasWay}
use Rattle.gix_ref_lock.specs.Contents.{Contents, contents, act_line, place_of, lock_path_of, log_path_of}
use Rattle.gix_ref_lock.specs.Committing.{commit_paths}
use Rattle.gix_ref_lock.specs.declared.act.Act.{Act}
use Rattle.gix_ref_lock.specs.declared.act.Act.TheVariants as acts
use Rattle.gix_ref_lock.specs.declared.act.CommitError.{CommitError}
use Rattle.gix_ref_lock.specs.declared.act.CommitError.TheVariants.{PackedTransactionCommit, LockCommit, DeleteReference, DeleteReflog, CreateOrUpdateRefLog, Memory}
use Rattle.gix_ref_lock.specs.declared.act.Move.{Move}
use Rattle.gix_ref_lock.specs.declared.steps.Step.{Step}
use Rattle.gix_ref_lock.specs.declared.steps.Step.TheVariants.{Update, Forget, Remove}

-- the log that gets a line, if there is one
abbrev pub noted_logs : Option (Vec ℕ Global) → Bytes → List Bytes
noted_logs None log = []
noted_logs (Some line) log = log ∷ []

abbrev pub logs_of : Move → List Bytes
logs_of m = noted_logs (act_line m.act) (log_path_of m)

-- the logs of several moves that get lines
abbrev pub log_paths : List Move → List Bytes
log_paths [] = []
log_paths (m ∷ ms) = logs_of m ++ log_paths ms

-- If there is a line for the log, there may be a file at the log's path.
abbrev pub CanNote : Option (Vec ℕ Global) → Bytes → Tree → Type 0
CanNote None log tree = Unit {0}
CanNote (Some line) log tree = IsTrue (is_path log) × HasWay log tree

-- The lock of a move is held, there may be a file at its place, and its log may get its line.
pub record CanMove (m : Move) (tree : Tree) : Type 0 where
  pub held : IsTrue (is_file_at tree (lock_path_of m))
  pub place : IsTrue (may_hold_file tree (place_of m))
  pub log : CanNote (act_line m.act) (log_path_of m) tree

-- the lock of packed records is held, and there may be a file at their place
abbrev pub CanReplace : Option Transaction → Tree → Type 0
CanReplace None tree = Unit {0}
CanReplace (Some t) tree = IsTrue (is_file_at tree (packed.lock_path_of t))
    × IsTrue (may_hold_file tree (packed.place_of t))

-- the lock of packed records is held
abbrev pub PackedLocked : Option Transaction → Tree → Type 0
PackedLocked None tree = Unit {0}
PackedLocked (Some t) tree = IsTrue (is_file_at tree (packed.lock_path_of t))

-- none of these paths is below another
abbrev pub AreBeside : List Bytes → Type 0
AreBeside paths =
    (upper lower : Bytes) → Contains paths upper → Contains paths lower → ¬ IsAbove upper lower

-- All moves can be made, and packed records replaced.
pub record CanCommit (t : Option Transaction) (moves : List Move) (tree : Tree) : Type 0 where
  pub each : AllByRecursion (λ m. CanMove m tree) moves
  pub packed : CanReplace t tree
  pub apart : AreBeside (commit_paths t moves)

-- an error says that memory ran out
abbrev pub IsOutOfMemory : CommitError → Type 0
IsOutOfMemory (PackedTransactionCommit error) = IsUncommitted error
IsOutOfMemory LockCommit = ⊥
IsOutOfMemory DeleteReference = ⊥
IsOutOfMemory DeleteReflog = ⊥
IsOutOfMemory (CreateOrUpdateRefLog error) = ⊥
IsOutOfMemory Memory = Unit {0}

-- ---- of the single steps

-- the lock is held until the file is removed
abbrev pub KeepsLock : Act → Contents → Type 0
KeepsLock (acts.Put line) c = Unit {0}
KeepsLock (acts.Note line) c = Unit {0}
KeepsLock (acts.Pack line) c = IsSome c.lock
KeepsLock acts.Remove c = IsSome c.lock
KeepsLock acts.Forget c = IsSome c.lock

-- what a step needs of a move
abbrev pub Needs : Step → Move → Tree → Type 0
Needs Update m tree = CanMove m tree
Needs Forget m tree = Unit {0}
Needs Remove m tree = KeepsLock m.act (contents m tree)
