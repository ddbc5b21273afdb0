-- What is left of edits that aren't prepared: no lock, unless a failure was counted or memory was wanting.
use Rattle.std.proofs.Common.{◌≡◌, ◌≢◌, ◌⊎◌, inl, inr, refl, sym, ◌∙◌, ap, subst, Bool, true, false, List, [], ◌∷◌, ◌++◌, arith, ℕ, ◌≤◌, Option, Some, None}
use Rattle.std.specs.Prelude.{IsTrue, is_some, bytes_eq, IfSome}
use Rattle.std.proofs.lemmas.Slice.Eq.{bytes_eq-Decides}
use Rattle.std.specs.List.{AllByRecursion}
use Rattle.gix_ref_file.specs.Tree.{Tree, bytes_of, node_at}
use Rattle.gix_ref_file.specs.Changes.{is_file_at}
use Rattle.gix_ref_file.specs.History.{HasRisen}
use Rattle.gix_ref_file.specs.declared.files.FileError.{FileError}
use Rattle.gix_ref_file.specs.declared.files.FileError.TheVariants.{Failed}
use Rattle.gix_ref_file.specs.declared.files.FileError.TheVariants as file_case
use Rattle.gix_ref_lock.specs.Locks.{OthersStay}
use Rattle.gix_ref_lock.specs.declared.packed.PrepareError.TheVariants as writing
use Rattle.gix_ref_lock.specs.declared.packed.Transaction.{Transaction}
use Rattle.gix_ref_way.specs.Ways.{Bytes, SameFiles, file_at}
use Rattle.gix_ref_way.proofs.FoldersMade.{risen_later}
use Rattle.gix_ref_lock.specs.Contents.{lock_path_of}
use Rattle.gix_ref_lock.specs.Moments.{NoFileMore}
use Rattle.gix_ref_lock.specs.Moves.{IsNone, LocksHeld, Once, all_paths, lock_paths}
use Rattle.gix_ref_lock.specs.declared.act.Move.{Move}
use Rattle.gix_ref_lock.specs.Committing.{AreUnlocked, commit_paths}
use Rattle.gix_ref_lock.proofs.Unlockings.{none_more, still_gone}
use Rattle.gix_ref_transaction.specs.RecordsRollback as repacking
use Rattle.gix_ref_transaction.specs.declared.repacking.error.RepackError.{RepackError}
use Rattle.gix_ref_transaction.specs.declared.repacking.error.RepackError.TheVariants as repack
use Rattle.gix_ref_lock.specs.PackedEdits.{lock_path_of as lock_path_of_records}
use Rattle.gix_ref_transaction.specs.Errors.{Counts, IsAfter, MayBeLeft, MayStay, of_file, of_repacking}
use Rattle.gix_ref_transaction.specs.Locking.{RecordsHeld}
use Rattle.gix_ref_transaction.specs.Plans.{KeepsFiles}
use Rattle.gix_ref_transaction.specs.Rollback.{IsRolledBack, MoreFilesAt, AllGone, PackedGone, packed_locks, SameFilesBut, all_locks}
use Rattle.gix_ref_transaction.specs.declared.error.PrepareError.{PrepareError}
use Rattle.gix_ref_transaction.specs.declared.error.PrepareError.TheVariants.{Io}
use Rattle.gix_ref_transaction.proofs.Counting.{left_stays, or_after, short_stays}

pub same_more : (old new : Tree) → SameFiles old new → NoFileMore old new
same_more old new same path there = sym (ap is_some (same path)) ∙ there

pub trees_more : (old new : Tree) → new ≡ old → NoFileMore old new
trees_more old new same path there = sym (ap (λ t. is_file_at t path) same) ∙ there

stays_there : (lock path : Bytes) (old new : Tree) → OthersStay lock old new → path ≢ lock → IsTrue (is_file_at new path) → IsTrue (is_file_at old path)
stays_there lock path old new stay apart there = sym (ap (λ n. is_some (bytes_of n)) (stay path apart)) ∙ there

pub more_on : (lock : Bytes) (old mid new : Tree) → MoreFilesAt (lock ∷ []) old mid → OthersStay lock mid new → MoreFilesAt (lock ∷ []) old new
more_on lock old mid new more stay path none there = more path none (stays_there lock path mid new stay none.0 there)

pub more_after : (lock : Bytes) (old mid new : Tree) → NoFileMore old mid → OthersStay lock mid new → MoreFilesAt (lock ∷ []) old new
more_after lock old mid new none_more stay path none there = none_more path (stays_there lock path mid new stay none.0 there)

-- a path of a file isn't a path without one
apart_of : (path other : Bytes) (new : Tree) → IsTrue (is_file_at new path) → is_file_at new other ≡ false → path ≢ other
apart_of path other new there gone same = let wrong : true ≡ false = sym there ∙ ap (is_file_at new) same ∙ gone in cc

pub one_dropped : (lock : Bytes) (old new : Tree) → MoreFilesAt (lock ∷ []) old new → is_file_at new lock ≡ false → NoFileMore old new
one_dropped lock old new more gone path there = more path (apart_of path lock new there gone, tt) there

-- ---- one edit

pub unplanned_back : (a c : ℕ) (lock : Bytes) (old new : Tree) (told : PrepareError) → MoreFilesAt (lock ∷ []) old new → (is_file_at new lock ≡ false) ⊎ MayBeLeft told → Counts a c told → IsRolledBack a c old new told
unplanned_back a c lock old new told more (inl gone) counts = inl (one_dropped lock old new more gone)
unplanned_back a c lock old new told more (inr left) counts = inr (left_stays a c told left counts)

-- its lock isn't taken
pub untaken : (e : FileError) (a b c : ℕ) (old mid new : Tree) → a ≤ b → NoFileMore old mid → (e ≡ Failed → HasRisen b c ⊎ (new ≡ mid)) → IsRolledBack a c old new (of_file e)
untaken file_case.Memory a b c old mid new first none refused = inr (inr tt)
untaken file_case.Failed a b c old mid new first none refused = by_cause (refused refl)
  where
    by_cause : HasRisen b c ⊎ (new ≡ mid) → IsRolledBack a c old new Io
    by_cause (inl risen) = inr (inl (risen_later a b c c first risen (omega arith)))
    by_cause (inr same) = inl (λ path there. none path (trees_more mid new same path there))

-- ---- all edits

pub lock_paths_more : (ms : List Move) (m : Move) (path : Bytes) → IsNone path (lock_paths (ms ++ m ∷ [])) → IsNone path (lock_paths ms) × IsNone path (lock_path_of m ∷ [])
lock_paths_more [] m path none = (tt, none)
lock_paths_more (n ∷ ms) m path none = let rest = lock_paths_more ms m path none.1 in ((none.0, rest.0), rest.1)

pub one_more : (ms after : List Move) (m : Move) (old mid new : Tree) → after ≡ ms ++ m ∷ [] → MoreFilesAt (lock_paths ms) old mid → MoreFilesAt (lock_path_of m ∷ []) mid new → MoreFilesAt (lock_paths after) old new
one_more ms after m old mid new is first second path none there =
    let parts = lock_paths_more ms m path (subst (λ (l : List Move). IsNone path (lock_paths l)) is none) in
    first path parts.0 (second path parts.1 there)

pub after_error : (a b c : ℕ) (paths : List Bytes) (old mid new : Tree) (error : PrepareError) → a ≤ b → MoreFilesAt paths old mid → IsRolledBack b c mid new error → MoreFilesAt paths old new ⊎ (HasRisen a c ⊎ MayStay error)
after_error a b c paths old mid new error first more (inl none) = inl (λ path apart there. more path apart (none path there))
after_error a b c paths old mid new error first more (inr (inl risen)) = inr (inl (risen_later a b c c first risen (omega arith)))
after_error a b c paths old mid new error first more (inr (inr stays)) = inr (inr stays)

all_apart : (path : Bytes) (moves : List Move) (new : Tree) → IsTrue (is_file_at new path) → AllByRecursion (λ m. is_file_at new (lock_path_of m) ≡ false) moves → IsNone path (lock_paths moves)
all_apart path [] new there gone = tt
all_apart path (m ∷ moves) new there gone = (apart_of path (lock_path_of m) new there gone.0, all_apart path moves new there gone.1)

packed_apart : (path : Bytes) (t : Option Transaction) (new : Tree) → IsTrue (is_file_at new path) → PackedGone t new → IsNone path (packed_locks t)
packed_apart path None new there gone = tt
packed_apart path (Some t) new there gone = (apart_of path t.lock.path.items new there gone, tt)

pub all_dropped : (moves : List Move) (t : Option Transaction) (old mid then new : Tree) → MoreFilesAt (packed_locks t) old mid → MoreFilesAt (lock_paths moves) mid then → AllGone moves t then new → NoFileMore old new
all_dropped moves t old mid then new first second gone path there =
    first path (packed_apart path t new there gone.packed) (second path (all_apart path moves new there gone.locks) (gone.none path there))

-- the locks are given back after an error
pub dropped_back : (a b c d : ℕ) (moves : List Move) (t : Option Transaction) (old mid then new : Tree) (error told : PrepareError) → a ≤ b → c ≤ d → MoreFilesAt (packed_locks t) old mid
    → MoreFilesAt (lock_paths moves) mid then ⊎ (HasRisen b c ⊎ MayStay error) → IsAfter error told → Counts a d told → AllGone moves t then new ⊎ MayBeLeft told → IsRolledBack a d old new told
dropped_back a b c d moves t old mid then new error told one three first (inr (inl risen)) after counts dropped = inr (inl (risen_later a b c d one risen three))
dropped_back a b c d moves t old mid then new error told one three first (inr (inr stays)) after counts dropped =
    inr (or_after (λ e. Counts a d e → HasRisen a d ⊎ MayStay e) error told after (λ n. inl n) (λ n. inr tt) (λ n. inr stays) counts)
dropped_back a b c d moves t old mid then new error told one three first (inl more) after counts (inl gone) = inl (all_dropped moves t old mid then new first more gone)
dropped_back a b c d moves t old mid then new error told one three first (inl more) after counts (inr left) = inr (left_stays a d told left counts)

-- ---- packed records
records_same : (lock : Bytes) (old new : Tree) → OthersStay lock old new → is_file_at new lock ≡ is_file_at old lock → NoFileMore old new
records_same lock old new stay same path there = by_test (bytes_eq path lock) refl
  where
    by_test : (b : Bool) → bytes_eq path lock ≡ b → IsTrue (is_file_at old path)
    by_test true is = let here = (bytes_eq-Decides path lock).0 is in ap (is_file_at old) here ∙ sym same ∙ sym (ap (is_file_at new) here) ∙ there
    by_test false is = stays_there lock path old new stay (λ here. let wrong : false ≡ true = sym is ∙ (bytes_eq-Decides path lock).1 here in cc) there

pub of_records : (before now : ℕ) (lock : Bytes) (old new : Tree) (error : RepackError) → OthersStay lock old new → repacking.IsRolledBack lock before now old new error → IsRolledBack before now old new (of_repacking error)
of_records before now lock old new error stay (inl same) = inl (records_same lock old new stay same)
of_records before now lock old new (repack.PackedTransactionAcquire e) stay (inr (inl risen)) = inr (inl risen)
of_records before now lock old new (repack.PackedTransactionAcquire e) stay (inr (inr short)) = inr (inr (short_stays e short))
of_records before now lock old new (repack.PackedTransactionPrepare e) stay (inr (inl risen)) = inr (inl risen)
of_records before now lock old new (repack.PackedTransactionPrepare writing.Memory) stay (inr (inr short)) = inr (inr tt)
of_records before now lock old new (repack.PackedTransactionPrepare writing.CloseLock) stay (inr (inr short)) = absurd short
of_records before now lock old new (repack.Resolve e) stay (inr may) = absurd may
of_records before now lock old new repack.Memory stay (inr may) = absurd may

-- the lock of packed records may have come
pub with_records : (lock : Bytes) (t : Option Transaction) (old mid : Tree) → OthersStay lock old mid → IfSome t (λ t. lock_path_of_records t ≡ lock) → (t ≡ None → mid ≡ old) → MoreFilesAt (packed_locks t) old mid
with_records lock None old mid stay here same path none there = trees_more old mid (same refl) path there
with_records lock (Some t) old mid stay here same path none there = stays_there lock path old mid stay (λ is. none.0 (is ∙ sym here)) there

-- ---- both
still_unlocked : (t : Option Transaction) (mid new : Tree) → NoFileMore mid new → PackedGone t mid → PackedGone t new
still_unlocked None mid new none gone = tt
still_unlocked (Some t) mid new none gone = still_gone mid new none t.lock.path.items gone

pub all_gone : (moves : List Move) (t : Option Transaction) (old mid new : Tree) → PackedGone t mid × NoFileMore old mid → AreUnlocked moves mid new → AllGone moves t old new
all_gone moves t old mid new gone unlocked = record {
  locks = unlocked.gone;
  packed = still_unlocked t mid new unlocked.none gone.0;
  none = λ path there. gone.1 path (unlocked.none path there);
}

-- the lock of packed records has gone
pub records_gone : (t : Option Transaction) (r : Transaction) (old new : Tree) → t ≡ Some r → OthersStay r.lock.path.items old new → node_at new r.lock.path.items ≡ None → PackedGone t new × NoFileMore old new
records_gone t r old new is stay none =
    let gone = ap (λ n. is_some (bytes_of n)) none in (subst (λ t. PackedGone t new) (sym is) gone, none_more r.lock.path.items old new stay gone)

pub none_gone : (t : Option Transaction) (tree : Tree) → t ≡ None → PackedGone t tree × NoFileMore tree tree
none_gone t tree is = (subst (λ t. PackedGone t tree) (sym is) tt, λ path there. there)

pub records_held : (t : Option Transaction) (r : Transaction) (tree : Tree) → t ≡ Some r → RecordsHeld t tree → IsTrue (is_file_at tree r.lock.path.items)
records_held t r tree is held = subst (λ t. RecordsHeld t tree) is held

-- ---- the locks still exist
pub records_others : (t : Option Transaction) (r : Transaction) (old new : Tree) → t ≡ Some r → OthersStay r.lock.path.items old new → SameFilesBut (packed_locks t) old new
records_others t r old new is stay = subst (λ t. SameFilesBut (packed_locks t) old new) (sym is) (λ path none. ap bytes_of (stay path none.0))

pub locks_once : (t : Option Transaction) (moves : List Move) → Once (all_locks t moves) → Once (lock_paths moves)
locks_once None moves once = once
locks_once (Some t) moves once = once.1

held_apart : (lock : Bytes) (moves : List Move) (old mid : Tree) → SameFilesBut (lock ∷ []) old mid → IsNone lock (lock_paths moves) → LocksHeld moves old → LocksHeld moves mid
held_apart lock [] old mid same none held = tt
held_apart lock (m ∷ moves) old mid same none held = (ap is_some (same (lock_path_of m) (λ e. none.0 (sym e), tt)) ∙ held.0, held_apart lock moves old mid same none.1 held.1)

held_same : (moves : List Move) (old mid : Tree) → SameFilesBut [] old mid → LocksHeld moves old → LocksHeld moves mid
held_same [] old mid same held = tt
held_same (m ∷ moves) old mid same held = (ap is_some (same (lock_path_of m) tt) ∙ held.0, held_same moves old mid same held.1)

-- those of moves, after that of packed records was given back
pub locks_held : (t : Option Transaction) (moves : List Move) (old mid : Tree) → SameFilesBut (packed_locks t) old mid → Once (all_locks t moves) → LocksHeld moves old → LocksHeld moves mid
locks_held None moves old mid same once held = held_same moves old mid same held
locks_held (Some t) moves old mid same once held = held_apart t.lock.path.items moves old mid same once.0 held

-- a file's path isn't one without a file
apart_from : (path other : Bytes) (tree : Tree) → IsTrue (is_file_at tree path) → file_at tree other ≡ None → path ≢ other
apart_from path other tree there none = apart_of path other tree there (ap is_some none)

none_after : (path : Bytes) (moves : List Move) (m : Move) → IsNone path (lock_paths moves) → path ≢ lock_path_of m → IsNone path (lock_paths (moves ++ m ∷ []))
none_after path [] m none apart = (apart, tt)
none_after path (n ∷ moves) m none apart = (none.0, none_after path moves m none.1 apart)

pub once_more : (moves : List Move) (m : Move) (tree : Tree) → LocksHeld moves tree → file_at tree (lock_path_of m) ≡ None → Once (lock_paths moves) → Once (lock_paths (moves ++ m ∷ []))
once_more [] m tree held free once = (tt, tt)
once_more (n ∷ moves) m tree held free once =
    (none_after (lock_path_of n) moves m once.0 (apart_from (lock_path_of n) (lock_path_of m) tree held.0 free), once_more moves m tree held.1 free once.1)

pub free_before : (old mid : Tree) → KeepsFiles old mid → (path : Bytes) → file_at mid path ≡ None → file_at old path ≡ None
free_before old mid keeps path free = by_file (file_at old path) refl
  where
    by_file : (o : Option Bytes) → file_at old path ≡ o → file_at old path ≡ None
    by_file None is = is
    by_file (Some text) is = let wrong : None ≡ Some text = sym free ∙ keeps path text is in absurd (cc wrong)

none_fresh : (path : Bytes) (moves : List Move) (tree : Tree) → IsTrue (is_file_at tree path) → AllByRecursion (λ m. file_at tree (lock_path_of m) ≡ None) moves → IsNone path (lock_paths moves)
none_fresh path [] tree there fresh = tt
none_fresh path (m ∷ moves) tree there fresh = (apart_from path (lock_path_of m) tree there fresh.0, none_fresh path moves tree there fresh.1)

-- all locks of a transaction differ
pub all_once : (t : Option Transaction) (moves : List Move) (tree : Tree) → IfSome t (λ t. IsTrue (is_file_at tree (lock_path_of_records t))) → AllByRecursion (λ m. file_at tree (lock_path_of m) ≡ None) moves → Once (lock_paths moves) → Once (all_locks t moves)
all_once None moves tree held fresh once = once
all_once (Some t) moves tree held fresh once = (none_fresh t.lock.path.items moves tree held fresh, once)

none_among : (path : Bytes) (moves : List Move) → IsNone path (all_paths moves) → IsNone path (lock_paths moves)
none_among path [] none = tt
none_among path (m ∷ moves) none = (none.1.0, none_among path moves none.1.1.1)

moves_once : (moves : List Move) → Once (all_paths moves) → Once (lock_paths moves)
moves_once [] once = tt
moves_once (m ∷ moves) once = (none_among (lock_path_of m) moves once.1.0.1, moves_once moves once.1.1.1)

pub paths_once : (t : Option Transaction) (moves : List Move) → Once (commit_paths t moves) → Once (all_locks t moves)
paths_once None moves once = moves_once moves once
paths_once (Some t) moves once = (none_among t.lock.path.items moves once.1.0, moves_once moves once.1.1)
