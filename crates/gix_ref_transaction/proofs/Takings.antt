-- The lock of one file, taken and given back.
use Rattle.std.proofs.Common.{◌≡◌, ◌≢◌, ◌<◌, ◌⊎◌, ⊎_elim, inl, inr, Bool, true, false, List, [], ◌∷◌, length, refl, sym, ◌∙◌, ap, subst, Option, Some, None, arith}
use Rattle.std.specs.Prelude.{Contains, IsTrue, bytes_eq, IfSome}
use Rattle.std.proofs.lemmas.Slice.Eq.{bytes_eq-Decides}
use Rattle.std.proofs.lemmas.List.Elements.{Contains-push_cases}
use Rattle.gix_ref_file.specs.Changes.{may_hold_file}
use Rattle.gix_ref_file.specs.History.{History, Adds}
use Rattle.gix_ref_file.specs.Tree.{Tree, Node, file, folder, node_at, bytes_of, is_folder}
use Rattle.gix_ref_file.specs.declared.files.FileError.{FileError}
use Rattle.gix_ref_file.specs.declared.files.FileError.TheVariants as file_case
use Rattle.gix_ref_file.proofs.Histories.{adds_weaker}
use Rattle.gix_ref_lock.specs.Locks.{lock_of, OthersStay, KeepsHeld}
use Rattle.gix_ref_lock.specs.Moments.{SameButLocks}
use Rattle.gix_ref_lock.proofs.FileMoves.{now_of, same_now}
use Rattle.gix_ref_lock.proofs.LockPaths.{locks_joined, one_lock, same_files}
use Rattle.gix_ref_lock.specs.declared.lock.Lock.{Lock}
use Rattle.gix_ref_way.specs.Ways.{Bytes, file_at, FoldersOnlyOf, IsAbove, SameFiles, SameFolders}
use Rattle.gix_ref_way.proofs.FoldersMade.{above_shorter}
use Rattle.gix_ref_way.proofs.Rooms.{only_now, onlys_joined, onlys_same, room_stays}
use Rattle.gix_ref_transaction.specs.Errors.{TakeFault, of_file}
use Rattle.gix_ref_transaction.specs.Plans.{KeepsFiles}
use Rattle.gix_ref_transaction.specs.declared.error.PrepareError.TheVariants as fault
use Rattle.gix_ref_transaction.proofs.Plannings.{keeps_joined, keeps_same}

pub file_take : (may : Type 0) (e : FileError) → TakeFault may (of_file e)
file_take may file_case.Failed = tt
file_take may file_case.Memory = tt

pub file_io : (e : FileError) → (of_file e ≡ fault.Io) ⊎ (of_file e ≡ fault.Memory)
file_io file_case.Failed = inl refl
file_io file_case.Memory = inr refl

pub file_no_lock : (e : FileError) → of_file e ≡ fault.LockAcquire → ⊥
file_no_lock file_case.Failed is = cc
file_no_lock file_case.Memory is = cc

pub blamed : (P : Type 0) (b : Bool) → b ≡ true → P ⊎ (b ≡ false) → P
blamed P b is (inl p) = p
blamed P b is (inr none) = let wrong : true ≡ false = sym is ∙ none in cc

-- files stay while a lock is made
pub fresh_keeps : (lock : Bytes) (old new : Tree) → OthersStay lock old new → KeepsHeld lock old new → KeepsFiles old new
fresh_keeps lock old new stay held path text stood = by_test (bytes_eq path lock) refl
  where
    some : (o : Option Node) → bytes_of o ≡ Some text → o ≢ None
    some None is none = cc
    some (Some n) is none = cc

    by_test : (b : Bool) → bytes_eq path lock ≡ b → file_at new path ≡ Some text
    by_test true is =
        let here = (bytes_eq-Decides path lock).0 is in
        let there = sym (ap (file_at old) here) ∙ stood in
        ap (file_at new) here ∙ ap bytes_of (held (some (node_at old lock) there)) ∙ there
    by_test false is = ap bytes_of (stay path (λ here. let wrong : false ≡ true = sym is ∙ (bytes_eq-Decides path lock).1 here in cc)) ∙ stood

-- the way of a file is made: nothing comes at the path of its lock
lock_longer : (place : Bytes) → length place < length (lock_of place)
lock_longer [] = omega arith
lock_longer (b ∷ place) = omega (arith, lock_longer place)

one_is : (p other : Bytes) → Contains (p ∷ []) other → p ≡ other
one_is p other among = ⊎_elim (λ none. absurd (omega (arith, none.1))) (λ is. is) (Contains-push_cases [] p other among)

-- a folder comes where nothing was only above one of the paths
pub came_above : (paths : List Bytes) (old mid : Tree) (path : Bytes) → FoldersOnlyOf paths old mid → is_folder (node_at old path) ≡ false → node_at mid path ≡ Some folder → (other : Bytes) × Contains paths other × IsAbove path other
came_above paths old mid [] only none is = let wrong : ⊥ = cc in absurd wrong
came_above paths old mid (b ∷ path) only none is = elim (only.came (b ∷ path) is) [
  | inl was ↦ let wrong : ⊥ = cc (sym none ∙ ap is_folder was) in absurd wrong
  | inr over ↦ over
]

pub still_free : (place : Bytes) (old mid : Tree) → SameFiles old mid → FoldersOnlyOf (place ∷ []) old mid → node_at old (lock_of place) ≡ None → node_at mid (lock_of place) ≡ None
still_free place old mid same only free = by_case (node_at mid (lock_of place)) refl
  where
    not_above : (other : Bytes) → Contains (place ∷ []) other → IsAbove (lock_of place) other → ⊥
    not_above other among above = omega (arith, lock_longer place, above_shorter (lock_of place) place (subst (λ p. IsAbove (lock_of place) p) (sym (one_is place other among)) above))

    by_case : (o : Option Node) → node_at mid (lock_of place) ≡ o → node_at mid (lock_of place) ≡ None
    by_case None is = is
    by_case (Some (file bytes)) is = let wrong : Some bytes ≡ None = sym (ap bytes_of is) ∙ same (lock_of place) ∙ ap bytes_of free in cc
    by_case (Some folder) is = absurd (over (came_above (place ∷ []) old mid (lock_of place) only (ap is_folder free) is))
      where
        over : (other : Bytes) × Contains (place ∷ []) other × IsAbove (lock_of place) other → ⊥
        over (other, among, above) = not_above other among above

-- room stays while no folder comes or goes
pub still_room : (place : Bytes) (old new : History) → Adds (SameFolders old.tree) old new → IsTrue (may_hold_file old.tree place) → IsTrue (may_hold_file new.tree place)
still_room place old new same may = room_stays place [] old.tree new.tree may (only_now [] old new (onlys_same [] old new same)) (λ other among. absurd (omega (arith, among.1)))

-- of a lock that was found
pub found_so : (P : Lock → Type 0) (found : Option Lock) (lock : Lock) → found ≡ Some lock → IfSome found P → P lock
found_so P found lock is h = subst (λ f. IfSome f P) is h

-- ---- room is made for a file, and then its lock
module _ (place : Bytes) (old mid new : History) where
  pub lock_moments : Adds (SameFiles old.tree) old mid → Adds (OthersStay (lock_of place) mid.tree) mid new → Adds (SameButLocks old.tree) old new
  lock_moments cleared stays = locks_joined old mid new (adds_weaker old mid cleared (same_files old.tree)) (adds_weaker mid new stays (one_lock place (lock_of place) refl mid.tree))

  pub lock_folders : Adds (FoldersOnlyOf (place ∷ []) old.tree) old mid → Adds (SameFolders mid.tree) mid new → Adds (FoldersOnlyOf (place ∷ []) old.tree) old new
  lock_folders cleared stays = onlys_joined (place ∷ []) old mid new cleared (onlys_same (place ∷ []) mid new stays)

  pub lock_keeps : Adds (SameFiles old.tree) old mid → Adds (OthersStay (lock_of place) mid.tree) mid new → Adds (KeepsHeld (lock_of place) mid.tree) mid new → KeepsFiles old.tree new.tree
  lock_keeps cleared stays fresh =
      let stay = now_of (OthersStay (lock_of place) mid.tree) mid new (λ path apart. refl) stays in
      let held = now_of (KeepsHeld (lock_of place) mid.tree) mid new (λ some. refl) fresh in
      keeps_joined old.tree mid.tree new.tree (keeps_same old.tree mid.tree (same_now old mid cleared)) (fresh_keeps (lock_of place) mid.tree new.tree stay held)
