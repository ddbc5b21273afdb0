-- Paths that end as locks do.
use Rattle.std.proofs.Common.{◌≡◌, ◌≢◌, refl, sym, ◌∙◌, ap, true, false, [], ◌∷◌, ◌++◌, ◌-◌, drop, length, length-append, arith}
use Rattle.std.specs.Prelude.{IsFalse, codes}
use Rattle.std.proofs.lemmas.Slice.Eq.{bytes_eq-Decides}
use Rattle.gix_object_lines.specs.NameTest.{ends}
use Rattle.gix_ref_file.specs.Tree.{Tree, bytes_of}
use Rattle.gix_ref_file.specs.History.{History, Adds}
use Rattle.gix_ref_file.proofs.Histories.{adds_weaker, adds_joined}
use Rattle.gix_ref_lock.specs.Locks.{lock_of, OthersStay}
use Rattle.gix_ref_way.specs.Ways.{Bytes, SameFiles}
use Rattle.gix_ref_lock.specs.Moments.{is_lock, SameButLocks}
use Rattle.gix_ref_lock.proofs.FileMoves.{now_of}

ends_after : (front back : Bytes) → ends back (front ++ back) ≡ true
ends_after front back = (bytes_eq-Decides back (drop (length (front ++ back) - length back) (front ++ back))).1 (sym (whole front))
  where
    gone : (f : Bytes) → drop (length f) (f ++ back) ≡ back
    gone [] = refl
    gone (b ∷ f) = gone f

    whole : (f : Bytes) → drop (length (f ++ back) - length back) (f ++ back) ≡ back
    whole f = ap (λ n. drop n (f ++ back)) (let sum = length-append f back in omega arith) ∙ gone f

pub lock_is_lock : (place : Bytes) → is_lock (lock_of place) ≡ true
lock_is_lock place = ends_after place (codes ".lock")

pub no_lock_apart : (place path : Bytes) → IsFalse (is_lock path) → path ≢ lock_of place
no_lock_apart place path none same = let wrong : true ≡ false = sym (lock_is_lock place) ∙ ap is_lock (sym same) ∙ none in cc

-- a lock's file changes
pub one_lock : (place lock : Bytes) → lock ≡ lock_of place → (old x : Tree) → OthersStay lock old x → SameButLocks old x
one_lock place lock beside old x stay path none = ap bytes_of (stay path (λ same. no_lock_apart place path none (same ∙ beside)))

pub same_files : (old x : Tree) → SameFiles old x → SameButLocks old x
same_files old x same path none = same path

pub locks_joined : (old mid new : History) → Adds (SameButLocks old.tree) old mid → Adds (SameButLocks mid.tree) mid new → Adds (SameButLocks old.tree) old new
locks_joined old mid new first second =
    adds_joined old mid new first (adds_weaker mid new second (λ x same path none. same path none ∙ now path none))
  where
    now : SameButLocks old.tree mid.tree
    now = now_of (SameButLocks old.tree) old mid (λ path none. refl) first
