-- Locks that are given back leave no file that didn't exist.
use Rattle.std.proofs.Common.{◌≡◌, ◌≢◌, refl, sym, ◌∙◌, ap, subst, Bool, true, false, List, [], ◌∷◌, ◌++◌, append_assoc, append-nil, length, arith}
use Rattle.std.specs.Prelude.{IsTrue, is_some, bytes_eq}
use Rattle.std.proofs.lemmas.Slice.Eq.{bytes_eq-Decides}
use Rattle.gix_ref_file.specs.Tree.{Tree, bytes_of}
use Rattle.gix_ref_file.specs.Changes.{is_file_at}
use Rattle.gix_ref_lock.specs.declared.lock.GivenBack.{GivenBack}
use Rattle.gix_ref_lock.specs.declared.lock.GivenBack.TheVariants.{Done}
use Rattle.gix_ref_lock.specs.Locks.{OthersStay}
use Rattle.gix_ref_way.specs.Ways.{Bytes}
use Rattle.gix_ref_lock.specs.Contents.{lock_path_of}
use Rattle.gix_ref_lock.specs.Committing.{AreUnlocked}
use Rattle.gix_ref_lock.specs.Moments.{NoFileMore}
use Rattle.gix_ref_lock.specs.Moves.{IsNone, LocksHeld, lock_paths}
use Rattle.gix_ref_lock.specs.declared.act.Move.{Move}
use Rattle.gix_ref_lock.proofs.PathLists.{all_append, all_weaker}

-- one lock has gone
pub none_more : (lock : Bytes) (old new : Tree) → OthersStay lock old new → is_file_at new lock ≡ false → NoFileMore old new
none_more lock old new stay gone path there = by_test (bytes_eq path lock) refl
  where
    by_test : (b : Bool) → bytes_eq path lock ≡ b → IsTrue (is_file_at old path)
    by_test true is = let same = (bytes_eq-Decides path lock).0 is in let wrong : true ≡ false = sym there ∙ ap (is_file_at new) same ∙ gone in absurd (cc wrong)
    by_test false is = sym (ap (λ n. is_some (bytes_of n)) (stay path apart)) ∙ there
      where
        apart : path ≢ lock
        apart same = let wrong : false ≡ true = sym is ∙ (bytes_eq-Decides path lock).1 same in cc

pub still_gone : (old new : Tree) → NoFileMore old new → (path : Bytes) → is_file_at old path ≡ false → is_file_at new path ≡ false
still_gone old new none path gone = by_test (is_file_at new path) refl
  where
    by_test : (b : Bool) → is_file_at new path ≡ b → is_file_at new path ≡ false
    by_test false is = is
    by_test true is = let wrong : true ≡ false = sym (none path is) ∙ gone in absurd (cc wrong)

-- the other locks still exist
pub held_still : (lock : Bytes) (moves : List Move) (now x : Tree) → OthersStay lock now x → IsNone lock (lock_paths moves) → LocksHeld moves now → LocksHeld moves x
held_still lock [] now x stay apart held = tt
held_still lock (m ∷ moves) now x stay apart held = (ap (λ n. is_some (bytes_of n)) (stay (lock_path_of m) (λ same. apart.0 (sym same))) ∙ held.0, held_still lock moves now x stay apart.1 held.1)

-- The first locks are given back, if that came to that.
pub record Unlocking (outcome : GivenBack) (moves rest : List Move) (old now : Tree) : Type 0 where
  pub done : List Move
  pub split : moves ≡ done ++ rest
  pub told : outcome ≡ Done → AreUnlocked done old now

pub unlocking_begun : (moves : List Move) (tree : Tree) → Unlocking Done moves moves tree tree
unlocking_begun moves tree = record { done = []; split = refl; told = λ done. record { gone = tt; none = λ path there. there } }

one_more : (done : List Move) (m : Move) (old now x : Tree) → AreUnlocked done old now → OthersStay (lock_path_of m) now x → is_file_at x (lock_path_of m) ≡ false → AreUnlocked (done ++ m ∷ []) old x
one_more done m old now x unlocked stay gone =
    let none = none_more (lock_path_of m) now x stay gone in
    record {
      gone = all_append (λ n. is_file_at x (lock_path_of n) ≡ false) done (m ∷ [])
          (all_weaker (λ n. is_file_at now (lock_path_of n) ≡ false) (λ n. is_file_at x (lock_path_of n) ≡ false) done (λ n. still_gone now x none (lock_path_of n)) unlocked.gone) (gone, tt);
      none = λ path there. unlocked.none path (none path there);
    }

pub unlocking_on : (outcome later after : GivenBack) (moves : List Move) (m : Move) (rest : List Move) (old now x : Tree)
    → Unlocking outcome moves (m ∷ rest) old now → OthersStay (lock_path_of m) now x
    → (after ≡ Done → (outcome ≡ Done) × (later ≡ Done)) → (later ≡ Done → is_file_at x (lock_path_of m) ≡ false)
    → Unlocking after moves rest old x
unlocking_on outcome later after moves m rest old now x so_far stay both gone = record {
  done = so_far.done ++ m ∷ [];
  split = so_far.split ∙ sym (append_assoc so_far.done (m ∷ []) rest);
  told = λ is. let all = both is in one_more so_far.done m old now x (so_far.told all.0) stay (gone all.1);
}

pub unlocking_ended : (outcome : GivenBack) (moves rest : List Move) (old new : Tree) → length rest ≡ 0 → Unlocking outcome moves rest old new → outcome ≡ Done → AreUnlocked moves old new
unlocking_ended outcome moves (m ∷ rest) old new none so_far is = absurd (omega (arith, none))
unlocking_ended outcome moves [] old new none so_far is = subst (λ ms. AreUnlocked ms old new) (sym (so_far.split ∙ append-nil so_far.done)) (so_far.told is)
