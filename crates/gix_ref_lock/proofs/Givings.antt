-- Locks that are given back, one after another.
use Rattle.std.proofs.Common.{◌≡◌, ◌≢◌, refl, sym, ◌∙◌, ap, subst, false, List, [], ◌∷◌, ◌++◌, append_assoc, append-nil, Option, Some, None, length, arith}
use Rattle.std.specs.Prelude.{is_some}
use Rattle.std.specs.List.{AllByRecursion}
use Rattle.gix_ref_file.specs.Tree.{Tree, bytes_of}
use Rattle.gix_ref_file.specs.Changes.{is_file_at}
use Rattle.gix_ref_lock.specs.declared.lock.GivenBack.{GivenBack}
use Rattle.gix_ref_lock.specs.declared.lock.GivenBack.TheVariants.{Done}
use Rattle.gix_ref_lock.specs.Locks.{OthersStay}
use Rattle.gix_ref_way.specs.Ways.{Bytes, file_at}
use Rattle.gix_ref_lock.specs.Contents.{contents, place_of, lock_path_of, log_path_of}
use Rattle.gix_ref_lock.specs.Moves.{all_paths, IsNone, Once, AllMay}
use Rattle.gix_ref_lock.specs.Committing.{LocksAlone, NoneLocked}
use Rattle.gix_ref_lock.specs.declared.act.Move.{Move}
use Rattle.gix_ref_lock.proofs.PathLists.{Clear, Among, among, none_of_one, StaysBut, AllSame, all_same, all_append, all_weaker, all_both, all_of}

-- The first locks are given back, if that came to that; files and logs are as before.
pub record Giving (outcome : GivenBack) (moves rest : List Move) (old now : Tree) : Type 0 where
  pub done : List Move
  pub split : moves ≡ done ++ rest
  pub may : AllMay LocksAlone moves old now
  pub left : AllSame rest old now
  pub gone : outcome ≡ Done → AllByRecursion (λ m. file_at now (lock_path_of m) ≡ None) done

none_changed : (moves : List Move) (tree : Tree) → AllByRecursion (λ m. LocksAlone m.act (contents m tree) (contents m tree)) moves
none_changed [] tree = tt
none_changed (m ∷ moves) tree = ((refl, refl), none_changed moves tree)

pub giving_begun : (moves : List Move) (tree : Tree) → Giving Done moves moves tree tree
giving_begun moves tree = record { done = []; split = refl; may = record { each = none_changed moves tree; others = λ path none. refl }; left = all_of (λ m. contents m tree ≡ contents m tree) moves (λ m. refl); gone = λ done. tt }

turned : {p q : Bytes} → p ≢ q → q ≢ p
turned apart e = apart (sym e)

module _ (outcome : GivenBack) (moves : List Move) (m : Move) (rest : List Move) (old now : Tree) (so_far : Giving outcome moves (m ∷ rest) old now) (once : Once (all_paths moves)) where
  place : Among so_far.done m rest
  place = among so_far.done m rest (subst (λ ms. Once (all_paths ms)) so_far.split once)

  module _ (x : Tree) (stay : OthersStay (lock_path_of m) now x) where
    stays_but : StaysBut m now x
    stays_but path a b c = ap bytes_of (stay path b)

    still : AllByRecursion (λ n. LocksAlone n.act (contents n now) (contents n x)) moves
    still = subst (AllByRecursion (λ n. LocksAlone n.act (contents n now) (contents n x))) (sym so_far.split)
        (all_append (λ n. LocksAlone n.act (contents n now) (contents n x)) so_far.done (m ∷ rest)
        (same so_far.done place.before)
        ((ap bytes_of (stay (place_of m) place.apart.lock), ap bytes_of (stay (log_path_of m) (turned place.apart.log_lock))), same rest place.behind))
      where
        same : (ns : List Move) → AllByRecursion (λ n. Clear n m) ns → AllByRecursion (λ n. LocksAlone n.act (contents n now) (contents n x)) ns
        same ns clear = all_weaker (λ n. contents n x ≡ contents n now) (λ n. LocksAlone n.act (contents n now) (contents n x)) ns (λ n is. (ap (λ c. c.file) is, ap (λ c. c.log) is)) (all_same m ns now x clear stays_but)

    pub giving : AllMay LocksAlone moves old x
    giving = record {
      each = all_both (λ n. LocksAlone n.act (contents n old) (contents n now)) (λ n. LocksAlone n.act (contents n now) (contents n x)) (λ n. LocksAlone n.act (contents n old) (contents n x)) moves
          (λ n first second. (second.0 ∙ first.0, second.1 ∙ first.1)) so_far.may.each still;
      others = λ path none.
          let own = none_of_one path so_far.done m rest (subst (λ ms. IsNone path (all_paths ms)) so_far.split none) in
          stays_but path own.0 own.1.0 own.1.1.0 ∙ so_far.may.others path none;
    }

    pub one_given : (later after : GivenBack) → (after ≡ Done → (outcome ≡ Done) × (later ≡ Done)) → (later ≡ Done → is_file_at x (lock_path_of m) ≡ false) → Giving after moves rest old x
    one_given later after both gone = record {
      done = so_far.done ++ m ∷ [];
      split = so_far.split ∙ sym (append_assoc so_far.done (m ∷ []) rest);
      may = giving;
      left = all_both (λ n. contents n now ≡ contents n old) (λ n. contents n x ≡ contents n now) (λ n. contents n x ≡ contents n old) rest (λ n first second. second ∙ first) so_far.left.1 (all_same m rest now x place.behind stays_but);
      gone = λ is. let all = both is in all_none (so_far.gone all.0) (gone all.1);
    }
      where
        no_file : (o : Option Bytes) → is_some o ≡ false → o ≡ None
        no_file None is = refl
        no_file (Some bytes) is = cc

        all_none : AllByRecursion (λ n. file_at now (lock_path_of n) ≡ None) so_far.done → is_file_at x (lock_path_of m) ≡ false → AllByRecursion (λ n. file_at x (lock_path_of n) ≡ None) (so_far.done ++ m ∷ [])
        all_none before here = all_append (λ n. file_at x (lock_path_of n) ≡ None) so_far.done (m ∷ [])
            (all_both (λ n. file_at now (lock_path_of n) ≡ None) (λ n. contents n x ≡ contents n now) (λ n. file_at x (lock_path_of n) ≡ None) so_far.done (λ n none is. ap (λ c. c.lock) is ∙ none) before (all_same m so_far.done now x place.before stays_but))
            (no_file (file_at x (lock_path_of m)) here, tt)

pub giving_ended : (outcome : GivenBack) (moves rest : List Move) (old new : Tree) → length rest ≡ 0 → Giving outcome moves rest old new → outcome ≡ Done → NoneLocked moves old new
giving_ended outcome moves (m ∷ rest) old new none so_far is = absurd (omega (arith, none))
giving_ended outcome moves [] old new none so_far is = record {
  gone = subst (AllByRecursion (λ m. file_at new (lock_path_of m) ≡ None)) (sym (so_far.split ∙ append-nil so_far.done)) (so_far.gone is);
  may = so_far.may;
}
