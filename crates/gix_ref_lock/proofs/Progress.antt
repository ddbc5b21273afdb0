-- How far a step came over moves.
use Rattle.std.proofs.Common.{◌≡◌, refl, sym, ◌∙◌, ap, subst, List, [], ◌∷◌, ◌++◌, append_assoc, append-nil, length, arith}
use Rattle.std.specs.List.{AllByRecursion}
use Rattle.gix_ref_file.specs.Tree.{Tree}
use Rattle.gix_ref_way.specs.Ways.{Bytes, file_at}
use Rattle.gix_ref_lock.specs.Contents.{Contents, contents}
use Rattle.gix_ref_lock.specs.Moves.{all_paths, IsNone, Once, AllHave, AllMay}
use Rattle.gix_ref_lock.specs.Moments.{AreApart, Has, MayMove}
use Rattle.gix_ref_lock.specs.declared.act.Act.{Act}
use Rattle.gix_ref_lock.specs.declared.act.Move.{Move}
use Rattle.gix_ref_lock.proofs.PathLists.{Among, among, none_of_one, StaysBut, AllSame, all_same, all_carried, all_append, all_weaker}

-- The first moves are made, those left are as before.
pub record Progress (f : Act → Contents → Contents) (moves rest : List Move) (old now : Tree) : Type 0 where
  pub done : List Move
  pub split : moves ≡ done ++ rest
  pub made : AllByRecursion (λ n. contents n now ≡ f n.act (contents n old)) done
  pub left : AllSame rest old now
  pub others : (path : Bytes) → IsNone path (all_paths moves) → file_at now path ≡ file_at old path

all_refl : (moves : List Move) (tree : Tree) → AllSame moves tree tree
all_refl [] tree = tt
all_refl (m ∷ moves) tree = (refl, all_refl moves tree)

pub begun : (f : Act → Contents → Contents) (moves : List Move) (tree : Tree) → Progress f moves moves tree tree
begun f moves tree = record { done = []; split = refl; made = tt; left = all_refl moves tree; others = λ path none. refl }

pub ended : (f : Act → Contents → Contents) (moves rest : List Move) (old new : Tree) → length rest ≡ 0 → Progress f moves rest old new → AllHave f moves old new
ended f moves [] old new none so_far = record {
  each = subst (AllByRecursion (λ n. contents n new ≡ f n.act (contents n old))) (sym (so_far.split ∙ append-nil so_far.done)) so_far.made;
  others = so_far.others;
}
ended f moves (m ∷ rest) old new none so_far = absurd (omega (arith, none))

module _ (f : Act → Contents → Contents) (moves : List Move) (m : Move) (rest : List Move) (old now : Tree) (so_far : Progress f moves (m ∷ rest) old now) (once : Once (all_paths moves)) where
  place : Among so_far.done m rest
  place = among so_far.done m rest (subst (λ ms. Once (all_paths ms)) so_far.split once)

  pub apart_now : AreApart m
  apart_now = place.apart

  not_here : (new : Tree) → StaysBut m now new → (path : Bytes) → IsNone path (all_paths moves) → file_at new path ≡ file_at old path
  not_here new stays path none =
      let own = none_of_one path so_far.done m rest (subst (λ ms. IsNone path (all_paths ms)) so_far.split none) in
      stays path own.0 own.1.0 own.1.1.0 ∙ so_far.others path none

  pub one_made : (new : Tree) → Has f m now new → Progress f moves rest old new
  one_made new has = record {
    done = so_far.done ++ m ∷ [];
    split = so_far.split ∙ sym (append_assoc so_far.done (m ∷ []) rest);
    made = all_append (λ n. contents n new ≡ f n.act (contents n old)) so_far.done (m ∷ [])
        (all_carried (λ n c. c ≡ f n.act (contents n old)) so_far.done now new so_far.made (all_same m so_far.done now new place.before has.others))
        (has.here ∙ ap (f m.act) so_far.left.0, tt);
    left = all_carried (λ n c. c ≡ contents n old) rest now new so_far.left.1 (all_same m rest now new place.behind has.others);
    others = not_here new has.others;
  }

  pub one_may : (R : Act → Contents → Contents → Type 0) → ((act : Act) (c : Contents) → R act c c) → ((act : Act) (c : Contents) → R act c (f act c)) → (x : Tree) → MayMove R m now x → AllMay R moves old x
  one_may R same made x may = record {
    each = subst (AllByRecursion (λ n. R n.act (contents n old) (contents n x))) (sym so_far.split) (all_append (λ n. R n.act (contents n old) (contents n x)) so_far.done (m ∷ rest) before (here, behind));
    others = not_here x may.others;
  }
    where
      before : AllByRecursion (λ n. R n.act (contents n old) (contents n x)) so_far.done
      before = all_carried (λ n c. R n.act (contents n old) c) so_far.done now x
          (all_weaker (λ n. contents n now ≡ f n.act (contents n old)) (λ n. R n.act (contents n old) (contents n now)) so_far.done (λ n is. subst (R n.act (contents n old)) (sym is) (made n.act (contents n old))) so_far.made)
          (all_same m so_far.done now x place.before may.others)

      here : R m.act (contents m old) (contents m x)
      here = subst (λ c. R m.act c (contents m x)) so_far.left.0 may.here

      behind : AllByRecursion (λ n. R n.act (contents n old) (contents n x)) rest
      behind = all_carried (λ n c. R n.act (contents n old) c) rest now x
          (all_weaker (λ n. contents n now ≡ contents n old) (λ n. R n.act (contents n old) (contents n now)) rest (λ n is. subst (R n.act (contents n old)) (sym is) (same n.act (contents n old))) so_far.left.1)
          (all_same m rest now x place.behind may.others)
