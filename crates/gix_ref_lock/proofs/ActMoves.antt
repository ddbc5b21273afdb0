-- What the acts of one move leave of its files.
use Rattle.std.proofs.Common.{◌≡◌, ◌≢◌, ◌⊎◌, inl, inr, sym, ◌∙◌, ap, subst, ℕ, Option, Some, None, Vec, []}
use Rattle.std.specs.Prelude.{unwrap_or}
use Rattle.std.specs.declared.alloc.Global.{Global}
use Rattle.gix_ref_file.specs.Tree.{Tree, file, node_at, bytes_of, bytes_at}
use Rattle.gix_ref_lock.specs.Locks.{OthersStay, MayBePut, IsPut}
use Rattle.gix_ref_way.specs.Ways.{Bytes, file_at}
use Rattle.gix_ref_lock.specs.Contents.{contents, noted, MayBeNoted, updated, gone, removed, place_of, lock_path_of, log_path_of}
use Rattle.gix_ref_lock.specs.Moments.{MayNote, NotesLog, MayGo, IsGone, MayMove, Has, AreApart, IsUpdating, IsForgetting, IsGoing, IsRemoving}
use Rattle.gix_ref_lock.specs.declared.act.Act.TheVariants.{Put, Note, Pack, Remove, Forget}
use Rattle.gix_ref_lock.specs.declared.act.Move.{Move}
use Rattle.gix_ref_lock.proofs.StepEnds.{all_noted}

turned : {p q : Bytes} → p ≢ q → q ≢ p
turned apart e = apart (sym e)

module _ (m : Move) (apart : AreApart m) where
  -- ---- updates
  module _ (line : Option (Vec ℕ Global)) (old : Tree) where
    module _ (is : m.act ≡ Put line) where
      pub noting_put : (x : Tree) → MayNote line (log_path_of m) old x → MayMove IsUpdating m old x
      noting_put x may = record {
        here = subst (λ act. IsUpdating act (contents m old) (contents m x)) (sym is) (inl (may.others (place_of m) apart.log, may.here));
        others = λ path a b c. may.others path c;
      }

      module _ (mid : Tree) (is_noted : NotesLog line (log_path_of m) old mid) where
        text_is : Some (bytes_at mid (lock_path_of m)) ≡ Some (bytes_at old (lock_path_of m))
        text_is = ap (λ f. Some (unwrap_or f [])) (is_noted.others (lock_path_of m) apart.log_lock)

        module _ (x : Tree) (may : MayBePut (place_of m) (lock_path_of m) (bytes_at mid (lock_path_of m)) mid x) where
          log_is : file_at x (log_path_of m) ≡ noted line (file_at old (log_path_of m))
          log_is = ap bytes_of (may.others (log_path_of m) (turned apart.log) (turned apart.log_lock)) ∙ is_noted.here

          others_are : (path : Bytes) → path ≢ place_of m → path ≢ lock_path_of m → path ≢ log_path_of m → file_at x path ≡ file_at old path
          others_are path a b c = ap bytes_of (may.others path a b) ∙ is_noted.others path c

          pub putting : MayMove IsUpdating m old x
          putting = record {
            here = subst (λ act. IsUpdating act (contents m old) (contents m x)) (sym is) (by_case may.here);
            others = others_are;
          }
            where
              by_case : (node_at x (place_of m) ≡ node_at mid (place_of m)) ⊎ (node_at x (place_of m) ≡ Some (file (bytes_at mid (lock_path_of m)))) → IsUpdating (Put line) (contents m old) (contents m x)
              by_case (inl same) = inl (ap bytes_of same ∙ is_noted.others (place_of m) apart.log, subst (MayBeNoted line (file_at old (log_path_of m))) (sym log_is) (all_noted line (file_at old (log_path_of m))))
              by_case (inr new) = inr (ap bytes_of new ∙ text_is, log_is)

          pub is_put : IsPut (place_of m) (lock_path_of m) (bytes_at mid (lock_path_of m)) x → Has updated m old x
          is_put put = record {
            here = subst (λ act. contents m x ≡ updated act (contents m old)) (sym is)
                (let here = ap bytes_of put.here ∙ text_is in let gone = ap bytes_of put.gone in let log = log_is in λ i. record { file = here i; log = log i; lock = gone i });
            others = others_are;
          }

    module _ (is : m.act ≡ Note line) where
      pub noting_note : (x : Tree) → MayNote line (log_path_of m) old x → MayMove IsUpdating m old x
      noting_note x may = record {
        here = subst (λ act. IsUpdating act (contents m old) (contents m x)) (sym is) (may.others (place_of m) apart.log, may.here);
        others = λ path a b c. may.others path c;
      }

      module _ (mid : Tree) (is_noted : NotesLog line (log_path_of m) old mid) (x : Tree) (stay : OthersStay (lock_path_of m) mid x) where
        note_log_is : file_at x (log_path_of m) ≡ noted line (file_at old (log_path_of m))
        note_log_is = ap bytes_of (stay (log_path_of m) (turned apart.log_lock)) ∙ is_noted.here

        note_file_is : file_at x (place_of m) ≡ file_at old (place_of m)
        note_file_is = ap bytes_of (stay (place_of m) apart.lock) ∙ is_noted.others (place_of m) apart.log

        note_others : (path : Bytes) → path ≢ place_of m → path ≢ lock_path_of m → path ≢ log_path_of m → file_at x path ≡ file_at old path
        note_others path a b c = ap bytes_of (stay path b) ∙ is_noted.others path c

        pub giving_note : MayMove IsUpdating m old x
        giving_note = record {
          here = subst (λ act. IsUpdating act (contents m old) (contents m x)) (sym is) (note_file_is, subst (MayBeNoted line (file_at old (log_path_of m))) (sym note_log_is) (all_noted line (file_at old (log_path_of m))));
          others = note_others;
        }

        pub is_note : node_at x (lock_path_of m) ≡ None → Has updated m old x
        is_note none = record {
          here = subst (λ act. contents m x ≡ updated act (contents m old)) (sym is)
              (let file_is = note_file_is in let gone = ap bytes_of none in let log = note_log_is in λ i. record { file = file_is i; log = log i; lock = gone i });
          others = note_others;
        }

  -- ---- what is packed gets its line
  module _ (line : Option (Vec ℕ Global)) (is : m.act ≡ Pack line) (old x : Tree) where
    pub noting_pack : MayNote line (log_path_of m) old x → MayMove IsUpdating m old x
    noting_pack may = record {
      here = subst (λ act. IsUpdating act (contents m old) (contents m x)) (sym is) (may.others (place_of m) apart.log, may.here);
      others = λ path a b c. may.others path c;
    }

    pub is_pack : NotesLog line (log_path_of m) old x → Has updated m old x
    is_pack has = record {
      here = subst (λ act. contents m x ≡ updated act (contents m old)) (sym is)
          (let file_is = has.others (place_of m) apart.log in let lock_is = has.others (lock_path_of m) apart.log_lock in let log = has.here in λ i. record { file = file_is i; log = log i; lock = lock_is i });
      others = λ path a b c. has.others path c;
    }

    pub pack_goes : MayMove IsGoing m old x → MayMove IsRemoving m old x
    pack_goes may = record { here = subst (λ act. IsRemoving act (contents m old) (contents m x)) (sym is) may.here; others = may.others }

    pub pack_gone : Has gone m old x → Has removed m old x
    pack_gone has = record { here = subst (λ act. contents m x ≡ removed act (contents m old)) (sym is) has.here; others = has.others }

  -- ---- removals
  module _ (is : m.act ≡ Remove) (old x : Tree) where
    pub file_goes : MayMove IsGoing m old x → MayMove IsRemoving m old x
    file_goes may = record { here = subst (λ act. IsRemoving act (contents m old) (contents m x)) (sym is) may.here; others = may.others }

    pub file_gone : Has gone m old x → Has removed m old x
    file_gone has = record { here = subst (λ act. contents m x ≡ removed act (contents m old)) (sym is) has.here; others = has.others }

  module _ (old : Tree) where
    pub going_file : (x : Tree) → MayGo (place_of m) old x → MayMove IsGoing m old x
    going_file x may = record {
      here = (may.file, may.others (log_path_of m) (turned apart.log));
      others = λ path a b c. may.others path a;
    }

    module _ (mid : Tree) (went : IsGone (place_of m) old mid) (x : Tree) (stay : OthersStay (lock_path_of m) mid x) where
      gone_file : file_at x (place_of m) ≡ None
      gone_file = ap bytes_of (stay (place_of m) apart.lock) ∙ went.file

      gone_log : file_at x (log_path_of m) ≡ file_at old (log_path_of m)
      gone_log = ap bytes_of (stay (log_path_of m) (turned apart.log_lock)) ∙ went.others (log_path_of m) (turned apart.log)

      gone_others : (path : Bytes) → path ≢ place_of m → path ≢ lock_path_of m → path ≢ log_path_of m → file_at x path ≡ file_at old path
      gone_others path a b c = ap bytes_of (stay path b) ∙ went.others path a

      pub giving_removed : MayMove IsGoing m old x
      giving_removed = record { here = (inr gone_file, gone_log); others = gone_others }

      pub is_removed : node_at x (lock_path_of m) ≡ None → Has gone m old x
      is_removed none = record {
        here = let file_is = gone_file in let lock_is = ap bytes_of none in let log = gone_log in λ i. record { file = file_is i; log = log i; lock = lock_is i };
        others = gone_others;
      }

    module _ (is : m.act ≡ Forget) (x : Tree) (stay : OthersStay (lock_path_of m) old x) where
      pub giving_forgotten : MayMove IsRemoving m old x
      giving_forgotten = record {
        here = subst (λ act. IsRemoving act (contents m old) (contents m x)) (sym is) (ap bytes_of (stay (place_of m) apart.lock), ap bytes_of (stay (log_path_of m) (turned apart.log_lock)));
        others = λ path a b c. ap bytes_of (stay path b);
      }

      pub is_given : node_at x (lock_path_of m) ≡ None → Has removed m old x
      is_given none = record {
        here = subst (λ act. contents m x ≡ removed act (contents m old)) (sym is)
            (let file_is = ap bytes_of (stay (place_of m) apart.lock) in let lock_is = ap bytes_of none in let log = ap bytes_of (stay (log_path_of m) (turned apart.log_lock)) in λ i. record { file = file_is i; log = log i; lock = lock_is i });
        others = λ path a b c. ap bytes_of (stay path b);
      }

    -- ---- logs that are removed
    log_goes : (x : Tree) → MayGo (log_path_of m) old x → (contents m x ≡ contents m old) ⊎ (contents m x ≡ record { file = file_at old (place_of m); log = None; lock = file_at old (lock_path_of m) })
    log_goes x may = by_case may.file
      where
        by_case : (file_at x (log_path_of m) ≡ file_at old (log_path_of m)) ⊎ (file_at x (log_path_of m) ≡ None)
            → (contents m x ≡ contents m old) ⊎ (contents m x ≡ record { file = file_at old (place_of m); log = None; lock = file_at old (lock_path_of m) })
        by_case (inl same) = let f = may.others (place_of m) apart.log in let l = may.others (lock_path_of m) apart.log_lock in inl (λ i. record { file = f i; log = same i; lock = l i })
        by_case (inr none) = let f = may.others (place_of m) apart.log in let l = may.others (lock_path_of m) apart.log_lock in inr (λ i. record { file = f i; log = none i; lock = l i })

    pub forgetting : (m.act ≡ Remove) ⊎ (m.act ≡ Forget) → (x : Tree) → MayGo (log_path_of m) old x → MayMove IsForgetting m old x
    forgetting which x may = record { here = by_act which; others = λ path a b c. may.others path c }
      where
        by_act : (m.act ≡ Remove) ⊎ (m.act ≡ Forget) → IsForgetting m.act (contents m old) (contents m x)
        by_act (inl is) = subst (λ act. IsForgetting act (contents m old) (contents m x)) (sym is) (log_goes x may)
        by_act (inr is) = subst (λ act. IsForgetting act (contents m old) (contents m x)) (sym is) (log_goes x may)
