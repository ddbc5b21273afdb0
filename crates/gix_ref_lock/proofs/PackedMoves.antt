-- What a transaction of packed records leaves.
use Rattle.std.proofs.Common.{◌≡◌, ◌≢◌, ◌⊎◌, inl, inr, refl, sym, ◌∙◌, ap, Bool, true, false, cond, Some, None}
use Rattle.gix_ref_file.specs.Tree.{Tree, file, node_at, bytes_of, bytes_at}
use Rattle.gix_ref_file.specs.History.{History, Adds}
use Rattle.gix_ref_file.proofs.Histories.{adds_weaker}
use Rattle.gix_ref_lock.specs.Locks.{OthersStay, MayBePut, IsPut}
use Rattle.gix_ref_lock.specs.PackedEdits as packed
use Rattle.gix_ref_lock.specs.declared.packed.Transaction.{Transaction}
use Rattle.gix_ref_lock.proofs.LockLemmas.{lock_apart}
use Rattle.gix_ref_way.specs.Ways.{Bytes, file_at}
use Rattle.gix_ref_lock.specs.Moves.{IsNone}
use Rattle.gix_ref_lock.specs.Committing.{packed_paths, PackedStays, PackedIsNew, MayReplace, Replaces, KeepsPacked}
use Rattle.gix_ref_lock.proofs.FileMoves.{now_of}

place_apart : (t : Transaction) → packed.place_of t ≢ packed.lock_path_of t
place_apart t same = lock_apart (packed.place_of t) (sym (same ∙ t.lock.beside))

pub dropping : (t : Transaction) (old x : Tree) → OthersStay (packed.lock_path_of t) old x → KeepsPacked (Some t) old x
dropping t old x stay = record {
  packed = ap bytes_of (stay (packed.place_of t) (place_apart t));
  others = λ path none. ap bytes_of (stay path none.1.0);
}

put_new : (t : Transaction) (old x : Tree) → t.is_written ≡ true → node_at x (packed.place_of t) ≡ Some (file (bytes_at old (packed.lock_path_of t))) → PackedIsNew (Some t) old x
put_new t old x written is = ap bytes_of is ∙ sym (ap (λ b. cond b (Some (bytes_at old (packed.lock_path_of t))) (file_at old (packed.place_of t))) written)

unwritten_new : (t : Transaction) (old x : Tree) → t.is_written ≡ false → PackedStays (Some t) old x → PackedIsNew (Some t) old x
unwritten_new t old x unwritten is = is ∙ sym (ap (λ b. cond b (Some (bytes_at old (packed.lock_path_of t))) (file_at old (packed.place_of t))) unwritten)

pub replacing : (t : Transaction) (old new : History) → Adds (MayBePut (packed.place_of t) (packed.lock_path_of t) (bytes_at old.tree (packed.lock_path_of t)) old.tree) old new
    → (t.is_written ≡ false → Adds (OthersStay (packed.lock_path_of t) old.tree) old new) → Adds (MayReplace (Some t) old.tree) old new
replacing t old new may idle = by_written t.is_written refl
  where
    by_written : (b : Bool) → t.is_written ≡ b → Adds (MayReplace (Some t) old.tree) old new
    by_written true written = adds_weaker old new may (λ x m. record {
      packed = by_case x m.here;
      others = λ path none. ap bytes_of (m.others path none.0 none.1.0);
    })
      where
        by_case : (x : Tree) → (node_at x (packed.place_of t) ≡ node_at old.tree (packed.place_of t)) ⊎ (node_at x (packed.place_of t) ≡ Some (file (bytes_at old.tree (packed.lock_path_of t)))) → PackedStays (Some t) old.tree x ⊎ PackedIsNew (Some t) old.tree x
        by_case x (inl same) = inl (ap bytes_of same)
        by_case x (inr put) = inr (put_new t old.tree x written put)
    by_written false unwritten = adds_weaker old new (idle unwritten) (λ x stay. let keeps = dropping t old.tree x stay in record { packed = inl keeps.packed; others = keeps.others })

pub replaced : (t : Transaction) (old new : History) → Adds (MayBePut (packed.place_of t) (packed.lock_path_of t) (bytes_at old.tree (packed.lock_path_of t)) old.tree) old new
    → (t.is_written ≡ false → Adds (OthersStay (packed.lock_path_of t) old.tree) old new) → (t.is_written ≡ true → IsPut (packed.place_of t) (packed.lock_path_of t) (bytes_at old.tree (packed.lock_path_of t)) new.tree)
    → node_at new.tree (packed.lock_path_of t) ≡ None → Replaces (Some t) old.tree new.tree
replaced t old new may idle put gone = record { packed = by_written t.is_written refl; unlocked = ap bytes_of gone; others = others }
  where
    now : MayBePut (packed.place_of t) (packed.lock_path_of t) (bytes_at old.tree (packed.lock_path_of t)) old.tree new.tree
    now = now_of (MayBePut (packed.place_of t) (packed.lock_path_of t) (bytes_at old.tree (packed.lock_path_of t)) old.tree) old new (record { here = inl refl; others = λ path a b. refl }) may

    others : (path : Bytes) → IsNone path (packed_paths (Some t)) → file_at new.tree path ≡ file_at old.tree path
    others path none = ap bytes_of (now.others path none.0 none.1.0)

    by_written : (b : Bool) → t.is_written ≡ b → PackedIsNew (Some t) old.tree new.tree
    by_written true written = put_new t old.tree new.tree written (put written).here
    by_written false unwritten = unwritten_new t old.tree new.tree unwritten (dropping t old.tree new.tree (now_of (OthersStay (packed.lock_path_of t) old.tree) old new (λ path apart. refl) (idle unwritten))).packed
