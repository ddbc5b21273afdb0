-- Edits, while packed records are locked and after.
use Rattle.std.proofs.Common.{◌≡◌, false, List, [], ◌∷◌, sym, ◌∙◌, ap, bytes_eq, Option, Some, None}
use Rattle.std.specs.Prelude.{Contains, IsTrue, IfSome}
use Rattle.std.specs.List.{AllByRecursion, list_all, list_any}
use Rattle.std.proofs.lemmas.Bool.{and_parts, or_parts}
use Rattle.std.proofs.lemmas.List.Elements.{Contains-append_right}
use Rattle.gix_ref_file.specs.Changes.{is_file_at}
use Rattle.gix_ref_file.specs.Tree.{Tree, bytes_of, is_path}
use Rattle.gix_ref_edit.specs.declared.change.RefEdit.{RefEdit}
use Rattle.gix_ref_lock.specs.Locks.{lock_of, OthersStay}
use Rattle.gix_ref_lock.specs.PackedEdits as packed
use Rattle.gix_ref_lock.specs.declared.packed.Transaction.{Transaction}
use Rattle.gix_ref_store.specs.Places.{Base, place, log_place, packed_place}
use Rattle.gix_ref_way.specs.Ways.{Bytes}
use Rattle.gix_ref_way.proofs.Rooms.{among_first, among_rest, way_stays}
use Rattle.gix_ref_lock.specs.Moves.{IsNone}
use Rattle.gix_ref_lock.specs.Needs.{AreBeside}
use Rattle.gix_ref_transaction.specs.Locking.{AreLockable, IsLockable, RecordsHeld}
use Rattle.gix_ref_transaction.specs.Paths.{edit_paths, has_twice, name_paths}
use Rattle.gix_ref_transaction.specs.Plans.{KeepsFiles}
use Rattle.gix_ref_transaction.proofs.Lockings.{file_still, own_paths}
use Rattle.gix_ref_transaction.proofs.Twice.{once_of}

-- the lock of packed records is still held
pub held_now : (t : Option Transaction) (mid then : Tree) → KeepsFiles mid then → IfSome t (λ t. IsTrue (is_file_at mid (packed.lock_path_of t))) → RecordsHeld t then
held_now None mid then keeps held = tt
held_now (Some t) mid then keeps held = file_still mid then keeps (packed.lock_path_of t) held

pub names_paths : (b : Base) (edits : List RefEdit) → IsTrue (list_all is_path (edit_paths b edits)) → IsTrue (list_all is_path (name_paths b edits))
names_paths b edits all =
    let first = and_parts (is_path (packed_place b)) (list_all is_path (lock_of (packed_place b) ∷ name_paths b edits)) all in
    (and_parts (is_path (lock_of (packed_place b))) (list_all is_path (name_paths b edits)) first.1).1

names_in : (b : Base) (edits : List RefEdit) (path : Bytes) → Contains (name_paths b edits) path → Contains (edit_paths b edits) path
names_in b edits path among = Contains-append_right (packed_place b ∷ lock_of (packed_place b) ∷ []) (name_paths b edits) path among

pub names_beside : (b : Base) (edits : List RefEdit) → AreBeside (edit_paths b edits) → AreBeside (name_paths b edits)
names_beside b edits beside upper lower one other above = beside upper lower (names_in b edits upper one) (names_in b edits lower other) above

-- other locks can still be made
module _ (b : Base) (all : List Bytes) (beside : AreBeside all) (lock_in : Contains all (lock_of (packed_place b))) (old mid : Tree) (stay : OthersStay (lock_of (packed_place b)) old mid) where
  all_still : (es : List RefEdit) → IsNone (lock_of (packed_place b)) (name_paths b es) → ((p : Bytes) → Contains (name_paths b es) p → Contains all p)
      → AllByRecursion (λ e. IsLockable old (place b e.name)) es → AllByRecursion (λ e. IsLockable mid (place b e.name)) es
  all_still [] none among can = tt
  all_still (e ∷ es) none among can =
      let here = among (place b e.name) (among_first (place b e.name) (lock_of (place b e.name) ∷ log_place b e.name ∷ name_paths b es)) in (
        record {
          way = way_stays (place b e.name) (lock_of (packed_place b)) old mid can.0.way (λ other apart. ap bytes_of (stay other apart))
              (λ above. beside (lock_of (packed_place b)) (place b e.name) lock_in here above) (λ above. beside (place b e.name) (lock_of (packed_place b)) here lock_in above);
          free = stay (lock_of (place b e.name)) (λ same. none.1.0 (sym same)) ∙ can.0.free;
        },
        all_still es none.1.1.1 (λ p is. among p (Contains-append_right (own_paths b e) (name_paths b es) p is)) can.1,
      )

names_twice : (b : Base) (edits : List RefEdit) → has_twice (edit_paths b edits) ≡ false → has_twice (name_paths b edits) ≡ false
names_twice b edits twice =
    let first = or_parts (list_any (bytes_eq (packed_place b)) (lock_of (packed_place b) ∷ name_paths b edits)) (has_twice (lock_of (packed_place b) ∷ name_paths b edits)) twice in
    (or_parts (list_any (bytes_eq (lock_of (packed_place b))) (name_paths b edits)) (has_twice (name_paths b edits)) first.1).1

pub not_lockable : (b : Base) (edits : List RefEdit) (old mid : Tree) → OthersStay (lock_of (packed_place b)) old mid → has_twice (edit_paths b edits) ≡ false
    → (has_twice (name_paths b edits) ≡ false → AreBeside (name_paths b edits) → ¬ AllByRecursion (λ e. IsLockable mid (place b e.name)) edits) → ¬ AreLockable b old edits
not_lockable b edits old mid stay twice none can =
    let once = once_of (edit_paths b edits) twice in
    let second = among_rest (packed_place b) (lock_of (packed_place b)) (lock_of (packed_place b) ∷ name_paths b edits) (among_first (lock_of (packed_place b)) (name_paths b edits)) in
    none (names_twice b edits twice) (names_beside b edits can.apart)
    (all_still b (edit_paths b edits) can.apart second old mid stay edits once.1.0 (names_in b edits) can.each)
