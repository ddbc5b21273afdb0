-- What is prepared can be committed.
use Rattle.std.proofs.Common.{◌≡◌, ⊎_elim, Bool, ℕ, true, false, List, [], ◌∷◌, ◌++◌, refl, sym, ◌∙◌, ap, subst, bytes_eq, Option, Some, None, arith, Vec}
use Rattle.std.specs.Prelude.{Contains, IsTrue, IfSome, is_some}
use Rattle.std.specs.List.{AllByRecursion, list_any, list_all}
use Rattle.std.specs.declared.alloc.Global.{Global}
use Rattle.std.proofs.lemmas.Bool.{and_parts, or_parts}
use Rattle.std.proofs.lemmas.List.Elements.{Contains-append_left, Contains-append_right, Contains-append_cases}
use Rattle.gix_ref_file.specs.Changes.{is_file_at, may_hold_file}
use Rattle.gix_ref_file.specs.Tree.{Tree, is_path, bytes_of}
use Rattle.gix_ref_edit.specs.declared.change.RefEdit.{RefEdit}
use Rattle.gix_ref_lock.specs.Locks.{lock_of, OthersStay}
use Rattle.gix_ref_lock.specs.PackedEdits as packed
use Rattle.gix_ref_lock.specs.declared.packed.Transaction.{Transaction}
use Rattle.gix_ref_store.specs.Places.{Base, place, log_place, packed_place}
use Rattle.gix_ref_way.specs.Ways.{Bytes, file_at, FoldersOnlyOf, HasWay, IsAbove}
use Rattle.gix_ref_way.proofs.Rooms.{among_first, among_rest, room_stays}
use Rattle.gix_ref_lock.specs.Committing.{commit_paths}
use Rattle.gix_ref_lock.specs.Contents.{act_line, place_of, lock_path_of}
use Rattle.gix_ref_lock.specs.Moves.{IsNone, all_paths, lock_paths}
use Rattle.gix_ref_lock.specs.Needs.{CanCommit, CanMove, CanNote, CanReplace}
use Rattle.gix_ref_lock.specs.declared.act.Move.{Move}
use Rattle.gix_ref_transaction.specs.Locking.{AreHeld, HaveRoom, RecordsHeld}
use Rattle.gix_ref_transaction.specs.Paths.{edit_paths, has_twice, name_paths, places_of}
use Rattle.gix_ref_transaction.specs.Plans.{AllPlanned, KeepsFiles}
use Rattle.gix_ref_transaction.specs.Rollback.{MoreFilesAt, SameFilesBut, all_locks, packed_locks}
use Rattle.gix_ref_transaction.proofs.Lockings.{own_paths, moves_locks, locks_among, none_apart, places_among}

-- ---- the paths of a transaction are those of its edits
pub plans_paths : (b : Base) (gone : Bool) (edits : List RefEdit) (moves : List Move) → AllPlanned b gone edits moves → all_paths moves ≡ name_paths b edits
plans_paths b gone [] [] all = refl
plans_paths b gone [] (m ∷ moves) all = absurd all
plans_paths b gone (e ∷ edits) [] all = absurd all
plans_paths b gone (e ∷ edits) (m ∷ moves) all = λ i. all.0.file i ∷ all.0.lock i ∷ all.0.log i ∷ plans_paths b gone edits moves all.1 i

module _ (b : Base) (gone : Bool) (edits : List RefEdit) (moves : List Move) (planned : AllPlanned b gone edits moves) where
  with_records : (t : Transaction) → packed.place_of t ≡ packed_place b → commit_paths (Some t) moves ≡ edit_paths b edits
  with_records t at = λ i. at i ∷ (t.lock.beside ∙ ap lock_of at) i ∷ plans_paths b gone edits moves planned i

  pub commit_once : (t : Option Transaction) → IfSome t (λ t. packed.place_of t ≡ packed_place b) → has_twice (edit_paths b edits) ≡ false → has_twice (commit_paths t moves) ≡ false
  commit_once None at once =
      let names = name_paths b edits in
      let first = or_parts (list_any (bytes_eq (packed_place b)) (lock_of (packed_place b) ∷ names)) (has_twice (lock_of (packed_place b) ∷ names)) once in
      let second = or_parts (list_any (bytes_eq (lock_of (packed_place b))) names) (has_twice names) first.1 in
      subst (λ ps. has_twice ps ≡ false) (sym (plans_paths b gone edits moves planned)) second.1
  commit_once (Some t) at once = subst (λ ps. has_twice ps ≡ false) (sym (with_records t at)) once

  names_among : (path : Bytes) → Contains (name_paths b edits) path → Contains (edit_paths b edits) path
  names_among path among = Contains-append_right (packed_place b ∷ lock_of (packed_place b) ∷ []) (name_paths b edits) path among

  commit_among : (t : Option Transaction) → IfSome t (λ t. packed.place_of t ≡ packed_place b) → (path : Bytes) → Contains (commit_paths t moves) path → Contains (edit_paths b edits) path
  commit_among None at path among = names_among path (subst (λ ps. Contains ps path) (plans_paths b gone edits moves planned) among)
  commit_among (Some t) at path among = subst (λ ps. Contains ps path) (with_records t at) among

  locks_in : (t : Option Transaction) → IfSome t (λ t. packed.place_of t ≡ packed_place b) → (path : Bytes) → Contains (all_locks t moves) path → Contains (edit_paths b edits) path
  locks_in t at path among = ⊎_elim (own t at) (λ rest. names_among path (locks_among b edits path (subst (λ ps. Contains ps path) (moves_locks b gone edits moves planned) rest))) (Contains-append_cases (packed_locks t) (lock_paths moves) path among)
    where
      own : (t : Option Transaction) → IfSome t (λ t. packed.place_of t ≡ packed_place b) → Contains (packed_locks t) path → Contains (edit_paths b edits) path
      own None at held = absurd (omega (arith, held.1))
      own (Some t) at held =
          among_rest (packed_place b) path (lock_of (packed_place b) ∷ name_paths b edits)
          (Contains-append_left (lock_of (packed_place b) ∷ []) (name_paths b edits) path (subst (λ l. Contains (l ∷ []) path) (t.lock.beside ∙ ap lock_of at) held))

  pub can_commit : (t : Option Transaction) → IfSome t (λ t. packed.place_of t ≡ packed_place b) → (old new : Tree) → IsTrue (list_all is_path (edit_paths b edits)) → FoldersOnlyOf (places_of b edits) old new
      → SameFilesBut (all_locks t moves) old new → AreHeld t moves new → AllByRecursion (λ m. IsTrue (may_hold_file new (place_of m))) moves → HaveRoom b old edits → CanCommit t moves new
  can_commit t at old new paths only same held rooms room = record {
    each = each edits moves planned (λ path among. names_among path among) held.each rooms room.logs (paths_rest (packed_place b) (lock_of (packed_place b)) (name_paths b edits) paths);
    packed = replaces t at held.packed;
    apart = λ upper lower one other above. room.apart upper lower (commit_among t at upper one) (commit_among t at lower other) above;
  }
    where
      paths_rest : (p q : Bytes) (qs : List Bytes) → IsTrue (list_all is_path (p ∷ q ∷ qs)) → IsTrue (list_all is_path qs)
      paths_rest p q qs all = (and_parts (is_path q) (list_all is_path qs) (and_parts (is_path p) (list_all is_path (q ∷ qs)) all).1).1

      way : (path : Bytes) → Contains (edit_paths b edits) path → HasWay path old → HasWay path new
      way path among has = record {
        above = λ p is. same p (none_apart p (all_locks t moves) (λ l one eq. room.apart l path (locks_in t at l one) among (subst (λ q. IsAbove q path) eq is))) ∙ has.above p is;
        below = λ p is. same p (none_apart p (all_locks t moves) (λ l one eq. room.apart path l among (locks_in t at l one) (subst (λ q. IsAbove path q) eq is))) ∙ has.below p is;
      }

      note : (line : Option (Vec ℕ Global)) (log : Bytes) → Contains (edit_paths b edits) log → IsTrue (is_path log) → HasWay log old → CanNote line log new
      note None log among whole has = tt
      note (Some line) log among whole has = (whole, way log among has)

      each : (es : List RefEdit) (ms : List Move) → AllPlanned b gone es ms → ((path : Bytes) → Contains (name_paths b es) path → Contains (edit_paths b edits) path)
          → AllByRecursion (λ m. IsTrue (is_file_at new (lock_path_of m))) ms → AllByRecursion (λ m. IsTrue (may_hold_file new (place_of m))) ms
          → AllByRecursion (λ edit. HasWay (log_place b edit.name) old) es → IsTrue (list_all is_path (name_paths b es)) → AllByRecursion (λ m. CanMove m new) ms
      each [] [] plans among locks places logs whole = tt
      each [] (m ∷ ms) plans among locks places logs whole = absurd plans
      each (e ∷ es) [] plans among locks places logs whole = absurd plans
      each (e ∷ es) (m ∷ ms) plans among locks places logs whole =
          let one = and_parts (is_path (place b e.name)) (list_all is_path (lock_of (place b e.name) ∷ log_place b e.name ∷ name_paths b es)) whole in
          let two = and_parts (is_path (lock_of (place b e.name))) (list_all is_path (log_place b e.name ∷ name_paths b es)) one.1 in
          let three = and_parts (is_path (log_place b e.name)) (list_all is_path (name_paths b es)) two.1 in
          let later : (path : Bytes) → Contains (name_paths b es) path → Contains (edit_paths b edits) path = λ path is. among path (Contains-append_right (own_paths b e) (name_paths b es) path is) in
          let log_in = among (log_place b e.name) (among_rest (place b e.name) (log_place b e.name) (lock_of (place b e.name) ∷ log_place b e.name ∷ name_paths b es)
          (among_rest (lock_of (place b e.name)) (log_place b e.name) (log_place b e.name ∷ name_paths b es) (among_first (log_place b e.name) (name_paths b es)))) in
          let log = note (act_line m.act) (log_place b e.name) log_in three.0 logs.0 in (
            record { held = locks.0; place = places.0; log = subst (λ p. CanNote (act_line m.act) p new) (sym plans.0.log) log },
            each es ms plans.1 later locks.1 places.1 logs.1 three.1,
          )

      replaces : (t : Option Transaction) → IfSome t (λ t. packed.place_of t ≡ packed_place b) → RecordsHeld t new → CanReplace t new
      replaces None at held = tt
      replaces (Some t) at held = (
        held,
        subst (λ p. IsTrue (may_hold_file new p)) (sym at) (room_stays (packed_place b) (places_of b edits) old new room.records only (λ other one.
            let is = names_among other (places_among b edits other one) in
            let first = among_first (packed_place b) (lock_of (packed_place b) ∷ name_paths b edits) in
            (room.apart other (packed_place b) is first, room.apart (packed_place b) other first is))),
      )

-- ---- each other file is as before
pub same_but : (paths : List Bytes) (mid new : Tree) → KeepsFiles mid new → MoreFilesAt paths mid new → SameFilesBut paths mid new
same_but paths mid new keeps more path none = by_case (file_at mid path) refl
  where
    by_new : file_at mid path ≡ None → (o : Option Bytes) → file_at new path ≡ o → file_at new path ≡ file_at mid path
    by_new was None is = is ∙ sym was
    by_new was (Some text) is = let wrong : false ≡ true = sym (ap is_some was) ∙ more path none (ap is_some is) in cc

    by_case : (o : Option Bytes) → file_at mid path ≡ o → file_at new path ≡ file_at mid path
    by_case None is = by_new is (file_at new path) refl
    by_case (Some text) is = keeps path text is ∙ sym is

none_parts : (path : Bytes) (few more : List Bytes) → IsNone path (few ++ more) → IsNone path few × IsNone path more
none_parts path [] more none = (tt, none)
none_parts path (p ∷ few) more none = let parts = none_parts path few more none.1 in ((none.0, parts.0), parts.1)

pub all_same_but : (t : Option Transaction) (moves : List Move) (old mid new : Tree) → SameFilesBut (packed_locks t) old mid → SameFilesBut (lock_paths moves) mid new → SameFilesBut (all_locks t moves) old new
all_same_but t moves old mid new first second path none = let parts = none_parts path (packed_locks t) (lock_paths moves) none in second path parts.1 ∙ first path parts.0

pub records_same_but : (lock : Bytes) (t : Option Transaction) (old mid : Tree) → OthersStay lock old mid → IfSome t (λ t. packed.lock_path_of t ≡ lock) → (t ≡ None → mid ≡ old) → SameFilesBut (packed_locks t) old mid
records_same_but lock None old mid stay here same path none = ap (λ t. file_at t path) (same refl)
records_same_but lock (Some t) old mid stay here same path none = ap bytes_of (stay path (λ is. none.0 (is ∙ sym here)))
