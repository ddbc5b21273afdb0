-- The paths of edits, and locks of them that can be made while others are made.
use Rattle.std.proofs.Common.{◌≡◌, ◌≢◌, ⊎_elim, Bool, true, false, List, [], ◌∷◌, ◌++◌, refl, sym, ◌∙◌, ap, subst, append-nil, Option, Some, None, arith}
use Rattle.std.specs.Prelude.{Contains, IsTrue, is_some}
use Rattle.std.specs.List.{AllByRecursion, list_all}
use Rattle.std.proofs.lemmas.Bool.{and_parts}
use Rattle.std.proofs.lemmas.List.Elements.{Contains-append_left, Contains-append_right, Contains-append_cases}
use Rattle.gix_ref_file.specs.Changes.{is_file_at, may_hold_file}
use Rattle.gix_ref_file.specs.Tree.{Tree, Node, file, folder, node_at, bytes_of, is_folder, is_path}
use Rattle.gix_ref_edit.specs.declared.change.RefEdit.{RefEdit}
use Rattle.gix_ref_lock.specs.Locks.{lock_of}
use Rattle.gix_ref_store.specs.Places.{Base, place, log_place}
use Rattle.gix_ref_way.specs.Ways.{Bytes, file_at, FoldersOnlyOf, IsAbove}
use Rattle.gix_ref_way.proofs.Rooms.{among_first, among_rest, room_stays}
use Rattle.gix_ref_lock.specs.Contents.{place_of, lock_path_of}
use Rattle.gix_ref_lock.specs.Moves.{IsNone, Once, lock_paths}
use Rattle.gix_ref_lock.specs.Needs.{AreBeside}
use Rattle.gix_ref_lock.specs.declared.act.Move.{Move}
use Rattle.gix_ref_transaction.specs.Locking.{ArePaths, IsLockable}
use Rattle.gix_ref_transaction.specs.Paths.{name_paths, places_of}
use Rattle.gix_ref_transaction.specs.Plans.{AllPlanned, KeepsFiles}
use Rattle.gix_ref_transaction.specs.Rollback.{MoreFilesAt}
use Rattle.gix_ref_transaction.proofs.Takings.{came_above}

-- ---- among the paths of edits
abbrev pub own_paths : Base → RefEdit → List Bytes
own_paths b e = place b e.name ∷ lock_of (place b e.name) ∷ log_place b e.name ∷ []

pub own_among : (b : Base) (done : List RefEdit) (e : RefEdit) (rest : List RefEdit) (path : Bytes) → Contains (own_paths b e) path → Contains (name_paths b (done ++ e ∷ rest)) path
own_among b [] e rest path among = Contains-append_left (own_paths b e) (name_paths b rest) path among
own_among b (d ∷ done) e rest path among = Contains-append_right (own_paths b d) (name_paths b (done ++ e ∷ rest)) path (own_among b done e rest path among)

pub place_own : (b : Base) (e : RefEdit) (path : Bytes) → Contains (place b e.name ∷ []) path → Contains (own_paths b e) path
place_own b e path among = Contains-append_left (place b e.name ∷ []) (lock_of (place b e.name) ∷ log_place b e.name ∷ []) path among

pub lock_own : (b : Base) (e : RefEdit) → Contains (own_paths b e) (lock_of (place b e.name))
lock_own b e = among_rest (place b e.name) (lock_of (place b e.name)) (lock_of (place b e.name) ∷ log_place b e.name ∷ []) (among_first (lock_of (place b e.name)) (log_place b e.name ∷ []))

pub places_front : (b : Base) (done rest : List RefEdit) (path : Bytes) → Contains (places_of b done) path → Contains (name_paths b (done ++ rest)) path
places_front b [] rest path among = absurd (omega (arith, among.1))
places_front b (d ∷ done) rest path among =
    ⊎_elim (λ own. Contains-append_left (own_paths b d) (name_paths b (done ++ rest)) path (place_own b d path own)) (λ later. Contains-append_right (own_paths b d) (name_paths b (done ++ rest)) path (places_front b done rest path later))
    (Contains-append_cases (place b d.name ∷ []) (places_of b done) path among)

pub places_among : (b : Base) (edits : List RefEdit) (path : Bytes) → Contains (places_of b edits) path → Contains (name_paths b edits) path
places_among b edits path among = subst (λ es. Contains (name_paths b es) path) (append-nil edits) (places_front b edits [] path among)

pub places_own : (b : Base) (done : List RefEdit) (e : RefEdit) (rest : List RefEdit) (path : Bytes) → Contains (place b e.name ∷ []) path → Contains (places_of b (done ++ e ∷ rest)) path
places_own b [] e rest path among = Contains-append_left (place b e.name ∷ []) (places_of b rest) path among
places_own b (d ∷ done) e rest path among = among_rest (place b d.name) path (places_of b (done ++ e ∷ rest)) (places_own b done e rest path among)

-- ---- the locks of edits
abbrev pub locks_of : Base → List RefEdit → List Bytes
locks_of b [] = []
locks_of b (e ∷ es) = lock_of (place b e.name) ∷ locks_of b es

pub moves_locks : (b : Base) (gone : Bool) (edits : List RefEdit) (moves : List Move) → AllPlanned b gone edits moves → lock_paths moves ≡ locks_of b edits
moves_locks b gone [] [] all = refl
moves_locks b gone [] (m ∷ moves) all = absurd all
moves_locks b gone (e ∷ edits) [] all = absurd all
moves_locks b gone (e ∷ edits) (m ∷ moves) all = λ i. all.0.lock i ∷ moves_locks b gone edits moves all.1 i

pub locks_front : (b : Base) (done rest : List RefEdit) (path : Bytes) → Contains (locks_of b done) path → Contains (name_paths b (done ++ rest)) path
locks_front b [] rest path among = absurd (omega (arith, among.1))
locks_front b (d ∷ done) rest path among =
    ⊎_elim (λ own. Contains-append_left (own_paths b d) (name_paths b (done ++ rest)) path (among_rest (place b d.name) path (lock_of (place b d.name) ∷ log_place b d.name ∷ [])
    (Contains-append_left (lock_of (place b d.name) ∷ []) (log_place b d.name ∷ []) path own)))
    (λ later. Contains-append_right (own_paths b d) (name_paths b (done ++ rest)) path (locks_front b done rest path later))
    (Contains-append_cases (lock_of (place b d.name) ∷ []) (locks_of b done) path among)

pub locks_among : (b : Base) (edits : List RefEdit) (path : Bytes) → Contains (locks_of b edits) path → Contains (name_paths b edits) path
locks_among b edits path among = subst (λ es. Contains (name_paths b es) path) (append-nil edits) (locks_front b edits [] path among)

-- a path that differs from each of these
pub none_apart : (path : Bytes) (paths : List Bytes) → ((other : Bytes) → Contains paths other → path ≢ other) → IsNone path paths
none_apart path [] apart = tt
none_apart path (p ∷ ps) apart = (apart p (among_first p ps), none_apart path ps (λ other among. apart other (among_rest p other ps among)))

-- the lock of a later edit is none of those of earlier ones
later_lock : (b : Base) (path : Bytes) (done : List RefEdit) (e : RefEdit) (rest : List RefEdit) → IsNone path (name_paths b (done ++ e ∷ rest)) → path ≢ lock_of (place b e.name)
later_lock b path [] e rest none = none.1.0
later_lock b path (d ∷ done) e rest none = later_lock b path done e rest none.1.1.1

pub lock_apart : (b : Base) (done : List RefEdit) (e : RefEdit) (rest : List RefEdit) → Once (name_paths b (done ++ e ∷ rest)) → IsNone (lock_of (place b e.name)) (locks_of b done)
lock_apart b [] e rest once = tt
lock_apart b (d ∷ done) e rest once = (λ same. later_lock b (lock_of (place b d.name)) done e rest once.1.0.1 (sym same), lock_apart b done e rest once.1.1.1)

-- ---- a lock can still be made, after those of other edits
module _ (b : Base) (gone : Bool) (edits done others : List RefEdit) (e : RefEdit) (moves : List Move) (old mid : Tree) (split : edits ≡ done ++ e ∷ others)
    (planned : AllPlanned b gone done moves) (more : MoreFilesAt (lock_paths moves) old mid) (only : FoldersOnlyOf (places_of b edits) old mid)
    (once : Once (name_paths b edits)) (beside : AreBeside (name_paths b edits)) where
  own : (path : Bytes) → Contains (own_paths b e) path → Contains (name_paths b edits) path
  own path among = subst (λ es. Contains (name_paths b es) path) (sym split) (own_among b done e others path among)

  held : (path : Bytes) → Contains (locks_of b done) path → Contains (name_paths b edits) path
  held path among = subst (λ es. Contains (name_paths b es) path) (sym split) (locks_front b done (e ∷ others) path among)

  here : Contains (name_paths b edits) (place b e.name)
  here = own (place b e.name) (among_first (place b e.name) (lock_of (place b e.name) ∷ log_place b e.name ∷ []))

  no_file : (path : Bytes) → IsNone path (locks_of b done) → file_at old path ≡ None → file_at mid path ≡ None
  no_file path apart none = by_case (file_at mid path) refl
    where
      by_case : (o : Option Bytes) → file_at mid path ≡ o → file_at mid path ≡ None
      by_case None is = is
      by_case (Some text) is =
          let there = subst (λ ls. MoreFilesAt ls old mid) (moves_locks b gone done moves planned) more path apart (ap is_some is) in
          let wrong : false ≡ true = sym (ap is_some none) ∙ there in cc

  no_folder : (path : Bytes) → Contains (name_paths b edits) path → is_folder (node_at old path) ≡ false → node_at mid path ≡ Some folder → ⊥
  no_folder path among none is = over (came_above (places_of b edits) old mid path only none is)
    where
      over : (other : Bytes) × Contains (places_of b edits) other × IsAbove path other → ⊥
      over (other, one, above) = beside path other among (places_among b edits other one) above

  still_free : IsNone (lock_of (place b e.name)) (locks_of b done) → node_at old (lock_of (place b e.name)) ≡ None → node_at mid (lock_of (place b e.name)) ≡ None
  still_free apart free = by_case (node_at mid (lock_of (place b e.name))) refl
    where
      by_case : (o : Option Node) → node_at mid (lock_of (place b e.name)) ≡ o → node_at mid (lock_of (place b e.name)) ≡ None
      by_case None is = is
      by_case (Some (file bytes)) is = let wrong : None ≡ Some bytes = sym (no_file (lock_of (place b e.name)) apart (ap bytes_of free)) ∙ ap bytes_of is in cc
      by_case (Some folder) is = absurd (no_folder (lock_of (place b e.name)) (own (lock_of (place b e.name)) (lock_own b e)) (ap is_folder free) is)

  pub lockable : IsLockable old (place b e.name) → IsLockable mid (place b e.name)
  lockable can = record {
    way = record {
      above = λ p is. no_file p (none_apart p (locks_of b done) (λ l one same. beside l (place b e.name) (held l one) here (subst (λ q. IsAbove q (place b e.name)) same is))) (can.way.above p is);
      below = λ p is. no_file p (none_apart p (locks_of b done) (λ l one same. beside (place b e.name) l here (held l one) (subst (λ q. IsAbove (place b e.name) q) same is))) (can.way.below p is);
    };
    free = still_free (lock_apart b done e others (subst (λ es. Once (name_paths b es)) split once)) can.free;
  }

-- one of all edits
pub one_of : (P : RefEdit → Type 0) (done : List RefEdit) (e : RefEdit) (rest : List RefEdit) → AllByRecursion P (done ++ e ∷ rest) → P e
one_of P [] e rest all = all.0
one_of P (d ∷ done) e rest all = one_of P done e rest all.1

-- ---- what holds of earlier moves still does
module _ (b : Base) (gone : Bool) (all : List Bytes) (mid new : Tree) (e : RefEdit) (beside : AreBeside all) (only : FoldersOnlyOf (place b e.name ∷ []) mid new)
    (one : (path : Bytes) → Contains (place b e.name ∷ []) path → Contains all path) where
  pub rooms_still : (done : List RefEdit) (moves : List Move) → AllPlanned b gone done moves → ((path : Bytes) → Contains (places_of b done) path → Contains all path)
      → AllByRecursion (λ m. IsTrue (may_hold_file mid (place_of m))) moves → AllByRecursion (λ m. IsTrue (may_hold_file new (place_of m))) moves
  rooms_still [] [] planned among rooms = tt
  rooms_still [] (m ∷ moves) planned among rooms = absurd planned
  rooms_still (d ∷ done) [] planned among rooms = absurd planned
  rooms_still (d ∷ done) (m ∷ moves) planned among rooms =
      let own = among (place b d.name) (among_first (place b d.name) (places_of b done)) in
      let may = room_stays (place b d.name) (place b e.name ∷ []) mid new (subst (λ p. IsTrue (may_hold_file mid p)) planned.0.file rooms.0) only
      (λ other is. (beside other (place b d.name) (one other is) own, beside (place b d.name) other own (one other is))) in
      (subst (λ p. IsTrue (may_hold_file new p)) (sym planned.0.file) may, rooms_still done moves planned.1 (λ path is. among path (among_rest (place b d.name) path (places_of b done) is)) rooms.1)

pub file_still : (mid new : Tree) → KeepsFiles mid new → (path : Bytes) → IsTrue (is_file_at mid path) → IsTrue (is_file_at new path)
file_still mid new keeps path there = by_case (file_at mid path) refl
  where
    by_case : (o : Option Bytes) → file_at mid path ≡ o → IsTrue (is_file_at new path)
    by_case None is = let wrong : false ≡ true = sym (ap is_some is) ∙ there in cc
    by_case (Some text) is = ap is_some (keeps path text is)

pub held_still : (mid new : Tree) → KeepsFiles mid new → (moves : List Move) → AllByRecursion (λ m. IsTrue (is_file_at mid (lock_path_of m))) moves → AllByRecursion (λ m. IsTrue (is_file_at new (lock_path_of m))) moves
held_still mid new keeps [] all = tt
held_still mid new keeps (m ∷ moves) all = (file_still mid new keeps (lock_path_of m) all.0, held_still mid new keeps moves all.1)

pub none_held : (P : Move → Type 0) (moves : List Move) → moves ≡ [] → AllByRecursion P moves
none_held P moves none = subst (AllByRecursion P) (sym none) tt

-- ---- paths are ones
pub first_paths : (b : Base) (e : RefEdit) (others : List RefEdit) → IsTrue (list_all is_path (name_paths b (e ∷ others))) → ArePaths (place b e.name)
first_paths b e others all =
    let one = and_parts (is_path (place b e.name)) (list_all is_path (lock_of (place b e.name) ∷ log_place b e.name ∷ name_paths b others)) all in
    (one.0, (and_parts (is_path (lock_of (place b e.name))) (list_all is_path (log_place b e.name ∷ name_paths b others)) one.1).0)

pub later_paths : (b : Base) (e : RefEdit) (others : List RefEdit) → IsTrue (list_all is_path (name_paths b (e ∷ others))) → IsTrue (list_all is_path (name_paths b others))
later_paths b e others all =
    let one = and_parts (is_path (place b e.name)) (list_all is_path (lock_of (place b e.name) ∷ log_place b e.name ∷ name_paths b others)) all in
    let two = and_parts (is_path (lock_of (place b e.name))) (list_all is_path (log_place b e.name ∷ name_paths b others)) one.1 in
    (and_parts (is_path (log_place b e.name)) (list_all is_path (name_paths b others)) two.1).1
