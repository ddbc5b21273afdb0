-- Laws of trees.
use Rattle.std.proofs.Common.{◌≡◌, ℕ, Bool, true, false, cond, not, ◌&&◌, List, [], ◌∷◌, refl, sym, ◌∙◌, ap}
use Rattle.std.specs.Prelude.{IsTrue, IsFalse, Option, None, Some, unwrap_or}
use Rattle.std.specs.Ordering.{is_eq}
use Rattle.std.specs.declared.cmp.Ordering.{Ordering}
use Rattle.std.specs.declared.cmp.Ordering.TheVariants.{Less, Equal, Greater}
use Rattle.std.specs.Cmp.{eq_by_cmp_equiv}
use Rattle.std.specs.Cmp.Lexicographic.{nat_list_cmp_total}
use Rattle.std.specs.FinMap.{slice_cmp-IsAntisymmetric, nat_cmp-IsAntisymmetric, get, insert, remove, get-insert, get-remove, same_map}
use Rattle.gix_ref_file.specs.Tree.{Tree, Node, file, same_path, is_path, bytes_of, is_folder, node_at, parent, bytes_at}
use Rattle.gix_ref_file.specs.Changes.{may_hold_file}

pub same_tree : (s t : Tree) → ((q : List ℕ) → get s q ≡ get t q) → s ≡ t
same_tree = same_map nat_list_cmp_total (slice_cmp-IsAntisymmetric nat_cmp-IsAntisymmetric)

cond_twice : {A : Type 0} (b : Bool) (x y z : A) → cond b x (cond b y z) ≡ cond b x z
cond_twice true x y z = refl
cond_twice false x y z = refl

pub remove-insert : (t : Tree) (k : List ℕ) (n : Node) → remove (insert t k n) k ≡ remove t k
remove-insert t k n = same_tree _ _ (λ q.
    get-remove nat_list_cmp_total (insert t k n) k q
    ∙ ap (cond (same_path q k) None) (get-insert nat_list_cmp_total t k n q)
    ∙ cond_twice (same_path q k) None (Some n) (get t q)
    ∙ sym (get-remove nat_list_cmp_total t k q))

pub same_path_itself : (k : List ℕ) → same_path k k ≡ true
same_path_itself k = (eq_by_cmp_equiv nat_list_cmp_total).refl k

pub get_inserted : (t : Tree) (k : List ℕ) (n : Node) → get (insert t k n) k ≡ Some n
get_inserted t k n = get-insert nat_list_cmp_total t k n k ∙ ap (λ b. cond b (Some n) (get t k)) (same_path_itself k)

-- a path that may hold a file isn't the root's
pub node_at_path : (t u : Tree) (k : List ℕ) → IsTrue (may_hold_file t k) → node_at u k ≡ get u k
node_at_path t u [] may = cc
node_at_path t u (b ∷ k) may = refl

pub bytes_at_inserted : (t : Tree) (k bytes : List ℕ) → IsTrue (may_hold_file t k) → bytes_at (insert t k (file bytes)) k ≡ bytes
bytes_at_inserted t k bytes may = ap (λ node. unwrap_or (bytes_of node) []) (node_at_path t (insert t k (file bytes)) k may ∙ get_inserted t k (file bytes))

-- paths that compare alike are one
pub one_path : (p q : List ℕ) → same_path p q ≡ true → p ≡ q
one_path p q same = slice_cmp-IsAntisymmetric nat_cmp-IsAntisymmetric p q (from_is_eq _ same)
  where
    from_is_eq : (o : Ordering) → is_eq o ≡ true → o ≡ Equal
    from_is_eq Equal same = refl
    from_is_eq Less same = cc
    from_is_eq Greater same = cc

-- ---- where folders are
from_and : (a b : Bool) → IsTrue (a && b) → IsTrue a × IsTrue b
from_and true b h = (refl, h)
from_and false b h = absurd (cc h)

pub from_not : (b : Bool) → IsTrue (not b) → IsFalse b
from_not true h = cc
from_not false h = refl

pub no_folder : (t : Tree) (k : List ℕ) → IsTrue (may_hold_file t k) → IsFalse (is_folder (node_at t k))
no_folder t k may = from_not _ (from_and _ _ may).1

-- where there is no folder, a file or nothing in its place changes no folder
pub folders_stay : (t u : Tree) (k : List ℕ) (left : Option Node) → IsTrue (may_hold_file t k) → IsFalse (is_folder left)
    → ((q : List ℕ) → get u q ≡ cond (same_path q k) left (get t q)) → (q : List ℕ) → is_folder (node_at u q) ≡ is_folder (node_at t q)
folders_stay t u k left may not_folder is [] = refl
folders_stay t u k left may not_folder is (b ∷ q) = ap is_folder (is (b ∷ q)) ∙ by_case (same_path (b ∷ q) k) refl
  where
    by_case : (same : Bool) → same_path (b ∷ q) k ≡ same → is_folder (cond same left (get t (b ∷ q))) ≡ is_folder (get t (b ∷ q))
    by_case false apart = refl
    by_case true same = not_folder ∙ sym (ap (λ p. is_folder (node_at t p)) (one_path (b ∷ q) k same) ∙ no_folder t k may)

-- so files may be where they might before
pub room_stays : (t u : Tree) → ((q : List ℕ) → is_folder (node_at u q) ≡ is_folder (node_at t q)) → (q : List ℕ) → may_hold_file u q ≡ may_hold_file t q
room_stays t u same q = λ i. is_path q && same (parent q) i && not (same q i)

pub get-inserted : (t : Tree) (k : List ℕ) (n : Node) (q : List ℕ) → get (insert t k n) q ≡ cond (same_path q k) (Some n) (get t q)
get-inserted t k n q = get-insert nat_list_cmp_total t k n q

pub get-removed : (t : Tree) (k q : List ℕ) → get (remove t k) q ≡ cond (same_path q k) None (get t q)
get-removed t k q = get-remove nat_list_cmp_total t k q

-- nor does a file in a file's place, or a file that goes
pub room_after_insert : (t : Tree) (k bytes : List ℕ) → IsTrue (may_hold_file t k) → (q : List ℕ) → may_hold_file (insert t k (file bytes)) q ≡ may_hold_file t q
room_after_insert t k bytes may = room_stays t _ (folders_stay t _ k (Some (file bytes)) may refl (get-inserted t k (file bytes)))

pub room_after_remove : (t : Tree) (k : List ℕ) → IsTrue (may_hold_file t k) → (q : List ℕ) → may_hold_file (remove t k) q ≡ may_hold_file t q
room_after_remove t k may = room_stays t _ (folders_stay t _ k None may refl (get-removed t k))
