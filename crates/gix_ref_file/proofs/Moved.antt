-- The steps of a rename and of an append.
use Rattle.std.proofs.Common.{◌≡◌, ℕ, Bool, true, false, cond, List, [], ◌∷◌, ◌++◌, length, take, Option, Some, None, refl, sym, ◌∙◌, ap}
use Rattle.std.specs.Prelude.{IsSome, IsTrue, is_some, unwrap_or}
use Rattle.std.specs.Cmp.{eq_by_cmp_equiv}
use Rattle.std.specs.Cmp.Lexicographic.{nat_list_cmp_total}
use Rattle.std.specs.FinMap.{insert, remove, get}
use Rattle.std.proofs.lemmas.List.{take_at}
use Rattle.gix_ref_file.specs.Tree.{Tree, Node, file, folder, same_path, node_at, bytes_of, bytes_at, is_path, is_folder}
use Rattle.gix_ref_file.specs.Changes.{is_file_at}
use Rattle.gix_ref_file.proofs.Trees.{same_tree, one_path, get_inserted, get-inserted, get-removed}
use Rattle.gix_ref_file.specs.Nodes.{with_node}
use Rattle.gix_ref_file.proofs.Undone.{get-with_node}

cond_twice : {A : Type 0} (b : Bool) (x y z : A) → cond b x (cond b y z) ≡ cond b x z
cond_twice true x y z = refl
cond_twice false x y z = refl

pub inserted_twice : (t : Tree) (p : List ℕ) (a b : Node) → insert (insert t p a) p b ≡ insert t p b
inserted_twice t p a b = same_tree _ _ (λ q.
    get-inserted (insert t p a) p b q ∙ ap (cond (same_path q p) (Some b)) (get-inserted t p a q) ∙ cond_twice (same_path q p) _ _ _ ∙ sym (get-inserted t p b q))

pub inserted_same : (t : Tree) (p : List ℕ) (n : Node) → get t p ≡ Some n → insert t p n ≡ t
inserted_same t p n is = same_tree _ _ (λ q. get-inserted t p n q ∙ by_case q (same_path q p) refl)
  where
    by_case : (q : List ℕ) (b : Bool) → same_path q p ≡ b → cond b (Some n) (get t q) ≡ get t q
    by_case q true same = sym (ap (get t) (one_path q p same) ∙ is)
    by_case q false apart = refl

turned : (p q : List ℕ) → same_path p q ≡ false → same_path q p ≡ false
turned p q apart = (eq_by_cmp_equiv nat_list_cmp_total).symm q p ∙ apart

-- ---- a folder that is put back, or that something took the place of
folder_there : (o : Option Node) → IsTrue (is_folder o) → o ≡ Some folder
folder_there None is = cc
folder_there (Some (file bytes)) is = cc
folder_there (Some folder) is = refl

pub put_back : (t t1 t2 : Tree) (p : List ℕ) (n : Node) → t1 ≡ insert t p n → (IsSome (get t1 p) → t2 ≡ insert t1 p folder) → IsTrue (is_folder (get t p)) → t2 ≡ t
put_back t t1 t2 p n put back was =
    back (ap (λ x. is_some (get x p)) put ∙ ap is_some (get_inserted t p n))
    ∙ ap (λ x. insert x p folder) put ∙ inserted_twice t p n folder ∙ inserted_same t p folder (folder_there (get t p) was)

pub stays : (t t1 : Tree) (p : List ℕ) → IsTrue (is_folder (get t p)) → t1 ≡ insert t p folder → t1 ≡ t
stays t t1 p was put = put ∙ inserted_same t p folder (folder_there (get t p) was)

-- ---- a rename, by way of something in the new place
module _ (t : Tree) (from to : List ℕ) (other : Node) (apart : same_path from to ≡ false) where
  pub still_there : get (insert t to other) from ≡ get t from
  still_there = get-inserted t to other from ∙ ap (λ b. cond b (Some other) (get t from)) apart

  in_place : get (remove (insert t to other) from) to ≡ Some other
  in_place = get-removed (insert t to other) from to ∙ ap (λ b. cond b None (get (insert t to other) to)) (turned from to apart) ∙ get_inserted t to other

  moved_over : (n : Node) → insert (remove (insert t to other) from) to n ≡ insert (remove t from) to n
  moved_over n = same_tree _ _ (λ q.
      get-inserted (remove (insert t to other) from) to n q
      ∙ ap (cond (same_path q to) (Some n)) (get-removed (insert t to other) from q ∙ ap (cond (same_path q from) None) (get-inserted t to other q))
      ∙ by_case (same_path q to) (same_path q from) (get t q)
      ∙ sym (get-inserted (remove t from) to n q ∙ ap (cond (same_path q to) (Some n)) (get-removed t from q)))
    where
      by_case : (a b : Bool) (x : Option Node) → cond a (Some n) (cond b None (cond a (Some other) x)) ≡ cond a (Some n) (cond b None x)
      by_case true b x = refl
      by_case false b x = refl

  pub rename_done : (t1 t2 t3 : Tree) (n : Node) → t1 ≡ insert t to other → t2 ≡ remove t1 from → (IsSome (get t2 to) → t3 ≡ insert t2 to n) → Some n ≡ get t1 from → t3 ≡ with_node (remove t from) to (get t from)
  rename_done t1 t2 t3 n is1 is2 is3 is =
      let two : t2 ≡ remove (insert t to other) from = is2 ∙ ap (λ x. remove x from) is1 in
      is3 (ap (λ x. is_some (get x to)) two ∙ ap is_some in_place)
      ∙ ap (λ x. insert x to n) two ∙ moved_over n
      ∙ ap (with_node (remove t from) to) (is ∙ ap (λ x. get x from) is1 ∙ still_there)

-- ---- a file that is there
pub some_of_file : (o : Option Node) → IsSome (bytes_of o) → IsSome o
some_of_file None there = cc
some_of_file (Some n) there = refl

pub file_there : (o : Option Node) → IsSome (bytes_of o) → o ≡ Some (file (unwrap_or (bytes_of o) []))
file_there None there = cc
file_there (Some (file bytes)) there = refl
file_there (Some folder) there = cc

pub node_at_file : (t : Tree) (p : List ℕ) → IsTrue (is_file_at t p) → node_at t p ≡ get t p
node_at_file t [] there = cc
node_at_file t (b ∷ p) there = refl

pub file_stands : (t : Tree) (p : List ℕ) → IsTrue (is_file_at t p) → IsSome (get t p)
file_stands t [] there = cc
file_stands t (b ∷ p) there = some_of_file (get t (b ∷ p)) there

-- ---- a folder that is there, and isn't the root
pub some_of_folder : (o : Option Node) → IsTrue (is_folder o) → IsSome o
some_of_folder None there = cc
some_of_folder (Some n) there = refl

pub folder_stands : (t : Tree) (p : List ℕ) → IsTrue (is_path p) → IsTrue (is_folder (node_at t p)) → IsSome (get t p)
folder_stands t [] is_one there = cc
folder_stands t (b ∷ p) is_one there = some_of_folder (get t (b ∷ p)) there

-- ---- an append, by way of an empty file
pub append_done : (t t1 t2 : Tree) (p stored new : List ℕ) (empty : Node) → Some (file stored) ≡ get t p → (IsSome (get t p) → t1 ≡ insert t p empty) → (IsSome (get t1 p) → t2 ≡ insert t1 p (file new)) → t2 ≡ insert t p (file new)
append_done t t1 t2 p stored new empty was is1 is2 =
    let one = is1 (ap is_some (sym was)) in
    is2 (ap (λ x. is_some (get x p)) one ∙ ap is_some (get_inserted t p empty)) ∙ ap (λ x. insert x p (file new)) one ∙ inserted_twice t p empty (file new)

pub stored_bytes : (o : Option Node) (stored : List ℕ) → Some (file stored) ≡ o → stored ≡ unwrap_or (bytes_of o) []
stored_bytes o stored is = ap (λ x. unwrap_or (bytes_of x) []) is

-- ---- and both undone
pub rename_undone : (t new : Tree) (from to : List ℕ) → same_path from to ≡ false → IsTrue (is_file_at t from)
    → new ≡ insert (remove t from) to (file (bytes_at t from)) → with_node (with_node new to (get t to)) from (get new to) ≡ t
rename_undone t new from to apart there is = same_tree _ _ (λ q.
    get-with_node _ from (get new to) q
    ∙ ap (cond (same_path q from) (get new to)) (get-with_node new to (get t to) q)
    ∙ ap (λ o. cond (same_path q from) o (cond (same_path q to) (get t to) (get new q))) moved
    ∙ ap (λ x. cond (same_path q from) (get t from) (cond (same_path q to) (get t to) (get x q))) is
    ∙ ap (λ o. cond (same_path q from) (get t from) (cond (same_path q to) (get t to) o)) (get-inserted (remove t from) to _ q ∙ ap (cond (same_path q to) _) (get-removed t from q))
    ∙ by_case q (same_path q from) (same_path q to) refl refl)
  where
    moved : get new to ≡ get t from
    moved = ap (λ x. get x to) is ∙ get_inserted (remove t from) to (file (bytes_at t from))
        ∙ sym (sym (node_at_file t from there) ∙ file_there (node_at t from) there)

    by_case : (q : List ℕ) (a b : Bool) → same_path q from ≡ a → same_path q to ≡ b
        → cond a (get t from) (cond b (get t to) (cond b (Some (file (bytes_at t from))) (cond a None (get t q)))) ≡ get t q
    by_case q true b at_from _ = sym (ap (get t) (one_path q from at_from))
    by_case q false true _ at_to = sym (ap (get t) (one_path q to at_to))
    by_case q false false _ _ = refl

pub append_undone : (t new : Tree) (p bytes : List ℕ) → IsTrue (is_file_at t p) → new ≡ insert t p (file (bytes_at t p ++ bytes)) → insert new p (file (take (length (bytes_at t p)) (bytes_at new p))) ≡ t
append_undone t new [] bytes there is = cc
append_undone t new (b ∷ p) bytes there is =
    let path = b ∷ p in
    let longer : bytes_at new path ≡ bytes_at t path ++ bytes = ap (λ x. unwrap_or (bytes_of x) []) (ap (λ x. get x path) is ∙ get_inserted t path (file (bytes_at t path ++ bytes))) in
    (λ i. insert (is i) path (file (take (length (bytes_at t path)) (longer i))))
    ∙ inserted_twice t path _ _
    ∙ ap (λ bs. insert t path (file bs)) (take_at (bytes_at t path) bytes (length (bytes_at t path)) refl)
    ∙ inserted_same t path (file (bytes_at t path)) (file_there (get t path) there)

-- a file that is renamed to its own path
pub renamed_to_itself : (t : Tree) (from to : List ℕ) → from ≡ to → IsTrue (is_file_at t from) → insert (remove t from) to (file (bytes_at t from)) ≡ t
renamed_to_itself t from to same there =
    ap (λ p. insert (remove t from) p (file (bytes_at t from))) (sym same)
    ∙ same_tree _ _ (λ q.
    get-inserted (remove t from) from _ q ∙ ap (cond (same_path q from) _) (get-removed t from q)
    ∙ cond_twice (same_path q from) _ _ _ ∙ sym (get-inserted t from (file (bytes_at t from)) q))
    ∙ inserted_same t from (file (bytes_at t from)) (sym (node_at_file t from there) ∙ file_there (node_at t from) there)
