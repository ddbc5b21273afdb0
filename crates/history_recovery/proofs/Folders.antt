-- Folders that are deserted: recovery doesn't see them go, and keeps each other one.
use Rattle.std.proofs.Common.{◌≡◌, ◌≢◌, refl, sym, ◌∙◌, ap, subst, Bool, true, false, cond, not, ◌&&◌, ◌||◌, List, [], ◌∷◌, ◌++◌, Option, Some, None, option_map, is_some, drop, length, ◌+◌, ◌<◌, codes, append_assoc, arith}
use Rattle.std.specs.Prelude.{IsTrue, IsSome}
use Rattle.std.specs.List.{list_any, after_last}
use Rattle.std.specs.FinMap.{get, remove, keys, contains_key, contains_key-keys}
use Rattle.std.proofs.lemmas.Bool.{and_parts, and_from}
use Rattle.gix_ref_file.specs.Tree.{Tree, Node, file, folder, is_slash, is_path, same_path, parent, bytes_of, node_at, names_at, is_folder, IsRooted}
use Rattle.gix_ref_file.specs.Changes.{to_remove_folder, allows, is_empty_at, is_file_at}
use Rattle.gix_ref_file.proofs.Below.{path_in_folder}
use Rattle.gix_ref_file.proofs.Trees.{same_tree, same_path_itself, one_path, get-removed}
use Rattle.history_model.specs.Bytes.{Bytes}
use Rattle.history_model.specs.FileMap.{is_below}
use Rattle.history_model.specs.Places.{file_at, is_log_place}
use Rattle.history_model.specs.Logs.{whole_lines}
use Rattle.history_model.specs.Recovery.{is_deserted, recovered_files, recovered_names}
use Rattle.gix_hash.specs.declared.kind.Kind.{Kind}
use Rattle.history_model.proofs.EntryLemmas.{key_passes}
use Rattle.history_model.proofs.RecoveryLemmas.{get-recovered_names, recovery_keeps}
use Rattle.history_model.proofs.WholePaths.{below_parts, below_front}
use Rattle.history_recovery.specs.Clearing.{is_over, IsKept, AreKeptBelow}
use Rattle.history_recovery.proofs.Left.{stays, left_is, over_alike, not_some}
use Rattle.history_recovery.proofs.Below.{none_below, lists_none, lists_one}

-- ---- a file below

abbrev pub has_file_below : Tree → Bytes → Bool
has_file_below tree path = list_any (λ below. is_below path below && is_some (file_at tree below)) (keys tree)

some_key : (test : Bytes → Bool) (ks : List Bytes) → list_any test ks ≡ true → (p : Bytes) × (test p ≡ true)
some_key test [] e = cc
some_key test (k ∷ ks) e = go (some_key test ks) (test k) refl e
  where
    go : (list_any test ks ≡ true → (p : Bytes) × (test p ≡ true)) → (b : Bool) → test k ≡ b → (b || list_any test ks) ≡ true → (p : Bytes) × (test p ≡ true)
    go more true f e = (k, f)
    go more false f e = more e

file_is_key : (tree : Tree) (path : Bytes) → is_some (file_at tree path) ≡ true → contains_key tree path ≡ true
file_is_key tree [] e = cc
file_is_key tree (b ∷ path) e = go (get tree (b ∷ path)) e
  where
    go : (o : Option Node) → is_some (bytes_of o) ≡ true → is_some o ≡ true
    go None e = cc
    go (Some node) e = refl

pub found_below : (tree : Tree) (path : Bytes) → has_file_below tree path ≡ true → (p : Bytes) × (is_below path p ≡ true) × (is_some (file_at tree p) ≡ true)
found_below tree path e =
    let found = some_key (λ below. is_below path below && is_some (file_at tree below)) (keys tree) e in
    let parts = and_parts (is_below path found.0) (is_some (file_at tree found.0)) found.1 in
    (found.0, parts.0, parts.1)

made_below : (tree : Tree) (path p : Bytes) → is_below path p ≡ true → is_some (file_at tree p) ≡ true → has_file_below tree path ≡ true
made_below tree path p h k =
    key_passes (λ below. is_below path below && is_some (file_at tree below)) p (and_from (is_below path p) (is_some (file_at tree p)) h k)
    (keys tree) (sym (contains_key-keys tree p) ∙ file_is_key tree p k)

below_moves : (s t : Tree) (path : Bytes) → ((p : Bytes) → is_some (file_at s p) ≡ true → is_some (file_at t p) ≡ true) → has_file_below s path ≡ true → has_file_below t path ≡ true
below_moves s t path h e = let found = found_below s path e in made_below t path found.0 found.1 (h found.0 found.2)

same_test : (a b : Bool) → (a ≡ true → b ≡ true) → (b ≡ true → a ≡ true) → a ≡ b
same_test true b f g = sym (f refl)
same_test false true f g = g refl
same_test false false f g = refl

below_same : (s t : Tree) (path : Bytes) → ((p : Bytes) → file_at s p ≡ file_at t p) → has_file_below s path ≡ has_file_below t path
below_same s t path same =
    same_test (has_file_below s path) (has_file_below t path) (below_moves s t path (λ p is. sym (ap is_some (same p)) ∙ is)) (below_moves t s path (λ p is. ap is_some (same p) ∙ is))

below_twice : (a b c : Bytes) → is_below a b ≡ true → is_below b c ≡ true → is_below a c ≡ true
below_twice a b c first second =
    let x = drop (length a + 1) b in
    let y = drop (length b + 1) c in
    subst (λ q. is_below a q ≡ true)
    (sym (below_parts b c second ∙ ap (λ p. p ++ 47 ∷ y) (below_parts a b first) ∙ append_assoc a (47 ∷ x) (47 ∷ y)))
    (below_front a (x ++ 47 ∷ y))

-- ---- a file that is left existed before

left_stood : (over : Bool) (path : Bytes) (o : Option Node) → is_some (bytes_of (stays over path o)) ≡ true → is_some o ≡ true
left_stood over path None e = cc
left_stood over path (Some node) e = refl

file_stood : (kind : Kind) (tree : Tree) (path : Bytes) → is_some (file_at (recovered_files kind tree) path) ≡ true → IsSome (get tree path)
file_stood kind tree [] e = cc
file_stood kind tree (b ∷ path) e = left_stood (is_over kind tree (b ∷ path)) (b ∷ path) (get tree (b ∷ path)) (sym (ap (λ o. is_some (bytes_of o)) (left_is kind tree (b ∷ path))) ∙ e)

-- ---- an empty folder goes

module _ (kind : Kind) (tree : Tree) (k : Bytes) (rooted : IsRooted tree) (some : k ≢ []) (is : get tree k ≡ Some folder) (named : (is_below (codes "refs") k || is_below (codes "logs") k) ≡ true) (empty : is_empty_at tree k ≡ true) where
  files_stay : (q : Bytes) → file_at (remove tree k) q ≡ file_at tree q
  files_stay [] = refl
  files_stay (b ∷ q) = go (same_path (b ∷ q) k) refl
    where
      go : (same : Bool) → same_path (b ∷ q) k ≡ same → bytes_of (get (remove tree k) (b ∷ q)) ≡ bytes_of (get tree (b ∷ q))
      go true same = ap bytes_of (get-removed tree k (b ∷ q) ∙ ap (λ c. cond c None (get tree (b ∷ q))) same) ∙ sym (ap bytes_of (ap (get tree) (one_path (b ∷ q) k same) ∙ is))
      go false apart = ap bytes_of (get-removed tree k (b ∷ q) ∙ ap (λ c. cond c None (get tree (b ∷ q))) apart)

  -- what is left of each other path is the same
  left_apart : (q : Bytes) → same_path q k ≡ false → get (recovered_files kind (remove tree k)) q ≡ get (recovered_files kind tree) q
  left_apart q apart =
      left_is kind (remove tree k) q
      ∙ ap (λ b. stays b q (get (remove tree k) q)) (over_alike kind (remove tree k) tree (λ p _. files_stay p) q)
      ∙ ap (stays (is_over kind tree q) q) (get-removed tree k q ∙ ap (λ c. cond c None (get tree q)) apart)
      ∙ sym (left_is kind tree q)

  left_here : get (recovered_files kind tree) k ≡ Some folder
  left_here = left_is kind tree k ∙ ap (stays (is_over kind tree k) k) is

  left_gone : get (recovered_files kind (remove tree k)) k ≡ None
  left_gone = left_is kind (remove tree k) k ∙ ap (stays (is_over kind (remove tree k) k) k) (get-removed tree k k ∙ ap (λ c. cond c None (get tree k)) (same_path_itself k))

  left_files : (q : Bytes) → file_at (recovered_files kind (remove tree k)) q ≡ file_at (recovered_files kind tree) q
  left_files [] = refl
  left_files (b ∷ q) = go (same_path (b ∷ q) k) refl
    where
      go : (same : Bool) → same_path (b ∷ q) k ≡ same → bytes_of (get (recovered_files kind (remove tree k)) (b ∷ q)) ≡ bytes_of (get (recovered_files kind tree) (b ∷ q))
      go true same = ap bytes_of (ap (get (recovered_files kind (remove tree k))) (one_path (b ∷ q) k same) ∙ left_gone) ∙ sym (ap bytes_of (ap (get (recovered_files kind tree)) (one_path (b ∷ q) k same) ∙ left_here))
      go false apart = ap bytes_of (left_apart (b ∷ q) apart)

  none_left : has_file_below (recovered_files kind tree) k ≡ false
  none_left = go (has_file_below (recovered_files kind tree) k) refl
    where
      go : (b : Bool) → has_file_below (recovered_files kind tree) k ≡ b → b ≡ false
      go false e = refl
      go true e =
          let found = found_below (recovered_files kind tree) k e in
          let stood = file_stood kind tree found.0 found.2 in
          absurd (none_below tree k (drop (length k + 1) found.0) rooted some empty (subst (λ p. IsSome (get tree p)) (below_parts k found.0 found.1) stood))

  none_either : (b : Bool) → ◌≡◌ {A = Option Node} (cond b None None) None
  none_either true = refl
  none_either false = refl

  names_here : get (recovered_names kind tree) k ≡ None
  names_here =
      get-recovered_names kind tree k
      ∙ ap (λ o. cond (not (is_folder o && (is_below (codes "refs") k || is_below (codes "logs") k) && not (has_file_below (recovered_files kind tree) k))) o None) left_here
      ∙ (λ i. cond (not (true && named i && not (none_left i))) (Some folder) None)

  pub without_folder : recovered_names kind (remove tree k) ≡ recovered_names kind tree
  without_folder = same_tree (recovered_names kind (remove tree k)) (recovered_names kind tree) (λ q. at q (same_path q k) refl)
    where
      at : (q : Bytes) (same : Bool) → same_path q k ≡ same → get (recovered_names kind (remove tree k)) q ≡ get (recovered_names kind tree) q
      at q true same =
          let here : q ≡ k = one_path q k same in
          subst (λ p. get (recovered_names kind (remove tree k)) p ≡ get (recovered_names kind tree) p) (sym here)
          (get-recovered_names kind (remove tree k) k
          ∙ ap (λ o. cond (not (is_deserted (recovered_files kind (remove tree k)) k)) o None) left_gone
          ∙ none_either (not (is_deserted (recovered_files kind (remove tree k)) k)) ∙ sym names_here)
      at q false apart =
          get-recovered_names kind (remove tree k) q
          ∙ (λ i. cond (not (is_folder (left_apart q apart i) && (is_below (codes "refs") q || is_below (codes "logs") q) && not (below_same (recovered_files kind (remove tree k)) (recovered_files kind tree) q left_files i))) (left_apart q apart i) None)
          ∙ sym (get-recovered_names kind tree q)

-- ---- what is kept

some_file : (o : Option Node) → is_some (bytes_of o) ≡ true → is_some o ≡ true
some_file None e = cc
some_file (Some node) e = refl

-- a file that isn't left over
pub kept_file : (kind : Kind) (tree : Tree) (path : Bytes) → is_over kind tree path ≡ false → is_file_at tree path ≡ true → IsKept kind tree path
kept_file kind tree [] over is = cc
kept_file kind tree (b ∷ path) over is = λ _.
    some_file (get (recovered_names kind tree) (b ∷ path))
    (ap is_some (recovery_keeps kind tree (b ∷ path)) ∙ kept (is_over kind tree (b ∷ path)) (file_at tree (b ∷ path)) over is)
  where
    kept : (over : Bool) (o : Option Bytes) → over ≡ false → is_some o ≡ true
        → is_some (cond (is_some o && over) None (option_map (λ text. cond (is_log_place (b ∷ path)) (whole_lines text) text) o)) ≡ true
    kept true o h e = cc
    kept false None h e = cc
    kept false (Some text) h e = refl

stays_folder : (kind : Kind) (tree : Tree) (path : Bytes) → get tree path ≡ Some folder → get (recovered_files kind tree) path ≡ Some folder
stays_folder kind tree path is = left_is kind tree path ∙ ap (stays (is_over kind tree path) path) is

folder_kept : (kind : Kind) (tree : Tree) (path : Bytes) → get tree path ≡ Some folder → ((is_below (codes "refs") path || is_below (codes "logs") path) && not (has_file_below (recovered_files kind tree) path)) ≡ false
    → IsSome (get (recovered_names kind tree) path)
folder_kept kind tree path is stays =
    ap is_some (get-recovered_names kind tree path
    ∙ ap (λ o. cond (not (is_folder o && (is_below (codes "refs") path || is_below (codes "logs") path) && not (has_file_below (recovered_files kind tree) path))) o None) (stays_folder kind tree path is))
    ∙ kept (is_below (codes "refs") path || is_below (codes "logs") path) (has_file_below (recovered_files kind tree) path) stays
  where
    kept : (named filed : Bool) → (named && not filed) ≡ false → is_some (cond (not (true && named && not filed)) (Some folder) None) ≡ true
    kept false filed h = refl
    kept true true h = refl
    kept true false h = cc

-- a folder that may not be deserted
pub kept_plain : (kind : Kind) (tree : Tree) (path : Bytes) → get tree path ≡ Some folder → (is_below (codes "refs") path || is_below (codes "logs") path) ≡ false → IsKept kind tree path
kept_plain kind tree path is plain = λ _. folder_kept kind tree path is (ap (λ b. b && not (has_file_below (recovered_files kind tree) path)) plain)

-- a folder in which something is kept
module _ (kind : Kind) (tree : Tree) (k child : Bytes) (some : k ≢ []) (is : get tree k ≡ Some folder) (here : parent child ≡ k) (kept : IsSome (get (recovered_names kind tree) child)) where
  child_below : is_below k child ≡ true
  child_below =
      subst (λ p. is_below k p ≡ true) (sym (path_in_folder child (longer (parent child) (λ none. some (sym here ∙ none))) ∙ ap (λ p. p ++ 47 ∷ after_last is_slash child) here)) (below_front k (after_last is_slash child))
    where
      longer : (p : Bytes) → p ≢ [] → 0 < length p
      longer [] not_root = absurd (not_root refl)
      longer (b ∷ p) not_root = omega arith

  named_too : (is_below (codes "refs") k || is_below (codes "logs") k) ≡ true → (is_below (codes "refs") child || is_below (codes "logs") child) ≡ true
  named_too h = go (is_below (codes "refs") k) refl h
    where
      or_true : (a b : Bool) → b ≡ true → (a || b) ≡ true
      or_true true b e = refl
      or_true false b e = e

      go : (b : Bool) → is_below (codes "refs") k ≡ b → (b || is_below (codes "logs") k) ≡ true → (is_below (codes "refs") child || is_below (codes "logs") child) ≡ true
      go true e f = ap (λ b. b || is_below (codes "logs") child) (below_twice (codes "refs") k child e child_below)
      go false e f = or_true (is_below (codes "refs") child) (is_below (codes "logs") child) (below_twice (codes "logs") k child f child_below)

  -- what is left of the child is a file, or a folder with a file below it
  files_in : (o : Option Node) → get (recovered_files kind tree) child ≡ o → (is_below (codes "refs") child || is_below (codes "logs") child) ≡ true
      → is_some (cond (not (is_folder o && (is_below (codes "refs") child || is_below (codes "logs") child) && not (has_file_below (recovered_files kind tree) child))) o None) ≡ true → has_file_below (recovered_files kind tree) k ≡ true
  files_in None e named h = absurd (none_either (not (is_folder nothing && (is_below (codes "refs") child || is_below (codes "logs") child) && not (has_file_below (recovered_files kind tree) child))) h)
    where
      nothing : Option Node
      nothing = None

      none_either : (b : Bool) → is_some (cond b nothing nothing) ≡ true → ⊥
      none_either true e = cc
      none_either false e = cc
  files_in (Some (file bytes)) e named h = made_below (recovered_files kind tree) k child child_below (at_child child refl)
    where
      at_child : (q : Bytes) → q ≡ child → is_some (file_at (recovered_files kind tree) q) ≡ true
      at_child [] same = absurd (not_root (sym same))
        where
          not_root : child ≡ [] → ⊥
          not_root none = let wrong : is_below k [] ≡ true = subst (λ p. is_below k p ≡ true) none child_below in absurd (below_root k wrong)
            where
              below_root : (k : Bytes) → is_below k [] ≡ true → ⊥
              below_root [] e = cc
              below_root (b ∷ k) e = cc
      at_child (b ∷ q) same = ap (λ o. is_some (bytes_of o)) (ap (get (recovered_files kind tree)) same ∙ e)
  files_in (Some folder) e named h = go (has_file_below (recovered_files kind tree) child) refl
    where
      go : (b : Bool) → has_file_below (recovered_files kind tree) child ≡ b → has_file_below (recovered_files kind tree) k ≡ true
      go true f = let found = found_below (recovered_files kind tree) child f in made_below (recovered_files kind tree) k found.0 (below_twice k child found.0 child_below found.1) found.2
      go false f = cc (sym (λ i. is_some (cond (not (true && named i && not (f i))) (Some folder) None)) ∙ h)

  pub kept_over : IsKept kind tree k
  kept_over = λ _. by_name (is_below (codes "refs") k || is_below (codes "logs") k) refl
    where
      by_name : (b : Bool) → (is_below (codes "refs") k || is_below (codes "logs") k) ≡ b → IsSome (get (recovered_names kind tree) k)
      by_name false e = folder_kept kind tree k is (ap (λ b. b && not (has_file_below (recovered_files kind tree) k)) e)
      by_name true e =
          let filed = files_in (get (recovered_files kind tree) child) refl (named_too e) (sym (ap is_some (get-recovered_names kind tree child)) ∙ kept) in
          folder_kept kind tree k is (λ i. e i && not (filed i))

-- ---- as the code goes on

folder_there : (tree : Tree) (k : Bytes) → k ≢ [] → is_folder (node_at tree k) ≡ true → get tree k ≡ Some folder
folder_there tree [] some is = absurd (some refl)
folder_there tree (b ∷ k) some is = by_node (get tree (b ∷ k)) is
  where
    by_node : (o : Option Node) → is_folder o ≡ true → o ≡ Some folder
    by_node None h = cc
    by_node (Some (file bytes)) h = cc
    by_node (Some folder) h = refl

named_not_root : (k : Bytes) → (is_below (codes "refs") k || is_below (codes "logs") k) ≡ true → k ≢ []
named_not_root k named none = let wrong : false ≡ true = ap (λ p. is_below (codes "refs") p || is_below (codes "logs") p) (sym none) ∙ named in cc wrong

-- the folder's path is one
folder_path : (tree : Tree) (k : Bytes) → IsRooted tree → k ≢ [] → is_folder (node_at tree k) ≡ true → IsTrue (is_path k)
folder_path tree k rooted some is = (rooted k (ap is_some (folder_there tree k some is))).0

pub folder_goes : (kind : Kind) (tree : Tree) (k : Bytes) → IsRooted tree → (is_below (codes "refs") k || is_below (codes "logs") k) ≡ true → IsTrue (allows tree (to_remove_folder k)) → recovered_names kind (remove tree k) ≡ recovered_names kind tree
folder_goes kind tree k rooted named may =
    let some = named_not_root k named in
    let parts = and_parts (is_path k && is_folder (node_at tree k)) (is_empty_at tree k) may in
    let there = folder_there tree k some (and_parts (is_path k) (is_folder (node_at tree k)) parts.0).1 in
    without_folder kind tree k rooted some there named parts.1

pub folder_may_go : (tree : Tree) (k : Bytes) → IsRooted tree → (is_below (codes "refs") k || is_below (codes "logs") k) ≡ true → is_folder (node_at tree k) ≡ true → names_at tree k ≡ [] → IsTrue (allows tree (to_remove_folder k))
folder_may_go tree k rooted named is none =
    let whole = folder_path tree k rooted (named_not_root k named) is in
    let empty = lists_none tree k is none in
    λ i. whole i && is i && empty i

-- a folder that stays, since it may not be deserted
pub plain_stays : (kind : Kind) (tree : Tree) (k : Bytes) → is_folder (node_at tree k) ≡ true → (is_below (codes "refs") k || is_below (codes "logs") k) ≡ false → IsKept kind tree k
plain_stays kind tree [] is plain there = by_root (get tree []) refl there
  where
    by_root : (o : Option Node) → get tree [] ≡ o → IsSome (get tree []) → IsSome (get (recovered_names kind tree) [])
    by_root None e there = absurd (not_some (get tree []) e there)
    by_root (Some (file bytes)) e there =
        ap is_some (get-recovered_names kind tree []
        ∙ ap (λ o. cond (not (is_folder o && (is_below (codes "refs") [] || is_below (codes "logs") []) && not (has_file_below (recovered_files kind tree) []))) o None) (left_is kind tree [] ∙ ap (stays (is_over kind tree []) []) e))
    by_root (Some folder) e there = kept_plain kind tree [] e plain there
plain_stays kind tree (b ∷ k) is plain there = kept_plain kind tree (b ∷ k) (folder_there tree (b ∷ k) (λ e. cc) is) plain there

-- a folder that stays, since it isn't empty
pub filled_stays : (kind : Kind) (tree : Tree) (k : Bytes) (names : List Bytes) → IsRooted tree → (is_below (codes "refs") k || is_below (codes "logs") k) ≡ true → is_folder (node_at tree k) ≡ true
    → names ≡ names_at tree k → 0 < length names → AreKeptBelow kind k tree → IsKept kind tree k
filled_stays kind tree k names rooted named is listed filled below =
    let some = named_not_root k named in
    let child = lists_one tree k names rooted listed filled in
    kept_over kind tree k child.0 some (folder_there tree k some is) child.2 (below 0 child.0 child.2 child.1)
