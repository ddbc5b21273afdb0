-- What recovery leaves at each path, and what names read as then.
use Rattle.std.proofs.Common.{◌≡◌, Bool, true, false, cond, List, [], ◌∷◌, map, refl, sym, ◌∙◌, ap, subst, Option, Some, None, option_map, is_some, unwrap_or, ◌||◌, ◌&&◌, ◌==◌, not, bytes_eq, codes}
use Rattle.std.specs.List.{list_any}
use Rattle.std.specs.Ordering.{eq_by_cmp}
use Rattle.std.specs.FinMap.{get, entries, keys, retain_keys, contains_key, contains_key-keys, get-from_entries, get-entries, get-retain_keys, same_map, slice_cmp-IsAntisymmetric, nat_cmp-IsAntisymmetric}
use Rattle.std.specs.FinMap.Entries.{find}
use Rattle.std.proofs.lemmas.Cmp.{nat_list_cmp_total}
use Rattle.std.proofs.lemmas.Slice.Eq.{bytes_eq-Decides}
use Rattle.gix_ref_file.specs.Tree.{Tree, Node, file, folder, bytes_of, is_folder}
use Rattle.history_model.specs.Bytes.{Bytes, by_bytes, has_byte}
use Rattle.history_model.specs.FileMap.{is_below}
use Rattle.history_model.specs.Forms.{is_name}
use Rattle.history_model.specs.Logs.{whole_lines}
use Rattle.history_model.specs.Places.{file_at, is_log_place, log_name, is_lock_file, packed_place, unfinished_place}
use Rattle.history_model.specs.NameStates.{Absent, NameState, is_absent, loose_state, packed_text_state, name_state}
use Rattle.history_model.specs.Recovery.{is_leftover, is_deserted, recovered_files, recovered_names, recovered_node, recovered_objects}
use Rattle.history_model.specs.laws.Folders.{RecoveryKeeps, RecoveryReads, RecoveryEnds}
use Rattle.gix_hash.specs.declared.kind.Kind.{Kind}
use Rattle.history_model.proofs.NameLemmas.{name-lock, name-log}
use Rattle.std.proofs.lemmas.Bool.{and_parts, and_right}
use Rattle.history_model.proofs.WholeStores.{same_tie}
use Rattle.history_model.proofs.EntryLemmas.{same_key, key_passes}

pub same_tree : (a b : Tree) → ((q : Bytes) → get a q ≡ get b q) → a ≡ b
same_tree a b h = same_map nat_list_cmp_total (slice_cmp-IsAntisymmetric nat_cmp-IsAntisymmetric) a b h

-- ---- what a recovered tree has at a path

pub get-kept : (tree : Tree) (test : Bytes → Bool) (q : Bytes) → get (retain_keys tree test) q ≡ cond (test q) (get tree q) None
get-kept tree test q = get-retain_keys tree test q (λ x e. ap test (sym (same_tie q x e)))

find_mapped : (change : Bytes → Node → Node) (es : List (Bytes × Node)) (q : Bytes) → find by_bytes q (map (λ e. (e.0, change e.0 e.1)) es) ≡ option_map (change q) (find by_bytes q es)
find_mapped change [] q = refl
find_mapped change (e ∷ es) q = go (find_mapped change es q) (eq_by_cmp by_bytes q e.0) refl
  where
    go : find by_bytes q (map (λ e. (e.0, change e.0 e.1)) es) ≡ option_map (change q) (find by_bytes q es) → (b : Bool) → eq_by_cmp by_bytes q e.0 ≡ b → cond (eq_by_cmp by_bytes q e.0) (Some (change e.0 e.1)) (find by_bytes q (map (λ e. (e.0, change e.0 e.1)) es)) ≡ option_map (change q) (cond (eq_by_cmp by_bytes q e.0) (Some e.1) (find by_bytes q es))
    go rest true g = rw g (ap (λ p. Some (change p e.1)) (sym (same_key q e.0 g)))
    go rest false g = rw g rest

pub get-recovered_files : (kind : Kind) (tree : Tree) (q : Bytes) → get (recovered_files kind tree) q ≡ option_map (recovered_node q) (cond (not (is_leftover kind tree q)) (get tree q) None)
get-recovered_files kind tree q =
    get-from_entries nat_list_cmp_total _ q
    ∙ find_mapped recovered_node (entries (retain_keys tree (λ path. not (is_leftover kind tree path)))) q
    ∙ ap (option_map (recovered_node q)) (sym (get-entries (retain_keys tree (λ path. not (is_leftover kind tree path))) q) ∙ get-kept tree (λ path. not (is_leftover kind tree path)) q)

pub get-recovered_names : (kind : Kind) (tree : Tree) (q : Bytes) → get (recovered_names kind tree) q ≡ cond (not (is_deserted (recovered_files kind tree) q)) (get (recovered_files kind tree) q) None
get-recovered_names kind tree q = get-kept (recovered_files kind tree) (λ path. not (is_deserted (recovered_files kind tree) path)) q

-- ---- files

module _ (kind : Kind) (tree : Tree) (path : Bytes) where
  left : Option Node
  left = option_map (recovered_node path) (cond (not (is_leftover kind tree path)) (get tree path) None)

  -- what a deserted path was, is no file
  file_stays : (o : Option Node) (below_names no_file : Bool) → bytes_of (cond (not (is_folder o && below_names && no_file)) o None) ≡ bytes_of o
  file_stays None true true = refl
  file_stays None true false = refl
  file_stays None false no_file = refl
  file_stays (Some (file bytes)) below_names no_file = refl
  file_stays (Some folder) true true = refl
  file_stays (Some folder) true false = refl
  file_stays (Some folder) false no_file = refl

  left_file : (leftover : Bool) (o : Option Node) → bytes_of (option_map (recovered_node path) (cond (not leftover) o None))
      ≡ cond leftover None (option_map (λ text. cond (is_log_place path) (whole_lines text) text) (bytes_of o))
  left_file true o = refl
  left_file false None = refl
  left_file false (Some (file bytes)) = refl
  left_file false (Some folder) = refl

  get_left : bytes_of (get (recovered_names kind tree) path) ≡ cond (is_leftover kind tree path) None (option_map (λ text. cond (is_log_place path) (whole_lines text) text) (bytes_of (get tree path)))
  get_left =
      ap bytes_of (get-recovered_names kind tree path)
      ∙ file_stays (get (recovered_files kind tree) path) (is_below (codes "refs") path || is_below (codes "logs") path)
      (not (list_any (λ below. is_below path below && is_some (file_at (recovered_files kind tree) below)) (keys (recovered_files kind tree))))
      ∙ ap bytes_of (get-recovered_files kind tree path)
      ∙ left_file (is_leftover kind tree path) (get tree path)

pub recovery_keeps : RecoveryKeeps
recovery_keeps kind tree [] = refl
recovery_keeps kind tree (b ∷ path) = get_left kind tree (b ∷ path)

-- ---- states of names

plain_file : (log leftover : Bool) (o : Option Bytes) → log ≡ false → leftover ≡ false → cond leftover None (option_map (λ text. cond log (whole_lines text) text) o) ≡ o
plain_file log leftover o e f = rw (e, f) (same o)
  where
    same : (o : Option Bytes) → option_map (λ (text : Bytes). text) o ≡ o
    same None = refl
    same (Some text) = refl

-- a file that is no lock file and no log stays
pub file_kept : (kind : Kind) (tree : Tree) (path : Bytes) → is_lock_file path ≡ false → is_log_place path ≡ false → file_at (recovered_names kind tree) path ≡ file_at tree path
file_kept kind tree path lock log = recovery_keeps kind tree path ∙ plain_file (is_log_place path) (is_leftover kind tree path) (file_at tree path) log
    (and_right (is_some (file_at tree path)) _ (ap (λ b. b || (is_log_place path && is_absent (name_state kind tree (log_name path)))) lock ∙ ap (λ b. b && is_absent (name_state kind tree (log_name path))) log))

pub recovery_reads : RecoveryReads
recovery_reads kind tree name = ap (λ packed. choose (is_name name) (file_at (recovered_names kind tree) name) (packed_of packed)) (file_kept kind tree packed_place refl refl) ∙ go (is_name name) refl
  where
    packed_of : Option Bytes → NameState
    packed_of found = unwrap_or (option_map (packed_text_state kind name) found) Absent

    choose : Bool → Option Bytes → NameState → NameState
    choose known found packed = cond known (unwrap_or (option_map (loose_state kind) found) packed) Absent

    go : (b : Bool) → is_name name ≡ b → choose b (file_at (recovered_names kind tree) name) (packed_of (file_at tree packed_place)) ≡ choose b (file_at tree name) (packed_of (file_at tree packed_place))
    go false e = refl
    go true e = ap (λ found. choose true found (packed_of (file_at tree packed_place))) (file_kept kind tree name (name-lock name e) (name-log name e))

-- ---- twice

has-whole_lines : (text : Bytes) → has_byte 10 (whole_lines text) ≡ has_byte 10 text
has-whole_lines [] = refl
has-whole_lines (b ∷ text) = go (has-whole_lines text) (has_byte 10 (b ∷ text)) refl
  where
    go : has_byte 10 (whole_lines text) ≡ has_byte 10 text → (c : Bool) → has_byte 10 (b ∷ text) ≡ c → has_byte 10 (cond c (b ∷ whole_lines text) []) ≡ c
    go rest true e = ap (λ h. (b == 10) || h) rest ∙ e
    go rest false e = refl

whole_lines-twice : (text : Bytes) → whole_lines (whole_lines text) ≡ whole_lines text
whole_lines-twice [] = refl
whole_lines-twice (b ∷ text) = go (whole_lines-twice text) (has_byte 10 (b ∷ text)) refl
  where
    go : whole_lines (whole_lines text) ≡ whole_lines text → (c : Bool) → has_byte 10 (b ∷ text) ≡ c → whole_lines (cond c (b ∷ whole_lines text) []) ≡ cond c (b ∷ whole_lines text) []
    go rest true e = rw (ap (λ h. (b == 10) || h) (has-whole_lines text) ∙ e) (ap (λ bs. b ∷ bs) rest)
    go rest false e = refl

node_twice : (path : Bytes) (node : Node) → recovered_node path (recovered_node path node) ≡ recovered_node path node
node_twice path folder = refl
node_twice path (file bytes) = go (is_log_place path)
  where
    go : (log : Bool) → file (cond log (whole_lines (cond log (whole_lines bytes) bytes)) (cond log (whole_lines bytes) bytes)) ≡ file (cond log (whole_lines bytes) bytes)
    go true = ap file (whole_lines-twice bytes)
    go false = refl

module _ (kind : Kind) (tree : Tree) where
  files : Tree
  files = recovered_files kind tree

  names : Tree
  names = recovered_names kind tree

  -- a node of the recovered tree is as recovery leaves it, and was no leftover
  stood : (leftover deserted : Bool) (path : Bytes) (o : Option Node) (node : Node) → cond (not deserted) (option_map (recovered_node path) (cond (not leftover) o None)) None ≡ Some node
      → (recovered_node path node ≡ node) × (leftover ≡ false)
  stood true true path o node e = cc
  stood true false path o node e = cc
  stood false true path o node e = cc
  stood false false path None node e = cc
  stood false false path (Some was) node e =
      let same : recovered_node path was ≡ node = ap (λ o. unwrap_or o node) e in
      (ap (recovered_node path) (sym same) ∙ node_twice path was ∙ same, refl)

  stands_so : (path : Bytes) (node : Node) → get names path ≡ Some node → (recovered_node path node ≡ node) × (is_leftover kind tree path ≡ false)
  unfolding names
  stands_so path node e =
      stood (is_leftover kind tree path) (is_deserted (recovered_files kind tree) path) path (get tree path) node
      (sym (get-recovered_names kind tree path ∙ ap (λ o. cond (not (is_deserted (recovered_files kind tree) path)) o None) (get-recovered_files kind tree path)) ∙ e)

  leftover_then : (path : Bytes) → is_leftover kind tree path ≡ false → is_leftover kind names path ≡ false
  unfolding names
  leftover_then path e =
      ap (λ r. is_some (file_at (recovered_names kind tree) path) && (is_lock_file path || (is_log_place path && is_absent r))) (recovery_reads kind tree (log_name path))
      ∙ ap (λ o. is_some o && (is_lock_file path || (is_log_place path && is_absent (name_state kind tree (log_name path))))) (recovery_keeps kind tree path)
      ∙ ap (λ b. is_some (cond b None (option_map (λ text. cond (is_log_place path) (whole_lines text) text) (file_at tree path))) && (is_lock_file path || (is_log_place path && is_absent (name_state kind tree (log_name path))))) e
      ∙ ap (λ b. b && (is_lock_file path || (is_log_place path && is_absent (name_state kind tree (log_name path))))) (some_mapped (file_at tree path)) ∙ e
    where
      some_mapped : (o : Option Bytes) → is_some (option_map (λ text. cond (is_log_place path) (whole_lines text) text) o) ≡ is_some o
      some_mapped None = refl
      some_mapped (Some text) = refl

  files_again : recovered_files kind names ≡ names
  files_again = same_tree (recovered_files kind names) names (λ path. get-recovered_files kind names path ∙ again path (get names path) refl)
    where
      again : (path : Bytes) (o : Option Node) → get names path ≡ o → option_map (recovered_node path) (cond (not (is_leftover kind names path)) (get names path) None) ≡ get names path
      again path None e = rw e (none (is_leftover kind names path))
        where
          none : (b : Bool) → option_map (recovered_node path) (cond (not b) None None) ≡ None
          none true = refl
          none false = refl
      again path (Some node) e =
          let so = stands_so path node e in
          ap (λ b. option_map (recovered_node path) (cond (not b) (get names path) None)) (leftover_then path so.1)
          ∙ ap (option_map (recovered_node path)) e ∙ ap Some so.0 ∙ sym e

  -- removing the deserted folders removes no file
  file_behind : (path : Bytes) → file_at names path ≡ file_at files path
  unfolding names files
  file_behind [] = refl
  file_behind (b ∷ path) =
      ap bytes_of (get-recovered_names kind tree (b ∷ path))
      ∙ file_stays kind tree (b ∷ path) (get (recovered_files kind tree) (b ∷ path)) (is_below (codes "refs") (b ∷ path) || is_below (codes "logs") (b ∷ path))
      (not (list_any (λ below. is_below (b ∷ path) below && is_some (file_at (recovered_files kind tree) below)) (keys (recovered_files kind tree))))

-- if a test passes for some key, a key that passes it
some_key : (test : Bytes → Bool) (ks : List Bytes) → list_any test ks ≡ true → (p : Bytes) × (test p ≡ true)
some_key test [] e = cc
some_key test (k ∷ ks) e = go (some_key test ks) (test k) refl e
  where
    go : (list_any test ks ≡ true → (p : Bytes) × (test p ≡ true)) → (b : Bool) → test k ≡ b → (b || list_any test ks) ≡ true → (p : Bytes) × (test p ≡ true)
    go more true f e = (k, f)
    go more false f e = more e

file_is_key : (tree : Tree) (path : Bytes) → is_some (file_at tree path) ≡ true → contains_key tree path ≡ true
file_is_key tree [] e = cc
file_is_key tree (b ∷ path) e = go (get tree (b ∷ path)) e
  where
    go : (o : Option Node) → is_some (bytes_of o) ≡ true → is_some o ≡ true
    go None e = cc
    go (Some node) e = refl

-- whether there is a file below the path
has_file_below : Tree → Bytes → Bool
has_file_below tree path = list_any (λ below. is_below path below && is_some (file_at tree below)) (keys tree)

below_again : (kind : Kind) (tree : Tree) (path : Bytes) → has_file_below (recovered_files kind tree) path ≡ true → has_file_below (recovered_names kind tree) path ≡ true
unfolding has_file_below names files
below_again kind tree path e =
    let found = some_key (λ below. is_below path below && is_some (file_at (recovered_files kind tree) below)) (keys (recovered_files kind tree)) e in
    let parts = and_parts (is_below path found.0) (is_some (file_at (recovered_files kind tree) found.0)) found.1 in
    let stands : is_some (file_at (recovered_names kind tree) found.0) ≡ true = ap is_some (file_behind kind tree found.0) ∙ parts.1 in
    key_passes (λ below. is_below path below && is_some (file_at (recovered_names kind tree) below)) found.0 (both (is_below path found.0) (is_some (file_at (recovered_names kind tree) found.0)) parts.0 stands)
    (keys (recovered_names kind tree)) (sym (contains_key-keys (recovered_names kind tree) found.0) ∙ file_is_key (recovered_names kind tree) found.0 stands)
  where
    both : (a b : Bool) → a ≡ true → b ≡ true → (a && b) ≡ true
    both true b e f = f
    both false b e f = cc

-- no folder that is left is deserted
deserted_again : (kind : Kind) (tree : Tree) (path : Bytes) → cond (not (is_deserted (recovered_names kind tree) path)) (get (recovered_names kind tree) path) None ≡ get (recovered_names kind tree) path
unfolding has_file_below
deserted_again kind tree path = go (get (recovered_files kind tree) path) refl
  where
    was : Option Node
    was = get (recovered_files kind tree) path

    is_named : Bool
    is_named = is_below (codes "refs") path || is_below (codes "logs") path

    left : (o : Option Node) → get (recovered_files kind tree) path ≡ o → get (recovered_names kind tree) path
        ≡ cond (not (is_folder o && (is_below (codes "refs") path || is_below (codes "logs") path) && not (has_file_below (recovered_files kind tree) path))) o None
    left o e = get-recovered_names kind tree path ∙ ap (λ o. cond (not (is_folder o && (is_below (codes "refs") path || is_below (codes "logs") path) && not (has_file_below (recovered_files kind tree) path))) o None) e

    -- of the three tests on a folder
    gone : (named before after : Bool) → (before ≡ true → after ≡ true)
        → cond (not (is_folder (cond (not (named && not before)) (Some folder) None) && named && not after)) (cond (not (named && not before)) (Some folder) None) None
        ≡ cond (not (named && not before)) (Some folder) None
    gone false before after h = refl
    gone true false after h = refl
    gone true true true h = refl
    gone true true false h = absurd (elim_false (h refl))
      where
        elim_false : false ≡ true → ⊥
        elim_false e = cc

    plain : (o : Option Node) (a b : Bool) → is_folder o ≡ false → cond (not (is_folder o && a && b)) o None ≡ o
    plain o a b e = rw e refl

    no_folder : (o : Option Node) → get (recovered_files kind tree) path ≡ o → is_folder o ≡ false → get (recovered_names kind tree) path ≡ o
    no_folder o e f = left o e ∙ plain o _ _ f

    now : (o : Option Node) → get (recovered_names kind tree) path ≡ o → cond (not (is_folder o && (is_below (codes "refs") path || is_below (codes "logs") path) && not (has_file_below (recovered_names kind tree) path))) o None ≡ o
        → cond (not (is_deserted (recovered_names kind tree) path)) (get (recovered_names kind tree) path) None ≡ get (recovered_names kind tree) path
    now o e h = ap (λ o. cond (not (is_folder o && (is_below (codes "refs") path || is_below (codes "logs") path) && not (has_file_below (recovered_names kind tree) path))) o None) e ∙ h ∙ sym e

    go : (o : Option Node) → get (recovered_files kind tree) path ≡ o → cond (not (is_deserted (recovered_names kind tree) path)) (get (recovered_names kind tree) path) None ≡ get (recovered_names kind tree) path
    go None e = now None (no_folder None e refl) refl
    go (Some (file bytes)) e = now (Some (file bytes)) (no_folder (Some (file bytes)) e refl) refl
    go (Some folder) e = now _ (left (Some folder) e)
        (gone (is_below (codes "refs") path || is_below (codes "logs") path) (has_file_below (recovered_files kind tree) path) (has_file_below (recovered_names kind tree) path) (below_again kind tree path))

names_again : (kind : Kind) (tree : Tree) → recovered_names kind (recovered_names kind tree) ≡ recovered_names kind tree
unfolding names
names_again kind tree = same_tree (recovered_names kind (recovered_names kind tree)) (recovered_names kind tree) (λ path.
    get-recovered_names kind (recovered_names kind tree) path
    ∙ ap (λ t. cond (not (is_deserted t path)) (get t path) None) (files_again kind tree)
    ∙ deserted_again kind tree path)

objects_again : (tree : Tree) → recovered_objects (recovered_objects tree) ≡ recovered_objects tree
objects_again tree = same_tree (recovered_objects (recovered_objects tree)) (recovered_objects tree) (λ path. get-kept (recovered_objects tree) _ path ∙ again path (bytes_eq path unfinished_place) refl)
  where
    again : (path : Bytes) (b : Bool) → bytes_eq path unfinished_place ≡ b
        → cond (not (b && is_some (file_at (recovered_objects tree) path))) (get (recovered_objects tree) path) None ≡ get (recovered_objects tree) path
    again path false e = refl
    again path true e = subst (λ p. cond (not (true && is_some (file_at (recovered_objects tree) p))) (get (recovered_objects tree) p) None ≡ get (recovered_objects tree) p)
        (sym ((bytes_eq-Decides path unfinished_place).0 e)) (at_unfinished (get tree unfinished_place) refl)
      where
        left : (o : Option Node) → get tree unfinished_place ≡ o → get (recovered_objects tree) unfinished_place ≡ cond (not (is_some (bytes_of o))) o None
        left o e = get-kept tree _ unfinished_place ∙ ap (λ o. cond (not (is_some (bytes_of o))) o None) e

        now : (o : Option Node) → get (recovered_objects tree) unfinished_place ≡ o → cond (not (is_some (bytes_of o))) o None ≡ o
            → cond (not (is_some (file_at (recovered_objects tree) unfinished_place))) (get (recovered_objects tree) unfinished_place) None ≡ get (recovered_objects tree) unfinished_place
        now o e h = ap (λ o. cond (not (is_some (bytes_of o))) o None) e ∙ h ∙ sym e

        at_unfinished : (o : Option Node) → get tree unfinished_place ≡ o
            → cond (not (is_some (file_at (recovered_objects tree) unfinished_place))) (get (recovered_objects tree) unfinished_place) None ≡ get (recovered_objects tree) unfinished_place
        at_unfinished None e = now None (left None e) refl
        at_unfinished (Some folder) e = now (Some folder) (left (Some folder) e) refl
        at_unfinished (Some (file bytes)) e = now None (left (Some (file bytes)) e) refl

pub recovery_ends : RecoveryEnds
recovery_ends kind pair = λ i. record { objects = objects_again pair.objects i; names = names_again kind pair.names i }
