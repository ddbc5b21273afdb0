-- A tree's entries determine the files at their paths and below.
use Rattle.std.proofs.Common.{◌≡◌, inl, inr, ℕ, zero, suc, ◌+◌, Bool, true, false, cond, ◌||◌, ◌==◌, List, [], ◌∷◌, ◌++◌, map, length, take, drop, refl, sym, ◌∙◌, ap, subst, Option, Some, None, is_some, option_map, unwrap_or, bytes_eq, codes, length-append}
use Rattle.std.specs.List.{AllByRecursion, list_any, flat_map, filter_map, cons_option}
use Rattle.std.specs.Ordering.{eq_by_cmp}
use Rattle.std.specs.FinMap.{get, get-empty, empty, entries, keys, values, contains_key, contains_key-keys, get-retain_keys, get-from_entries, get-entries, same_map, slice_cmp-IsAntisymmetric, nat_cmp-IsAntisymmetric}
use Rattle.std.specs.FinMap.Entries.{find}
use Rattle.std.proofs.lemmas.Cmp.{nat_list_cmp_total}
use Rattle.std.proofs.lemmas.Map.Text.{is_eq-slice_cmp}
use Rattle.std.proofs.lemmas.Slice.Eq.{bytes_eq-Decides}
use Rattle.history_model.specs.Bytes.{Bytes, by_bytes}
use Rattle.history_model.proofs.GrammarLemmas.{words_differ}
use Rattle.history_model.specs.Objects.{Value, StoredBytes, StoredFolder, blob_id, folder_id, mode_of, entry_at}
use Rattle.gix_hash.specs.Id.{Id}
use Rattle.history_model.specs.Repository.{Repository, IsWhole, IsStored, file_values}
use Rattle.history_model.specs.laws.Trees.{EntriesTellFiles, IsTreeIn}
use Rattle.history_model.specs.declared.FileKind.{FileKind}
use Rattle.history_model.specs.declared.FileKind.TheVariants.{File, Exec, Link}
use Rattle.history_model.specs.FileMap.{FileMap, Content, IsFileMap, is_below, is_within, has_below, cut_to, inside, beginnings, beginnings_from, folders_of}
use Rattle.std.proofs.lemmas.Option.{same_Some}
use Rattle.std.proofs.lemmas.Bool.{false_from_ne_true}

pub same_key : (p q : Bytes) → eq_by_cmp by_bytes p q ≡ true → p ≡ q
same_key p q e = (bytes_eq-Decides p q).0 (sym (is_eq-slice_cmp p q) ∙ e)

pub key_same : (p : Bytes) → eq_by_cmp by_bytes p p ≡ true
key_same p = is_eq-slice_cmp p p ∙ (bytes_eq-Decides p p).1 refl

same_files : (a b : FileMap) → ((q : Bytes) → get a q ≡ get b q) → a ≡ b
same_files a b h = same_map nat_list_cmp_total (slice_cmp-IsAntisymmetric nat_cmp-IsAntisymmetric) a b h

-- ---- paths below a path

pub parts : (n : ℕ) (text : Bytes) → take n text ++ drop n text ≡ text
parts zero text = refl
parts (suc n) [] = refl
parts (suc n) (b ∷ text) = ap (λ t. b ∷ t) (parts n text)

joined : (front rest : Bytes) → (front ++ 47 ∷ []) ++ rest ≡ front ++ 47 ∷ rest
joined [] rest = refl
joined (b ∷ front) rest = ap (λ t. b ∷ t) (joined front rest)

pub taken : (front rest : Bytes) → take (length front) (front ++ rest) ≡ front
taken [] rest = refl
taken (b ∷ front) rest = ap (λ t. b ∷ t) (taken front rest)

pub dropped : (front rest : Bytes) → drop (length front) (front ++ rest) ≡ rest
dropped [] rest = refl
dropped (b ∷ front) rest = dropped front rest

front_length : (path : Bytes) → length (path ++ 47 ∷ []) ≡ length path + 1
front_length path = length-append path (47 ∷ [])

-- the rest of a path after a folder and a slash
abbrev rest_of : Bytes → Bytes → Bytes
rest_of path q = drop (length path + 1) q

below_split : (path q : Bytes) → is_below path q ≡ true → q ≡ path ++ 47 ∷ rest_of path q
below_split path q h =
    sym (parts (length (path ++ 47 ∷ [])) q)
    ∙ ap (λ t. t ++ drop (length (path ++ 47 ∷ [])) q) (sym ((bytes_eq-Decides (path ++ 47 ∷ []) (take (length (path ++ 47 ∷ [])) q)).0 h))
    ∙ ap (λ n. (path ++ 47 ∷ []) ++ drop n q) (front_length path)
    ∙ joined path (rest_of path q)

below_made : (path rest : Bytes) → is_below path (path ++ 47 ∷ rest) ≡ true
below_made path rest = subst (λ q. is_below path q ≡ true) (joined path rest)
    ((bytes_eq-Decides (path ++ 47 ∷ []) (take (length (path ++ 47 ∷ [])) ((path ++ 47 ∷ []) ++ rest))).1 (sym (taken (path ++ 47 ∷ []) rest)))

rest_made : (path rest : Bytes) → rest_of path (path ++ 47 ∷ rest) ≡ rest
rest_made path rest = ap (λ n. drop n (path ++ 47 ∷ rest)) (sym (front_length path)) ∙ ap (drop (length (path ++ 47 ∷ []))) (sym (joined path rest)) ∙ dropped (path ++ 47 ∷ []) rest

-- ---- the files inside a folder

module _ (path : Bytes) where
  abbrev within : Bytes × Content → Option (Bytes × Content)
  within e = cond (is_below path e.0) (Some (rest_of path e.0, e.1)) None

  find_within : (es : List (Bytes × Content)) (q : Bytes) → find by_bytes q (filter_map within es) ≡ find by_bytes (path ++ 47 ∷ q) es
  find_within [] q = refl
  find_within (e ∷ es) q = go (find_within es q) (is_below path e.0) refl
    where
      -- the two keys are one or not
      keys_agree : is_below path e.0 ≡ true → eq_by_cmp by_bytes q (rest_of path e.0) ≡ eq_by_cmp by_bytes (path ++ 47 ∷ q) e.0
      keys_agree h = both (eq_by_cmp by_bytes q (rest_of path e.0)) (eq_by_cmp by_bytes (path ++ 47 ∷ q) e.0)
          (λ f. ap (eq_by_cmp by_bytes (path ++ 47 ∷ q)) (below_split path e.0 h ∙ ap (λ t. path ++ 47 ∷ t) (sym (same_key q (rest_of path e.0) f))) ∙ key_same (path ++ 47 ∷ q))
          (λ f. ap (eq_by_cmp by_bytes q) (ap (rest_of path) (sym (same_key (path ++ 47 ∷ q) e.0 f)) ∙ rest_made path q) ∙ key_same q)
        where
          both : (a b : Bool) → (a ≡ true → b ≡ true) → (b ≡ true → a ≡ true) → a ≡ b
          both true b f g = sym (f refl)
          both false true f g = g refl
          both false false f g = refl

      other_key : (c : Bool) → eq_by_cmp by_bytes (path ++ 47 ∷ q) e.0 ≡ c → is_below path e.0 ≡ false → c ≡ false
      other_key false f h = refl
      other_key true f h = sym (subst (λ p. is_below path p ≡ true) (same_key (path ++ 47 ∷ q) e.0 f) (below_made path q)) ∙ h

      go : find by_bytes q (filter_map within es) ≡ find by_bytes (path ++ 47 ∷ q) es → (b : Bool) → is_below path e.0 ≡ b
          → find by_bytes q (cons_option (cond (is_below path e.0) (Some (rest_of path e.0, e.1)) None) (filter_map within es))
          ≡ cond (eq_by_cmp by_bytes (path ++ 47 ∷ q) e.0) (Some e.1) (find by_bytes (path ++ 47 ∷ q) es)
      go rest true h = ap (λ b. find by_bytes q (cons_option (cond b (Some (rest_of path e.0, e.1)) None) (filter_map within es))) h
          ∙ ap (λ b. cond b (Some e.1) (find by_bytes q (filter_map within es))) (keys_agree h) ∙ ap (cond (eq_by_cmp by_bytes (path ++ 47 ∷ q) e.0) (Some e.1)) rest
      go rest false h = ap (λ b. find by_bytes q (cons_option (cond b (Some (rest_of path e.0, e.1)) None) (filter_map within es))) h ∙ rest
          ∙ sym (ap (λ b. cond b (Some e.1) (find by_bytes (path ++ 47 ∷ q) es)) (other_key (eq_by_cmp by_bytes (path ++ 47 ∷ q) e.0) refl h))

  get_inside : (files : FileMap) (q : Bytes) → get (inside path files) q ≡ get files (path ++ 47 ∷ q)
  get_inside files q = get-from_entries nat_list_cmp_total (filter_map within (entries files)) q ∙ find_within (entries files) q ∙ sym (get-entries files (path ++ 47 ∷ q))

  get_cut : (files : FileMap) (q : Bytes) → get (cut_to (path ∷ []) files) q ≡ cond (is_within path q) (get files q) None
  get_cut files q =
      get-retain_keys files (λ x. list_any (λ p. is_within p x) (path ∷ [])) q (λ x e. ap (λ y. list_any (λ p. is_within p y) (path ∷ [])) (sym (slice_cmp-IsAntisymmetric nat_cmp-IsAntisymmetric q x e)))
      ∙ ap (λ b. cond b (get files q) None) (or_none (is_within path q))
    where
      or_none : (b : Bool) → (b || false) ≡ b
      or_none true = refl
      or_none false = refl

-- ---- keys

-- a key that passes, and that the list has
some_key : (test : Bytes → Bool) (ks : List Bytes) → list_any test ks ≡ true → (p : Bytes) × (test p ≡ true) × (list_any (eq_by_cmp by_bytes p) ks ≡ true)
some_key test [] e = cc
some_key test (k ∷ ks) e = go (some_key test ks) (test k) refl e
  where
    or_true : (a b : Bool) → b ≡ true → (a || b) ≡ true
    or_true true b e = refl
    or_true false b e = e

    go : (list_any test ks ≡ true → (p : Bytes) × (test p ≡ true) × (list_any (eq_by_cmp by_bytes p) ks ≡ true)) → (b : Bool) → test k ≡ b → (b || list_any test ks) ≡ true
        → (p : Bytes) × (test p ≡ true) × ((eq_by_cmp by_bytes p k || list_any (eq_by_cmp by_bytes p) ks) ≡ true)
    go more true f e = (k, f, ap (λ b. b || list_any (eq_by_cmp by_bytes k) ks) (key_same k))
    go more false f e = let found = more e in (found.0, found.1, or_true (eq_by_cmp by_bytes found.0 k) _ found.2)

pub key_passes : (test : Bytes → Bool) (p : Bytes) → test p ≡ true → (ks : List Bytes) → list_any (eq_by_cmp by_bytes p) ks ≡ true → list_any test ks ≡ true
key_passes test p h [] e = cc
key_passes test p h (k ∷ ks) e = go (key_passes test p h ks) (eq_by_cmp by_bytes p k) refl e
  where
    or_true : (a b : Bool) → b ≡ true → (a || b) ≡ true
    or_true true b e = refl
    or_true false b e = e

    go : (list_any (eq_by_cmp by_bytes p) ks ≡ true → list_any test ks ≡ true) → (b : Bool) → eq_by_cmp by_bytes p k ≡ b → (b || list_any (eq_by_cmp by_bytes p) ks) ≡ true → (test k || list_any test ks) ≡ true
    go more true f e = ap (λ b. b || list_any test ks) (ap test (sym (same_key p k f)) ∙ h)
    go more false f e = or_true (test k) (list_any test ks) (more e)

below_stands : (files : FileMap) (path : Bytes) → has_below files path ≡ true → (q : Bytes) × (is_below path q ≡ true) × (contains_key files q ≡ true)
below_stands files path h = let found = some_key (is_below path) (keys files) h in (found.0, found.1, contains_key-keys files found.0 ∙ found.2)

has_one : (files : FileMap) (path q : Bytes) → is_below path q ≡ true → contains_key files q ≡ true → has_below files path ≡ true
has_one files path q h k = key_passes (is_below path) q h (keys files) (sym (contains_key-keys files q) ∙ k)

-- ---- values of a folder

all_front : {X : Type 0} (P : X → Type 0) (xs ys : List X) → AllByRecursion P (xs ++ ys) → AllByRecursion P xs × AllByRecursion P ys
all_front P [] ys h = (tt, h)
all_front P (x ∷ xs) ys h = let rest = all_front P xs ys h.1 in ((h.0, rest.0), rest.1)

all_mapped : {X Y : Type 0} (P : Y → Type 0) (f : X → Y) (xs : List X) → AllByRecursion P (map f xs) → AllByRecursion (λ x. P (f x)) xs
all_mapped P f [] h = tt
all_mapped P f (x ∷ xs) h = (h.0, all_mapped P f xs h.1)

-- a path before a slash is one of the beginnings
pub regroup : (front : Bytes) (b : ℕ) (s : Bytes) → (front ++ b ∷ []) ++ s ≡ front ++ b ∷ s
regroup [] b s = refl
regroup (a ∷ front) b s = ap (λ t. a ∷ t) (regroup front b s)

append_none : (text : Bytes) → text ++ [] ≡ text
append_none [] = refl
append_none (b ∷ text) = ap (λ t. b ∷ t) (append_none text)

all_beginnings : (P : Bytes → Type 0) (front s rest : Bytes) → AllByRecursion P (beginnings_from front (s ++ 47 ∷ rest)) → P (front ++ s)
all_beginnings P front [] rest h = subst P (sym (append_none front)) h.0
all_beginnings P front (b ∷ s) rest h = subst P (regroup front b s) (all_beginnings P (front ++ b ∷ []) s rest (go (b == 47) h))
  where
    go : (c : Bool) → AllByRecursion P (cond c (front ∷ beginnings_from (front ++ b ∷ []) (s ++ 47 ∷ rest)) (beginnings_from (front ++ b ∷ []) (s ++ 47 ∷ rest))) → AllByRecursion P (beginnings_from (front ++ b ∷ []) (s ++ 47 ∷ rest))
    go true h = h.1
    go false h = h

all_of_some : (P : Bytes → Type 0) (path : Bytes) (ks : List Bytes) → list_any (is_below path) ks ≡ true → AllByRecursion P (flat_map beginnings ks) → P path
all_of_some P path [] e h = cc
all_of_some P path (k ∷ ks) e h = go (all_of_some P path ks) (is_below path k) refl e
  where
    two : AllByRecursion P (beginnings k) × AllByRecursion P (flat_map beginnings ks)
    two = all_front P (beginnings k) (flat_map beginnings ks) h

    go : (list_any (is_below path) ks ≡ true → AllByRecursion P (flat_map beginnings ks) → P path) → (b : Bool) → is_below path k ≡ b → (b || list_any (is_below path) ks) ≡ true → P path
    go more true f e = all_beginnings P [] path (rest_of path k) (subst (λ q. AllByRecursion P (beginnings q)) (below_split path k f) two.0)
    go more false f e = more e two.1

all_found : (P : Content → Type 0) (q : Bytes) (c : Content) (es : List (Bytes × Content)) → find by_bytes q es ≡ Some c → AllByRecursion P (map (λ e. e.1) es) → P c
all_found P q c [] e h = cc
all_found P q c (x ∷ es) e h = go (all_found P q c es) (eq_by_cmp by_bytes q x.0) e
  where
    go : (find by_bytes q es ≡ Some c → AllByRecursion P (map (λ e. e.1) es) → P c) → (b : Bool) → cond b (Some x.1) (find by_bytes q es) ≡ Some c → P c
    go more true e = subst P (ap (λ o. unwrap_or o c) e) h.0
    go more false e = more e h.1

module _ (r : Repository) (whole : IsWhole r) (id : Id) (files : FileMap) (at : get r.objects id ≡ Some (StoredFolder files)) where
  all_stored : AllByRecursion (IsStored r) (file_values files)
  all_stored = (whole.store).closed id (StoredFolder files) at

  both : AllByRecursion (IsStored r) (map StoredFolder (folders_of files)) × AllByRecursion (IsStored r) (map (λ content. StoredBytes content.bytes) (values files))
  both = all_front (IsStored r) (map StoredFolder (folders_of files)) (map (λ content. StoredBytes content.bytes) (values files)) all_stored

  bytes_stored : (path : Bytes) (c : Content) → get files path ≡ Some c → IsStored r (StoredBytes c.bytes)
  bytes_stored path c e =
      all_found (λ content. IsStored r (StoredBytes content.bytes)) path c (entries files) (sym (get-entries files path) ∙ e)
      (all_mapped (IsStored r) (λ content. StoredBytes content.bytes) (values files) both.1)

  folder_stored : (path : Bytes) → has_below files path ≡ true → IsStored r (StoredFolder (inside path files))
  folder_stored path h =
      all_of_some (λ folder. IsStored r (StoredFolder (inside folder files))) path (keys files) h
      (all_mapped (λ m. IsStored r (StoredFolder m)) (λ folder. inside folder files) (flat_map beginnings (keys files))
      ((all_mapped (IsStored r) StoredFolder (folders_of files) both.0).1))

-- ---- of a tree that is stored, or empty

none_in_empty : {A : Type 0} (files : FileMap) (path : Bytes) → files ≡ empty → contains_key files path ≡ true → A
none_in_empty files path e h = cc (sym h ∙ ap (λ (m : FileMap). is_some (get m path)) e ∙ ap is_some (get-empty by_bytes path))

module _ (r : Repository) (whole : IsWhole r) (files : FileMap) where
  bytes_there : IsTreeIn r files → (path : Bytes) (c : Content) → get files path ≡ Some c → IsStored r (StoredBytes c.bytes)
  bytes_there (inl none) path c e = none_in_empty files path none (ap is_some e)
  bytes_there (inr (id, at)) path c e = bytes_stored r whole id files at path c e

  folder_there : IsTreeIn r files → (path : Bytes) → has_below files path ≡ true → IsStored r (StoredFolder (inside path files))
  folder_there (inl none) path h = let found = below_stands files path h in none_in_empty files found.0 none found.2
  folder_there (inr (id, at)) path h = folder_stored r whole id files at path h

-- ---- equal ids are of equal contents, and equal modes of one kind

bytes_in : Bytes → Value → Bytes
bytes_in none (StoredBytes bytes) = bytes
bytes_in none _ = none

files_in : FileMap → Value → FileMap
files_in none (StoredFolder files) = files
files_in none _ = none

same_blob : (r : Repository) (a b : Bytes) → IsStored r (StoredBytes a) → IsStored r (StoredBytes b) → blob_id r.kind a ≡ blob_id r.kind b → a ≡ b
unfolding bytes_in
same_blob r a b h k e = ap (bytes_in a) (same_Some (StoredBytes a) (StoredBytes b) (sym h ∙ ap (get r.objects) e ∙ k))

same_folder : (r : Repository) (a b : FileMap) → IsStored r (StoredFolder a) → IsStored r (StoredFolder b) → folder_id r.kind a ≡ folder_id r.kind b → a ≡ b
unfolding files_in
same_folder r a b h k e = ap (files_in a) (same_Some (StoredFolder a) (StoredFolder b) (sym h ∙ ap (get r.objects) e ∙ k))

pub same_mode : (j k : FileKind) → mode_of j ≡ mode_of k → j ≡ k
same_mode File File e = refl
same_mode Exec Exec e = refl
same_mode Link Link e = refl
same_mode File Exec e = words_differ _ _ refl e
same_mode File Link e = words_differ _ _ refl e
same_mode Exec File e = words_differ _ _ refl e
same_mode Exec Link e = words_differ _ _ refl e
same_mode Link File e = words_differ _ _ refl e
same_mode Link Exec e = words_differ _ _ refl e

no_folder_mode : {A : Type 0} (k : FileKind) → codes "40000" ≡ mode_of k → A
no_folder_mode File e = words_differ _ _ refl e
no_folder_mode Exec e = words_differ _ _ refl e
no_folder_mode Link e = words_differ _ _ refl e

-- ---- cuts

pub none_there : {X : Type 0} (o : Option X) → is_some o ≡ false → o ≡ None
none_there None e = refl
none_there (Some x) e = cc

true_false : {A : Type 0} {b : Bool} → b ≡ true → b ≡ false → A
true_false e f = cc

-- no file is at a path that another file is below
no_file_here : (files : FileMap) (path : Bytes) → IsFileMap files → has_below files path ≡ true → get files path ≡ None
no_file_here files path map h =
    let found = below_stands files path h in
    none_there (get files path) (false_from_ne_true (is_some (get files path)) (λ e. true_false found.1 (map.apart path found.0 e found.2)))

none_below : (files : FileMap) (path rest : Bytes) → has_below files path ≡ false → get files (path ++ 47 ∷ rest) ≡ None
none_below files path rest h =
    none_there (get files (path ++ 47 ∷ rest)) (false_from_ne_true (is_some (get files (path ++ 47 ∷ rest))) (λ e. true_false (has_one files path (path ++ 47 ∷ rest) (below_made path rest) e) h))

cut_same : (path : Bytes) (m n : FileMap) → get m path ≡ get n path → ((rest : Bytes) → get m (path ++ 47 ∷ rest) ≡ get n (path ++ 47 ∷ rest)) → cut_to (path ∷ []) m ≡ cut_to (path ∷ []) n
cut_same path m n here below = same_files (cut_to (path ∷ []) m) (cut_to (path ∷ []) n) (λ q. get_cut path m q ∙ at q (bytes_eq path q) refl (is_below path q) refl ∙ sym (get_cut path n q))
  where
    at : (q : Bytes) (b : Bool) → bytes_eq path q ≡ b → (c : Bool) → is_below path q ≡ c → cond (is_within path q) (get m q) None ≡ cond (is_within path q) (get n q) None
    at q true e c f = ap (λ o. cond (is_within path q) o None) (subst (λ p. get m p ≡ get n p) ((bytes_eq-Decides path q).0 e) here)
    at q false e true f = ap (λ o. cond (is_within path q) o None) (subst (λ p. get m p ≡ get n p) (sym (below_split path q f)) (below (rest_of path q)))
    at q false e false f = ap (λ b. cond (b || is_below path q) (get m q) None) e ∙ ap (λ b. cond b (get m q) None) f
        ∙ sym (ap (λ b. cond (b || is_below path q) (get n q) None) e ∙ ap (λ b. cond b (get n q) None) f)

-- ---- the law

module _ (r : Repository) (whole : IsWhole r) (path : Bytes) where
  file_entry : Content → Bytes × Id
  file_entry c = (mode_of c.kind, blob_id r.kind c.bytes)

  entry_from : Bool → FileMap → Option Content → Option (Bytes × Id)
  entry_from below folder file = cond below (Some (codes "40000", folder_id r.kind folder)) (option_map file_entry file)

  is_from : (files : FileMap) → entry_at r.kind files path ≡ entry_from (has_below files path) (inside path files) (get files path)
  unfolding file_entry entry_from
  is_from files = refl

  -- the entry hangs on the cut alone
  below_cut : (files : FileMap) → has_below (cut_to (path ∷ []) files) path ≡ has_below files path
  below_cut files = same (has_below (cut_to (path ∷ []) files) path) (has_below files path)
      (λ h. let found = below_stands (cut_to (path ∷ []) files) path h in has_one files path found.0 found.1 (uncut found.0 (is_within path found.0) (get files found.0) (sym (ap is_some (get_cut path files found.0)) ∙ found.2)))
      (λ h. let found = below_stands files path h in has_one (cut_to (path ∷ []) files) path found.0 found.1
      (ap is_some (get_cut path files found.0) ∙ ap (λ b. is_some (cond b (get files found.0) None)) (or_true (bytes_eq path found.0) (is_below path found.0) found.1) ∙ found.2))
    where
      same : (a b : Bool) → (a ≡ true → b ≡ true) → (b ≡ true → a ≡ true) → a ≡ b
      same true b f g = sym (f refl)
      same false true f g = g refl
      same false false f g = refl

      uncut : (q : Bytes) (b : Bool) (o : Option Content) → is_some (cond b o None) ≡ true → is_some o ≡ true
      uncut q true o h = h
      uncut q false o h = cc

      or_true : (a b : Bool) → b ≡ true → (a || b) ≡ true
      or_true true b e = refl
      or_true false b e = e

  inside_cut : (files : FileMap) → inside path (cut_to (path ∷ []) files) ≡ inside path files
  inside_cut files = same_files (inside path (cut_to (path ∷ []) files)) (inside path files) (λ q.
      get_inside path (cut_to (path ∷ []) files) q ∙ get_cut path files (path ++ 47 ∷ q)
      ∙ ap (λ b. cond b (get files (path ++ 47 ∷ q)) None) (or_true (bytes_eq path (path ++ 47 ∷ q)) (is_below path (path ++ 47 ∷ q)) (below_made path q)) ∙ sym (get_inside path files q))
    where
      or_true : (a b : Bool) → b ≡ true → (a || b) ≡ true
      or_true true b e = refl
      or_true false b e = e

  at_cut : (files : FileMap) → get (cut_to (path ∷ []) files) path ≡ get files path
  at_cut files = get_cut path files path ∙ ap (λ b. cond (b || is_below path path) (get files path) None) ((bytes_eq-Decides path path).1 refl)

  entry_cut : (files : FileMap) → entry_at r.kind (cut_to (path ∷ []) files) path ≡ entry_at r.kind files path
  entry_cut files = is_from (cut_to (path ∷ []) files)
      ∙ (λ i. entry_from (below_cut files i) (inside_cut files i) (at_cut files i))
      ∙ sym (is_from files)

  module _ (m n : FileMap) (m_map : IsFileMap m) (n_map : IsFileMap n) (m_in : IsTreeIn r m) (n_in : IsTreeIn r n) where
    -- two contents with one entry
    same_content : (c d : Content) → IsStored r (StoredBytes c.bytes) → IsStored r (StoredBytes d.bytes) → file_entry c ≡ file_entry d → c ≡ d
    unfolding file_entry
    same_content c d h k e = λ i. record {
      kind = same_mode c.kind d.kind (ap (λ (p : Bytes × Id). p.0) e) i;
      bytes = same_blob r c.bytes d.bytes h k (ap (λ (p : Bytes × Id). p.1) e) i;
    }

    same_file : (o p : Option Content) → get m path ≡ o → get n path ≡ p → option_map file_entry o ≡ option_map file_entry p → o ≡ p
    same_file None None f g e = refl
    same_file None (Some d) f g e = cc
    same_file (Some c) None f g e = cc
    same_file (Some c) (Some d) f g e = ap Some (same_content c d (bytes_there r whole m m_in path c f) (bytes_there r whole n n_in path d g) (same_Some (file_entry c) (file_entry d) e))

    not_file : {A : Type 0} (id : Id) (o : Option Content) → Some (codes "40000", id) ≡ option_map file_entry o → A
    unfolding file_entry
    not_file id None e = cc
    not_file id (Some c) e = no_folder_mode c.kind (ap (λ (p : Bytes × Id). p.0) (same_Some (codes "40000", id) (mode_of c.kind, blob_id r.kind c.bytes) e))

    cuts_same : (s t : Bool) → has_below m path ≡ s → has_below n path ≡ t → entry_from s (inside path m) (get m path) ≡ entry_from t (inside path n) (get n path)
        → cut_to (path ∷ []) m ≡ cut_to (path ∷ []) n
    unfolding entry_from
    cuts_same true true f g e =
        let folder : inside path m ≡ inside path n = same_folder r (inside path m) (inside path n) (folder_there r whole m m_in path f) (folder_there r whole n n_in path g)
        (ap (λ (p : Bytes × Id). p.1) (same_Some (codes "40000", folder_id r.kind (inside path m)) (codes "40000", folder_id r.kind (inside path n)) e)) in
        cut_same path m n (no_file_here m path m_map f ∙ sym (no_file_here n path n_map g))
        (λ rest. sym (get_inside path m rest) ∙ ap (λ files. get files rest) folder ∙ get_inside path n rest)
    cuts_same true false f g e = not_file (folder_id r.kind (inside path m)) (get n path) e
    cuts_same false true f g e = not_file (folder_id r.kind (inside path n)) (get m path) (sym e)
    cuts_same false false f g e = cut_same path m n (same_file (get m path) (get n path) refl refl e) (λ rest. none_below m path rest f ∙ sym (none_below n path rest g))

pub entries_tell_files : EntriesTellFiles
entries_tell_files r m n path whole m_map n_map m_in n_in = (
  λ e. cuts_same r whole path m n m_map n_map m_in n_in (has_below m path) (has_below n path) refl refl (sym (is_from r whole path m) ∙ e ∙ is_from r whole path n),
  λ e. sym (entry_cut r whole path m) ∙ ap (λ files. entry_at r.kind files path) e ∙ entry_cut r whole path n,
)
