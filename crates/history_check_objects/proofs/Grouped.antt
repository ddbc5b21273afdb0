-- Files in the order of a tree's entries: they ascend, and their entries are those again.
use Rattle.std.proofs.Common.{◌≡◌, Bool, true, false, cond, List, [], ◌∷◌, ◌++◌, map, refl, sym, ◌∙◌, ap, subst, arith, tests, inl, inr, bytes_eq, ◌==◌, nat_cmp, Less, Equal, Greater, append_assoc, ℕ}
use Rattle.std.specs.List.{before_first, after_first, flat_map}
use Rattle.std.specs.Ordering.{ordering_then, is_lt}
use Rattle.std.specs.declared.cmp.Ordering.{Ordering}
use Rattle.std.specs.FinMap.{is_sorted}
use Rattle.std.specs.FinMap.Entries.{below_all}
use Rattle.history_model.specs.Bytes.{Bytes, by_bytes, has_byte, is_empty}
use Rattle.history_model.specs.Objects.{TreeEntry, FileEntry, FolderEntry, into_folder, tree_entries}
use Rattle.history_model.proofs.PartLemmas.{split_at, one_is_in}
use Rattle.history_model.proofs.WholeLists.{In, clash, text_itself, same_text, of_flat, of_map}
use Rattle.history_model.proofs.WholePaths.{front_plain, has_parts, same_front}
use Rattle.history_model.proofs.WholeItems.{Entry, files_of}
use Rattle.gix_object_tree.specs.SameItem.{one_number}
use Rattle.std.proofs.lemmas.Bool.{or_parts, and_from, and_parts}

-- ---- the order of byte strings

equal_test : (a b : ℕ) → a ≡ b → (a == b) ≡ true
equal_test a b e = grind (arith, tests)

-- what comes before a text comes before all that begin with it
less_longer : (p k rest : Bytes) → by_bytes p k ≡ Less → by_bytes p (k ++ rest) ≡ Less
less_longer [] [] rest e = cc
less_longer [] (b ∷ k) rest e = refl
less_longer (a ∷ p) [] rest e = cc
less_longer (a ∷ p) (b ∷ k) rest e = go (nat_cmp a b) e (less_longer p k rest)
  where
    go : (o : Ordering) → ordering_then o (by_bytes p k) ≡ Less → (by_bytes p k ≡ Less → by_bytes p (k ++ rest) ≡ Less) → ordering_then o (by_bytes p (k ++ rest)) ≡ Less
    go Less k more = refl
    go Equal k more = more k
    go Greater k more = cc

-- a folder that comes before a file's name does so with all that is in it
folder_file : (n rest p : Bytes) → has_byte 47 p ≡ false → by_bytes (n ++ 47 ∷ []) p ≡ Less → by_bytes (n ++ 47 ∷ rest) p ≡ Less
folder_file [] rest [] h e = cc
folder_file [] rest (b ∷ p) h e = go (nat_cmp 47 b) refl e
  where
    go : (o : Ordering) → nat_cmp 47 b ≡ o → ordering_then o (by_bytes [] p) ≡ Less → ordering_then o (by_bytes rest p) ≡ Less
    go Less f k = refl
    go Equal f k = clash (equal_test b 47 (sym (one_number 47 b f))) (or_parts (b == 47) (has_byte 47 p) h).0
    go Greater f k = cc
folder_file (a ∷ n) rest [] h e = cc
folder_file (a ∷ n) rest (b ∷ p) h e = go (nat_cmp a b) e (folder_file n rest p (or_parts (b == 47) (has_byte 47 p) h).1)
  where
    go : (o : Ordering) → ordering_then o (by_bytes (n ++ 47 ∷ []) p) ≡ Less → (by_bytes (n ++ 47 ∷ []) p ≡ Less → by_bytes (n ++ 47 ∷ rest) p ≡ Less) → ordering_then o (by_bytes (n ++ 47 ∷ rest) p) ≡ Less
    go Less k more = refl
    go Equal k more = more k
    go Greater k more = cc

-- and so of two folders
folder_folder : (n k x y : Bytes) → has_byte 47 n ≡ false → has_byte 47 k ≡ false → by_bytes (n ++ 47 ∷ []) (k ++ 47 ∷ []) ≡ Less → by_bytes (n ++ 47 ∷ x) (k ++ 47 ∷ y) ≡ Less
folder_folder [] [] x y hn hk e = cc
folder_folder [] (b ∷ k) x y hn hk e = go (nat_cmp 47 b) refl e
  where
    go : (o : Ordering) → nat_cmp 47 b ≡ o → ordering_then o (by_bytes [] (k ++ 47 ∷ [])) ≡ Less → ordering_then o (by_bytes x (k ++ 47 ∷ y)) ≡ Less
    go Less f j = refl
    go Equal f j = clash (equal_test b 47 (sym (one_number 47 b f))) (or_parts (b == 47) (has_byte 47 k) hk).0
    go Greater f j = cc
folder_folder (a ∷ n) [] x y hn hk e = go (nat_cmp a 47) refl e
  where
    go : (o : Ordering) → nat_cmp a 47 ≡ o → ordering_then o (by_bytes (n ++ 47 ∷ []) []) ≡ Less → ordering_then o (by_bytes (n ++ 47 ∷ x) y) ≡ Less
    go Less f j = refl
    go Equal f j = clash (equal_test a 47 (one_number a 47 f)) (or_parts (a == 47) (has_byte 47 n) hn).0
    go Greater f j = cc
folder_folder (a ∷ n) (b ∷ k) x y hn hk e =
    go (nat_cmp a b) e (folder_folder n k x y (or_parts (a == 47) (has_byte 47 n) hn).1 (or_parts (b == 47) (has_byte 47 k) hk).1)
  where
    go : (o : Ordering) → ordering_then o (by_bytes (n ++ 47 ∷ []) (k ++ 47 ∷ [])) ≡ Less
        → (by_bytes (n ++ 47 ∷ []) (k ++ 47 ∷ []) ≡ Less → by_bytes (n ++ 47 ∷ x) (k ++ 47 ∷ y) ≡ Less) → ordering_then o (by_bytes (n ++ 47 ∷ x) (k ++ 47 ∷ y)) ≡ Less
    go Less j more = refl
    go Equal j more = more j
    go Greater j more = cc

-- ---- entries

-- the name of an entry
abbrev pub name_of : TreeEntry → Bytes
name_of (FileEntry path content) = path
name_of (FolderEntry name files) = name

-- the name by which an entry is sorted
abbrev pub key : TreeEntry → Bytes
key (FileEntry path content) = path
key (FolderEntry name files) = name ++ 47 ∷ []

-- a folder has files, which ascend
abbrev pub IsFilled : TreeEntry → Type 0
IsFilled (FileEntry path content) = Unit {0}
IsFilled (FolderEntry name files) = (is_empty files ≡ false) × (is_sorted by_bytes files ≡ true)

-- an entry of one component
abbrev pub IsEntry : TreeEntry → Type 0
IsEntry t = (has_byte 47 (name_of t) ≡ false) × IsFilled t

-- entries that ascend, no name twice
abbrev pub AreInOrder : List TreeEntry → Type 0
AreInOrder [] = Unit {0}
AreInOrder (t ∷ ts) = IsEntry t × ((u : TreeEntry) → In u ts → (by_bytes (key t) (key u) ≡ Less) × (name_of t ≡ name_of u → ⊥)) × AreInOrder ts

pub is_entry : (ts : List TreeEntry) → AreInOrder ts → (t : TreeEntry) → In t ts → IsEntry t
is_entry [] o t i = absurd i
is_entry (u ∷ ts) o t (inl e) = subst IsEntry (sym e) o.0
is_entry (u ∷ ts) o t (inr i) = is_entry ts o.2 t i

-- entries of one name are one
pub one_entry : (ts : List TreeEntry) → AreInOrder ts → (t u : TreeEntry) → In t ts → In u ts → name_of t ≡ name_of u → t ≡ u
one_entry [] o t u i j e = absurd i
one_entry (v ∷ ts) o t u (inl a) (inl b) e = a ∙ sym b
one_entry (v ∷ ts) o t u (inl a) (inr j) e = absurd ((o.1 u j).1 (sym (ap name_of a) ∙ e))
one_entry (v ∷ ts) o t u (inr i) (inl b) e = absurd ((o.1 t i).1 (sym (ap name_of b) ∙ sym e))
one_entry (v ∷ ts) o t u (inr i) (inr j) e = one_entry ts o.2 t u i j e

-- ---- their files ascend

less_is : (o : Ordering) → o ≡ Less → is_lt o ≡ true
less_is Less h = refl
less_is Equal h = cc
less_is Greater h = cc

less_all : (p : Bytes) (es : List Entry) → ((e : Entry) → In e es → by_bytes p e.0 ≡ Less) → below_all by_bytes p es ≡ true
less_all p [] f = refl
less_all p (e ∷ es) f = and_from (is_lt (by_bytes p e.0)) (below_all by_bytes p es) (less_is (by_bytes p e.0) (f e (inl refl))) (less_all p es (λ g i. f g (inr i)))

all_both : (p : Bytes) (xs ys : List Entry) → below_all by_bytes p xs ≡ true → below_all by_bytes p ys ≡ true → below_all by_bytes p (xs ++ ys) ≡ true
all_both p [] ys h k = k
all_both p (x ∷ xs) ys h k =
    let both = and_parts (is_lt (by_bytes p x.0)) (below_all by_bytes p xs) h in
    and_from (is_lt (by_bytes p x.0)) (below_all by_bytes p (xs ++ ys)) both.0 (all_both p xs ys both.1 k)

sorted_both : (xs ys : List Entry) → is_sorted by_bytes xs ≡ true → is_sorted by_bytes ys ≡ true → ((x y : Entry) → In x xs → In y ys → by_bytes x.0 y.0 ≡ Less) → is_sorted by_bytes (xs ++ ys) ≡ true
sorted_both [] ys h k f = k
sorted_both (x ∷ xs) ys h k f =
    let both = and_parts (below_all by_bytes x.0 xs) (is_sorted by_bytes xs) h in
    and_from (below_all by_bytes x.0 (xs ++ ys)) (is_sorted by_bytes (xs ++ ys))
    (all_both x.0 xs ys both.0 (less_all x.0 ys (λ y j. f x y (inl refl) j)))
    (sorted_both xs ys both.1 k (λ a b i j. f a b (inr i) j))

abbrev pub in_folder : Bytes → Entry → Entry
in_folder name e = (name ++ 47 ∷ e.0, e.1)

one_front : (name p q : Bytes) → by_bytes (name ++ 47 ∷ p) (name ++ 47 ∷ q) ≡ by_bytes p q
one_front name p q = (λ i. by_bytes (sym (append_assoc name (47 ∷ []) p) i) (sym (append_assoc name (47 ∷ []) q) i)) ∙ same_front (name ++ 47 ∷ []) p q

below_within : (name p : Bytes) (es : List Entry) → below_all by_bytes p es ≡ true → below_all by_bytes (name ++ 47 ∷ p) (map (in_folder name) es) ≡ true
below_within name p [] h = refl
below_within name p (e ∷ es) h =
    let both = and_parts (is_lt (by_bytes p e.0)) (below_all by_bytes p es) h in
    and_from (is_lt (by_bytes (name ++ 47 ∷ p) (name ++ 47 ∷ e.0))) (below_all by_bytes (name ++ 47 ∷ p) (map (in_folder name) es))
    (ap is_lt (one_front name p e.0) ∙ both.0) (below_within name p es both.1)

sorted_within : (name : Bytes) (es : List Entry) → is_sorted by_bytes es ≡ true → is_sorted by_bytes (map (in_folder name) es) ≡ true
sorted_within name [] h = refl
sorted_within name (e ∷ es) h =
    let both = and_parts (below_all by_bytes e.0 es) (is_sorted by_bytes es) h in
    and_from (below_all by_bytes (name ++ 47 ∷ e.0) (map (in_folder name) es)) (is_sorted by_bytes (map (in_folder name) es))
    (below_within name e.0 es both.0) (sorted_within name es both.1)

sorted_files : (t : TreeEntry) → IsEntry t → is_sorted by_bytes (files_of t) ≡ true
sorted_files (FileEntry path content) h = refl
sorted_files (FolderEntry name files) h = sorted_within name files (h.1).1

longer : (p name rest : Bytes) → by_bytes p (name ++ 47 ∷ []) ≡ Less → by_bytes p (name ++ 47 ∷ rest) ≡ Less
longer p name rest e = ap (by_bytes p) (sym (append_assoc name (47 ∷ []) rest)) ∙ less_longer p (name ++ 47 ∷ []) rest e

files_before : (t u : TreeEntry) → IsEntry t → IsEntry u → by_bytes (key t) (key u) ≡ Less → (x y : Entry) → In x (files_of t) → In y (files_of u) → by_bytes x.0 y.0 ≡ Less
files_before (FileEntry p c) (FileEntry q d) ht hu less x y (inl i) (inl j) = (λ k. by_bytes (i k).0 (j k).0) ∙ less
files_before (FileEntry p c) (FileEntry q d) ht hu less x y (inl i) (inr j) = absurd j
files_before (FileEntry p c) (FileEntry q d) ht hu less x y (inr i) j = absurd i
files_before (FileEntry p c) (FolderEntry n fs) ht hu less x y (inl i) j =
    let from = of_map (in_folder n) y fs j in
    (λ k. by_bytes (i k).0 (from.2 k).0) ∙ longer p n (from.0).0 less
files_before (FileEntry p c) (FolderEntry n fs) ht hu less x y (inr i) j = absurd i
files_before (FolderEntry n fs) (FileEntry q d) ht hu less x y i (inl j) =
    let from = of_map (in_folder n) x fs i in
    (λ k. by_bytes (from.2 k).0 (j k).0) ∙ folder_file n (from.0).0 q hu.0 less
files_before (FolderEntry n fs) (FileEntry q d) ht hu less x y i (inr j) = absurd j
files_before (FolderEntry n fs) (FolderEntry k gs) ht hu less x y i j =
    let from = of_map (in_folder n) x fs i in
    let to = of_map (in_folder k) y gs j in
    (λ l. by_bytes (from.2 l).0 (to.2 l).0) ∙ folder_folder n k (from.0).0 (to.0).0 ht.0 hu.0 less

pub files_ascend : (ts : List TreeEntry) → AreInOrder ts → is_sorted by_bytes (flat_map files_of ts) ≡ true
files_ascend [] o = refl
files_ascend (t ∷ ts) o = sorted_both (files_of t) (flat_map files_of ts) (sorted_files t o.0) (files_ascend ts o.2) (λ x y i j.
    let from = of_flat files_of y ts j in
    files_before t from.0 o.0 (is_entry ts o.2 from.0 from.1) ((o.1 from.0 from.1).0) x y i from.2)

-- ---- their entries are those again

into_new : (name : Bytes) (file : Entry) (ts : List TreeEntry) → ((t : TreeEntry) → In t ts → name ≡ name_of t → ⊥) → into_folder name file ts ≡ FolderEntry name (file ∷ []) ∷ ts
into_new name file [] h = refl
into_new name file (FileEntry path content ∷ ts) h = refl
into_new name file (FolderEntry other files ∷ ts) h = ap (λ b. cond b (FolderEntry name (file ∷ files) ∷ ts) (FolderEntry name (file ∷ []) ∷ FolderEntry other files ∷ ts)) (apart (bytes_eq name other) refl)
  where
    apart : (b : Bool) → bytes_eq name other ≡ b → b ≡ false
    apart false e = refl
    apart true e = absurd (h (FolderEntry other files) (inl refl) (same e))
      where
        same : bytes_eq name other ≡ true → name ≡ other
        same k = same_text name other k

into_same : (name : Bytes) (file : Entry) (files : List Entry) (ts : List TreeEntry) → into_folder name file (FolderEntry name files ∷ ts) ≡ FolderEntry name (file ∷ files) ∷ ts
into_same name file files ts = ap (λ b. cond b (FolderEntry name (file ∷ files) ∷ ts) (FolderEntry name (file ∷ []) ∷ FolderEntry name files ∷ ts)) (text_itself name)

-- a file in a folder goes into it
with_in : (name : Bytes) (file : Entry) (es : List Entry) → has_byte 47 name ≡ false → tree_entries (in_folder name file ∷ es) ≡ into_folder name file (tree_entries es)
with_in name file es plain =
    ap (λ b. cond b (into_folder (before_first (λ b. b == 47) path) (after_first (λ b. b == 47) path, file.1) (tree_entries es)) (FileEntry path file.1 ∷ tree_entries es)) slash
    ∙ (λ i. into_folder (cut.0 i) (cut.1 i, file.1) (tree_entries es))
  where
    path : Bytes
    path = name ++ 47 ∷ file.0

    slash : has_byte 47 path ≡ true
    slash = one_is_in 47 name file.0

    cut : (before_first (λ b. b == 47) path ≡ name) × (after_first (λ b. b == 47) path ≡ file.0)
    cut = split_at 47 (before_first (λ b. b == 47) path) name (after_first (λ b. b == 47) path) file.0 (front_plain path) plain (has_parts path slash)

folder_again : (name : Bytes) (file : Entry) (files : List Entry) (es : List Entry) (ts : List TreeEntry) → has_byte 47 name ≡ false → tree_entries es ≡ ts
    → ((t : TreeEntry) → In t ts → name ≡ name_of t → ⊥) → tree_entries (map (in_folder name) (file ∷ files) ++ es) ≡ FolderEntry name (file ∷ files) ∷ ts
folder_again name file [] es ts plain same apart = with_in name file es plain ∙ ap (into_folder name file) same ∙ into_new name file ts apart
folder_again name file (next ∷ files) es ts plain same apart =
    with_in name file (map (in_folder name) (next ∷ files) ++ es) plain
    ∙ ap (into_folder name file) (folder_again name next files es ts plain same apart)
    ∙ into_same name file (next ∷ files) ts

pub entries_again : (ts : List TreeEntry) → AreInOrder ts → tree_entries (flat_map files_of ts) ≡ ts
entries_again [] o = refl
entries_again (FileEntry path content ∷ ts) o =
    ap (λ b. cond b (into_folder (before_first (λ b. b == 47) path) (after_first (λ b. b == 47) path, content) (tree_entries (flat_map files_of ts))) (FileEntry path content ∷ tree_entries (flat_map files_of ts))) (o.0).0
    ∙ ap (λ us. FileEntry path content ∷ us) (entries_again ts o.2)
entries_again (FolderEntry name [] ∷ ts) o = clash refl ((o.0).1).0
entries_again (FolderEntry name (file ∷ files) ∷ ts) o =
    folder_again name file files (flat_map files_of ts) ts (o.0).0 (entries_again ts o.2) (λ t i. (o.1 t i).1)
