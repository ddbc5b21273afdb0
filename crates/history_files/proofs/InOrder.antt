-- The entries of a file map's tree are in Git's order, which is that of the paths below them.
use Rattle.std.proofs.Common.{◌≡◌, ◌≢◌, ℕ, Bool, true, false, cond, List, [], ◌∷◌, ◌++◌, refl, sym, ◌∙◌, ap, subst, arith, tests, inl, inr, None, is_some, bytes_eq, ◌==◌, nat_cmp, Less, Equal, Greater, append_assoc}
use Rattle.std.specs.List.{AllPairs, before_first, after_first}
use Rattle.std.specs.Ordering.{ordering_then, ordering_reverse, is_lt}
use Rattle.std.specs.declared.cmp.Ordering.{Ordering}
use Rattle.std.specs.FinMap.{entries, is_sorted}
use Rattle.std.specs.FinMap.Entries.{below_all}
use Rattle.std.proofs.lemmas.Cmp.{nat_list_cmp_total}
use Rattle.std.proofs.lemmas.List.Kept.{AllPairs-cons}
use Rattle.gix_hash.specs.declared.kind.Kind.{Kind}
use Rattle.gix_object_tree.specs.Entry.{Item, SpellsTree}
use Rattle.gix_object_tree.specs.Order.{item_key}
use Rattle.gix_object_tree.specs.WellFormed.{IsFilename, ComesBefore, IsWellFormed}
use Rattle.gix_object_tree.proofs.TreeLaws.{one_tree}
use Rattle.history_model.specs.Bytes.{Bytes, by_bytes, has_byte}
use Rattle.history_model.specs.FileMap.{FileMap, Content, IsFileMap, is_below}
use Rattle.history_model.specs.Objects.{TreeEntry, FileEntry, FolderEntry, into_folder, tree_entries, root}
use Rattle.history_model.proofs.WholeLists.{In, of_map, clash, same_text, texts_differ}
use Rattle.history_model.proofs.WholePaths.{below_front, has_parts, front_plain}
use Rattle.history_model.proofs.WholeItems.{Entry, leaf_in, folder_in, folder_fits, sorted_entries}
use Rattle.history_model.proofs.WholeStores.{in_get}
use Rattle.history_files.proofs.Items.{items, items_spelled, item_of, item_name, name_of, name_plain, no_zero, all_of}
use Rattle.history_files.proofs.Unfolded.{plain_map, leaf_no_tree}
use Rattle.history_files.proofs.Walk.{tree_of, some_items, some_name}
use Rattle.gix_object_tree.specs.SameItem.{one_number}
use Rattle.std.proofs.lemmas.Bool.{or_parts, and_parts}
use Rattle.history_model.proofs.WholeRoots.{some_entry}

-- ---- byte strings

equal_test : (a b : ℕ) → a ≡ b → (a == b) ≡ true
equal_test a b e = grind (arith, tests)

-- a path without a slash that comes before a path in a folder comes before the folder
file_before : (p n rest : Bytes) → has_byte 47 p ≡ false → by_bytes p (n ++ 47 ∷ rest) ≡ Less → by_bytes p (n ++ 47 ∷ []) ≡ Less
file_before [] [] rest h e = refl
file_before [] (b ∷ n) rest h e = refl
file_before (a ∷ p) [] rest h e = go (nat_cmp a 47) refl e
  where
    go : (o : Ordering) → nat_cmp a 47 ≡ o → ordering_then o (by_bytes p rest) ≡ Less → ordering_then o (by_bytes p []) ≡ Less
    go Less f k = refl
    go Equal f k = clash (equal_test a 47 (one_number a 47 f)) (or_parts (a == 47) (has_byte 47 p) h).0
    go Greater f k = cc
file_before (a ∷ p) (b ∷ n) rest h e = go (nat_cmp a b) e (file_before p n rest (or_parts (a == 47) (has_byte 47 p) h).1)
  where
    go : (o : Ordering) → ordering_then o (by_bytes p (n ++ 47 ∷ rest)) ≡ Less → (by_bytes p (n ++ 47 ∷ rest) ≡ Less → by_bytes p (n ++ 47 ∷ []) ≡ Less) → ordering_then o (by_bytes p (n ++ 47 ∷ [])) ≡ Less
    go Less k more = refl
    go Equal k more = more k
    go Greater k more = cc

-- a beginning comes before what its text comes before
front_before : (f rest q : Bytes) → by_bytes (f ++ rest) q ≡ Less → by_bytes f q ≡ Less
front_before [] [] [] e = cc
front_before [] (r ∷ rest) [] e = cc
front_before [] rest (b ∷ q) e = refl
front_before (a ∷ f) rest [] e = cc
front_before (a ∷ f) rest (b ∷ q) e = go (nat_cmp a b) e (front_before f rest q)
  where
    go : (o : Ordering) → ordering_then o (by_bytes (f ++ rest) q) ≡ Less → (by_bytes (f ++ rest) q ≡ Less → by_bytes f q ≡ Less) → ordering_then o (by_bytes f q) ≡ Less
    go Less k more = refl
    go Equal k more = more k
    go Greater k more = cc

-- two folders have the order of a path in the second
folder_before : (n k rest : Bytes) → has_byte 47 n ≡ false → has_byte 47 k ≡ false → (n ≡ k → ⊥) → by_bytes (n ++ 47 ∷ []) (k ++ 47 ∷ rest) ≡ Less → by_bytes (n ++ 47 ∷ []) (k ++ 47 ∷ []) ≡ Less
folder_before [] [] rest hn hk apart e = absurd (apart refl)
folder_before [] (b ∷ k) rest hn hk apart e = go (nat_cmp 47 b) refl e
  where
    go : (o : Ordering) → nat_cmp 47 b ≡ o → ordering_then o (by_bytes [] (k ++ 47 ∷ rest)) ≡ Less → ordering_then o (by_bytes [] (k ++ 47 ∷ [])) ≡ Less
    go Less f j = refl
    go Equal f j = clash (equal_test b 47 (sym (one_number 47 b f))) (or_parts (b == 47) (has_byte 47 k) hk).0
    go Greater f j = cc
folder_before (a ∷ n) [] rest hn hk apart e = go (nat_cmp a 47) refl e
  where
    go : (o : Ordering) → nat_cmp a 47 ≡ o → ordering_then o (by_bytes (n ++ 47 ∷ []) rest) ≡ Less → ordering_then o (by_bytes (n ++ 47 ∷ []) []) ≡ Less
    go Less f j = refl
    go Equal f j = clash (equal_test a 47 (one_number a 47 f)) (or_parts (a == 47) (has_byte 47 n) hn).0
    go Greater f j = cc
folder_before (a ∷ n) (b ∷ k) rest hn hk apart e =
    go (nat_cmp a b) refl e (folder_before n k rest (or_parts (a == 47) (has_byte 47 n) hn).1 (or_parts (b == 47) (has_byte 47 k) hk).1)
  where
    go : (o : Ordering) → nat_cmp a b ≡ o → ordering_then o (by_bytes (n ++ 47 ∷ []) (k ++ 47 ∷ rest)) ≡ Less
        → ((n ≡ k → ⊥) → by_bytes (n ++ 47 ∷ []) (k ++ 47 ∷ rest) ≡ Less → by_bytes (n ++ 47 ∷ []) (k ++ 47 ∷ []) ≡ Less) → ordering_then o (by_bytes (n ++ 47 ∷ []) (k ++ 47 ∷ [])) ≡ Less
    go Less f j more = refl
    go Equal f j more = more (λ same. apart (λ i. one_number a b f i ∷ same i)) j
    go Greater f j more = cc

not_itself : (p : Bytes) → by_bytes p p ≡ Less → ⊥
not_itself p e = let turned = nat_list_cmp_total.antisymm p p in go (by_bytes p p) e turned
  where
    go : (o : Ordering) → o ≡ Less → o ≡ ordering_reverse o → ⊥
    go Less f g = cc
    go Equal f g = cc
    go Greater f g = cc

-- ---- entries

abbrev key : TreeEntry → Bytes
key (FileEntry path content) = path
key (FolderEntry name files) = name ++ 47 ∷ []

abbrev Ordered : List TreeEntry → Type 0
Ordered [] = Unit {0}
Ordered (t ∷ ts) = ((u : TreeEntry) → In u ts → by_bytes (key t) (key u) ≡ Less) × Ordered ts

abbrev Heads : Bytes → List TreeEntry → Type 0
Heads k [] = Unit {0}
Heads k (t ∷ ts) = by_bytes k (key t) ≡ Less

before_all : (k : Bytes) (ts : List TreeEntry) → Ordered ts → Heads k ts → (u : TreeEntry) → In u ts → by_bytes k (key u) ≡ Less
before_all k [] o h u i = absurd i
before_all k (t ∷ ts) o h u (inl e) = ap (λ v. by_bytes k (key v)) e ∙ h
before_all k (t ∷ ts) o h u (inr i) = nat_list_cmp_total.trans k (key t) (key u) h (o.0 u i)

less_first : (o : Ordering) → is_lt o ≡ true → o ≡ Less
less_first Less h = refl
less_first Equal h = cc
less_first Greater h = cc

all_less : (p : Bytes) (es : List Entry) → below_all by_bytes p es ≡ true → (e : Entry) → In e es → by_bytes p e.0 ≡ Less
all_less p [] h e i = absurd i
all_less p (f ∷ es) h e (inl same) = ap (λ (x : Entry). by_bytes p x.0) same ∙ less_first (by_bytes p f.0) (and_parts (is_lt (by_bytes p f.0)) (below_all by_bytes p es) h).0
all_less p (f ∷ es) h e (inr i) = all_less p es (and_parts (is_lt (by_bytes p f.0)) (below_all by_bytes p es) h).1 e i

-- a path in the folder of an entry
in_folder : (es : List Entry) → is_sorted by_bytes es ≡ true → (name : Bytes) (files : List Entry) → In (FolderEntry name files) (tree_entries es) → (e : Entry) × In (name ++ 47 ∷ e.0, e.1) es
in_folder es sorted name files i =
    let some = some_entry files (folder_fits es sorted name files i).1 in
    (some.0, folder_in es name files i some.0 some.1)

heads_file : (path : Bytes) (es : List Entry) → has_byte 47 path ≡ false → below_all by_bytes path es ≡ true → is_sorted by_bytes es ≡ true → (ts : List TreeEntry)
    → ((t : TreeEntry) → In t ts → In t (tree_entries es)) → Heads path ts
heads_file path es plain less sorted [] all = tt
heads_file path es plain less sorted (FileEntry q c ∷ ts) all = all_less path es less (q, c) (leaf_in es q c (all (FileEntry q c) (inl refl)))
heads_file path es plain less sorted (FolderEntry name files ∷ ts) all =
    let some = in_folder es sorted name files (all (FolderEntry name files) (inl refl)) in
    file_before path name (some.0).0 plain (all_less path es less (name ++ 47 ∷ (some.0).0, (some.0).1) some.1)

with_into : (name rest : Bytes) (content : Content) (es : List Entry) → has_byte 47 name ≡ false → below_all by_bytes (name ++ 47 ∷ rest) es ≡ true → is_sorted by_bytes es ≡ true → (ts : List TreeEntry)
    → ((t : TreeEntry) → In t ts → In t (tree_entries es)) → Ordered ts → Ordered (into_folder name (rest, content) ts)
with_into name rest content es plain less sorted [] all o = (λ u i. absurd i, tt)
with_into name rest content es plain less sorted (FileEntry q c ∷ ts) all o = (
  before_all (name ++ 47 ∷ []) (FileEntry q c ∷ ts) o
      (front_before (name ++ 47 ∷ []) rest q (ap (λ p. by_bytes p q) (append_assoc name (47 ∷ []) rest) ∙ all_less (name ++ 47 ∷ rest) es less (q, c) (leaf_in es q c (all (FileEntry q c) (inl refl))))),
  o,
)
with_into name rest content es plain less sorted (FolderEntry other files ∷ ts) all o = go (bytes_eq name other) refl
  where
    some : (e : Entry) × In (other ++ 47 ∷ e.0, e.1) es
    some = in_folder es sorted other files (all (FolderEntry other files) (inl refl))

    go : (b : Bool) → bytes_eq name other ≡ b → Ordered (cond b (FolderEntry name ((rest, content) ∷ files) ∷ ts) (FolderEntry name ((rest, content) ∷ []) ∷ FolderEntry other files ∷ ts))
    go true e = (λ u i. ap (λ n. by_bytes (n ++ 47 ∷ []) (key u)) (same_text name other e) ∙ o.0 u i, o.1)
    go false e = (
      before_all (name ++ 47 ∷ []) (FolderEntry other files ∷ ts) o
          (folder_before name other (some.0).0 plain (name_plain es (FolderEntry other files) (all (FolderEntry other files) (inl refl))) (texts_differ name other e)
          (front_before (name ++ 47 ∷ []) rest (other ++ 47 ∷ (some.0).0)
          (ap (λ p. by_bytes p (other ++ 47 ∷ (some.0).0)) (append_assoc name (47 ∷ []) rest) ∙ all_less (name ++ 47 ∷ rest) es less (other ++ 47 ∷ (some.0).0, (some.0).1) some.1))),
      o,
    )

ordered : (es : List Entry) → is_sorted by_bytes es ≡ true → Ordered (tree_entries es)
ordered [] sorted = tt
ordered (e ∷ es) sorted =
    let both = and_parts (below_all by_bytes e.0 es) (is_sorted by_bytes es) sorted in
    go (has_byte 47 e.0) refl both.0 both.1 (ordered es both.1)
  where
    name : Bytes
    name = before_first (λ b. b == 47) e.0

    rest : Bytes
    rest = after_first (λ b. b == 47) e.0

    go : (b : Bool) → has_byte 47 e.0 ≡ b → below_all by_bytes e.0 es ≡ true → is_sorted by_bytes es ≡ true → Ordered (tree_entries es)
        → Ordered (cond b (into_folder name (rest, e.1) (tree_entries es)) (FileEntry e.0 e.1 ∷ tree_entries es))
    go false h less sorted o = (before_all e.0 (tree_entries es) o (heads_file e.0 es h less sorted (tree_entries es) (λ t i. i)), o)
    go true h less sorted o =
        with_into name rest e.1 es (front_plain e.0) (ap (λ p. below_all by_bytes p es) (has_parts e.0 h) ∙ less) sorted (tree_entries es) (λ t i. i) o

-- ---- well-formed

module _ (kind : Kind) (m : FileMap) (fits : IsFileMap m) where
  key_is : (t : TreeEntry) → item_key (item_of kind (tree_of kind m) t) ≡ key t
  key_is (FileEntry path content) = ap (λ b. cond b (path ++ 47 ∷ []) path) (leaf_no_tree content.kind)
  key_is (FolderEntry name files) = refl

  apart : (path name : Bytes) (files : List Entry) (content : Content) → In (FileEntry path content) (tree_entries (entries m)) → In (FolderEntry name files) (tree_entries (entries m)) → path ≡ name → ⊥
  apart path name files content i j same =
      let some = in_folder (entries m) (sorted_entries m) name files j in
      clash (subst (λ n. is_below path (n ++ 47 ∷ (some.0).0) ≡ true) same (below_front path (some.0).0))
      (fits.apart path (name ++ 47 ∷ (some.0).0) (ap is_some (in_get m path content (leaf_in (entries m) path content i))) (ap is_some (in_get m (name ++ 47 ∷ (some.0).0) (some.0).1 some.1)))

  names_differ : (t u : TreeEntry) → In t (tree_entries (entries m)) → In u (tree_entries (entries m)) → by_bytes (key t) (key u) ≡ Less → name_of t ≡ name_of u → ⊥
  names_differ (FileEntry p c) (FileEntry q d) i j less same = not_itself q (subst (λ x. by_bytes x q ≡ Less) same less)
  names_differ (FileEntry p c) (FolderEntry n fs) i j less same = apart p n fs c i j same
  names_differ (FolderEntry n fs) (FileEntry p c) i j less same = apart p n fs c j i (sym same)
  names_differ (FolderEntry n fs) (FolderEntry k gs) i j less same = not_itself (k ++ 47 ∷ []) (subst (λ x. by_bytes (x ++ 47 ∷ []) (k ++ 47 ∷ []) ≡ Less) same less)

  pairs : (R : Item → Item → Type 0) → ((t u : TreeEntry) → In t (tree_entries (entries m)) → In u (tree_entries (entries m)) → by_bytes (key t) (key u) ≡ Less → R (item_of kind (tree_of kind m) t) (item_of kind (tree_of kind m) u))
      → (ts : List TreeEntry) → ((t : TreeEntry) → In t ts → In t (tree_entries (entries m))) → Ordered ts → AllPairs R (some_items kind m ts)
  pairs R f [] all o = λ i j d less within. absurd (omega arith)
  pairs R f (t ∷ ts) all o =
      AllPairs-cons R (item_of kind (tree_of kind m) t) (some_items kind m ts)
      (all_of (R (item_of kind (tree_of kind m) t)) (some_items kind m ts) (λ x i.
      let from = of_map (item_of kind (tree_of kind m)) x ts i in
      subst (R (item_of kind (tree_of kind m) t)) (sym from.2) (f t from.0 (all t (inl refl)) (all from.0 (inr from.1)) (o.0 from.0 from.1))))
      (pairs R f ts (λ u i. all u (inr i)) o.1)

  well_formed : IsWellFormed (items kind m)
  well_formed = record {
    names = all_of (λ (x : Item). IsFilename x.name) (items kind m) (λ x i.
        let from = of_map (item_of kind (tree_of kind m)) x (tree_entries (entries m)) i in
        let name : x.name ≡ name_of from.0 = ap (λ (y : Item). y.name) from.2 ∙ item_name kind (tree_of kind m) from.0 in
        record {
          some = λ e. some_name (λ id. None) kind m fits from.0 from.1 (sym name ∙ e);
          within_folder = ap (has_byte 47) name ∙ name_plain (entries m) from.0 from.1;
          endless = ap (has_byte 0) name ∙ no_zero kind m (plain_map m fits) from.0 from.1;
        });
    ordered = pairs ComesBefore (λ t u i j less. (λ k. by_bytes (key_is t k) (key_is u k)) ∙ less) (tree_entries (entries m)) (λ t i. i) (ordered (entries m) (sorted_entries m));
    once = pairs (λ x y. x.name ≢ y.name) (λ t u i j less same. names_differ t u i j less (sym (item_name kind (tree_of kind m) t) ∙ same ∙ item_name kind (tree_of kind m) u)) (tree_entries (entries m)) (λ t i. i)
        (ordered (entries m) (sorted_entries m));
  }

  pub root_well_formed : (all : List Item) → SpellsTree kind (root kind m) all → IsWellFormed all
  root_well_formed all spelled = subst IsWellFormed (one_tree kind (root kind m) (items kind m) all (items_spelled kind m (plain_map m fits)) spelled) well_formed
