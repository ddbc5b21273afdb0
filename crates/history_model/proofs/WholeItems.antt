-- The items of a sorted list of files: each is a file, or the folder with all files below it.
use Rattle.std.proofs.Common.{◌≡◌, ◌+◌, ◌⊎◌, Bool, true, false, cond, List, [], ◌∷◌, ◌++◌, map, length, refl, sym, ◌∙◌, ap, subst, inl, inr, Option, Some, None, bytes_eq, ◌==◌, append_assoc, drop, T}
use Rattle.std.specs.List.{before_first, after_first, flat_map, filter_map, cons_option}
use Rattle.std.specs.FinMap.{FinMap, entries, entries_sorted, from_entries, entries-insert, is_sorted, put}
use Rattle.std.specs.FinMap.Entries.{below_all}
use Rattle.std.specs.Ordering.{is_lt}
use Rattle.std.proofs.lemmas.Cmp.{nat_list_cmp_total}
use Rattle.history_model.specs.Bytes.{Bytes, by_bytes, has_byte, is_empty}
use Rattle.history_model.specs.FileMap.{FileMap, Content, is_below, inside}
use Rattle.history_model.specs.Objects.{TreeEntry, FileEntry, FolderEntry, into_folder, tree_entries}
use Rattle.history_model.proofs.RowLemmas.{entries-empty}
use Rattle.history_model.proofs.PartLemmas.{split_at, one_is_in}
use Rattle.history_model.proofs.WholeLists.{In, in_flat, in_map, clash, either, same_text, text_itself, texts_differ}
use Rattle.history_model.proofs.WholePaths.{below_parts, below_front, drop_below, not_below, below_one, has_parts, front_plain, same_front, together}
use Rattle.gix_ref_file.proofs.Below.{when_lt}
use Rattle.std.proofs.lemmas.Bool.{and_from, and_parts}

abbrev pub Entry : Type 0
Entry = Bytes × Content

-- the files below a folder, by the rest of their paths
abbrev pub below_entry : Bytes → Entry → Option Entry
below_entry folder e = cond (is_below folder e.0) (Some (drop (length folder + 1) e.0, e.1)) None

abbrev pub below : Bytes → List Entry → List Entry
below folder es = filter_map (λ e. below_entry folder e) es

-- ---- the files of an item

abbrev pub files_of : TreeEntry → List Entry
files_of (FileEntry path content) = (path, content) ∷ []
files_of (FolderEntry name files) = map (λ e. (name ++ 47 ∷ e.0, e.1)) files

into_files : (name : Bytes) (file : Entry) (items : List TreeEntry) → flat_map files_of (into_folder name file items) ≡ (name ++ 47 ∷ file.0, file.1) ∷ flat_map files_of items
into_files name file [] = refl
into_files name file (FileEntry other content ∷ items) = refl
into_files name file (FolderEntry other files ∷ items) = go (bytes_eq name other) refl
  where
    go : (b : Bool) → bytes_eq name other ≡ b → flat_map files_of (cond b (FolderEntry name (file ∷ files) ∷ items) (FolderEntry name (file ∷ []) ∷ FolderEntry other files ∷ items))
        ≡ (name ++ 47 ∷ file.0, file.1) ∷ (map (λ e. (other ++ 47 ∷ e.0, e.1)) files ++ flat_map files_of items)
    go true e = ap (λ n. (name ++ 47 ∷ file.0, file.1) ∷ (map (λ e. (n ++ 47 ∷ e.0, e.1)) files ++ flat_map files_of items)) (same_text name other e)
    go false e = refl

-- the items of a list have its files
pub items_files : (es : List Entry) → flat_map files_of (tree_entries es) ≡ es
items_files [] = refl
items_files (e ∷ es) = go (has_byte 47 e.0) refl (items_files es)
  where
    go : (b : Bool) → has_byte 47 e.0 ≡ b → flat_map files_of (tree_entries es) ≡ es
        → flat_map files_of (cond b (into_folder (before_first (λ b. b == 47) e.0) (after_first (λ b. b == 47) e.0, e.1) (tree_entries es)) (FileEntry e.0 e.1 ∷ tree_entries es)) ≡ e ∷ es
    go false h rest = ap (λ fs. e ∷ fs) rest
    go true h rest =
        into_files (before_first (λ b. b == 47) e.0) (after_first (λ b. b == 47) e.0, e.1) (tree_entries es)
        ∙ (λ i. (has_parts e.0 h i, e.1) ∷ rest i)

pub leaf_in : (es : List Entry) (path : Bytes) (content : Content) → In (FileEntry path content) (tree_entries es) → In (path, content) es
leaf_in es path content i = subst (In (path, content)) (items_files es) (in_flat files_of (path, content) (FileEntry path content) (tree_entries es) i (inl refl))

pub folder_in : (es : List Entry) (name : Bytes) (files : List Entry) → In (FolderEntry name files) (tree_entries es) → (e : Entry) → In e files → In (name ++ 47 ∷ e.0, e.1) es
folder_in es name files i e j = subst (In (name ++ 47 ∷ e.0, e.1)) (items_files es)
    (in_flat files_of (name ++ 47 ∷ e.0, e.1) (FolderEntry name files) (tree_entries es) i (in_map (λ e. (name ++ 47 ∷ e.0, e.1)) e files j))

-- ---- sorted lists

t_true : (b : Bool) → T b → b ≡ true
t_true true h = refl
t_true false h = absurd h

pub sorted_entries : {X : Type 0} (m : FinMap by_bytes X) → is_sorted by_bytes (entries m) ≡ true
sorted_entries m = t_true (is_sorted by_bytes (entries m)) (entries_sorted m)

put_first : {X : Type 0} (k : Bytes) (v : X) (es : List (Bytes × X)) → below_all by_bytes k es ≡ true → put by_bytes k v es ≡ (k, v) ∷ es
put_first k v [] h = refl
put_first k v (e ∷ es) h = rw (when_lt (by_bytes k e.0) (and_parts (is_lt (by_bytes k e.0)) (below_all by_bytes k es) h).0) refl

-- a sorted list is that of the map made of it
pub entries_from : {X : Type 0} (es : List (Bytes × X)) → is_sorted by_bytes es ≡ true → entries (from_entries {R = by_bytes} es) ≡ es
entries_from [] h = entries-empty
entries_from (e ∷ es) h =
    let both = and_parts (below_all by_bytes e.0 es) (is_sorted by_bytes es) h in
    entries-insert nat_list_cmp_total (from_entries es) e.0 e.1
    ∙ ap (put by_bytes e.0 e.1) (entries_from es both.1)
    ∙ put_first e.0 e.1 es both.0

-- ---- what is below a folder

below_other : (folder : Bytes) (e : Entry) (es : List Entry) → is_below folder e.0 ≡ false → below folder (e ∷ es) ≡ below folder es
below_other folder e es h = ap (λ b. cons_option (cond b (Some (drop (length folder + 1) e.0, e.1)) None) (below folder es)) h

below_here : (folder rest : Bytes) (content : Content) (es : List Entry) → below folder ((folder ++ 47 ∷ rest, content) ∷ es) ≡ (rest, content) ∷ below folder es
below_here folder rest content es =
    ap (λ b. cons_option (cond b (Some (drop (length folder + 1) (folder ++ 47 ∷ rest), content)) None) (below folder es)) (below_front folder rest)
    ∙ ap (λ r. (r, content) ∷ below folder es) (drop_below folder rest)

-- what is below is in the list, after the folder and a slash
pub of_below : (folder : Bytes) (es : List Entry) (e : Entry) → In e (below folder es) → In (folder ++ 47 ∷ e.0, e.1) es
of_below folder [] e i = absurd i
of_below folder (f ∷ es) e i = go (is_below folder f.0) refl i (of_below folder es e)
  where
    go : (b : Bool) → is_below folder f.0 ≡ b → In e (cons_option (cond b (Some (drop (length folder + 1) f.0, f.1)) None) (below folder es))
        → (In e (below folder es) → In (folder ++ 47 ∷ e.0, e.1) es) → In (folder ++ 47 ∷ e.0, e.1) (f ∷ es)
    go true h (inl k) rest = inl (ap (λ (g : Entry). (folder ++ 47 ∷ g.0, g.1)) k ∙ ap (λ p. (p, f.1)) (sym (below_parts folder f.0 h)))
    go true h (inr k) rest = inr (rest k)
    go false h k rest = inr (rest k)

pub in_below : (folder : Bytes) (es : List Entry) (rest : Bytes) (content : Content) → In (folder ++ 47 ∷ rest, content) es → In (rest, content) (below folder es)
in_below folder [] rest content i = absurd i
in_below folder (f ∷ es) rest content (inl e) =
    subst (λ g. In (rest, content) (below folder (g ∷ es))) e (subst (λ l. In (rest, content) l) (sym (below_here folder rest content es)) (inl refl))
in_below folder (f ∷ es) rest content (inr i) = go (is_below folder f.0) (in_below folder es rest content i)
  where
    go : (b : Bool) → In (rest, content) (below folder es) → In (rest, content) (cons_option (cond b (Some (drop (length folder + 1) f.0, f.1)) None) (below folder es))
    go true h = inr h
    go false h = h

below_first : (folder : Bytes) (p : Bytes) (es : List Entry) → is_below folder p ≡ true → below_all by_bytes p es ≡ true → below_all by_bytes (drop (length folder + 1) p) (below folder es) ≡ true
below_first folder p [] h k = refl
below_first folder p (f ∷ es) h k =
    let both = and_parts (is_lt (by_bytes p f.0)) (below_all by_bytes p es) k in
    go (is_below folder f.0) refl both.0 (below_first folder p es h both.1)
  where
    go : (b : Bool) → is_below folder f.0 ≡ b → is_lt (by_bytes p f.0) ≡ true → below_all by_bytes (drop (length folder + 1) p) (below folder es) ≡ true
        → below_all by_bytes (drop (length folder + 1) p) (cons_option (cond b (Some (drop (length folder + 1) f.0, f.1)) None) (below folder es)) ≡ true
    go false e l rest = rest
    go true e l rest = and_from _ (below_all by_bytes (drop (length folder + 1) p) (below folder es)) shorter rest
      where
        whole : (q : Bytes) → is_below folder q ≡ true → (folder ++ 47 ∷ []) ++ drop (length folder + 1) q ≡ q
        whole q m = append_assoc folder (47 ∷ []) (drop (length folder + 1) q) ∙ sym (below_parts folder q m)

        shorter : is_lt (by_bytes (drop (length folder + 1) p) (drop (length folder + 1) f.0)) ≡ true
        shorter = ap is_lt (sym (same_front (folder ++ 47 ∷ []) (drop (length folder + 1) p) (drop (length folder + 1) f.0)) ∙ (λ i. by_bytes (whole p h i) (whole f.0 e i))) ∙ l

pub sorted_below : (folder : Bytes) (es : List Entry) → is_sorted by_bytes es ≡ true → is_sorted by_bytes (below folder es) ≡ true
sorted_below folder [] h = refl
sorted_below folder (e ∷ es) h =
    let both = and_parts (below_all by_bytes e.0 es) (is_sorted by_bytes es) h in
    go (is_below folder e.0) refl both.0 (sorted_below folder es both.1)
  where
    go : (b : Bool) → is_below folder e.0 ≡ b → below_all by_bytes e.0 es ≡ true → is_sorted by_bytes (below folder es) ≡ true
        → is_sorted by_bytes (cons_option (cond b (Some (drop (length folder + 1) e.0, e.1)) None) (below folder es)) ≡ true
    go false k l rest = rest
    go true k l rest = and_from (below_all by_bytes (drop (length folder + 1) e.0) (below folder es)) (is_sorted by_bytes (below folder es)) (below_first folder e.0 es k l) rest

-- the files inside a folder
pub entries_inside : (folder : Bytes) (files : FileMap) → entries (inside folder files) ≡ below folder (entries files)
entries_inside folder files = entries_from (below folder (entries files)) (sorted_below folder (entries files) (sorted_entries files))

-- ---- each folder's item has all that is below it

abbrev pub ItemFits : List Entry → TreeEntry → Type 0
ItemFits es (FileEntry path content) = Unit {0}
ItemFits es (FolderEntry name files) = (files ≡ below name es) × (is_empty files ≡ false) × (has_byte 47 name ≡ false)

-- no folder of this name
abbrev pub IsOther : Bytes → TreeEntry → Type 0
IsOther name (FileEntry path content) = Unit {0}
IsOther name (FolderEntry other files) = bytes_eq name other ≡ false

abbrev pub AreOthers : Bytes → List TreeEntry → Type 0
AreOthers name [] = Unit {0}
AreOthers name (item ∷ items) = IsOther name item × AreOthers name items

abbrev pub AreApart : List TreeEntry → Type 0
AreApart [] = Unit {0}
AreApart (FileEntry path content ∷ items) = AreApart items
AreApart (FolderEntry name files ∷ items) = AreOthers name items × AreApart items

abbrev pub AllFit : List Entry → List TreeEntry → Type 0
AllFit es [] = Unit {0}
AllFit es (item ∷ items) = ItemFits es item × AllFit es items

-- one more entry, at no item's folder
fit_more : (e : Entry) (es : List Entry) (items : List TreeEntry) → AllFit es items
    → ((name : Bytes) (files : List Entry) → In (FolderEntry name files) items → has_byte 47 name ≡ false → is_below name e.0 ≡ false) → AllFit (e ∷ es) items
fit_more e es [] h f = tt
fit_more e es (FileEntry path content ∷ items) h f = (tt, fit_more e es items h.1 (λ name files i. f name files (inr i)))
fit_more e es (FolderEntry name files ∷ items) h f = (
  ((h.0).0 ∙ sym (below_other name e es (f name files (inl refl) (h.0).2)), (h.0).1, (h.0).2),
  fit_more e es items h.1 (λ name files i. f name files (inr i)),
)

others_in : (name : Bytes) (items : List TreeEntry) → AreOthers name items → (other : Bytes) (files : List Entry) → In (FolderEntry other files) items → bytes_eq name other ≡ false
others_in name [] h other files i = absurd i
others_in name (item ∷ items) h other files (inl e) = subst (IsOther name) (sym e) h.0
others_in name (item ∷ items) h other files (inr i) = others_in name items h.1 other files i

-- if nothing is below the name, no folder has it
no_folder : (name : Bytes) (es : List Entry) (items : List TreeEntry) → AllFit es items → below name es ≡ [] → AreOthers name items
no_folder name es [] h none = tt
no_folder name es (FileEntry path content ∷ items) h none = (tt, no_folder name es items h.1 none)
no_folder name es (FolderEntry other files ∷ items) h none = (go (bytes_eq name other) refl, no_folder name es items h.1 none)
  where
    go : (b : Bool) → bytes_eq name other ≡ b → b ≡ false
    go false e = refl
    go true e = clash (ap is_empty ((h.0).0 ∙ ap (λ n. below n es) (sym (same_text name other e)) ∙ none)) (h.0).1

into_new : (name : Bytes) (file : Entry) (items : List TreeEntry) → AreOthers name items → into_folder name file items ≡ FolderEntry name (file ∷ []) ∷ items
into_new name file [] h = refl
into_new name file (FileEntry path content ∷ items) h = refl
into_new name file (FolderEntry other files ∷ items) h = ap (λ b. cond b (FolderEntry name (file ∷ files) ∷ items) (FolderEntry name (file ∷ []) ∷ FolderEntry other files ∷ items)) h.0

-- the head of the items is this folder
abbrev BeginsFolder : Bytes → List TreeEntry → Type 0
BeginsFolder name [] = ⊥
BeginsFolder name (FileEntry path content ∷ items) = ⊥
BeginsFolder name (FolderEntry other files ∷ items) = name ≡ other

into_begins : (name : Bytes) (file : Entry) (items : List TreeEntry) → BeginsFolder name (into_folder name file items)
into_begins name file [] = refl
into_begins name file (FileEntry path content ∷ items) = refl
into_begins name file (FolderEntry other files ∷ items) = go (bytes_eq name other)
  where
    go : (b : Bool) → BeginsFolder name (cond b (FolderEntry name (file ∷ files) ∷ items) (FolderEntry name (file ∷ []) ∷ FolderEntry other files ∷ items))
    go true = refl
    go false = refl

begins_below : (name : Bytes) (e : Entry) (es : List Entry) → has_byte 47 name ≡ false → is_below name e.0 ≡ true → BeginsFolder name (tree_entries (e ∷ es))
begins_below name e es plain h = go (has_byte 47 e.0) refl
  where
    rest : Bytes
    rest = drop (length name + 1) e.0

    slash : has_byte 47 e.0 ≡ true
    slash = ap (has_byte 47) (below_parts name e.0 h) ∙ one_is_in 47 name rest

    first : before_first (λ b. b == 47) e.0 ≡ name
    first = (split_at 47 (before_first (λ b. b == 47) e.0) name (after_first (λ b. b == 47) e.0) rest (front_plain e.0) plain (has_parts e.0 slash ∙ below_parts name e.0 h)).0

    go : (b : Bool) → has_byte 47 e.0 ≡ b
        → BeginsFolder name (cond b (into_folder (before_first (λ b. b == 47) e.0) (after_first (λ b. b == 47) e.0, e.1) (tree_entries es)) (FileEntry e.0 e.1 ∷ tree_entries es))
    go false k = clash slash k
    go true k = subst (λ n. BeginsFolder n (into_folder (before_first (λ b. b == 47) e.0) (after_first (λ b. b == 47) e.0, e.1) (tree_entries es))) first
        (into_begins (before_first (λ b. b == 47) e.0) (after_first (λ b. b == 47) e.0, e.1) (tree_entries es))

-- once an entry is not below the folder, no later one is
none_later : (folder : Bytes) (p : Bytes) (e : Entry) (es : List Entry) → is_below folder p ≡ true → is_lt (by_bytes p e.0) ≡ true → is_below folder e.0 ≡ false → below_all by_bytes e.0 es ≡ true → below folder es ≡ []
none_later folder p e [] h l k b = refl
none_later folder p e (f ∷ es) h l k b =
    let both = and_parts (is_lt (by_bytes e.0 f.0)) (below_all by_bytes e.0 es) b in
    below_other folder f es (together (folder ++ 47 ∷ []) p e.0 f.0 h k (when_lt (by_bytes p e.0) l) (when_lt (by_bytes e.0 f.0) both.0))
    ∙ none_later folder p e es h l k both.1

folder_step : (name rest : Bytes) (content : Content) (es : List Entry) (items : List TreeEntry) → has_byte 47 name ≡ false → AllFit es items → AreApart items
    → BeginsFolder name items ⊎ (below name es ≡ [])
    → AllFit ((name ++ 47 ∷ rest, content) ∷ es) (into_folder name (rest, content) items) × AreApart (into_folder name (rest, content) items)
folder_step name rest content es items plain fit apart (inr none) =
    subst (λ l. AllFit ((name ++ 47 ∷ rest, content) ∷ es) l × AreApart l) (sym (into_new name (rest, content) items others)) (
      (
        (sym (below_here name rest content es ∙ ap (λ l. (rest, content) ∷ l) none), refl, plain),
        fit_more (name ++ 47 ∷ rest, content) es items fit (λ other files i k. apart_from other files i k),
      ),
      (others, apart),
    )
  where
    others : AreOthers name items
    others = no_folder name es items fit none

    apart_from : (other : Bytes) (files : List Entry) → In (FolderEntry other files) items → has_byte 47 other ≡ false → is_below other (name ++ 47 ∷ rest) ≡ false
    apart_from other files i k = elim (either (is_below other (name ++ 47 ∷ rest))) [
      | inl e ↦ texts_differ name other (others_in name items others other files i) (sym (below_one other name rest k plain e))
      | inr e ↦ e
    ]
folder_step name rest content es [] plain fit apart (inl head) = absurd head
folder_step name rest content es (FileEntry path other ∷ items) plain fit apart (inl head) = absurd head
folder_step name rest content es (FolderEntry other files ∷ items) plain fit apart (inl head) =
    subst (λ b. AllFit ((name ++ 47 ∷ rest, content) ∷ es) (cond b (FolderEntry name ((rest, content) ∷ files) ∷ items) (FolderEntry name ((rest, content) ∷ []) ∷ FolderEntry other files ∷ items))
    × AreApart (cond b (FolderEntry name ((rest, content) ∷ files) ∷ items) (FolderEntry name ((rest, content) ∷ []) ∷ FolderEntry other files ∷ items)))
    (sym (ap (bytes_eq name) (sym head) ∙ text_itself name)) (
      (
        (sym (below_here name rest content es ∙ ap (λ l. (rest, content) ∷ l) (ap (λ n. below n es) head ∙ sym (fit.0).0)), refl, plain),
        fit_more (name ++ 47 ∷ rest, content) es items fit.1 apart_from,
      ),
      (others, apart.1),
    )
  where
    others : AreOthers name items
    others = subst (λ n. AreOthers n items) (sym head) apart.0

    apart_from : (other : Bytes) (files : List Entry) → In (FolderEntry other files) items → has_byte 47 other ≡ false → is_below other (name ++ 47 ∷ rest) ≡ false
    apart_from other files i k = elim (either (is_below other (name ++ 47 ∷ rest))) [
      | inl e ↦ texts_differ name other (others_in name items others other files i) (sym (below_one other name rest k plain e))
      | inr e ↦ e
    ]

head_or_none : (name : Bytes) (e : Entry) (es : List Entry) → has_byte 47 name ≡ false → is_below name e.0 ≡ true → is_sorted by_bytes (e ∷ es) ≡ true
    → BeginsFolder name (tree_entries es) ⊎ (below name es ≡ [])
head_or_none name e [] plain h sorted = inr refl
head_or_none name e (f ∷ es) plain h sorted =
    let outer = and_parts (below_all by_bytes e.0 (f ∷ es)) (is_sorted by_bytes (f ∷ es)) sorted in
    let less = (and_parts (is_lt (by_bytes e.0 f.0)) (below_all by_bytes e.0 es) outer.0).0 in
    let later = (and_parts (below_all by_bytes f.0 es) (is_sorted by_bytes es) outer.1).0 in
    elim (either (is_below name f.0)) [
      | inl k ↦ inl (begins_below name f es plain k)
      | inr k ↦ inr (below_other name f es k ∙ none_later name e.0 f es h less k later)
    ]

all_fit : (es : List Entry) → is_sorted by_bytes es ≡ true → AllFit es (tree_entries es) × AreApart (tree_entries es)
all_fit [] sorted = (tt, tt)
all_fit (e ∷ es) sorted =
    let rest = all_fit es (and_parts (below_all by_bytes e.0 es) (is_sorted by_bytes es) sorted).1 in
    go (has_byte 47 e.0) refl rest.0 rest.1
  where
    name : Bytes
    name = before_first (λ b. b == 47) e.0

    more : Bytes
    more = after_first (λ b. b == 47) e.0

    go : (b : Bool) → has_byte 47 e.0 ≡ b → AllFit es (tree_entries es) → AreApart (tree_entries es)
        → AllFit (e ∷ es) (cond b (into_folder name (more, e.1) (tree_entries es)) (FileEntry e.0 e.1 ∷ tree_entries es)) × AreApart (cond b (into_folder name (more, e.1) (tree_entries es)) (FileEntry e.0 e.1 ∷ tree_entries es))
    go false h fit apart = ((tt, fit_more e es (tree_entries es) fit (λ other files i k. not_below other e.0 h)), apart)
    go true h fit apart =
        let whole : name ++ 47 ∷ more ≡ e.0 = has_parts e.0 h in
        subst (λ p. AllFit ((p, e.1) ∷ es) (into_folder name (more, e.1) (tree_entries es)) × AreApart (into_folder name (more, e.1) (tree_entries es))) whole
        (folder_step name more e.1 es (tree_entries es) (front_plain e.0) fit apart
        (head_or_none name e es (front_plain e.0) (subst (λ p. is_below name p ≡ true) whole (below_front name more)) sorted))

fit_in : (es : List Entry) (items : List TreeEntry) → AllFit es items → (item : TreeEntry) → In item items → ItemFits es item
fit_in es [] h item i = absurd i
fit_in es (other ∷ items) h item (inl e) = subst (ItemFits es) (sym e) h.0
fit_in es (other ∷ items) h item (inr i) = fit_in es items h.1 item i

-- The files of a folder's item are those below it, at least one.
pub folder_fits : (es : List Entry) → is_sorted by_bytes es ≡ true → (name : Bytes) (files : List Entry) → In (FolderEntry name files) (tree_entries es) → (files ≡ below name es) × (is_empty files ≡ false)
folder_fits es sorted name files i = let fits = fit_in es (tree_entries es) (all_fit es sorted).0 (FolderEntry name files) i in (fits.0, fits.1)
