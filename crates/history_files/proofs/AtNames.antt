-- The entry at a path, name by name.
use Rattle.std.proofs.Common.{◌≡◌, ◌⊎◌, ℕ, zero, suc, ◌+◌, ◌<◌, Bool, true, false, cond, List, [], ◌∷◌, ◌++◌, map, drop, get_or, Bor, length, refl, sym, ◌∙◌, ap, subst, arith, inl, inr, Option, Some, None, is_some, option_map, option_and_then, ◌==◌, codes, length-append}
use Rattle.std.proofs.Math.Seq.{drop-cons}
use Rattle.std.specs.List.{onto_first, before_first, after_first}
use Rattle.std.specs.FinMap.{entries, keys, get}
use Rattle.gix_hash.specs.Id.{Id, id_of}
use Rattle.gix_hash.specs.declared.kind.Kind.{Kind}
use Rattle.gix_hash.specs.declared.object_id.ObjectId.{ObjectId}
use Rattle.gix_object_lines.specs.declared.kind.Kind.TheVariants as objects
use Rattle.gix_object_tree.specs.Mode.{kind_value, kind_of}
use Rattle.gix_object_any.specs.Object.{Tree}
use Rattle.gix_object_lookup.specs.Table.{Table}
use Rattle.gix_object_find.specs.Values.{StandsAs}
use Rattle.gix_object_nodes.specs.Files.{named}
use Rattle.history_model.specs.Bytes.{Bytes, has_byte}
use Rattle.history_model.specs.FileMap.{FileMap, Content, IsFileMap, components, is_below, has_below, inside}
use Rattle.history_model.specs.Objects.{digest, TreeEntry, FileEntry, FolderEntry, tree_entries, mode_of, root_within, longest, folder_id, blob_id, entry_at}
use Rattle.history_model.specs.declared.FileKind.{FileKind}
use Rattle.history_model.specs.declared.FileKind.TheVariants.{File as PlainFile, Exec, Link}
use Rattle.history_model.proofs.WholeLists.{In, in_map, of_map, clash, either, passes_one, one_passes, texts_differ, none_is_some}
use Rattle.history_model.proofs.WholePaths.{below_front, below_parts, has_parts, front_plain, is_beginning, below_below}
use Rattle.history_model.proofs.WholeItems.{Entry, leaf_in}
use Rattle.history_model.proofs.WholeRoots.{HasAll, all_values, inside_has, inside_inside, has_all}
use Rattle.history_model.proofs.WholeStores.{get_in, in_get}
use Rattle.history_files.specs.Unfolding.{IsInTable, entry_kind}
use Rattle.history_files.specs.NamedTrees.{texts}
use Rattle.history_files.specs.Reading.{IsRootOf, TreeFault, OwnFault, entry_of, named_by, named_as, StepsBelow}
use Rattle.history_files.specs.declared.error.ReadError.{ReadError}
use Rattle.history_files.specs.declared.error.ReadError.TheVariants.{Failed, Broken, Memory}
use Rattle.history_files.specs.declared.found.Found.{Found}
use Rattle.history_files.specs.declared.found.Found.TheVariants.{File, Folder}
use Rattle.history_files.proofs.Components.{some_parts, one_part, parts_below}
use Rattle.history_files.proofs.Items.{items, items_spelled, item_of, file_item, name_of, named_in, has_leaf, has_folder, folder_of}
use Rattle.history_files.proofs.Unfolded.{inside_map, plain_map, get_inside, none_if}
use Rattle.std.proofs.lemmas.Option.{same_Some}
use Rattle.std.proofs.lemmas.Bool.{or_from}

-- ---- files below a path

pub below_some : (m : FileMap) (path : Bytes) → has_below m path ≡ true → (rest : Bytes) × (content : Content) × (get m (path ++ 47 ∷ rest) ≡ Some content)
below_some m path h =
    let one = one_passes (is_below path) (keys m) h in
    let from = of_map (λ (x : Entry). x.0) one.0 (entries m) one.1 in
    (_, (from.0).1, ap (get m) (sym (below_parts path one.0 one.2) ∙ from.2) ∙ in_get m (from.0).0 (from.0).1 from.1)

pub some_below : (m : FileMap) (path rest : Bytes) (content : Content) → get m (path ++ 47 ∷ rest) ≡ Some content → has_below m path ≡ true
some_below m path rest content e =
    passes_one (is_below path) (keys m) (path ++ 47 ∷ rest) (in_map (λ (x : Entry). x.0) (path ++ 47 ∷ rest, content) (entries m) (get_in m (path ++ 47 ∷ rest) content e)) (below_front path rest)

same_bool : (a b : Bool) → (a ≡ true → b ≡ true) → (b ≡ true → a ≡ true) → a ≡ b
same_bool true b f g = sym (f refl)
same_bool false true f g = g refl
same_bool false false f g = refl

has_below_inside : (m : FileMap) (folder path : Bytes) → has_below (inside folder m) path ≡ has_below m (folder ++ 47 ∷ path)
has_below_inside m folder path = same_bool (has_below (inside folder m) path) (has_below m (folder ++ 47 ∷ path))
    (λ h. let some = below_some (inside folder m) path h in
    some_below m (folder ++ 47 ∷ path) some.0 some.1 (ap (get m) (below_below folder path some.0) ∙ sym (get_inside folder m (path ++ 47 ∷ some.0)) ∙ some.2))
    (λ h. let some = below_some m (folder ++ 47 ∷ path) h in
    some_below (inside folder m) path some.0 some.1 (get_inside folder m (path ++ 47 ∷ some.0) ∙ ap (get m) (sym (below_below folder path some.0)) ∙ some.2))

-- ---- at names

abbrev pub at_names : Kind → FileMap → List Bytes → Option (Bytes × Id)
at_names kind m [] = Some (codes "40000", folder_id kind m)
at_names kind m (name ∷ []) = entry_at kind m name
at_names kind m (name ∷ next ∷ rest) = cond (has_below m name) (at_names kind (inside name m) (next ∷ rest)) None

entry_inside : (kind : Kind) (m : FileMap) (folder path : Bytes) → entry_at kind (inside folder m) path ≡ entry_at kind m (folder ++ 47 ∷ path)
entry_inside kind m folder path = λ i. cond (has_below_inside m folder path i) (Some (codes "40000", folder_id kind (inside_inside folder path m i)))
    (option_map (λ (content : Content). (mode_of content.kind, blob_id kind content.bytes)) (get_inside folder m path i))

-- nothing is at a path below a folder that has nothing below it
none_deeper : (kind : Kind) (m : FileMap) (folder path : Bytes) → has_below m folder ≡ false → entry_at kind m (folder ++ 47 ∷ path) ≡ None
none_deeper kind m folder path h =
    (λ i. cond (none_below i) (Some (codes "40000", folder_id kind (inside (folder ++ 47 ∷ path) m))) (option_map (λ (content : Content). (mode_of content.kind, blob_id kind content.bytes)) (none_at i)))
  where
    none_below : has_below m (folder ++ 47 ∷ path) ≡ false
    none_below = elim (either (has_below m (folder ++ 47 ∷ path))) [
      | inl k ↦ let some = below_some m (folder ++ 47 ∷ path) k in clash (some_below m folder (path ++ 47 ∷ some.0) some.1 (ap (get m) (sym (below_below folder path some.0)) ∙ some.2)) h
      | inr k ↦ k
    ]

    none_at : get m (folder ++ 47 ∷ path) ≡ None
    none_at = none_if (get m (folder ++ 47 ∷ path)) (λ c e. clash (some_below m folder path c e) h)

at_within : (n : ℕ) (kind : Kind) (m : FileMap) (path : Bytes) → length path < n → at_names kind m (components path) ≡ entry_at kind m path
at_within zero kind m path less = absurd (omega arith)
at_within (suc n) kind m path less = go (λ m path less. at_within n kind m path less) (has_byte 47 path) refl
  where
    name : Bytes
    name = before_first (λ b. b == 47) path

    rest : Bytes
    rest = after_first (λ b. b == 47) path

    go : ((m : FileMap) (path : Bytes) → length path < n → at_names kind m (components path) ≡ entry_at kind m path) → (b : Bool) → has_byte 47 path ≡ b → at_names kind m (components path) ≡ entry_at kind m path
    go deeper false h = ap (at_names kind m) (one_part path h)
    go deeper true h =
        let whole : name ++ 47 ∷ rest ≡ path = has_parts path h in
        let len = length-append name (47 ∷ rest) in
        let same = ap length whole in
        let shorter : length rest < n = omega arith in
        let some = some_parts rest in
        ap (λ p. at_names kind m (components p)) (sym whole)
        ∙ ap (at_names kind m) (parts_below name rest ∙ (λ i. one_part name (front_plain path) i ++ some.2 i))
        ∙ by_below (has_below m name) refl some.0 some.1 some.2 (deeper (inside name m) rest shorter)
        ∙ ap (entry_at kind m) whole
      where
        by_below : (b : Bool) → has_below m name ≡ b → (c : Bytes) (cs : List Bytes) → components rest ≡ c ∷ cs → at_names kind (inside name m) (components rest) ≡ entry_at kind (inside name m) rest
            → cond (has_below m name) (at_names kind (inside name m) (c ∷ cs)) None ≡ entry_at kind m (name ++ 47 ∷ rest)
        by_below true e c cs parts inner =
            ap (λ b. cond b (at_names kind (inside name m) (c ∷ cs)) None) e
            ∙ ap (at_names kind (inside name m)) (sym parts) ∙ inner ∙ entry_inside kind m name rest
        by_below false e c cs parts inner =
            ap (λ b. cond b (at_names kind (inside name m) (c ∷ cs)) None) e ∙ sym (none_deeper kind m name rest e)

pub at_path : (kind : Kind) (m : FileMap) (path : Bytes) → at_names kind m (components path) ≡ entry_at kind m path
at_path kind m path = at_within (suc (length path)) kind m path (omega arith)

-- no component has a slash
pub parts_plain : (path name : Bytes) → In name (components path) → has_byte 47 name ≡ false
parts_plain [] name (inl e) = ap (has_byte 47) e
parts_plain [] name (inr i) = absurd i
parts_plain (b ∷ path) name i = go (b == 47) refl (some_parts path) (λ n j. parts_plain path n j) i
  where
    go : (t : Bool) → (b == 47) ≡ t → ((c : Bytes) × (cs : List Bytes) × (components path ≡ c ∷ cs)) → ((n : Bytes) → In n (components path) → has_byte 47 n ≡ false)
        → In name (cond t ([] ∷ components path) (onto_first b (components path))) → has_byte 47 name ≡ false
    go true e some rest (inl k) = ap (has_byte 47) k
    go true e some rest (inr j) = rest name j
    go false e (c, cs, parts) rest j = onto (subst (λ ps. In name (onto_first b ps)) parts j)
      where
        onto : In name ((b ∷ c) ∷ cs) → has_byte 47 name ≡ false
        onto (inl k) = ap (has_byte 47) k ∙ or_from (b == 47) (has_byte 47 c) e (rest c (subst (In c) (sym parts) (inl refl)))
        onto (inr l) = rest name (subst (In name) (sym parts) (inr l))

-- ---- one name

leaf_named : (kind : Kind) (name : Bytes) (content : Content) → named_by (file_item kind name content) ≡ Some (mode_of content.kind, blob_id kind content.bytes)
leaf_named kind name content = go content.kind
  where
    go : (k : FileKind) → named_as (kind_of (kind_value (entry_kind k))) (blob_id kind content.bytes) ≡ Some (mode_of k, blob_id kind content.bytes)
    go PlainFile = refl
    go Exec = refl
    go Link = refl

-- what the root's entry of a name names
pub one_name : (kind : Kind) (m : FileMap) → IsFileMap m → (name : Bytes) → has_byte 47 name ≡ false → option_and_then named_by (named name (items kind m)) ≡ entry_at kind m name
one_name kind m map name plain = elim (named_in kind tree_of name (tree_entries (entries m))) [
  | inl (none, others) ↦ ap (option_and_then named_by) none
      ∙ sym (λ i. cond (no_folder others i) (Some (codes "40000", folder_id kind (inside name m))) (option_map (λ (content : Content). (mode_of content.kind, blob_id kind content.bytes)) (no_file others i)))
  | inr (t, i, same, found) ↦ ap (option_and_then named_by) found ∙ by_entry t i same
]
  where
    tree_of : List Entry → Bytes
    tree_of below = root_within (longest (keys m)) kind below

    no_folder : ((t : TreeEntry) → In t (tree_entries (entries m)) → name_of t ≡ name → ⊥) → has_below m name ≡ false
    no_folder others = elim (either (has_below m name)) [
      | inl k ↦
          let some = below_some m name k in
          let folder = has_folder (entries m) name some.0 some.1 (get_in m (name ++ 47 ∷ some.0) some.1 some.2) plain in
          absurd (others (FolderEntry name folder.0) folder.1 refl)
      | inr k ↦ k
    ]

    no_file : ((t : TreeEntry) → In t (tree_entries (entries m)) → name_of t ≡ name → ⊥) → get m name ≡ None
    no_file others = none_if (get m name) (λ c e. others (FileEntry name c) (has_leaf (entries m) name c plain (get_in m name c e)) refl)

    by_entry : (t : TreeEntry) → In t (tree_entries (entries m)) → name_of t ≡ name → named_by (item_of kind tree_of t) ≡ entry_at kind m name
    by_entry (FileEntry path content) i same =
        let at : get m name ≡ Some content = ap (get m) (sym same) ∙ in_get m path content (leaf_in (entries m) path content i) in
        leaf_named kind path content
        ∙ sym (λ j. cond (bare at j) (Some (codes "40000", folder_id kind (inside name m))) (option_map (λ (content : Content). (mode_of content.kind, blob_id kind content.bytes)) (at j)))
      where
        bare : get m name ≡ Some content → has_below m name ≡ false
        bare at = elim (either (has_below m name)) [
          | inl k ↦ let some = below_some m name k in clash (below_front name some.0) (map.apart name (name ++ 47 ∷ some.0) (ap is_some at) (ap is_some some.2))
          | inr k ↦ k
        ]
    by_entry (FolderEntry folder below) i same =
        let made = folder_of kind m folder below i in
        let some = made.some in
        let there : has_below m name ≡ true = some_below m name (some.0).0 (some.0).1 (ap (λ n. get m (n ++ 47 ∷ (some.0).0)) (sym same) ∙ in_get m (folder ++ 47 ∷ (some.0).0) (some.0).1 some.1) in
        ap (λ id. Some (codes "40000", id)) (made.id ∙ ap (λ n. folder_id kind (inside n m)) same)
        ∙ sym (ap (λ b. cond b (Some (codes "40000", folder_id kind (inside name m))) (option_map (λ (content : Content). (mode_of content.kind, blob_id kind content.bytes)) (get m name))) there)

pub no_leaf : {A : Type 0} (k : FileKind) → mode_of k ≡ codes "40000" → A
no_leaf PlainFile e = texts_differ _ _ refl e
no_leaf Exec e = texts_differ _ _ refl e
no_leaf Link e = texts_differ _ _ refl e

pub first_same : (a b : Bytes × Id) → Some a ≡ Some b → a.0 ≡ b.0
first_same a b e = ap (λ (p : Bytes × Id). p.0) (same_Some a b e)

pub second_same : (a b : Bytes × Id) → Some a ≡ Some b → a.1 ≡ b.1
second_same a b e = ap (λ (p : Bytes × Id). p.1) (same_Some a b e)

-- ---- from name to name

module _ (table : Table) (kind : Kind) where
  -- what was found leads to the answer by the names that are left
  abbrev pub Leads : Found → List Bytes → Option (Bytes × Id) → Type 0
  Leads (Folder id) rest answer = (m : FileMap) × IsFileMap m × HasAll (IsInTable table kind) m × (id_of id ≡ folder_id kind m) × (answer ≡ at_names kind m rest)
  Leads (File k id) [] answer = answer ≡ Some (mode_of k, id_of id)
  Leads (File k id) (name ∷ rest) answer = answer ≡ None

  pub tree_of_map : (m : FileMap) → IsFileMap m → HasAll (IsInTable table kind) m → StandsAs table (folder_id kind m) objects.Tree (Tree (items kind m))
  unfolding digest
  tree_of_map m map has = (_, has.itself.stands, record { of_kind = refl; spelled = items_spelled kind m (plain_map m map) })

  pub from_root : (root : Id) (files : FileMap) → IsRootOf table kind files root → (id : ObjectId) → id_of id ≡ root → (path : Bytes) → Leads (Folder id) (components path) (entry_at kind files path)
  from_root root files is id same path = (files, is.map, has_all (IsInTable table kind) files is.trees, same ∙ is.id, sym (at_path kind files path))

  pub by_case : (m : FileMap) (name : Bytes) → (has_below m name ≡ true) ⊎ (has_below m name ≡ false)
  by_case m name = either (has_below m name)

  pub folder_entry : (m : FileMap) (name : Bytes) → has_below m name ≡ true → entry_at kind m name ≡ Some (codes "40000", folder_id kind (inside name m))
  folder_entry m name h = ap (λ b. cond b (Some (codes "40000", folder_id kind (inside name m))) (option_map (λ (content : Content). (mode_of content.kind, blob_id kind content.bytes)) (get m name))) h

  pub file_entry : (m : FileMap) (name : Bytes) → has_below m name ≡ false → entry_at kind m name ≡ option_map (λ (content : Content). (mode_of content.kind, blob_id kind content.bytes)) (get m name)
  file_entry m name h = ap (λ b. cond b (Some (codes "40000", folder_id kind (inside name m))) (option_map (λ (content : Content). (mode_of content.kind, blob_id kind content.bytes)) (get m name))) h

  -- what is found in a folder is what its files have there
  named_there : (id : ObjectId) (next : Option Found) (name : Bytes) (m : FileMap) → IsFileMap m → HasAll (IsInTable table kind) m → id_of id ≡ folder_id kind m → has_byte 47 name ≡ false → StepsBelow table (Folder id) name next
      → option_map entry_of next ≡ entry_at kind m name
  named_there id next name m fits has same plain step =
      step (items kind m) (subst (λ i. StandsAs table i objects.Tree (Tree (items kind m))) (sym same) (tree_of_map m fits has)) ∙ one_name kind m fits name plain

  none_below : (m : FileMap) (name : Bytes) (rest : List Bytes) → entry_at kind m name ≡ None → at_names kind m (name ∷ rest) ≡ None
  none_below m name [] none = none
  none_below m name (next ∷ more) none = elim (by_case m name) [
    | inl h ↦ none_is_some (codes "40000", folder_id kind (inside name m)) (sym none ∙ folder_entry m name h)
    | inr h ↦ ap (λ b. cond b (at_names kind (inside name m) (next ∷ more)) None) h
  ]

  -- nothing has the name, and so nothing is at the names that are left
  pub leads_none : (id : ObjectId) (name : Bytes) (rest : List Bytes) (answer : Option (Bytes × Id)) → (leads : Leads (Folder id) (name ∷ rest) answer) → None ≡ entry_at kind leads.0 name → answer ≡ None
  leads_none id name rest answer (m, fits, has, same, is) none = is ∙ none_below m name rest (sym none)

  -- what has the name leads on
  pub leads_on : (id : ObjectId) (next : Found) (name : Bytes) (rest : List Bytes) (answer : Option (Bytes × Id)) → (leads : Leads (Folder id) (name ∷ rest) answer) → Some (entry_of next) ≡ entry_at kind leads.0 name → Leads next rest answer
  leads_on id next name rest answer (m, fits, has, same, is) there = go next rest is there (by_case m name)
    where
      no_content : {A : Type 0} (o : Option Content) (i : Id) → ◌≡◌ {A = Option (Bytes × Id)} (Some (codes "40000", i)) (option_map (λ (content : Content). (mode_of content.kind, blob_id kind content.bytes)) o) → A
      no_content None i e = none_is_some (codes "40000", i) (sym e)
      no_content (Some c) i e = no_leaf c.kind (sym (first_same (codes "40000", i) (mode_of c.kind, blob_id kind c.bytes) e))

      go : (next : Found) (rest : List Bytes) → answer ≡ at_names kind m (name ∷ rest) → Some (entry_of next) ≡ entry_at kind m name → (has_below m name ≡ true) ⊎ (has_below m name ≡ false) → Leads next rest answer
      go (Folder inner) rest is e (inl h) =
          let some = below_some m name h in (
            inside name m,
            inside_map name m fits,
            inside_has (IsInTable table kind) m has (name ++ 47 ∷ some.0) some.1 name (get_in m (name ++ 47 ∷ some.0) some.1 some.2) (is_beginning name some.0),
            second_same (codes "40000", id_of inner) (codes "40000", folder_id kind (inside name m)) (e ∙ folder_entry m name h),
            is ∙ on rest,
          )
        where
          on : (rest : List Bytes) → at_names kind m (name ∷ rest) ≡ at_names kind (inside name m) rest
          on [] = folder_entry m name h
          on (more ∷ others) = ap (λ b. cond b (at_names kind (inside name m) (more ∷ others)) None) h
      go (Folder inner) rest is e (inr h) = no_content (get m name) (id_of inner) (e ∙ file_entry m name h)
      go (File k inner) rest is e (inl h) = no_leaf k (first_same (mode_of k, id_of inner) (codes "40000", folder_id kind (inside name m)) (e ∙ folder_entry m name h))
      go (File k inner) [] is e (inr h) = is ∙ sym e
      go (File k inner) (more ∷ others) is e (inr h) = is ∙ ap (λ b. cond b (at_names kind (inside name m) (more ∷ others)) None) h

  pub step_none : (found : Found) (name : Bytes) (rest : List Bytes) (answer : Option (Bytes × Id)) → has_byte 47 name ≡ false → Leads found (name ∷ rest) answer → StepsBelow table found name None → answer ≡ None
  step_none (File k id) name rest answer plain leads step = leads
  step_none (Folder id) name rest answer plain (m, fits, has, same, is) step =
      leads_none id name rest answer (m, fits, has, same, is) (named_there id None name m fits has same plain step)

  pub step_some : (found next : Found) (name : Bytes) (rest : List Bytes) (answer : Option (Bytes × Id)) → has_byte 47 name ≡ false → Leads found (name ∷ rest) answer → StepsBelow table found name (Some next)
      → Leads next rest answer
  step_some (File k id) next name rest answer plain leads step = none_is_some next (sym step)
  step_some (Folder id) next name rest answer plain (m, fits, has, same, is) step =
      leads_on id next name rest answer (m, fits, has, same, is) (named_there id (Some next) name m fits has same plain step)

  -- the folder of files is their root's
  pub root_there : (id : ObjectId) (rest : List Bytes) (answer : Option (Bytes × Id)) → (leads : Leads (Folder id) rest answer) → IsRootOf table kind leads.0 (id_of id)
  root_there id rest answer (m, fits, has, same, is) = record { map = fits; trees = all_values (IsInTable table kind) m has; id = same }

  -- a tree in the table isn't reported as broken
  pub own : (honest may_fail : Type 0) → honest → (found : Found) (rest : List Bytes) (answer : Option (Bytes × Id)) → Leads found rest answer → (error : ReadError)
      → ((tree : ObjectId) × (found ≡ Folder tree) × TreeFault honest may_fail table (id_of tree) error) → OwnFault may_fail error
  own honest may_fail h found rest answer leads Failed (tree, same, fault) = fault
  own honest may_fail h found rest answer leads Memory (tree, same, fault) = tt
  own honest may_fail h found rest answer leads (Broken oid) (tree, same, fault) = go (subst (λ f. Leads f rest answer) same leads)
    where
      go : Leads (Folder tree) rest answer → ⊥
      go (m, fits, has, id, is) = fault.1 h (items kind m) (subst (λ i. StandsAs table i objects.Tree (Tree (items kind m))) (sym id) (tree_of_map m fits has))

-- ---- names as they are read

module _ (names : List (Bor (List ℕ))) (i : ℕ) (d : Bor (List ℕ)) (within : i < length names) where
  pub next_name : texts (drop i names) ≡ (get_or names i d).now ∷ texts (drop (i + 1) names)
  next_name =
      let next : suc i ≡ i + 1 = omega arith in
      ap texts (drop-cons names i d within ∙ ap (λ n. get_or names i d ∷ drop n names) next)

pub in_texts : (names : List (Bor (List ℕ))) (i : ℕ) (d : Bor (List ℕ)) → i < length names → In (get_or names i d).now (texts names)
in_texts [] i d within = absurd (omega arith)
in_texts (name ∷ names) zero d within = inl refl
in_texts (name ∷ names) (suc i) d within = inr (in_texts names i d (omega arith))

pub name_is_plain : (path : Bytes) (names : List (Bor (List ℕ))) → texts names ≡ components path → (i : ℕ) (d : Bor (List ℕ)) → i < length names → has_byte 47 (get_or names i d).now ≡ false
name_is_plain path names same i d within = parts_plain path (get_or names i d).now (subst (In (get_or names i d).now) same (in_texts names i d within))
