-- What is at several paths of a file map, by the entries to which their names lead.
use Rattle.std.proofs.Common.{◌≡◌, ◌∙◌, refl, sym, ap, subst, inl, inr, ◌⊎◌, ℕ, Bool, true, false, cond, List, [], ◌∷◌, ◌++◌, map, Bor, Option, Some, None, Result, Ok, Err, option_map, option_and_then, codes, ◌==◌, ◌/◌, ◌%◌, arith, suc, if◌then◌else◌}
use Rattle.std.specs.Bool.{MatchBool}
use Rattle.std.specs.FinMap.{get}
use Rattle.std.specs.List.{All, AllZip}
use Rattle.std.proofs.lemmas.Option.{same_Some}
use Rattle.gix_hash.specs.Id.{Id, id_of}
use Rattle.gix_hash.specs.declared.kind.Kind.{Kind}
use Rattle.gix_hash.specs.declared.object_id.ObjectId.{ObjectId}
use Rattle.gix_object_lines.specs.declared.decode.Error as decode
use Rattle.gix_object_lines.specs.declared.kind.Kind.TheVariants as objects
use Rattle.gix_object_tree.specs.Entry.{Item, SpellsEntries, SpellsTree}
use Rattle.gix_object_tree.specs.Mode.{kind_of, file_kind, is_tree_value}
use Rattle.gix_object_tree.specs.ModeText.{Mode, mode_of}
use Rattle.gix_object_tree.specs.Order.{is_tree}
use Rattle.gix_object_tree.specs.Reading.{Place}
use Rattle.gix_object_tree.specs.declared.tree.mode.EntryKind.{EntryKind}
use Rattle.gix_object_tree.specs.declared.tree.mode.EntryKind.TheVariants as entries
use Rattle.gix_object_tree.proofs.Spelled.{must_be, read_first}
use Rattle.gix_object_tree.proofs.TreeLaws.{one_tree}
use Rattle.gix_object_lookup.specs.Existing.{Stands, KindFault}
use Rattle.gix_object_find.specs.Values.{StandsAs}
use Rattle.gix_object_lookup.specs.Path.{FindsFirst, LackName, IsNamedBy, IsBelow, Follows}
use Rattle.gix_object_lookup.specs.Table.{Table, Object}
use Rattle.gix_object_lookup.specs.declared.find.Error.TheVariants as looked_up
use Rattle.gix_object_lookup.specs.declared.find.existing_iter.Error.TheVariants as not_given
use Rattle.gix_object_any.specs.Object.{Tree}
use Rattle.gix_object_nodes.specs.Files.{named}
use Rattle.gix_traverse_tree.specs.AtPaths.{Answer, root_item, told_of, TellsAt, BeginsOne, IsTreeAbove, IsUnread, EntriesFault}
use Rattle.gix_traverse_tree.specs.declared.error.Error as walking
use Rattle.gix_traverse_tree.specs.declared.error.Error.TheVariants as walked
use Rattle.history_model.specs.Bytes.{Bytes, has_byte}
use Rattle.history_model.specs.FileMap.{FileMap, Content, IsFileMap, components, has_below, inside}
use Rattle.history_model.specs.Objects.{folder_id, blob_id, mode_of as plain_mode, entry_at}
use Rattle.history_model.specs.declared.FileKind.TheVariants.{File as PlainFile, Exec, Link}
use Rattle.history_model.proofs.WholeLists.{In, none_is_some}
use Rattle.history_model.proofs.WholePaths.{is_beginning}
use Rattle.history_model.proofs.WholeRoots.{HasAll, inside_has, has_all}
use Rattle.history_model.proofs.WholeStores.{get_in}
use Rattle.history_files.specs.Unfolding.{IsInTable}
use Rattle.history_files.specs.Reading.{IsRootOf, OwnFault, StopsAtPaths, named_by, named_as, told_entry, as_walked, as_read}
use Rattle.history_files.specs.declared.error.ReadError.{ReadError}
use Rattle.history_files.specs.declared.error.ReadError.TheVariants.{Failed, Broken, Memory}
use Rattle.history_files.proofs.AtNames.{at_names, at_path, below_some, by_case, file_entry, first_same, folder_entry, no_leaf, one_name, parts_plain, second_same, tree_of_map}
use Rattle.history_files.proofs.Items.{items}
use Rattle.history_files.proofs.Unfolded.{inside_map}
use Rattle.gix_traverse_tree.proofs.Numbering.{name_cases}

-- ---- the first entry of a name

named_lacks : (name : Bytes) (all : List Item) → LackName name all → named name all ≡ None
named_lacks name [] lacks = refl
named_lacks name (item ∷ all) lacks = elim (name_cases name item.name) [
  | inl is ↦ absurd (lacks 0 item (omega arith) (sym is.0))
  | inr isnt ↦
      ap (λ b. cond b (Some item) (named name all)) isnt.1
      ∙ named_lacks name all (λ k d lt. lacks (suc k) d (let less = lt in omega arith))
]

named_front : (name : Bytes) (front : List Item) (item : Item) (more : List Item) → LackName name front → item.name ≡ name → named name ((front ++ item ∷ []) ++ more) ≡ Some item
named_front name [] item more lacks is = elim (name_cases name item.name) [
  | inl same ↦ ap (λ b. cond b (Some item) (named name more)) same.1
  | inr differs ↦ absurd (differs.0 (sym is))
]
named_front name (i ∷ front) item more lacks is = elim (name_cases name i.name) [
  | inl same ↦ absurd (lacks 0 item (omega arith) (sym same.0))
  | inr differs ↦
      ap (λ b. cond b (Some i) (named name ((front ++ item ∷ []) ++ more))) differs.1
      ∙ named_front name front item more (λ k d lt. lacks (suc k) d (let less = lt in omega arith)) is
]

first_is : (tree : Place) (name : Bytes) (all : List Item) (next : Option Item) → SpellsTree tree.kind tree.input all → FindsFirst tree name next → next ≡ named name all
first_is tree name all None spelled (items, whole, lacks) =
    sym (ap (named name) (one_tree tree.kind tree.input all items spelled whole) ∙ named_lacks name items lacks)
first_is tree name all (Some item) spelled (front, rest, read, lacks, is) =
    let later = read_first tree.kind tree.input (front ++ item ∷ []) rest all read spelled in
    sym (ap (named name) later.1 ∙ named_front name front item later.0 lacks is)

-- ---- what entries name

-- the kind by a mode's first bits, if it isn't a tree's
abbrev kind_but_tree : ℕ → EntryKind
kind_but_tree v = if v / 4096 == 8 then file_kind v else if v / 4096 == 10 then entries.Link else entries.Commit

tree_kind : (v : ℕ) → is_tree_value v ≡ true → kind_of v ≡ entries.Tree
tree_kind v e = ap (λ b. if b then entries.Tree else kind_but_tree v) e

tree_named : (item : Item) → is_tree item ≡ true → named_by item ≡ Some (codes "40000", item.id)
tree_named item e = ap (λ k. named_as k item.id) (tree_kind item.mode.value e)

not_tree : (b : EntryKind) → (b ≡ entries.Tree → ⊥) → (i id : Id) → named_as b i ≡ Some (codes "40000", id) → ⊥
not_tree entries.Tree other i id e = other refl
not_tree entries.Blob other i id e = no_leaf PlainFile (first_same (plain_mode PlainFile, i) (codes "40000", id) e)
not_tree entries.BlobExecutable other i id e = no_leaf Exec (first_same (plain_mode Exec, i) (codes "40000", id) e)
not_tree entries.Link other i id e = no_leaf Link (first_same (plain_mode Link, i) (codes "40000", id) e)
not_tree entries.Commit other i id e = none_is_some (codes "40000", id) e

no_tree_kind : (v : ℕ) → is_tree_value v ≡ false → kind_of v ≡ entries.Tree → ⊥
no_tree_kind v e same = other (v / 4096 == 8) (v / 64 % 2 == 1) (v / 4096 == 10) (sym (ap (λ b. if b then entries.Tree else kind_but_tree v) e) ∙ same)
  where
    other : (a b c : Bool) → (if a then (if b then entries.BlobExecutable else entries.Blob) else if c then entries.Link else entries.Commit) ≡ entries.Tree → ⊥
    other true true c k = cc
    other true false c k = cc
    other false b true k = cc
    other false b false k = cc

no_tree_named : (item : Item) (id : Id) → is_tree item ≡ false → named_by item ≡ Some (codes "40000", id) → ⊥
no_tree_named item id e = not_tree (kind_of item.mode.value) (no_tree_kind item.mode.value e) item.id id

-- ---- from name to name

module _ (table : Table) (kind : Kind) (H : Type 0) (h : H) where
  after_none : (rest : List Bytes) (found : Option Item) → Follows H table None rest found → found ≡ None
  after_none [] found e = e
  after_none (name ∷ rest) found e = e

  -- the entry is that of these files' tree
  abbrev IsFolderOf : Item → FileMap → Type 0
  IsFolderOf item m = IsFileMap m × HasAll (IsInTable table kind) m × (item.id ≡ folder_id kind m)

  -- the tree of such an entry spells the items of the files
  spelled_in : (m : FileMap) (item : Item) → IsFolderOf item m → (tree : Place) → IsNamedBy H table item tree → SpellsTree tree.kind tree.input (items kind m)
  spelled_in m item (fits, has, same) tree named_tree =
      let there = subst (λ i. StandsAs table i objects.Tree (Tree (items kind m))) (sym same) (tree_of_map table kind m fits has) in
      let named_here = named_tree h in
      let content = ap (λ (x : Object). x.content) (same_Some _ _ (sym there.1 ∙ named_here.1)) in
      subst (λ k. SpellsTree k tree.input (items kind m)) (sym named_here.0)
      (subst (λ c. SpellsTree item.id.kind c (items kind m)) content there.2.spelled)

  one_next : (m : FileMap) (item : Item) → IsFolderOf item m → is_tree item ≡ true → (name : Bytes) (next : Option Item) → IsBelow H table item name next → next ≡ named name (items kind m)
  one_next m item of_map tree name next below =
      let found = subst (λ b. MatchBool b ((t : Place) × IsNamedBy H table item t × FindsFirst t name next) (next ≡ None)) tree below in
      first_is found.0 name (items kind m) next (spelled_in m item of_map found.0 found.1) found.2

  none_below : (m : FileMap) (name : Bytes) (rest : List Bytes) → entry_at kind m name ≡ None → at_names kind m (name ∷ rest) ≡ None
  none_below m name [] none = none
  none_below m name (next ∷ more) none = elim (by_case table kind m name) [
    | inl there ↦ none_is_some (codes "40000", folder_id kind (inside name m)) (sym none ∙ folder_entry table kind m name there)
    | inr not_there ↦ ap (λ b. cond b (at_names kind (inside name m) (next ∷ more)) None) not_there
  ]

  no_content : {A : Type 0} (o : Option Content) (i : Id) → ◌≡◌ {A = Option (Bytes × Id)} (Some (codes "40000", i)) (option_map (λ (content : Content). (plain_mode content.kind, blob_id kind content.bytes)) o) → A
  no_content None i e = none_is_some (codes "40000", i) (sym e)
  no_content (Some c) i e = no_leaf c.kind (sym (first_same (codes "40000", i) (plain_mode c.kind, blob_id kind c.bytes) e))

  -- what is found is what the files have there, and a tree that is found is one of theirs
  abbrev IsThere : FileMap → List Bytes → Option Item → Type 0
  IsThere m rest found = (option_and_then named_by found ≡ at_names kind m rest)
      × ((last : Item) → found ≡ Some last → is_tree last ≡ true → (inner : FileMap) × IsFolderOf last inner)

  follow : (rest : List Bytes) → ((name : Bytes) → In name rest → has_byte 47 name ≡ false) → (m : FileMap) (item : Item) → IsFolderOf item m → is_tree item ≡ true → (found : Option Item) → Follows H table (Some item) rest found → IsThere m rest found
  follow [] plain m item of_map tree found e = (
    ap (option_and_then named_by) e ∙ tree_named item tree ∙ ap (λ i. Some (codes "40000", i)) of_map.2,
    λ last is of_tree. (m, (of_map.0, of_map.1, ap (λ (x : Item). x.id) (same_Some _ _ (sym is ∙ e)) ∙ of_map.2)),
  )
  follow (name ∷ rest) plain m item of_map tree found (next, below, later) =
      go (λ inner i of_inner i_tree more. follow rest (λ n k. plain n (inr k)) inner i of_inner i_tree found more) next later (ap (option_and_then named_by) (one_next m item of_map tree name next below) ∙ one_name kind m of_map.0 name (plain name (inl refl)))
    where
      nothing : found ≡ None → entry_at kind m name ≡ None → IsThere m (name ∷ rest) found
      nothing none at = (ap (option_and_then named_by) none ∙ sym (none_below m name rest at), λ last is of_tree. none_is_some last (sym none ∙ is))

      go : ((inner : FileMap) (i : Item) → IsFolderOf i inner → is_tree i ≡ true → Follows H table (Some i) rest found → IsThere inner rest found)
          → (next : Option Item) → Follows H table next rest found → option_and_then named_by next ≡ entry_at kind m name → IsThere m (name ∷ rest) found
      go deeper None later entry = nothing (after_none rest found later) (sym entry)
      go deeper (Some i) later entry = by_kind (is_tree i) refl (by_case table kind m name)
        where
          on : (rest : List Bytes) → has_below m name ≡ true → at_names kind m (name ∷ rest) ≡ at_names kind (inside name m) rest
          on [] there = folder_entry table kind m name there
          on (more ∷ others) there = ap (λ b. cond b (at_names kind (inside name m) (more ∷ others)) None) there

          last_name : (rest : List Bytes) → is_tree i ≡ false → Follows H table (Some i) rest found → has_below m name ≡ false → IsThere m (name ∷ rest) found
          last_name [] flat e none = (
            ap (option_and_then named_by) e ∙ entry,
            λ last is of_tree. absurd (let same = ap (λ (x : Item). is_tree x) (same_Some _ _ (sym is ∙ e)) in cc),
          )
          last_name (more ∷ others) flat (after, blocked, end) none =
              let stop = subst (λ b. MatchBool b ((t : Place) × IsNamedBy H table i t × FindsFirst t more after) (after ≡ None)) flat blocked in
              let gone = after_none others found (subst (λ o. Follows H table o others found) stop end) in (
                ap (option_and_then named_by) gone ∙ sym (ap (λ b. cond b (at_names kind (inside name m) (more ∷ others)) None) none),
                λ last is of_tree. none_is_some last (sym gone ∙ is),
              )

          by_kind : (b : Bool) → is_tree i ≡ b → (has_below m name ≡ true) ⊎ (has_below m name ≡ false) → IsThere m (name ∷ rest) found
          by_kind true of_tree (inl there) =
              let some = below_some m name there in
              let same = second_same (codes "40000", i.id) (codes "40000", folder_id kind (inside name m)) (sym (tree_named i of_tree) ∙ entry ∙ folder_entry table kind m name there) in
              let inner = deeper (inside name m) i (
                inside_map name m of_map.0,
                inside_has (IsInTable table kind) m of_map.1 (name ++ 47 ∷ some.0) some.1 name (get_in m (name ++ 47 ∷ some.0) some.1 some.2) (is_beginning name some.0),
                same,
              ) of_tree later in
              (inner.0 ∙ sym (on rest there), inner.1)
          by_kind true of_tree (inr none) = no_content (get m name) i.id (sym (tree_named i of_tree) ∙ entry ∙ file_entry table kind m name none)
          by_kind false flat (inl there) = absurd (no_tree_named i (folder_id kind (inside name m)) flat (entry ∙ folder_entry table kind m name there))
          by_kind false flat (inr none) = last_name rest flat later none

  -- ---- from the root

  module _ (files : FileMap) (root : Id) (is : IsRootOf table kind files root) where
    root_of : IsFolderOf (root_item root) files
    root_of = (is.map, has_all (IsInTable table kind) files is.trees, is.id)

    told_is : (answer : Option Answer) (found : Option Item) → option_map told_of answer ≡ option_map (λ (item : Item). (item.mode, item.id)) found → told_entry answer ≡ option_and_then named_by found
    told_is None None e = refl
    told_is None (Some item) e = cc
    told_is (Some answer) None e = cc
    told_is (Some answer) (Some item) e = ap (λ (p : Mode × Id). named_as (kind_of p.0.value) p.1) (same_Some (told_of answer) (item.mode, item.id) e)

    pub each_told : (paths : List (Bor Bytes)) (answers : List (Option Answer)) → AllZip (TellsAt H table root) (map (λ path. components path.now) paths) answers
        → map told_entry answers ≡ map (λ path. entry_at kind files path.now) paths
    each_told [] [] told = refl
    each_told [] (answer ∷ answers) told = absurd told
    each_told (path ∷ paths) [] told = absurd told
    each_told (path ∷ paths) (answer ∷ answers) ((found, leads, same), told) =
        let here = follow (components path.now) (parts_plain path.now) files (root_item root) root_of refl found leads in
        let first : told_entry answer ≡ entry_at kind files path.now = told_is answer found same ∙ here.0 ∙ at_path kind files path.now in
        λ i. first i ∷ each_told paths answers told i

    in_front : (front : List Bytes) (name : Bytes) (rest : List Bytes) (n : Bytes) → In n front → In n (front ++ name ∷ rest)
    in_front [] name rest n i = absurd i
    in_front (x ∷ front) name rest n (inl e) = inl e
    in_front (x ∷ front) name rest n (inr i) = inr (in_front front name rest n i)

    begins_plain : (paths : List (Bor Bytes)) (front : List Bytes) → BeginsOne (map (λ path. components path.now) paths) front → (name : Bytes) → In name front → has_byte 47 name ≡ false
    begins_plain [] front begins name i = absurd begins
    begins_plain (path ∷ paths) front (inl (next, rest, whole)) name i =
        parts_plain path.now name (subst (In name) whole (in_front front next rest name i))
    begins_plain (path ∷ paths) front (inr begins) name i = begins_plain paths front begins name i

    -- a tree above some of the paths is one of the files'
    of_above : (paths : List (Bor Bytes)) (front : List Bytes) → (above : IsTreeAbove H table root (map (λ path. components path.now) paths) front) → (inner : FileMap) × IsFolderOf above.item inner
    of_above paths front above =
        (follow front (begins_plain paths front above.begins) files (root_item root) root_of refl (Some above.item) above.leads).1 above.item refl above.tree

    pub own_at : (M : Type 0) (top : ObjectId) (paths : List (Bor Bytes)) (error : walking.Error) → EntriesFault H M table root (map (λ path. components path.now) paths) error → OwnFault M (as_walked top error)
    own_at M top paths (walked.Find (not_given.Find looked_up.Failed)) (front, above, fault) = fault
    own_at M top paths (walked.Find (not_given.Find looked_up.Memory)) (front, above, fault) = tt
    own_at M top paths (walked.Find (not_given.NotFound oid)) (front, above, fault) =
        let (inner, (fits, has, same)) = of_above paths front above in
        let there = subst (λ i. StandsAs table i objects.Tree (Tree (items kind inner))) (sym same) (tree_of_map table kind inner fits has) in
        none_is_some _ (sym (fault.1 h) ∙ there.1)
    own_at M top paths (walked.Find (not_given.ObjectKind oid actual expected)) (front, above, fault) =
        let (inner, (fits, has, same)) = of_above paths front above in
        let there = subst (λ i. StandsAs table i objects.Tree (Tree (items kind inner))) (sym same) (tree_of_map table kind inner fits has) in
        fault.2 (same_Some _ _ (sym (fault.3 h) ∙ ap (λ (o : Option Object). option_map (λ (x : Object). x.kind) o) there.1))
    own_at M top paths walked.Cancelled fault = fault
    own_at M top paths (walked.ObjectDecode cause) (front, above, tree, named_tree, (behind, left)) =
        let (inner, of_map) = of_above paths front above in
        let spelled = spelled_in inner above.item of_map tree named_tree in
        let later = read_first tree.kind tree.input behind.items behind.rest (items kind inner) behind.spelled spelled in
        must_be tree.kind behind.rest later.0 left later.2 behind.left
    own_at M top paths walked.Cycle fault = fault
    own_at M top paths walked.Memory fault = tt
