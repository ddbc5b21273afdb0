-- All trees that an editor hands out are those of folders of the edited files, in an order of which each beginning is closed.
use Rattle.std.proofs.Common.{◌≡◌, ◌≢◌, true, false, List, [], ◌∷◌, ◌++◌, map, refl, sym, ◌∙◌, ap, subst, inl, inr, ◌⊎◌, Option, Some, None, Contains, append_assoc}
use Rattle.std.specs.Prelude.{⊤}
use Rattle.std.specs.List.{AllByRecursion, list_any}
use Rattle.gix_hash.specs.Id.{id_of}
use Rattle.gix_hash.specs.declared.kind.Kind.{Kind}
use Rattle.gix_object_tree.specs.Writing as writing
use Rattle.gix_object_lookup.specs.Table.{Table}
use Rattle.gix_object_editor.specs.declared.tree.editor.state.Editor.{Editor}
use Rattle.gix_object_nodes.specs.declared.node.Slot.{Slot}
use Rattle.gix_object_editor.specs.Editor.{EachEntryHas, IsAsRead, IsChanged, files_of}
use Rattle.gix_object_editor.specs.Entries.{EachHas}
use Rattle.gix_object_editor.specs.Stored.{HasStored}
use Rattle.gix_object_nodes.specs.Files.{Trees, is_null, through}
use Rattle.gix_object_nodes.specs.Marks.{Marks, due, is_due, marks_of, slot_if}
use Rattle.gix_object_nodes.specs.Nodes.{Slots, files_of_node, leaf_in, slots_of}
use Rattle.gix_object_nodes.specs.Written.{EachBehind, HandedOut, IsHandedOut}
use Rattle.gix_object_nodes.proofs.Due.{due_files}
use Rattle.history_model.specs.FileMap.{FileMap, IsFileMap, folders_of}
use Rattle.history_model.specs.Objects.{digest, folder_id, tree_text}
use Rattle.history_model.proofs.WholeLists.{In, either, in_all, in_either, in_left, none_is_some, of_map}
use Rattle.history_model.proofs.WholeSteps.{in_contains}
use Rattle.history_files.specs.Editing.{AreGiven, AreTreesOf, HasTreeOf}
use Rattle.history_files.specs.Entries.{names_only}
use Rattle.history_files.specs.Handing.{AreKept, HasWritten, IsTextOf}
use Rattle.history_files.specs.Unfolding.{IsUnfolded}
use Rattle.history_files.specs.declared.trees.EditedFiles.{EditedFiles}
use Rattle.history_files.specs.declared.trees.EditedTree.{EditedTree}
use Rattle.history_files.proofs.Changes.{same_unfolded}
use Rattle.history_files.proofs.Handed.{IsInner, IsTreeKnown, file_of_items, folder, next_known, of_all}
use Rattle.history_files.proofs.Inside.{folder_among, folder_at}
use Rattle.history_files.proofs.Items.{items, items_root}
use Rattle.history_files.proofs.Parsed.{has_stored, trees_in}
use Rattle.std.proofs.lemmas.List.{append-nil}
use Rattle.std.proofs.lemmas.Option.{same_Some}
use Rattle.history_model.proofs.NameLemmas.{some_or}
use Rattle.std.proofs.lemmas.Bool.{or_from}

-- ---- lists

pub map_both : {X Y : Type 0} (f : X → Y) (xs ys : List X) → map f (xs ++ ys) ≡ map f xs ++ map f ys
map_both f [] ys = refl
map_both f (x ∷ xs) ys = ap (λ zs. f x ∷ zs) (map_both f xs ys)

-- a cut of a list's images, as a cut of the list
record IsCut {X Y : Type 0} (f : X → Y) (xs : List X) (first : List Y) (y : Y) : Type 0 where
  before : List X
  at : X
  behind : List X
  cut : xs ≡ before ++ at ∷ behind
  firsts : map f before ≡ first
  is : f at ≡ y

cut_map : {X Y : Type 0} (f : X → Y) (xs : List X) (first : List Y) (y : Y) (rest : List Y) → map f xs ≡ first ++ y ∷ rest → IsCut f xs first y
cut_map f [] [] y rest e = cc
cut_map f [] (z ∷ first) y rest e = cc
cut_map f (x ∷ xs) [] y rest e = record { before = []; at = x; behind = xs; cut = refl; firsts = refl; is = cc }
cut_map f (x ∷ xs) (z ∷ first) y rest e =
    let tails : map f xs ≡ first ++ y ∷ rest = cc in
    let head : f x ≡ z = cc in
    let more = cut_map f xs first y rest tails in
    record { before = x ∷ more.before; at = more.at; behind = more.behind; cut = ap (λ l. x ∷ l) more.cut; firsts = λ i. head i ∷ more.firsts i; is = more.is }

each_at : {X : Type 0} (R : List X → X → Type 0) (before xs ys : List X) (x : X) (zs : List X) → EachBehind R before xs → xs ≡ ys ++ x ∷ zs → R (before ++ ys) x
each_at R before [] [] x zs each e = cc
each_at R before [] (y ∷ ys) x zs each e = cc
each_at R before (w ∷ xs) [] x zs each e =
    let same : w ≡ x = cc in
    subst (λ b. R b x) (sym (append-nil before)) (subst (R before) same each.0)
each_at R before (w ∷ xs) (y ∷ ys) x zs each e =
    let tails : xs ≡ ys ++ x ∷ zs = cc in
    let head : w ≡ y = cc in
    subst (λ b. R b x) (append_assoc before (w ∷ []) ys ∙ ap (λ z. before ++ z ∷ ys) head) (each_at R (before ++ w ∷ []) xs ys x zs each.1 tails)

split_in : {X : Type 0} (x : X) (xs : List X) → In x xs → (front : List X) × (behind : List X) × (xs ≡ front ++ x ∷ behind)
split_in x [] i = absurd i
split_in x (y ∷ xs) (inl e) = ([], xs, ap (λ z. z ∷ xs) (sym e))
split_in x (y ∷ xs) (inr i) = let rest = split_in x xs i in (y ∷ rest.0, rest.1, ap (λ l. y ∷ l) rest.2)

-- each but the last isn't empty
abbrev ButLast : List HandedOut → Type 0
ButLast [] = ⊤
ButLast (t ∷ []) = ⊤
ButLast (t ∷ u ∷ rest) = (t.items ≢ []) × ButLast (u ∷ rest)

but_last : (below : List HandedOut) (top : HandedOut) → ((c : HandedOut) → In c below → c.items ≢ []) → ButLast (below ++ top ∷ [])
but_last [] top some = tt
but_last (t ∷ []) top some = (some t (inl refl), tt)
but_last (t ∷ u ∷ below) top some = (some t (inl refl), but_last (u ∷ below) top (λ c i. some c (inr i)))

module _ (kind : Kind) (stands : List FileMap) (m : FileMap) where
  widen_known : (before more : List HandedOut) (c : HandedOut) → IsTreeKnown kind stands m before c → IsTreeKnown kind stands m (before ++ more) c
  widen_known before more c known = record {
    items_are = known.items_are;
    id_is = known.id_is;
    closed = λ h i. widen h (known.closed h i);
  }
    where
      widen : (h : FileMap) → In h (map (folder m) before) ⊎ HasTreeOf kind stands h → In h (map (folder m) (before ++ more)) ⊎ HasTreeOf kind stands h
      widen h (inl i) = inl (subst (In h) (sym (map_both (folder m) before more)) (in_left h (map (folder m) before) (map (folder m) more) i))
      widen h (inr one) = inr one

  -- a tree that is known, and whose id isn't null
  abbrev pub IsFine : List HandedOut → HandedOut → Type 0
  IsFine before t = IsTreeKnown kind stands m (before ++ t ∷ []) t × (is_null t.id ≡ false)

  -- one whose id is
  pub record HasNullTree (trees : List HandedOut) : Type 0 where
    pub tree : HandedOut
    pub among : In tree trees
    pub null : is_null tree.id ≡ true
    pub items_are : tree.items ≡ items kind (folder m tree)
    pub id_is : tree.id ≡ folder_id kind (folder m tree)

  module _ (table : Table) (trees : Trees) (stored : HasStored table trees) (folders : List FileMap) (inner : (g : FileMap) → In g folders → IsInner kind table stands g)
      (slots : Slots) (each : EachHas (names_only kind folders) slots) (fits : IsFileMap m) (is : IsUnfolded kind m (files_of_node trees slots 0)) where
    abbrev AllFine : List HandedOut → Type 0
    AllFine before = (c : HandedOut) → In c before → IsTreeKnown kind stands m before c × (c.items ≢ []) × (is_null c.id ≡ false)

    more_fine : (before : List HandedOut) (t : HandedOut) → AllFine before → IsTreeKnown kind stands m (before ++ t ∷ []) t → t.items ≢ [] → is_null t.id ≡ false → AllFine (before ++ t ∷ [])
    more_fine before t fine known some nonnull c i = go (in_either c before (t ∷ []) i)
      where
        go : In c before ⊎ In c (t ∷ []) → IsTreeKnown kind stands m (before ++ t ∷ []) c × (c.items ≢ []) × (is_null c.id ≡ false)
        go (inl j) = let here = fine c j in (widen_known before (t ∷ []) c here.0, here.1, here.2)
        go (inr (inl e)) = subst (λ x. IsTreeKnown kind stands m (before ++ t ∷ []) x × (x.items ≢ []) × (is_null x.id ≡ false)) (sym e) (known, some, nonnull)
        go (inr (inr j)) = absurd j

    pub all_known : (before rest : List HandedOut) → AllFine before → EachBehind (IsHandedOut slots) before rest → ButLast rest → ((t : HandedOut) → In t rest → t.id ≡ digest kind (tree_text (writing.tree_text t.items)))
        → EachBehind IsFine before rest ⊎ HasNullTree rest
    all_known before [] fine outs some named = inl tt
    all_known before (t ∷ rest) fine outs some named =
        let known = next_known kind table trees stored folders stands inner slots each m fits is before (λ c i. (fine c i).0) (λ c i. (fine c i).1) t outs.0 (λ c i. (fine c i).2) (named t (inl refl)) in
        elim (either (is_null t.id)) [
          | inl null ↦ inr (record { tree = t; among = inl refl; null = null; items_are = known.items_are; id_is = known.id_is })
          | inr nonnull ↦ go rest known nonnull some outs.1 (λ u i. named u (inr i)) (λ f o s n. all_known (before ++ t ∷ []) rest f o s n)
        ]
      where
        go : (rest : List HandedOut) → IsTreeKnown kind stands m (before ++ t ∷ []) t → is_null t.id ≡ false → ButLast (t ∷ rest) → EachBehind (IsHandedOut slots) (before ++ t ∷ []) rest
            → ((u : HandedOut) → In u rest → u.id ≡ digest kind (tree_text (writing.tree_text u.items)))
            → (AllFine (before ++ t ∷ []) → EachBehind (IsHandedOut slots) (before ++ t ∷ []) rest → ButLast rest → ((u : HandedOut) → In u rest → u.id ≡ digest kind (tree_text (writing.tree_text u.items)))
            → EachBehind IsFine (before ++ t ∷ []) rest ⊎ HasNullTree rest)
            → EachBehind IsFine before (t ∷ rest) ⊎ HasNullTree (t ∷ rest)
        go [] known nonnull some outs named later = inl ((known, nonnull), tt)
        go (u ∷ rest) known nonnull some outs named later = elim (later (more_fine before t fine known some.0 nonnull) outs some.1 named) [
          | inl each ↦ inl ((known, nonnull), each)
          | inr found ↦ inr (record { tree = found.tree; among = inr found.among; null = found.null; items_are = found.items_are; id_is = found.id_is })
        ]

  -- ---- as they are kept

  kept_trees : (before handed : List HandedOut) (kept : List EditedTree) → EachBehind IsFine before handed → AreKept kind handed kept → AreTreesOf kind (map (folder m) handed) kept
  kept_trees before [] [] fine are = tt
  kept_trees before [] (k ∷ kept) fine are = absurd are
  kept_trees before (t ∷ handed) [] fine are = absurd are
  kept_trees before (t ∷ handed) (k ∷ kept) fine are = (
    record {
      id = are.0 ∙ fine.0.0.id_is;
      content = are.1.content ∙ ap writing.tree_text fine.0.0.items_are ∙ items_root kind (folder m t);
      isnt_null = ap is_null are.0 ∙ fine.0.1;
    },
    kept_trees (before ++ t ∷ []) handed kept fine.1 are.2,
  )

  pub kept_named : (handed : List HandedOut) (kept : List EditedTree) → AreKept kind handed kept → (t : HandedOut) → In t handed → t.id ≡ digest kind (tree_text (writing.tree_text t.items))
  kept_named [] kept are t i = absurd i
  kept_named (u ∷ handed) [] are t i = absurd are
  kept_named (u ∷ handed) (k ∷ kept) are t (inl e) = subst (λ x. x.id ≡ digest kind (tree_text (writing.tree_text x.items))) (sym e) (sym are.0 ∙ are.1.id)
  kept_named (u ∷ handed) (k ∷ kept) are t (inr i) = kept_named handed kept are.2 t i

  pub given_trees : (below : List HandedOut) (top : HandedOut) (kept : List EditedTree) → top.path ≡ [] → EachBehind IsFine [] (below ++ top ∷ []) → AreKept kind (below ++ top ∷ []) kept
      → ((c : HandedOut) → In c below → c.items ≢ []) → AreGiven kind stands m kept
  given_trees below top kept at fine are some = record {
    below = map (folder m) below;
    own = in_all (Contains (folders_of m)) (map (folder m) below) (λ g i. own g (of_map (folder m) g below i));
    trees_are = subst (λ fs. AreTreesOf kind fs kept) whole (kept_trees [] (below ++ top ∷ []) kept fine are);
    in_order = λ first rest g e. closed first g (cut_map (folder m) (below ++ top ∷ []) first g rest (whole ∙ e));
  }
    where
      whole : map (folder m) (below ++ top ∷ []) ≡ map (folder m) below ++ m ∷ []
      whole = map_both (folder m) below (top ∷ []) ∙ ap (λ p. map (folder m) below ++ folder_at m p ∷ []) at

      own : (g : FileMap) → (c : HandedOut) × In c below × (g ≡ folder m c) → Contains (folders_of m) g
      own g (c, i, e) =
          let cut = split_in c below i in
          let known = (each_at IsFine [] (below ++ top ∷ []) cut.0 c (cut.1 ++ top ∷ []) fine (ap (λ l. l ++ top ∷ []) cut.2 ∙ append_assoc cut.0 (c ∷ cut.1) (top ∷ []))).0 in
          subst (Contains (folders_of m)) (sym e) (in_contains (folders_of m) (folder m c) (folder_among m c.path (file_of_items kind (folder m c) (λ none. some c i (known.items_are ∙ none)))))

      closed : (first : List FileMap) (g : FileMap) → IsCut (folder m) (below ++ top ∷ []) first g → AllByRecursion (λ h. Contains (first ++ g ∷ []) h ⊎ HasTreeOf kind stands h) (folders_of g)
      closed first g cut =
          let known = (each_at IsFine [] (below ++ top ∷ []) cut.before cut.at cut.behind fine cut.cut).0 in
          let names : map (folder m) (cut.before ++ cut.at ∷ []) ≡ first ++ g ∷ [] = map_both (folder m) cut.before (cut.at ∷ []) ∙ (λ i. cut.firsts i ++ cut.is i ∷ []) in
          in_all (λ h. Contains (first ++ g ∷ []) h ⊎ HasTreeOf kind stands h) (folders_of g) (λ h i. turn h names (known.closed h (subst (λ x. In h (folders_of x)) (sym cut.is) i)))
        where
          turn : (h : FileMap) → map (folder m) (cut.before ++ cut.at ∷ []) ≡ first ++ g ∷ [] → In h (map (folder m) (cut.before ++ cut.at ∷ [])) ⊎ HasTreeOf kind stands h
              → Contains (first ++ g ∷ []) h ⊎ HasTreeOf kind stands h
          turn h names (inl i) = inl (in_contains (first ++ g ∷ []) h (subst (In h) names i))
          turn h names (inr one) = inr one

-- if a tree that was handed out has the null id, one of the kept trees has it
pub null_kept : (kind : Kind) (handed : List HandedOut) (kept : List EditedTree) → AreKept kind handed kept → (t : HandedOut) → In t handed → is_null t.id ≡ true → list_any (λ (k : EditedTree). is_null (id_of k.id)) kept ≡ true
null_kept kind [] kept are t i null = absurd i
null_kept kind (u ∷ handed) [] are t i null = absurd are
null_kept kind (u ∷ handed) (k ∷ kept) are t (inl e) null = some_or (is_null (id_of k.id)) (list_any (λ (l : EditedTree). is_null (id_of l.id)) kept) (inl (ap is_null (are.0 ∙ ap (λ (x : HandedOut). x.id) (sym e)) ∙ null))
null_kept kind (u ∷ handed) (k ∷ kept) are t (inr i) null = some_or (is_null (id_of k.id)) (list_any (λ (l : EditedTree). is_null (id_of l.id)) kept) (inr (null_kept kind handed kept are.2 t i null))

-- and none of a folder's trees has it
pub none_null : (kind : Kind) (folders : List FileMap) (kept : List EditedTree) → AreTreesOf kind folders kept → list_any (λ (k : EditedTree). is_null (id_of k.id)) kept ≡ false
none_null kind [] [] are = refl
none_null kind [] (k ∷ kept) are = absurd are
none_null kind (f ∷ folders) [] are = absurd are
none_null kind (f ∷ folders) (k ∷ kept) are = or_from (is_null (id_of k.id)) (list_any (λ (l : EditedTree). is_null (id_of l.id)) kept) are.0.isnt_null (none_null kind folders kept are.1)

-- one more is kept
pub kept_more : (kind : Kind) (handed : List HandedOut) (kept : List EditedTree) (t : HandedOut) (k : EditedTree) → AreKept kind handed kept → id_of k.id ≡ t.id → IsTextOf kind t.items k → AreKept kind (handed ++ t ∷ []) (kept ++ k ∷ [])
kept_more kind [] [] t k are id text = (id, text, tt)
kept_more kind [] (l ∷ kept) t k are id text = absurd are
kept_more kind (u ∷ handed) [] t k are id text = absurd are
kept_more kind (u ∷ handed) (l ∷ kept) t k are id text = (are.0, are.1, kept_more kind handed kept t k are.2 id text)

-- ---- of an editor

-- the trees that are due have the property of entries too
due_each : (kind : Kind) (folders : List FileMap) (slots : Slots) (marks : Marks) → EachHas (names_only kind folders) slots → EachHas (names_only kind folders) (due slots marks 0)
due_each kind folders slots marks each i name s at = go (slots i name) refl at
  where
    go : (o : Option Slot) → slots i name ≡ o → through o (λ x. Some (slot_if (is_due marks 0) x)) ≡ Some s → names_only kind folders name (leaf_in s) ≡ true
    go None e k = none_is_some s k
    go (Some x) e k = subst (λ y. names_only kind folders name (leaf_in y) ≡ true) (same_Some (slot_if (is_due marks 0) x) s k) (each i name x e)

-- if an editor's entries name files or folders that exist before, what is written of it is the
-- trees of its files, unless a tree has the null id
pub written_trees : {S : Type 0} (kind : Kind) (table : Table) (stands : List FileMap) → ((g : FileMap) → In g stands → IsInner kind table stands g) → (editor : Editor S)
    → EachEntryHas (names_only kind stands) editor → IsAsRead (trees_in table) editor → (m : FileMap) → IsFileMap m → IsUnfolded kind m (files_of (trees_in table) editor)
    → (edited : EditedFiles) → HasWritten kind editor edited
    → ((id_of edited.root ≡ folder_id kind m) × AreGiven kind stands m edited.trees.items) ⊎ ((tree : FileMap) × In tree (folders_of m) × (is_null (folder_id kind tree) ≡ true) × (list_any (λ (k : EditedTree). is_null (id_of k.id)) edited.trees.items ≡ true))
written_trees kind table stands inner editor each read m fits is edited (handed, written, kept) =
    let last = written.last in
    let below = last.0 in
    let top : HandedOut = record { path = []; items = last.1; id = id_of edited.root } in
    let slots = slots_of editor.nodes.items in
    let marks = marks_of editor.nodes.items in
    let kept_all = subst (λ l. AreKept kind l edited.trees.items) last.2 kept in
    let order = subst (EachBehind (IsHandedOut (due slots marks 0)) []) last.2 written.in_order in
    let some = λ (c : HandedOut) (i : In c below). (of_all (λ (t : HandedOut). (t.items ≢ []) × IsChanged editor t.path) below last.3 c i).0 in
    let unfolds = same_unfolded kind m (files_of (trees_in table) editor) (files_of_node (trees_in table) (due slots marks 0) 0) is (λ q. due_files (trees_in table) slots marks 0 read q 0) in
    let known = all_known kind stands m table (trees_in table) (has_stored table) stands inner (due slots marks 0) (due_each kind stands slots marks each) fits unfolds
    [] (below ++ top ∷ []) (λ c i. absurd i) order (but_last below top some) (kept_named kind stands m (below ++ top ∷ []) edited.trees.items kept_all) in
    elim known [
      | inl fine ↦ inl (root_id below top fine, given_trees kind stands m below top edited.trees.items refl fine kept_all some)
      | inr null ↦ inr (folder m null.tree, among below top refl some null, ap is_null (sym null.id_is) ∙ null.null, null_kept kind (below ++ top ∷ []) edited.trees.items kept_all null.tree null.among null.null)
    ]
  where
    root_id : (below : List HandedOut) (top : HandedOut) → EachBehind (IsFine kind stands m) [] (below ++ top ∷ []) → top.id ≡ folder_id kind (folder m top)
    root_id below top fine = (each_at (IsFine kind stands m) [] (below ++ top ∷ []) below top [] fine refl).0.id_is

    among : (below : List HandedOut) (top : HandedOut) → top.path ≡ [] → ((c : HandedOut) → In c below → c.items ≢ []) → (null : HasNullTree kind stands m (below ++ top ∷ [])) → In (folder m null.tree) (folders_of m)
    among below top at some null = go (in_either null.tree below (top ∷ []) null.among)
      where
        go : In null.tree below ⊎ In null.tree (top ∷ []) → In (folder m null.tree) (folders_of m)
        go (inl i) = folder_among m null.tree.path (file_of_items kind (folder m null.tree) (λ none. some null.tree i (null.items_are ∙ none)))
        go (inr (inl e)) = inl (ap (λ (t : HandedOut). folder_at m t.path) e ∙ ap (folder_at m) at)
        go (inr (inr j)) = absurd j
