-- A walk in depth order over the trees of files, which are there: which names it reports, and how
-- it ends.
use Rattle.std.proofs.Common.{◌≡◌, ℕ, zero, suc, Bool, true, false, cond, List, [], ◌∷◌, ◌++◌, map, refl, sym, ◌∙◌, ap, subst, arith, inl, inr, Option, option_map, is_some, length-append}
use Rattle.std.specs.List.{AllByRecursion}
use Rattle.std.specs.FinMap.{entries, keys}
use Rattle.std.specs.declared.ops.ControlFlow.TheVariants.{Continue, Break}
use Rattle.gix_hash.specs.Id.{Id}
use Rattle.gix_hash.specs.Order.{id_eq}
use Rattle.gix_hash.specs.declared.kind.Kind.{Kind}
use Rattle.gix_object_lines.specs.declared.kind.Kind.TheVariants as objects
use Rattle.gix_object_tree.specs.Entry.{Item, SpellsEntry, SpellsEntries, SpellsTree}
use Rattle.gix_object_tree.specs.Order.{is_tree}
use Rattle.gix_object_tree.proofs.Spelled.{one_entry, none_left}
use Rattle.gix_object_any.specs.Object.{Tree}
use Rattle.gix_object_lookup.specs.Table.{Table, Object}
use Rattle.gix_object_lookup.specs.Existing.{Stands}
use Rattle.gix_object_find.specs.Values.{StandsAs}
use Rattle.gix_object_lookup.specs.declared.find.Error.TheVariants as looked_up
use Rattle.gix_object_lookup.specs.declared.find.existing_iter.Error.TheVariants as not_given
use Rattle.gix_traverse_tree.specs.Calls.{Answer, Call, pop_back, push, pop, at_tree, at_nontree, visit_of}
use Rattle.gix_traverse_tree.specs.Depth as depth
use Rattle.gix_traverse_tree.specs.Depth.{InDepth, Place, before, inside as within}
use Rattle.gix_traverse_tree.specs.Orders.{IsName, TellsName, HasNames}
use Rattle.gix_traverse_tree.specs.Recorder.{GoesOn}
use Rattle.gix_traverse_tree.proofs.Recording.{all_split}
use Rattle.gix_traverse_tree.specs.Trees.{End, whole, broken, failed, is_among, TreeFault as WalkFault}
use Rattle.gix_traverse_tree.specs.declared.error.Error.{Error}
use Rattle.gix_traverse_tree.specs.declared.error.Error.TheVariants as walked
use Rattle.history_model.specs.Bytes.{Bytes, has_byte}
use Rattle.history_model.specs.FileMap.{FileMap, Content, IsFileMap, inside, is_path}
use Rattle.history_model.specs.Objects.{digest, Value, TreeEntry, FileEntry, FolderEntry, tree_entries, root_within, longest, root, folder_id, tree_text}
use Rattle.history_model.proofs.WholeLists.{In, in_map, of_map, clash, none_is_some, one_passes}
use Rattle.history_model.proofs.WholePaths.{is_beginning}
use Rattle.history_model.proofs.WholeItems.{Entry, leaf_in}
use Rattle.history_model.proofs.WholeRoots.{HasAll, inside_has, of_inside, AreShorter, are_shorter}
use Rattle.history_model.proofs.WholeStores.{in_get}
use Rattle.history_model.proofs.IdLemmas.{one_id}
use Rattle.history_files.specs.Unfolding.{IsInTable}
use Rattle.history_files.proofs.Items.{items, item_of, item_name, name_of, name_plain, folder_of, digest_kind}
use Rattle.history_files.proofs.Unfolded.{inside_map, leaf_no_tree}
use Rattle.history_files.proofs.AtNames.{tree_of_map}
use Rattle.history_files.proofs.Read.{same_tree}
use Rattle.std.proofs.lemmas.Bool.{and_parts}
use Rattle.std.proofs.lemmas.Option.{same_Some}

-- what a folder's trees hang on
abbrev pub tree_of : Kind → FileMap → List Entry → Bytes
tree_of kind m below = root_within (longest (keys m)) kind below

abbrev pub some_items : Kind → FileMap → List TreeEntry → List Item
some_items kind m ts = map (item_of kind (tree_of kind m)) ts

pub no_items : (kind : Kind) (m : FileMap) (ts : List TreeEntry) → some_items kind m ts ≡ [] → ts ≡ []
no_items kind m [] e = refl
no_items kind m (t ∷ ts) e = cc

-- the next of some entries
pub record IsNext (kind : Kind) (m : FileMap) (item : Item) (rest : Bytes) (ts : List TreeEntry) : Type 0 where
  pub entry : TreeEntry
  pub more : List TreeEntry
  pub cut : ts ≡ entry ∷ more
  pub is : item ≡ item_of kind (tree_of kind m) entry
  pub spelled : SpellsEntries kind rest (some_items kind m more) []

pub is_next : (kind : Kind) (m : FileMap) (item : Item) (content rest : Bytes) (ts : List TreeEntry) → SpellsEntry kind content item rest → SpellsEntries kind content (some_items kind m ts) [] → IsNext kind m item rest ts
is_next kind m item content rest [] entry spelled =
    let none = none_left kind (item ∷ []) in
    absurd (no_entry entry.text (sym (subst (λ c. c ≡ entry.text ++ 32 ∷ (item.name ++ 0 ∷ (entry.bytes ++ rest))) spelled entry.spelled)))
  where
    no_entry : (text : Bytes) → text ++ 32 ∷ (item.name ++ 0 ∷ (entry.bytes ++ rest)) ≡ [] → ⊥
    no_entry [] e = cc
    no_entry (b ∷ text) e = cc
is_next kind m item content rest (t ∷ ts) entry (after, first, others) =
    let same = one_entry kind content item (item_of kind (tree_of kind m) t) rest after entry first in
    record { entry = t; more = ts; cut = refl; is = same.0; spelled = subst (λ r. SpellsEntries kind r (some_items kind m ts) []) (sym same.1) others }

-- ---- folders among the entries

pub leaf_isnt_tree : (kind : Kind) (m : FileMap) (path : Bytes) (content : Content) → is_tree (item_of kind (tree_of kind m) (FileEntry path content)) ≡ false
leaf_isnt_tree kind m path content = leaf_no_tree content.kind

module _ (table : Table) (kind : Kind) where
  abbrev P : Value → Type 0
  P value = IsInTable table kind value

  -- a folder that is there
  pub record IsThere (m : FileMap) (id : Id) : Type 0 where
    pub fits : IsFileMap m
    pub has : HasAll P m
    pub id_is : id ≡ folder_id kind m

  pub id_kind : (m : FileMap) (id : Id) → IsThere m id → id.kind ≡ kind
  id_kind m id there = ap (λ (i : Id). i.kind) there.id_is ∙ digest_kind kind (tree_text (root kind m))

  pub stands_as : (m : FileMap) (id : Id) → IsThere m id → StandsAs table id objects.Tree (Tree (items kind m))
  stands_as m id there = subst (λ i. StandsAs table i objects.Tree (Tree (items kind m))) (sym there.id_is) (tree_of_map table kind m there.fits there.has)

  -- a folder's entry leads to a folder that is there
  pub there_below : (m : FileMap) (id : Id) → IsThere m id → (name : Bytes) (below : List Entry) → In (FolderEntry name below) (tree_entries (entries m))
      → IsThere (inside name m) (digest kind (tree_text (tree_of kind m below)))
  there_below m id there name below i =
      let folder = folder_of kind m name below i in
      let rest = (folder.some.0).0 in
      record {
        fits = inside_map name m there.fits;
        has = inside_has P m there.has (name ++ 47 ∷ rest) (folder.some.0).1 name folder.some.1 (is_beginning name rest);
        id_is = folder.id;
      }

  -- ---- no tree lies under itself

  -- trees are nested so deep below an id
  abbrev IsDeep : ℕ → Id → Type 0
  IsDeep zero id = Unit {0}
  IsDeep (suc n) id = (all : List Item) × (item : Item) × StandsAs table id objects.Tree (Tree all) × In item all × (is_tree item ≡ true) × IsDeep n item.id

  less_deep : (n : ℕ) (id : Id) → IsDeep (suc n) id → IsDeep n id
  less_deep zero id deep = tt
  less_deep (suc n) id (all, item, stands, i, tree, deeper) = (all, item, stands, i, tree, less_deep n item.id deeper)

  some_file : (m : FileMap) (t : TreeEntry) → In t (tree_entries (entries m)) → (e : Entry) × In e (entries m)
  some_file m (FileEntry path content) i = ((path, content), leaf_in (entries m) path content i)
  some_file m (FolderEntry name below) i = let some = (folder_of kind m name below i).some in ((name ++ 47 ∷ (some.0).0, (some.0).1), some.1)

  not_deep : (n : ℕ) (m : FileMap) (id : Id) → IsThere m id → AreShorter n (entries m) → IsDeep (suc n) id → ⊥
  not_deep zero m id there short (all, item, stands, i, tree, deeper) =
      let same = same_tree table id all (items kind m) stands (stands_as m id there) in
      let from = of_map (item_of kind (tree_of kind m)) item (tree_entries (entries m)) (subst (In item) same i) in
      let file = some_file m from.0 from.1 in
      let bad = short file.0 file.1 in
      absurd (omega arith)
  not_deep (suc n) m id there short (all, item, stands, i, tree, deeper) =
      let same = same_tree table id all (items kind m) stands (stands_as m id there) in
      let from = of_map (item_of kind (tree_of kind m)) item (tree_entries (entries m)) (subst (In item) same i) in
      step (λ inner inner_id inner_there inner_short deep. not_deep n inner inner_id inner_there inner_short deep)
      from.0 from.1 (subst (λ (x : Item). is_tree x ≡ true) from.2 tree) (subst (λ (x : Item). IsDeep (suc n) x.id) from.2 deeper)
    where
      step : ((inner : FileMap) (inner_id : Id) → IsThere inner inner_id → AreShorter n (entries inner) → IsDeep (suc n) inner_id → ⊥)
          → (t : TreeEntry) → In t (tree_entries (entries m)) → is_tree (item_of kind (tree_of kind m) t) ≡ true → IsDeep (suc n) (item_of kind (tree_of kind m) t).id → ⊥
      step inner (FileEntry path content) i tree deep = clash tree (leaf_isnt_tree kind m path content)
      step inner (FolderEntry name below) i tree deep = inner (inside name m) (digest kind (tree_text (tree_of kind m below))) (there_below m id there name below i) shorter deep
        where
          shorter : AreShorter n (entries (inside name m))
          shorter e j =
              let less = short (name ++ 47 ∷ e.0, e.1) (of_inside name m e.0 e.1 j) in
              let len = length-append name (47 ∷ e.0) in
              omega arith

  -- the first tree lies in the second
  abbrev pub LiesIn : Id → Id → Type 0
  LiesIn id above = (all : List Item) × (item : Item) × StandsAs table above objects.Tree (Tree all) × In item all × (is_tree item ≡ true) × (item.id ≡ id)

  abbrev pub LiesUnder : Id → List Id → Type 0
  LiesUnder id [] = Unit {0}
  LiesUnder id (a ∷ above) = LiesIn id a × LiesUnder a above

  rises : (above : List Id) (id : Id) → LiesUnder id above → (n : ℕ) → IsDeep n id → (a : Id) → In a above → IsDeep (suc n) a
  rises [] id under n deep a i = absurd i
  rises (b ∷ above) id ((all, item, stands, i, tree, same), under) n deep a (inl e) = subst (IsDeep (suc n)) (sym e) (all, item, stands, i, tree, subst (IsDeep n) (sym same) deep)
  rises (b ∷ above) id ((all, item, stands, i, tree, same), under) n deep a (inr j) =
      less_deep (suc n) a (rises above b under (suc n) (all, item, stands, i, tree, subst (IsDeep n) (sym same) deep) a j)

  all_deep : (above : List Id) (id : Id) → LiesUnder id above → In id above → (n : ℕ) → IsDeep n id
  all_deep above id under i zero = tt
  all_deep above id under i (suc n) = rises above id under n (all_deep above id under i n) id i

  pub no_cycle : (m : FileMap) (id : Id) → IsThere m id → (above : List Id) → LiesUnder id above → is_among id above ≡ true → ⊥
  no_cycle m id there above under h =
      let one = one_passes (id_eq id) above h in
      let member : In id above = subst (λ a. In a above) (sym (one_id id one.0 one.2)) one.1 in
      not_deep (suc (longest (keys m))) m id there (are_shorter m) (all_deep above id under member (suc (suc (longest (keys m)))))

  -- ---- along a walk

  -- the place of a walk, in folders that are there
  abbrev pub IsAt : List Id → Place → Type 0
  IsAt above (before id) = (m : FileMap) × IsThere m id × LiesUnder id above
  IsAt above (within id content) = (m : FileMap) × IsThere m id × LiesUnder id above
      × ((ts : List TreeEntry) × ((t : TreeEntry) → In t ts → In t (tree_entries (entries m))) × SpellsEntries kind content (some_items kind m ts) [])

  -- a walk ends after all trees, or at a lookup that fails
  abbrev pub EndsWell : Type 0 → End → Type 0
  EndsWell M whole = Unit {0}
  EndsWell M broken = ⊥
  EndsWell M (failed (walked.Find (not_given.Find looked_up.Failed))) = M
  EndsWell M (failed (walked.Find (not_given.Find looked_up.Memory))) = Unit {0}
  EndsWell M (failed (walked.Find (not_given.NotFound oid))) = ⊥
  EndsWell M (failed (walked.Find (not_given.ObjectKind oid actual expected))) = ⊥
  EndsWell M (failed walked.Cancelled) = ⊥
  EndsWell M (failed (walked.ObjectDecode error)) = ⊥
  EndsWell M (failed walked.Cycle) = ⊥
  EndsWell M (failed walked.Memory) = ⊥

  entered : (m : FileMap) (id : Id) → IsThere m id → (above : List Id) → LiesUnder id above → (content : Bytes) → Stands table id objects.Tree content → IsAt above (within id content)
  entered m id there above under content stands =
      let known = stands_as m id there in
      let same : known.0 ≡ content = ap (λ (x : Object). x.content) (same_Some _ _ (sym known.1 ∙ stands)) in
      (m, there, under, (tree_entries (entries m), λ t i. i, subst (λ k. SpellsTree k content (items kind m)) (id_kind m id there) (subst (λ c. SpellsTree id.kind c (items kind m)) same known.2.spelled)))

  unfound : {H : Type 0} → H → (M : Type 0) (m : FileMap) (id : Id) → IsThere m id → (above : List Id) → LiesUnder id above → (error : Error) → WalkFault H M table above id error → EndsWell M (failed error)
  unfound h M m id there above under (walked.Find (not_given.Find looked_up.Failed)) fault = fault.1
  unfound h M m id there above under (walked.Find (not_given.Find looked_up.Memory)) fault = tt
  unfound h M m id there above under (walked.Find (not_given.NotFound oid)) fault = none_is_some _ (sym ((fault.1).1 h) ∙ (stands_as m id there).1)
  unfound h M m id there above under (walked.Find (not_given.ObjectKind oid actual expected)) fault =
      (fault.1).2 (same_Some _ _ (sym ((fault.1).3 h) ∙ ap (λ (o : Option Object). option_map (λ (x : Object). x.kind) o) (stands_as m id there).1))
  unfound h M m id there above under walked.Cancelled fault = fault
  unfound h M m id there above under (walked.ObjectDecode error) fault = fault
  unfound h M m id there above under walked.Cycle fault = no_cycle m id there above under fault
  unfound h M m id there above under walked.Memory fault = fault

  -- ---- names

  visit_tells : (item : Item) (answer : Answer) → TellsName (visit_of item answer)
  visit_tells item answer = go (is_tree item)
    where
      go : (b : Bool) → TellsName (cond b (at_tree item answer) (at_nontree item answer))
      go true = tt
      go false = tt

  never_broken : {A : Type 0} (item : Item) → GoesOn (visit_of item (Break tt)) → A
  never_broken item h = go (is_tree item) h
    where
      go : {A : Type 0} (b : Bool) → GoesOn (cond b (at_tree item (Break tt)) (at_nontree item (Break tt))) → A
      go true e = cc
      go false e = cc

  pub some_name : (m : FileMap) → IsFileMap m → (t : TreeEntry) → In t (tree_entries (entries m)) → name_of t ≡ [] → ⊥
  some_name m fits (FileEntry path content) i e = clash (fits.paths path (ap is_some (in_get m path content (leaf_in (entries m) path content i)))) (ap is_path e)
  some_name m fits (FolderEntry name below) i e =
      let some = (folder_of kind m name below i).some in
      clash (fits.paths (name ++ 47 ∷ (some.0).0) (ap is_some (in_get m (name ++ 47 ∷ (some.0).0) (some.0).1 some.1))) (ap (λ n. is_path (n ++ 47 ∷ (some.0).0)) e)

  is_name : (m : FileMap) → IsFileMap m → (t : TreeEntry) → In t (tree_entries (entries m)) → (item : Item) → item ≡ item_of kind (tree_of kind m) t → IsName item.name
  is_name m fits t i item same =
      let name : item.name ≡ name_of t = ap (λ (x : Item). x.name) same ∙ item_name kind (tree_of kind m) t in
      (λ e. some_name m fits t i (sym name ∙ e), ap (has_byte 47) name ∙ name_plain (entries m) t i)

  tells : (item : Item) (answer : Answer) (calls : List Call) → IsName item.name → HasNames calls → HasNames (push item.name ∷ visit_of item answer ∷ pop ∷ calls)
  tells item answer calls name rest = (name, (visit_tells item answer, (tt, rest)))

  all_join : {A : Type 0} (Q : A → Type 0) (xs ys : List A) → AllByRecursion Q xs → AllByRecursion Q ys → AllByRecursion Q (xs ++ ys)
  all_join Q [] ys h k = k
  all_join Q (x ∷ xs) ys (p, h) k = (p, all_join Q xs ys h k)

  -- before a folder's tree
  at_folder : (m : FileMap) (id : Id) → IsThere m id → (above : List Id) → LiesUnder id above → (t : TreeEntry) → In t (tree_entries (entries m)) → (item : Item) → item ≡ item_of kind (tree_of kind m) t → is_tree item ≡ true
      → IsAt (id ∷ above) (before item.id)
  at_folder m id there above under (FileEntry path content) i item same tree = clash (subst (λ (x : Item). is_tree x ≡ true) same tree) (leaf_isnt_tree kind m path content)
  at_folder m id there above under (FolderEntry name below) i item same tree = (
    inside name m,
    subst (λ (x : Item). IsThere (inside name m) x.id) (sym same) (there_below m id there name below i),
    ((items kind m, item, stands_as m id there, subst (λ x. In x (items kind m)) (sym same) (in_map (item_of kind (tree_of kind m)) (FolderEntry name below) (tree_entries (entries m)) i), tree, refl), under),
  )

  module _ {H M : Type 0} (h : H) where
    pub along : {above : List Id} {place : Place} {calls : List Call} {end : End} → InDepth H M table above place calls end → AllByRecursion GoesOn calls → IsAt above place → HasNames calls × EndsWell M end
    along {above} (depth.tree {id = id} {content = content} read later) goes (m, there, under) =
        let rest = along later goes.1 (entered m id there above under content (read.1 h)) in
        ((tt, rest.0), rest.1)
    along {above} (depth.unfound {id = id} {error = error} fault) goes (m, there, under) = (tt, unfound h M m id there above under error fault)
    along depth.none goes at = (tt, tt)
    along (depth.entry {id = id} {content = content} {rest = rest} {item = item} answer {calls = calls} entry flat later) goes (m, there, under, (ts, all, spelled)) =
        let next = is_next kind m item content rest ts (subst (λ k. SpellsEntry k content item rest) (id_kind m id there) entry) spelled in
        let inner = along later goes.1.1.1 (m, there, under, (next.more, λ t i. all t (subst (In t) (sym next.cut) (inr i)), next.spelled)) in
        (tells item (Continue answer) calls (is_name m there.fits next.entry (all next.entry (subst (In next.entry) (sym next.cut) (inl refl))) item next.is) inner.0, inner.1)
    along {above} (depth.below {id = id} {content = content} {rest = rest} {item = item} answer {calls = calls} {more = more} entry deep inner later) goes (m, there, under, (ts, all, spelled)) =
        let next = is_next kind m item content rest ts (subst (λ k. SpellsEntry k content item rest) (id_kind m id there) entry) spelled in
        let member = all next.entry (subst (In next.entry) (sym next.cut) (inl refl)) in
        let split = all_split GoesOn calls (pop_back ∷ more) goes.1.1.1.1.1 in
        let below = along inner split.0 (at_folder m id there above under next.entry member item next.is (and_parts (is_tree item) answer deep).0) in
        let others = along later split.1.1 (m, there, under, (next.more, λ t i. all t (subst (In t) (sym next.cut) (inr i)), next.spelled)) in
        (tells item (Continue answer) (depth.entering item ++ (calls ++ (pop_back ∷ more))) (is_name m there.fits next.entry member item next.is) (tt, (tt, all_join TellsName calls (pop_back ∷ more) below.0 (tt, others.0))), others.1)
    along {above} (depth.ended_below {id = id} {content = content} {rest = rest} {item = item} answer {calls = calls} entry deep inner not_whole) goes (m, there, under, (ts, all, spelled)) =
        let next = is_next kind m item content rest ts (subst (λ k. SpellsEntry k content item rest) (id_kind m id there) entry) spelled in
        let member = all next.entry (subst (In next.entry) (sym next.cut) (inl refl)) in
        let below = along inner goes.1.1.1.1.1 (at_folder m id there above under next.entry member item next.is (and_parts (is_tree item) answer deep).0) in
        (tells item (Continue answer) (depth.entering item ++ calls) (is_name m there.fits next.entry member item next.is) (tt, (tt, below.0)), below.1)
    along (depth.ended {item = item} entry) goes at = never_broken item goes.1.0
    along (depth.unread {id = id} {content = content} some none fault) goes (m, there, under, (ts, all, spelled)) = absurd (unread_not ts spelled)
      where
        unread_not : (ts : List TreeEntry) → SpellsEntries kind content (some_items kind m ts) [] → ⊥
        unread_not [] is = some is
        unread_not (t ∷ ts) (after, first, others) = none (item_of kind (tree_of kind m) t) after (subst (λ k. SpellsEntry k content (item_of kind (tree_of kind m) t) after) (sym (id_kind m id there)) first)
