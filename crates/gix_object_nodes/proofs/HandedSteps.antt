-- Handing out one tree more, and the root.
use Rattle.std.proofs.Common.{ℕ, zero, suc, ◌≡◌, ◌≢◌, ◌<◌, ◌≤◌, false, List, [], ◌∷◌, ◌++◌, Option, Some, None, refl, sym, ap, subst, ◌∙◌, inl, inr, arith, length, get_or, map, slice_set, add-one, ◌+◌}
use Rattle.std.specs.List.{All, Contains}
use Rattle.std.specs.Prelude.{Result, Ok, Err}
use Rattle.std.specs.Borrow.{Bor}
use Rattle.std.specs.Fn.{Mut}
use Rattle.std.specs.List.{FoldsTo}
use Rattle.std.proofs.lemmas.Bool.{cases_eq}
use Rattle.std.proofs.lemmas.Fn.{FoldsTo-push}
use Rattle.std.proofs.lemmas.List.Elements.{All-push, All-weaker, All-contains, Contains-append_left, Contains-push, Contains-get_or}
use Rattle.gix_hash.specs.Id.{Id, id_of}
use Rattle.gix_hash.specs.declared.object_id.ObjectId.{ObjectId}
use Rattle.gix_object_tree.specs.Entry.{Item, own_item}
use Rattle.gix_object_tree.specs.declared.tree.entry.Entry.{Entry}
use Rattle.gix_object_tree.specs.declared.tree.owned.Tree.{Tree}
use Rattle.gix_object_nodes.specs.declared.node.Node.{Node}
use Rattle.gix_object_nodes.specs.declared.write.error.Error.{Error}
use Rattle.gix_object_nodes.specs.declared.write.error.Error.TheVariants.{Out, Memory}
use Rattle.gix_object_nodes.specs.Files.{Bytes, Path, Trees, Begins, is_null, through, behind, named, files_of_tree}
use Rattle.gix_object_nodes.specs.Nodes.{Slots, slot_in, slots_of, Way, onto, LeadsTo, IsForest, files_of_node}
use Rattle.gix_object_nodes.specs.Writing.{Ids, ids_of, IsReached, written_item, HasEntries, IsTreeOf}
use Rattle.gix_object_nodes.specs.Written.{HandedOut, HasHandedOut, HandsOut, StopsWriting, EachBehind, StandsUnopened, IsKnown, IsHandedOut, IsDueAt}
use Rattle.gix_object_nodes.specs.Below.{IsAnswered, IsDone, IsOneFrom, IsHandedOutFrom, Answered}
use Rattle.gix_object_nodes.specs.Marks.{marks_of, IsChangedIn, changed_in, slot_if, slots_if, due_in}
use Rattle.gix_object_nodes.proofs.Due.{due_row, way_due, due_changed}
use Rattle.gix_object_nodes.proofs.HandedOrder.{not_above, each_more, entries_kept, all_known, all_stand, none_null}
use Rattle.gix_object_nodes.proofs.Paths.{onto-append}
use Rattle.gix_object_nodes.proofs.Slots.{node_at}
use Rattle.gix_object_nodes.proofs.WrittenFiles.{tree_files, files_below, no_entry}
use Rattle.gix_object_nodes.proofs.WrittenEntries.{once_named}

-- ---- ids at their numbers

pub id_here : (oids : List (Option ObjectId)) (i : ℕ) (o : Option ObjectId) → i < length oids → ids_of (slice_set oids i o) i ≡ through o (λ oid. Some (id_of oid))
id_here [] i o lt = absurd (omega arith)
id_here (x ∷ oids) zero o lt = refl
id_here (x ∷ oids) (suc i) o lt = let less : i < length oids = omega arith in id_here oids i o less

pub id_other : (oids : List (Option ObjectId)) (i k : ℕ) (o : Option ObjectId) → i ≢ k → ids_of (slice_set oids i o) k ≡ ids_of oids k
id_other [] i k o ne = refl
id_other (x ∷ oids) zero zero o ne = absurd (ne refl)
id_other (x ∷ oids) zero (suc k) o ne = refl
id_other (x ∷ oids) (suc i) zero o ne = refl
id_other (x ∷ oids) (suc i) (suc k) o ne = id_other oids i k o (λ e. ne (ap suc e))

-- ---- below a base

onto_split : (way base q : Path) → onto (way ++ base) q ≡ onto base (onto way q)
onto_split [] base q = refl
onto_split (n ∷ way) base q = onto_split way base (n ∷ q)

pub begins_below : (way base : Path) → Begins (onto base []) (onto (way ++ base) [])
begins_below way base = (onto way [], sym (onto-append base [] (onto way [])) ∙ sym (onto_split way base []))

-- ---- one more

module _ (slots : Slots) (base : Path) (bound : ℕ) (ok : IsForest slots bound) (ids : Ids) (handed : List HandedOut) (i : ℕ) where
  module _ (so : IsHandedOutFrom slots base bound ids handed (suc i)) (way path : Path) (items : List Item) (w : Way slots (way ++ base) i) (leads : onto (way ++ base) [] ≡ path) (tree : IsTreeOf ids (slots i) items) where
    done : (j : ℕ) → i < j → j < bound → IsReached slots base j → IsDone slots ids handed j
    done j up = let le : suc i ≤ j = omega arith in so.done j le

    known : All (IsKnown slots handed path) items
    known = all_known slots bound ok ids handed i base done way path w leads items tree.entries (once_named items tree.once)

    module _ (trees : Trees) (has : HasHandedOut handed trees) where
      stands : (x : HandedOut) → Contains handed x → (trees x.id ≡ Some x.items) × (is_null x.id ≡ false)
      stands x h = All-contains (λ (t : HandedOut). (trees t.id ≡ Some t.items) × (is_null t.id ≡ false)) handed x has h

      filled : (item : Item) → IsKnown slots handed path item → trees item.id ≡ Some [] → StandsUnopened slots path item
      filled item (inl child) none =
          let is = stands child.0 child.1 in
          let both : Some child.0.items ≡ Some [] = sym is.0 ∙ ap trees child.3 ∙ none in
          let empty : child.0.items ≡ [] = cc in
          absurd (All-contains (λ (t : HandedOut). t.items ≢ []) handed child.0 so.some child.1 empty)
      filled item (inr stood) none = stood

      files : (q : Path) → files_of_tree trees items q ≡ files_of_node trees slots 0 (path ++ q)
      files q =
          let le : i ≤ i = omega arith in
          let to : LeadsTo slots path i [] = (way ++ base, w, leads) in
          tree_files slots bound ok ids handed base i done trees stands q i items le (way, w) tree.entries ∙ files_below trees slots path i q to

    none_at : All (λ (earlier : HandedOut). is_null earlier.id ≡ false) handed → (name : Bytes) (rest : Path) → named name items ≡ None → (trees : Trees) → files_of_node trees slots 0 (path ++ name ∷ rest) ≡ None
    none_at some name rest none trees =
        let le : i ≤ i = omega arith in
        let to : LeadsTo slots path i [] = (way ++ base, w, leads) in
        sym (files_below trees slots path i (name ∷ rest) to)
        ∙ no_entry slots bound ok ids handed base i done (λ x h. All-contains (λ (t : HandedOut). is_null t.id ≡ false) handed x some h) trees rest i items name le (way, w) tree.entries none

    -- a tree that is handed out after those of greater numbers
    pub is_next : (id : Id) → IsHandedOut slots handed (record { path = path; items = items; id = id })
    is_next id =
        let to : LeadsTo slots path i [] = (way ++ base, w, leads) in
        record {
          opened = (i, to);
          once = All-weaker (IsOneFrom slots bound ids (suc i)) (λ earlier. behind earlier.path path ≡ None)
              (λ earlier one. let up : i < one.0 = omega (arith, one.1) in not_above slots bound ok earlier.path path one.0 i one.3 to up) handed so.ones;
          known = known;
          stand = all_stand slots bound ok ids handed i base done way path w leads items tree.entries (once_named items tree.once);
          no_null = none_null slots bound ok ids handed i base done way path w leads items tree.entries (once_named items tree.once);
          no_empty = λ trees has. All-weaker (IsKnown slots handed path) (λ (item : Item). trees item.id ≡ Some [] → StandsUnopened slots path item) (filled trees has) items known;
          well_formed = tree.well_formed;
          complete = none_at;
          files = files;
        }

  module _ (now : Ids) (same : (k : ℕ) → i ≢ k → now k ≡ ids k) where
    later : (k : ℕ) → i < k → now k ≡ ids k
    later k up = same k (λ e. omega (arith, e))

    ones_kept : (all : List HandedOut) → All (IsOneFrom slots bound ids (suc i)) all → All (IsOneFrom slots bound now i) all
    ones_kept all = All-weaker (IsOneFrom slots bound ids (suc i)) (IsOneFrom slots bound now i)
        (λ t one. let le : i ≤ one.0 = omega (arith, one.1) in (one.0, le, one.2, one.3, entries_kept slots bound ok ids now i one.0 t.items later le one.4)) all

    answered_kept : (more : List HandedOut) (o p : Option Id) (path : Path) (items : List Item) → p ≡ o → ((x : HandedOut) → Contains handed x → Contains more x) → IsAnswered o handed path items → IsAnswered p more path items
    answered_kept more None p path items e in_more h = subst (λ q. IsAnswered q more path items) (sym e) h
    answered_kept more (Some id) p path items e in_more h = subst (λ q. IsAnswered q more path items) (sym e) (in_more (record { path = path; items = items; id = id }) h)

    done_kept : (more : List HandedOut) (j : ℕ) → i < j → ((x : HandedOut) → Contains handed x → Contains more x) → IsDone slots ids handed j → IsDone slots now more j
    done_kept more j up in_more d =
        let le : i ≤ j = omega arith in
        record {
          path = d.path;
          items = d.items;
          leads = d.leads;
          entries = entries_kept slots bound ok ids now i j d.items later le d.entries;
          answered = answered_kept more (ids j) (now j) d.path d.items (later j up) in_more d.answered;
        }

    done_from : (more : List HandedOut) → ((x : HandedOut) → Contains handed x → Contains more x) → IsHandedOutFrom slots base bound ids handed (suc i) → (IsReached slots base i → IsDone slots now more i)
        → (j : ℕ) → i ≤ j → j < bound → IsReached slots base j → IsDone slots now more j
    done_from more in_more so here j le within reached = elim (cases_eq i j) [
      | inl e ↦ subst (λ k. IsDone slots now more k) e (here (subst (λ k. IsReached slots base k) (sym e) reached))
      | inr ne ↦
          let up : i < j = omega (arith, ne) in
          done_kept more j up in_more (so.done j up within reached)
    ]

    -- a tree that isn't reached
    pub skipped : IsHandedOutFrom slots base bound ids handed (suc i) → (IsReached slots base i → ⊥) → IsHandedOutFrom slots base bound now handed i
    skipped so off = record {
      in_order = so.in_order;
      some = so.some;
      ones = ones_kept handed so.ones;
      below = so.below;
      done = done_from handed (λ x h. h) so (λ reached. absurd (off reached));
    }

    -- a tree without entries
    pub left_out : IsHandedOutFrom slots base bound ids handed (suc i) → IsReached slots base i → (items : List Item) → HasEntries ids (slots i) items → items ≡ [] → now i ≡ None → IsHandedOutFrom slots base bound now handed i
    left_out so reached items e empty none =
        let le : i ≤ i = omega arith in
        record {
          in_order = so.in_order;
          some = so.some;
          ones = ones_kept handed so.ones;
          below = so.below;
          done = done_from handed (λ x h. h) so (λ _. record {
            path = onto (reached.0 ++ base) [];
            items = items;
            leads = (reached.0 ++ base, reached.1, refl);
            entries = entries_kept slots bound ok ids now i i items later le e;
            answered = subst (λ o. IsAnswered o handed (onto (reached.0 ++ base) []) items) (sym none) empty;
          });
        }

    -- a tree with entries
    pub handed_more : IsHandedOutFrom slots base bound ids handed (suc i) → (reached : IsReached slots base i) → i < bound → (items : List Item) → IsTreeOf ids (slots i) items → items ≢ [] → (id : Id) → now i ≡ Some id
        → IsHandedOutFrom slots base bound now (handed ++ record { path = onto (reached.0 ++ base) []; items = items; id = id } ∷ []) i
    handed_more so reached within items tree some id is =
        let path = onto (reached.0 ++ base) [] in
        let one : HandedOut = record { path = path; items = items; id = id } in
        let le : i ≤ i = omega arith in
        let to : LeadsTo slots path i [] = (reached.0 ++ base, reached.1, refl) in
        let entries = entries_kept slots bound ok ids now i i items later le tree.entries in
        record {
          in_order = each_more (IsHandedOut slots) [] handed one so.in_order (is_next so reached.0 path items reached.1 refl tree id);
          some = All-push (λ (t : HandedOut). t.items ≢ []) handed one so.some some;
          ones = All-push (IsOneFrom slots bound now i) handed one (ones_kept handed so.ones) (i, le, within, to, entries);
          below = All-push (λ (t : HandedOut). Begins (onto base []) t.path) handed one so.below (begins_below reached.0 base);
          done = done_from (handed ++ one ∷ []) (λ x h. Contains-append_left handed (one ∷ []) x h) so (λ _. record {
            path = path;
            items = items;
            leads = to;
            entries = entries;
            answered = subst (λ o. IsAnswered o (handed ++ one ∷ []) path items) (sym is) (Contains-push handed one);
          });
        }

-- ---- calls

pub tree_at : (ids : Ids) (nodes : List Node) (from : ℕ) → IsForest (slots_of nodes) (length nodes) → (i : ℕ) → from ≤ i → (d : Node) (items : List Item) → i < length nodes → d ≡ get_or nodes i d
    → IsTreeOf ids (slots_if (changed_in nodes) (slot_in d)) items → IsTreeOf ids (due_in nodes from i) items
tree_at ids nodes from ok i le d items lt is tree = record {
  entries = λ m.
      tree.entries m
      ∙ ap (λ o. through (through o (λ s. Some (slot_if (changed_in nodes) s))) (written_item ids m)) (sym (node_at nodes i d m lt ∙ ap (λ n. slot_in n m) (sym is)))
      ∙ ap (λ o. through o (written_item ids m)) (sym (due_row (slots_of nodes) (marks_of nodes) from (length nodes) ok i le m));
  once = tree.once;
  well_formed = tree.well_formed;
}

-- a due tree of a greater number is changed
pub changed_below : (nodes : List Node) (from : ℕ) (path : Path) (j : ℕ) → from < j → LeadsTo (due_in nodes from) path j [] → IsChangedIn nodes path
changed_below nodes from path j lt to =
    (j, (to.0, way_due (slots_of nodes) (marks_of nodes) from to.0 j to.1, to.2), due_changed (slots_of nodes) (marks_of nodes) from to.0 j lt to.1)

pub due_all : (nodes : List Node) (from : ℕ) (base : Path) (ids : Ids) (handed : List HandedOut) (at : ℕ) → from < at → IsHandedOutFrom (due_in nodes from) base (length nodes) ids handed at
    → All (IsDueAt nodes (onto base [])) handed
due_all nodes from base ids handed at up so = λ k d lt.
    let one = so.ones k d lt in
    let less : from < one.0 = omega (arith, up, one.1) in
    record { below = so.below k d lt; changed = inr (so.some k d lt, changed_below nodes from (get_or handed k d).path one.0 less one.3) }

some_entries : (es : List Entry) → es ≢ [] → map own_item es ≢ []
some_entries [] some e = some refl
some_entries (x ∷ es) some e = absurd (cc e)

module _ {F E : Type 0} (calls : Mut F (Bor Tree × Unit {0}) (Result ObjectId E)) where
  module _ (nodes : List Node) (from : ℕ) (base : Path) (ok : IsForest (due_in nodes from) (length nodes)) (oids : List (Option ObjectId)) (i : ℕ) (above : from < i) (out before after : F) where
    pub fails_by : (handed : List HandedOut) → FoldsTo (HandsOut calls) out handed before → IsHandedOutFrom (due_in nodes from) base (length nodes) (ids_of oids) handed (suc i) → IsReached (due_in nodes from) base i
        → (tree : Tree) → IsTreeOf (ids_of oids) (due_in nodes from i) (map own_item tree.entries.items) → (error : Error E) → Answered calls before tree (Err error) after
        → StopsWriting calls nodes from (onto base []) out error after
    fails_by handed folds so reached tree is (Out error) fails =
        let path = onto (reached.0 ++ base) [] in (
          handed,
          before,
          record { calls_made = folds; in_order = so.in_order; due = due_all nodes from base (ids_of oids) handed (suc i) (omega arith) so },
          record {
            shown = tree;
            called = fails.1;
            at = path;
            next = is_next (due_in nodes from) base (length nodes) ok (ids_of oids) handed i so reached.0 path (map own_item tree.entries.items) reached.1 refl is;
            due = λ id. record {
              below = begins_below reached.0 base;
              changed = inr (some_entries tree.entries.items fails.0, changed_below nodes from path i above (reached.0 ++ base, reached.1, refl));
            };
          },
        )
    fails_by handed folds so reached tree is Memory fails = absurd fails

  module _ (slots : Slots) (base : Path) (bound : ℕ) (ok : IsForest slots bound) (oids : List (Option ObjectId)) (i : ℕ) (long : length oids ≡ bound) (within : i < bound) (out before after : F) where
    pub step : (handed : List HandedOut) → FoldsTo (HandsOut calls) out handed before → IsHandedOutFrom slots base bound (ids_of oids) handed (suc i) → IsReached slots base i
        → (tree : Tree) → IsTreeOf (ids_of oids) (slots i) (map own_item tree.entries.items) → (o : Option ObjectId) → Answered calls before tree (Ok o) after
        → (more : List HandedOut) × FoldsTo (HandsOut calls) out more after × IsHandedOutFrom slots base bound (ids_of (slice_set oids i o)) more i
    step handed folds so reached tree is None answered =
        let lt : i < length oids = omega arith in (
          handed,
          subst (λ s. FoldsTo (HandsOut calls) out handed s) answered.1 folds,
          left_out slots base bound ok (ids_of oids) handed i (ids_of (slice_set oids i None)) (λ k ne. id_other oids i k None ne) so reached
              (map own_item tree.entries.items) is.entries (ap (map own_item) answered.0) (id_here oids i None lt),
        )
    step handed folds so reached tree is (Some oid) answered =
        let lt : i < length oids = omega arith in
        let one : HandedOut = record { path = onto (reached.0 ++ base) []; items = map own_item tree.entries.items; id = id_of oid } in (
          handed ++ one ∷ [],
          FoldsTo-push (HandsOut calls) out handed before one after folds (tree, oid, answered.1, refl, refl),
          handed_more slots base bound ok (ids_of oids) handed i (ids_of (slice_set oids i (Some oid))) (λ k ne. id_other oids i k (Some oid) ne) so reached within
              (map own_item tree.entries.items) is (some_entries tree.entries.items answered.0) (id_of oid) (id_here oids i (Some oid) lt),
        )

-- before any is handed out
pub none_yet : (slots : Slots) (base : Path) (bound : ℕ) (ids : Ids) → IsHandedOutFrom slots base bound ids [] bound
none_yet slots base bound ids = record {
  in_order = tt;
  some = λ k d lt. absurd (omega arith);
  ones = λ k d lt. absurd (omega arith);
  below = λ k d lt. absurd (omega arith);
  done = λ j le lt. absurd (omega arith);
}

-- ---- the last tree

module _ (slots : Slots) (base : Path) (bound : ℕ) (ok : IsForest slots bound) (from : ℕ) (w : Way slots base from) (ids : Ids) (handed : List HandedOut) (so : IsHandedOutFrom slots base bound ids handed (from + 1))
    (items : List Item) (tree : IsTreeOf ids (slots from) items) where
  pub last_next : (id : Id) → IsHandedOut slots handed (record { path = onto base []; items = items; id = id })
  last_next = is_next slots base bound ok ids handed from (subst (λ n. IsHandedOutFrom slots base bound ids handed n) (add-one from) so) [] (onto base []) items w refl tree

  module _ (id : Id) where
    abbrev last_one : HandedOut
    last_one = record { path = onto base []; items = items; id = id }

    pub last_behind : EachBehind (IsHandedOut slots) [] (handed ++ last_one ∷ [])
    last_behind = each_more (IsHandedOut slots) [] handed last_one so.in_order (last_next id)

    pub last_files : (trees : Trees) → HasHandedOut (handed ++ last_one ∷ []) trees → (q : Path) → through (trees id) (λ xs. files_of_tree trees xs q) ≡ files_of_node trees slots 0 (onto base [] ++ q)
    last_files trees has q =
        let last = All-contains (λ (t : HandedOut). (trees t.id ≡ Some t.items) × (is_null t.id ≡ false)) (handed ++ last_one ∷ []) last_one has (Contains-push handed last_one) in
        ap (λ o. through o (λ xs. files_of_tree trees xs q)) last.0 ∙ (last_next id).files trees (All-front (λ (t : HandedOut). (trees t.id ≡ Some t.items) × (is_null t.id ≡ false)) handed (last_one ∷ []) has) q
      where
        All-front : (P : HandedOut → Type 0) (xs ys : List HandedOut) → All P (xs ++ ys) → All P xs
        All-front P xs ys all k d lt = All-contains P (xs ++ ys) (get_or xs k d) all (Contains-append_left xs ys (get_or xs k d) (Contains-get_or xs k d lt))
