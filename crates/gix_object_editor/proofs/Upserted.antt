-- An entry that is put after a walk down, or that is there already.
use Rattle.std.proofs.Common.{ℕ, ◌≡◌, ◌∙◌, ◌<◌, ◌≤◌, ◌⊎◌, ◌++◌, inl, true, false, List, [], ◌∷◌, Some, refl, sym, ap, subst, arith, length, drop, get_or}
use Rattle.std.specs.Borrow.{Bor}
use Rattle.gix_object_lookup.specs.Table.{Table}
use Rattle.gix_object_nodes.specs.declared.node.Node.{Node}
use Rattle.gix_object_nodes.specs.declared.node.Slot.{Slot}
use Rattle.gix_object_nodes.specs.Files.{Bytes, Path, Leaf, Trees, is_null, behind, put}
use Rattle.gix_object_nodes.specs.Nodes.{slots_of, leaf_in, child_of, files_of_node, entry_from, onto, IsEntry, IsForest, LeadsTo, Way}
use Rattle.gix_object_nodes.specs.Marks.{marks_of, AreAsRead, AreMarked, AreOnPath, IsChangedIn}
use Rattle.gix_object_editor.specs.Entries.{Property, EachHas, MayStand, PassesDown}
use Rattle.gix_object_editor.specs.declared.tree.editor.state.Editor.{Editor}
use Rattle.gix_object_editor.specs.Editor.{IsAbove, OverStored}
use Rattle.gix_object_editor.specs.Grown.{Appends, Grows, IsForestOf, IsMarkedBut, IsMarkedOf, IsMarkedUp}
use Rattle.gix_object_editor.specs.Laid.{IsLaid, laid_at}
use Rattle.gix_object_editor.specs.Outcomes.{Puts}
use Rattle.gix_object_editor.proofs.Changes.{laid_as_read, laid_changed}
use Rattle.gix_object_editor.proofs.Edited.{Reach, grown_same}
use Rattle.gix_object_editor.proofs.Edits.{upserts_at}
use Rattle.gix_object_editor.proofs.Entered.{none_met, laid_keeps, names_drop}
use Rattle.gix_object_editor.proofs.Growth.{grown_marked}
use Rattle.gix_object_editor.proofs.LoneName.{put_files}
use Rattle.gix_object_editor.proofs.Marked.{laid_marked}
use Rattle.gix_object_editor.proofs.Opening.{as_function}
use Rattle.gix_object_editor.proofs.Raised.{already_stands, laid_folders, laid_stands, none_above}
use Rattle.gix_object_editor.proofs.SlotChange.{way_above}
use Rattle.gix_object_editor.proofs.Standing.{already_there}
use Rattle.gix_object_editor.proofs.Walked.{names}

-- ---- trees that are appended below a name

module _ {honest : Type 0} {table : Table} {old mid new : List Node} {at : ℕ} {first : Bytes} (grows : Grows honest table old mid) (within : at < length mid) (appends : Appends true mid at first new) where
  pub same_above : (i : ℕ) (m : Bytes) → i < at → slots_of new i m ≡ slots_of mid i m
  same_above i m lt = appends.others i m (omega (arith, lt, within)) (λ e _. absurd (omega (arith, lt, e)))

  pub laid_but : IsForestOf old → IsMarkedOf old → IsMarkedBut at new
  laid_but ok marked =
      laid_marked (slots_of mid) (slots_of new) (marks_of mid) (marks_of new) (length mid) (length new) grows.opened.forest (grown_marked ok marked grows) true appends.marks at first appends.forest appends.marks.fresh appends.others

  module _ {end : List Node} (up : IsMarkedUp new at end) where
    pub same_slots : slots_of end ≡ slots_of new
    same_slots = as_function (slots_of end) (slots_of new) up.slots

    pub up_forest : IsForestOf end
    up_forest = subst (λ f. IsForest f (length end)) (sym same_slots) (subst (IsForest (slots_of new)) (sym up.len) appends.forest)

    pub up_marked : IsMarkedOf end
    up_marked = subst (λ f. AreMarked f (marks_of end) (length end)) (sym same_slots) (subst (AreMarked (slots_of new) (marks_of end)) (sym up.len) up.marked.marked)

    pub up_longer : length mid ≤ length end
    up_longer = omega (arith, appends.longer, up.len)

    pub up_above : (i : ℕ) (m : Bytes) → i < at → slots_of end i m ≡ slots_of mid i m
    up_above i m lt = up.slots i m ∙ same_above i m lt

    pub up_read : OverStored honest table (λ trees. AreAsRead trees (slots_of old) (marks_of old) → AreAsRead trees (slots_of end) (marks_of end))
    up_read h trees has read =
        laid_as_read (slots_of old) (slots_of mid) (slots_of new) (slots_of end) (marks_of old) (marks_of mid) (marks_of new) (marks_of end) (length old) (length mid) (length new) grows.opened.forest appends.forest grows.marks appends.marks
        at first appends.others same_slots up.marked trees (grows.as_read h trees has read)

    -- the trees that are changed now lie above the end of a path that goes on so
    pub up_changed : (way whole rest : Path) → Way (slots_of mid) way at → (rest ≡ [] → ⊥) → onto way rest ≡ whole → AreOnPath (slots_of new) whole (length mid) (length new) → (tree : Path) → IsChangedIn end tree → IsChangedIn old tree ⊎ IsAbove tree whole
    up_changed way whole rest w some is on_path tree changed =
        let down : Way (slots_of new) way at = way_above (slots_of mid) (slots_of new) (length mid) at grows.opened.forest same_above way at (omega arith) w in
        laid_changed (slots_of old) (slots_of mid) (slots_of new) (slots_of end) (marks_of old) (marks_of mid) (marks_of new) (marks_of end) (length old) (length mid) (length new) grows.opened.forest appends.forest grows.marks appends.marks
        at first appends.others same_slots up.marked whole on_path way rest down some is tree changed.0 changed.1 changed.2

pub laid_each : {honest : Type 0} {table : Table} {old mid laid new : List Node} {at end : ℕ} {xs : List (Bor (List ℕ))} {slot : Slot} → Grows honest table old mid → IsLaid mid at xs slot true laid end → IsMarkedUp laid at new
    → honest → (has : Property) → PassesDown table has → MayStand has (names xs) (leaf_in slot) → EachHas has (slots_of old) → EachHas has (slots_of new)
laid_each grows so up h has down fit each i m s is = so.each has fit (grows.each h has down each) i m s (sym (up.slots i m) ∙ is)

-- ---- an entry that is put

module _ {S : Type 0} (is_honest : S → Type 0) (table : S → Table) (old new : Editor S) {mid laid : List Node} {path left : Path} {at end : ℕ} {name : Bytes} {xs : List (Bor (List ℕ))} {slot : Slot}
    (r : Reach (is_honest old.store) (table old.store) old.nodes.items mid path at name left) (so : IsLaid mid at xs slot true laid end) (up : IsMarkedUp laid at new.nodes.items) (is : names xs ≡ name ∷ left) where
  laid_puts : (trees : Trees) (q : Path) → entry_from none_met trees (slots_of laid) 0 q ≡ laid_at trees (leaf_in slot) left (behind (onto r.leads.0 (name ∷ [])) q) (entry_from none_met trees (slots_of mid) 0 q)
  laid_puts trees q =
      let stood = entry_from none_met trees (slots_of mid) 0 q in
      so.entries trees r.leads.0 r.leads.1 q
      ∙ ap (λ p. laid_at trees (leaf_in slot) (names (drop 1 xs)) (behind (onto r.leads.0 (get_or p 0 [] ∷ [])) q) stood) is
      ∙ ap (λ p. laid_at trees (leaf_in slot) p (behind (onto r.leads.0 (name ∷ [])) q) stood) (names_drop xs ∙ ap (drop 1) is)

  pub puts_laid : (leaf : Leaf) → leaf_in slot ≡ leaf → is_null leaf.id ≡ false → (left ≡ [] → IsEntry (slots_of mid at name) leaf → ⊥)
      → ((m : Bytes) (c : ℕ) → child_of (slots_of mid at m) ≡ Some c → c < length old.nodes.items) → Puts is_honest table path leaf old new
  puts_laid leaf same some isnt before =
      let o = old.nodes.items in
      let n = new.nodes.items in
      let slots = same_slots r.grows r.within so.appends up in
      subst (λ l. is_null l.id ≡ false → (left ≡ [] → IsEntry (slots_of mid at name) l → ⊥) → Puts is_honest table path l old new) same (λ some isnt. record {
        files = λ h trees has q.
            ap (λ f. files_of_node trees f 0 q) slots
            ∙ upserts_at (is_honest old.store) (table old.store) (slots_of o) (slots_of mid) (length o) (length mid) old.forest r.grows.opened path at (slots_of laid) (leaf_in slot) (names xs)
            (subst (LeadsTo (slots_of mid) path at) (sym is) r.leads) so.files h trees has q;
        entries = λ h trees has q apart free.
            ap (λ f. entry_from none_met trees f 0 q) slots
            ∙ laid_keeps (is_honest old.store) (table old.store) (slots_of o) (slots_of mid) (length o) (length mid) old.forest r.grows.opened path at name left (name ∷ left) r.leads refl h trees has q free (slots_of laid) (leaf_in slot)
            r.blocked apart (laid_puts trees q);
        entry = λ h trees has some_so t.
            ap (λ f. entry_from none_met trees f 0 (path ++ t)) slots
            ∙ laid_stands (is_honest old.store) (table old.store) (slots_of o) (slots_of mid) (length o) (length mid) old.forest r.grows.opened path at name left (name ∷ left) r.leads refl h trees has (slots_of laid) (leaf_in slot) t
            (laid_puts trees (path ++ t));
        folders = λ h trees has some_so q m t on apart.
            ap (λ f. entry_from none_met trees f 0 q) slots
            ∙ laid_folders (is_honest old.store) (table old.store) (slots_of o) (slots_of mid) (length o) (length mid) old.forest r.grows.opened path at name left (name ∷ left) r.leads refl h trees has (marks_of o) (marks_of mid) r.grows.marks
            (slots_of laid) (leaf_in slot) q m t on apart (laid_puts trees q);
        gone = λ h trees has null. absurd (cc (sym null ∙ some));
        changed = up_changed r.grows r.within so.appends up r.leads.0 path (name ∷ left) r.leads.1 (λ e. cc e) r.leads.2
            (subst (λ p. AreOnPath (slots_of laid) p (length mid) (length laid)) (ap (onto r.leads.0) is ∙ r.leads.2) (so.made r.leads.0 r.leads.1));
        nothing = λ h trees has null. absurd (cc (sym null ∙ some));
        made = λ null. absurd (cc (sym null ∙ some));
        already = λ h trees has some_so stands closed.
            let there = already_there (is_honest old.store) (table old.store) (slots_of o) (slots_of mid) (length o) (length mid) old.forest r.grows.opened path at name left (name ∷ left) r.leads refl (marks_of o) (marks_of mid) r.grows.marks
            r.blocked before h trees has (leaf_in slot) stands closed in
            absurd (isnt there.0 there.1);
      }) some isnt

-- ---- an entry that is there already

module _ {S : Type 0} (is_honest : S → Type 0) (table : S → Table) (old new : Editor S) {path left : Path} {at : ℕ} {name : Bytes} (r : Reach (is_honest old.store) (table old.store) old.nodes.items new.nodes.items path at name left) where
  pub puts_already : (leaf : Leaf) (xs : List (Bor (List ℕ))) → length xs ≡ 1 → names xs ≡ name ∷ left → is_null leaf.id ≡ false → left ≡ [] → IsEntry (slots_of new.nodes.items at name) leaf → Puts is_honest table path leaf old new
  puts_already leaf xs one is some last there =
      let o = old.nodes.items in
      let n = new.nodes.items in
      let same = grown_same is_honest table old new r in
      record {
        files = λ h trees has q.
            upserts_at (is_honest old.store) (table old.store) (slots_of o) (slots_of n) (length o) (length n) old.forest r.grows.opened path at (slots_of n) leaf (names xs) (subst (LeadsTo (slots_of n) path at) (sym is) r.leads)
            (λ ts v reached p. put_files n n r.grows.opened.forest xs one there.0 there.3 at r.within name (ap (λ x. get_or x 0 []) is) there.1 (record { len = refl; others = λ j m off. refl; marks = λ j. refl }) ts v reached p
            ∙ ap (λ l. put ts (onto v (names xs)) l (files_of_node ts (slots_of n) 0) p) there.2) h trees has q;
        entries = λ h trees has q apart free. r.grows.opened.entries h trees has none_met q 0 old.forest.rooted;
        entry = λ h trees has some_so t.
            already_stands (is_honest old.store) (table old.store) (slots_of o) (slots_of n) (length o) (length n) old.forest r.grows.opened path at name left (name ∷ left) r.leads refl h trees has leaf t last there;
        folders = λ h trees has some_so q m t on apart.
            absurd (none_above (is_honest old.store) (table old.store) (slots_of o) (slots_of n) (length o) (length n) old.forest r.grows.opened path at name left (name ∷ left) r.leads refl h trees has (marks_of o) (marks_of n) r.grows.marks
            last q m t on apart);
        gone = λ h trees has null. absurd (cc (sym null ∙ some));
        changed = λ tree is_so. inl ((same tree).0 is_so);
        nothing = λ h trees has null none. same;
        made = λ null made. same;
        already = λ h trees has some_so stands closed. same;
      }
