-- Edits after a walk down: what they make of an editor.
use Rattle.std.proofs.Common.{ℕ, ◌≡◌, ◌≢◌, ◌∙◌, ◌<◌, ◌≤◌, ◌+◌, ◌⊎◌, inl, true, List, [], ◌∷◌, Some, None, refl, sym, ap, subst, arith, length, drop, get_or, Vec}
use Rattle.std.specs.Borrow.{Bor}
use Rattle.std.specs.Vec.{with_items}
use Rattle.std.proofs.lemmas.List.{get_or-map, with_items_is}
use Rattle.gix_object_lookup.specs.Table.{Table}
use Rattle.gix_object_nodes.specs.declared.node.Node.{Node}
use Rattle.gix_object_nodes.specs.declared.node.Slot.{Slot}
use Rattle.gix_object_nodes.specs.Files.{Bytes, Path, Leaf, Trees, is_null, removed}
use Rattle.gix_object_nodes.specs.Nodes.{slots_of, child_of, onto, entry_from, slot_over, IsFolderAt, IsNoFolder, LeadsTo, Way}
use Rattle.gix_object_nodes.specs.Marks.{marks_of, AreAsRead, AreMarked, IsIdle, IsChangedIn, IsMade}
use Rattle.gix_object_editor.specs.Entries.{Property, EachHas, PassesDown}
use Rattle.gix_object_editor.specs.declared.tree.editor.state.Editor.{Editor}
use Rattle.gix_object_editor.specs.Editor.{IsAbove, OverStored}
use Rattle.gix_object_editor.specs.Grown.{Grows, IsCut, IsForestOf, IsMarkedOf, IsMarkedUp, IsWalked}
use Rattle.gix_object_editor.specs.Outcomes.{HadNoneBelow, KeepsTree, Puts, Removes}
use Rattle.gix_object_editor.proofs.Changes.{SameChanged, cut_as_read, cut_changed_on, cut_unmarked, opened_same_changed}
use Rattle.gix_object_editor.proofs.Cuts.{more_names, nulls_at}
use Rattle.gix_object_editor.proofs.Edits.{less_forest, none_below_path, removes_at, removes_none}
use Rattle.gix_object_editor.proofs.Entered.{none_met, cut_entries, cut_keeps, removes_entries, removes_no_entries}
use Rattle.gix_object_editor.proofs.Folders.{still_way}
use Rattle.gix_object_editor.proofs.Growth.{grown_marked, grows_then, no_files}
use Rattle.gix_object_editor.proofs.Kept.{cut_each}
use Rattle.gix_object_editor.proofs.Raised.{cut_gone, cut_way}
use Rattle.gix_object_editor.proofs.SlotChange.{way_kept}
use Rattle.gix_object_editor.proofs.Standing.{made_there, name_left, nothing_idle}
use Rattle.gix_object_editor.proofs.Walked.{names, leads_kept}

-- ---- where an edit is made

-- the path leads down to this opened tree, in which the name is the next; what is after it is left
pub record Reach (honest : Type 0) (table : Table) (old mid : List Node) (path : Path) (at : ℕ) (name : Bytes) (left : Path) : Type 0 where
  pub grows : Grows honest table old mid
  pub within : at < length mid
  pub leads : LeadsTo (slots_of mid) path at (name ∷ left)
  pub blocked : left ≢ [] → IsNoFolder (slots_of mid at name)

pub reach : {honest : Type 0} {table : Table} (old mid : List Node) (from at depth : ℕ) (path : List (Bor (List ℕ))) → Grows honest table old mid → at < length mid → depth < length path → IsWalked old from path mid at depth
    → (way : Path) → Way (slots_of old) way from → Reach honest table old mid (onto way (names path)) at (get_or (names path) depth []) (names (drop (depth + 1) path))
reach old mid from at depth path grows within inside walked way w = record {
  grows = grows;
  within = within;
  leads = subst (LeadsTo (slots_of mid) (onto way (names path)) at) (name_left path depth inside) (walked.leads way w);
  blocked = λ more. walked.blocked (more_names path (depth + 1) more);
}

-- more trees are opened
pub reach_more : {honest : Type 0} {table : Table} {old mid new : List Node} {path left : Path} {at : ℕ} {name : Bytes} → Reach honest table old mid path at name left → Grows honest table mid new
    → (left ≢ [] → IsNoFolder (slots_of new at name)) → Reach honest table old new path at name left
reach_more {mid = mid} {new = new} {path = path} {left = left} {at = at} {name = name} r grows blocked = record {
  grows = grows_then r.grows grows;
  within = omega (arith, r.within, grows.opened.longer);
  leads = leads_kept (slots_of mid) (slots_of new) path at (name ∷ left) grows.opened.links r.leads;
  blocked = blocked;
}

-- the name of a path at a place
pub name_at : (path : List (Bor (List ℕ))) (i : ℕ) → i < length path → (get_or path i (record { ref_ptr = (0, 0); now = [] })).now ≡ get_or (names path) i []
name_at path i lt = sym (get_or-map (λ (x : Bor (List ℕ)). x.now) path i _ [] lt)

pub cut_named : {mid new : List Node} {at : ℕ} (path : List (Bor (List ℕ))) (i : ℕ) → i < length path → IsCut mid at (get_or path i (record { ref_ptr = (0, 0); now = [] })).now new → IsCut mid at (get_or (names path) i []) new
cut_named {mid} {new} {at} path i lt cut = subst (λ m. IsCut mid at m new) (name_at path i lt) cut

-- what holds of a vector's items once all of them were changed through a slice
pub given_back : {X Z : Type 0} (P : List X → List X → Type 0) (v : Vec X Z) (new : List X) {slice : List X} → slice ≡ v.items → length new ≡ v.len → P slice new → P v.items (with_items v new).items
given_back P v new same n p = subst (P v.items) (sym (with_items_is v new n)) (subst (λ xs. P xs new) same p)

module _ {Z : Type 0} (v : Vec Node Z) {slice new : List Node} {at : ℕ} (same : slice ≡ v.items) (n : length slice ≡ v.len) where
  pub cut_given : {name : Bytes} → IsCut slice at name new → IsCut v.items at name (with_items v new).items
  cut_given {name} cut = given_back (λ a b. IsCut a at name b) v new same (omega (arith, n, cut.len)) cut

  pub up_given : IsMarkedUp slice at new → IsMarkedUp v.items at (with_items v new).items
  up_given up = given_back (λ a b. IsMarkedUp a at b) v new same (omega (arith, n, up.len)) up

pub same_given : {Z : Type 0} (v : Vec Node Z) {slice new : List Node} → slice ≡ v.items → length slice ≡ v.len → new ≡ slice → (with_items v new).items ≡ v.items
same_given v {new = new} same n still = given_back (λ a b. b ≡ a) v new same (ap length still ∙ n) still

-- ---- the ways to a tree above

pub keeps_grown : {S honest : Type 0} {table : Table} {old new : Editor S} (from : ℕ) → from < length old.nodes.items → Grows honest table old.nodes.items new.nodes.items → KeepsTree from old new
keeps_grown {old = old} {new = new} from within grows = record {
  way = λ way w. way_kept (slots_of old.nodes.items) (slots_of new.nodes.items) grows.opened.links way from w;
  within = omega (arith, within, grows.opened.longer);
}

pub keeps_edited : {S honest : Type 0} {table : Table} {old new : Editor S} (mid : List Node) (from at : ℕ) → from < length old.nodes.items → from ≤ at → Grows honest table old.nodes.items mid → length mid ≤ length new.nodes.items
    → ((i : ℕ) (m : Bytes) → i < at → slots_of new.nodes.items i m ≡ slots_of mid i m) → KeepsTree from old new
keeps_edited {old = old} {new = new} mid from at within below grows longer same = record {
  way = λ way w. still_way (slots_of old.nodes.items) (slots_of mid) (slots_of new.nodes.items) (length mid) from at grows.opened.forest grows.opened.links below same way w;
  within = omega (arith, within, grows.opened.longer, longer);
}

-- ---- a slot that is taken out

module _ {honest : Type 0} {table : Table} {old mid new : List Node} {at : ℕ} {name : Bytes} (grows : Grows honest table old mid) (cut : IsCut mid at name new) where
  pub cut_forest : IsForestOf new
  cut_forest = less_forest (slots_of mid) (slots_of new) (length mid) (length new) at name grows.opened.forest (sym cut.len) (ap child_of cut.here) cut.others

  pub cut_marks : IsMarkedOf new
  cut_marks = subst (AreMarked (slots_of new) (marks_of new)) (sym cut.len) cut.marks.marked

  pub cut_read : OverStored honest table (λ trees. AreAsRead trees (slots_of old) (marks_of old) → AreAsRead trees (slots_of new) (marks_of new))
  cut_read h trees has read =
      cut_as_read trees (slots_of mid) (slots_of new) (marks_of mid) (marks_of new) (length mid) at name grows.opened.forest cut.here cut.others cut.marks (grows.as_read h trees has read)

  pub cut_keeps_each : honest → (has : Property) → PassesDown table has → EachHas has (slots_of old) → EachHas has (slots_of new)
  cut_keeps_each h has down each = cut_each (slots_of mid) (slots_of new) at name has cut.here cut.others (grows.each h has down each)

  pub cut_keeps_above : (i : ℕ) (m : Bytes) → i < at → slots_of new i m ≡ slots_of mid i m
  cut_keeps_above i m lt = cut.others i m (λ e _. absurd (omega (arith, lt, e)))

module _ {honest : Type 0} {table : Table} {old mid new : List Node} {path left : Path} {at : ℕ} {name : Bytes} (ok : IsForestOf old) (r : Reach honest table old mid path at name left) (cut : IsCut mid at name new) where
  cut_above : (tree : Path) → IsChangedIn new tree → IsChangedIn old tree ⊎ IsAbove tree path
  cut_above tree is =
      cut_changed_on (slots_of old) (slots_of mid) (marks_of old) (marks_of mid) (length old) (length mid) r.grows.opened.forest r.grows.marks (slots_of new) (marks_of new) at name cut.here cut.others cut.marks
      path (name ∷ left) left r.leads refl tree is.0 is.1 is.2

  cut_same : IsMarkedOf old → IsIdle (marks_of mid) (slots_of mid at name) → SameChanged (slots_of old) (marks_of old) (slots_of new) (marks_of new)
  cut_same marked idle =
      cut_unmarked (slots_of mid) (slots_of new) (marks_of mid) (marks_of new) (length mid) (grown_marked ok marked r.grows) at name cut.here cut.others (cut.idle idle) idle (slots_of old) (marks_of old)
      (opened_same_changed (slots_of old) (slots_of mid) (marks_of old) (marks_of mid) (length old) (length mid) ok r.grows.opened.forest r.grows.marks r.grows.opened.links)

  cut_at : (trees : Trees) (q : Path) → entry_from none_met trees (slots_of new) 0 q ≡ removed (onto r.leads.0 (name ∷ [])) (entry_from none_met trees (slots_of mid) 0) q
  cut_at trees q = cut_entries trees (slots_of mid) (slots_of new) (length mid) r.grows.opened.forest at name r.leads.0 r.leads.1 (λ j m lt off. cut.others j m off) cut.here q

module _ {S : Type 0} (is_honest : S → Type 0) (table : S → Table) (old new : Editor S) {mid : List Node} {path left : Path} {at : ℕ} {name : Bytes}
    (r : Reach (is_honest old.store) (table old.store) old.nodes.items mid path at name left) (cut : IsCut mid at name new.nodes.items) where
  made_same : IsMarkedOf old.nodes.items → (s : Slot) → slot_over (slots_of old.nodes.items) 0 path ≡ Some s → IsMade (marks_of old.nodes.items) s → SameChanged (slots_of old.nodes.items) (marks_of old.nodes.items) (slots_of new.nodes.items) (marks_of new.nodes.items)
  made_same marked s stands made =
      cut_same old.forest r cut marked (made_there (is_honest old.store) (table old.store) (slots_of old.nodes.items) (slots_of mid) (length old.nodes.items) (length mid) old.forest r.grows.opened path at name left (name ∷ left) r.leads refl
      (marks_of old.nodes.items) (marks_of mid) r.grows.marks r.blocked s stands made)

  -- a removal, if the name is the last
  pub removes_cut : left ≡ [] → Removes is_honest table path old new
  removes_cut last =
      let o = old.nodes.items in
      let n = new.nodes.items in
      record {
        files = λ h trees has q. removes_at (is_honest old.store) (table old.store) (slots_of o) (slots_of mid) (length o) (length mid) old.forest r.grows.opened path at (slots_of n) name (name ∷ left) r.leads (ap (λ l. name ∷ l) last)
            cut.here cut.others h trees has q;
        entries = λ h trees has q. removes_entries (is_honest old.store) (table old.store) (slots_of o) (slots_of mid) (length o) (length mid) old.forest r.grows.opened path at name left (name ∷ left) r.leads refl h trees has (slots_of n) last
            (cut_at old.forest r cut trees) q;
        changed = cut_above old.forest r cut;
        nothing = λ h trees has none. cut_same old.forest r cut old.marked
            (nothing_idle (is_honest old.store) (table old.store) (slots_of o) (slots_of mid) (length o) (length mid) old.forest r.grows.opened path at name left (name ∷ left) r.leads refl (marks_of mid) none_met
            (λ some. absurd (some last)) h trees has none);
        made = λ made. made_same old.marked made.0 made.1 made.2;
      }

  -- an entry with the null id
  pub puts_cut : (leaf : Leaf) → is_null leaf.id ≡ true → Puts is_honest table path leaf old new
  puts_cut leaf null =
      let o = old.nodes.items in
      let n = new.nodes.items in
      record {
        files = λ h trees has q. nulls_at (is_honest old.store) (table old.store) (slots_of o) (slots_of mid) (length o) (length mid) old.forest r.grows.opened path at (slots_of n) leaf name left (name ∷ left) r.leads refl null
            (λ some. no_files (slots_of mid) at name (r.blocked some)) cut.here cut.others h trees has q;
        entries = λ h trees has q apart free.
            cut_keeps (is_honest old.store) (table old.store) (slots_of o) (slots_of mid) (length o) (length mid) old.forest r.grows.opened path at name left (name ∷ left) r.leads refl h trees has q free (slots_of n) r.blocked apart
            (cut_at old.forest r cut trees q);
        entry = λ h trees has some. absurd (cc (sym null ∙ some));
        folders = λ h trees has some. absurd (cc (sym null ∙ some));
        gone = λ h trees has is_so. (
          cut_gone (is_honest old.store) (table old.store) (slots_of o) (slots_of mid) (length o) (length mid) old.forest r.grows.opened path at name left (name ∷ left) r.leads refl h trees has (slots_of n) (cut_at old.forest r cut trees path),
          λ q t on apart. cut_way (is_honest old.store) (table old.store) (slots_of o) (slots_of mid) (length o) (length mid) old.forest r.grows.opened path at name left (name ∷ left) r.leads refl h trees has (marks_of o) (marks_of mid) r.grows.marks
              (slots_of n) q t on apart (cut_at old.forest r cut trees q),
        );
        changed = cut_above old.forest r cut;
        nothing = λ h trees has is_so none. cut_same old.forest r cut old.marked
            (nothing_idle (is_honest old.store) (table old.store) (slots_of o) (slots_of mid) (length o) (length mid) old.forest r.grows.opened path at name left (name ∷ left) r.leads refl (marks_of mid) (λ l. Some l)
            (λ some. (r.blocked some, λ l e. cc e)) h trees has none);
        made = λ is_so made. made_same old.marked made.0 made.1 made.2;
        already = λ h trees has some. absurd (cc (sym null ∙ some));
      }

-- ---- nothing is taken out

module _ {S : Type 0} (is_honest : S → Type 0) (table : S → Table) (old new : Editor S) {path left : Path} {at : ℕ} {name : Bytes} (r : Reach (is_honest old.store) (table old.store) old.nodes.items new.nodes.items path at name left) where
  pub grown_same : SameChanged (slots_of old.nodes.items) (marks_of old.nodes.items) (slots_of new.nodes.items) (marks_of new.nodes.items)
  grown_same =
      opened_same_changed (slots_of old.nodes.items) (slots_of new.nodes.items) (marks_of old.nodes.items) (marks_of new.nodes.items) (length old.nodes.items) (length new.nodes.items) old.forest r.grows.opened.forest r.grows.marks
      r.grows.opened.links

  pub removes_nothing_left : left ≢ [] → Removes is_honest table path old new
  removes_nothing_left some =
      let o = old.nodes.items in
      let n = new.nodes.items in
      let parts = split left some in
      record {
        files = λ h trees has q. removes_none (is_honest old.store) (table old.store) (slots_of o) (slots_of n) (length o) (length n) old.forest r.grows.opened path at name parts.0 parts.1 (name ∷ left) r.leads (ap (λ l. name ∷ l) parts.2)
            (no_files (slots_of n) at name (r.blocked some)) h trees has q;
        entries = λ h trees has q. removes_no_entries (is_honest old.store) (table old.store) (slots_of o) (slots_of n) (length o) (length n) old.forest r.grows.opened path at name left (name ∷ left) r.leads refl h trees has
            (r.blocked some) parts.0 parts.1 parts.2 q;
        changed = λ tree is. inl ((grown_same tree).0 is);
        nothing = λ h trees has none. grown_same;
        made = λ made. grown_same;
      }
    where
      split : (p : Path) → p ≢ [] → (m : Bytes) × (k : Path) × (p ≡ m ∷ k)
      split [] some = absurd (some refl)
      split (m ∷ k) some = (m, k, refl)

-- no file was below the path
pub had_none_below : {S : Type 0} (is_honest : S → Type 0) (table : S → Table) (old : Editor S) {mid : List Node} {path left : Path} {at : ℕ} {name : Bytes} (r : Reach (is_honest old.store) (table old.store) old.nodes.items mid path at name left)
    → IsFolderAt (slots_of mid) at name None → HadNoneBelow is_honest table path old
had_none_below is_honest table old {mid} {path} {left} {at} {name} r plain h trees has m rest =
    none_below_path (is_honest old.store) (table old.store) (slots_of old.nodes.items) (slots_of mid) (length old.nodes.items) (length mid) old.forest r.grows.opened path at name left (name ∷ left) r.leads refl plain h trees has m rest
