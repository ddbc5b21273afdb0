-- A folder that is found or made after a walk down.
use Rattle.std.proofs.Common.{ℕ, ◌≡◌, ◌∙◌, ◌<◌, ◌++◌, ◌⊎◌, inl, inr, Bool, true, false, List, [], ◌∷◌, Some, None, refl, sym, ap, subst, arith, length, drop, get_or, if◌then◌else◌}
use Rattle.std.specs.Prelude.{is_some, IsTrue, IsFalse}
use Rattle.std.specs.Borrow.{Bor}
use Rattle.gix_hash.specs.declared.kind.Kind.{Kind}
use Rattle.gix_object_lookup.specs.Table.{Table}
use Rattle.gix_object_nodes.specs.declared.node.Node.{Node}
use Rattle.gix_object_nodes.specs.Files.{Bytes, Path, Trees, Begins, behind, cleared}
use Rattle.gix_object_nodes.specs.Nodes.{slots_of, child_of, files_of_node, entry_from, onto, IsNoFolder, LeadsTo, Way}
use Rattle.gix_object_nodes.specs.Marks.{marks_of, AreAsRead, AreOnPath, IsChangedIn}
use Rattle.gix_object_nodes.proofs.Paths.{by_test, onto-append}
use Rattle.gix_object_nodes.proofs.Slots.{none_past}
use Rattle.gix_object_editor.specs.Entries.{Property, EachHas, MayStandMade, PassesDown}
use Rattle.gix_object_editor.specs.declared.tree.editor.state.Editor.{Editor}
use Rattle.gix_object_editor.specs.Editor.{OverStored}
use Rattle.gix_object_editor.specs.Grown.{Appends, Grows, IsForestOf, IsMarkedOf, IsMarkedUp, KeepsMarks, first_of}
use Rattle.gix_object_editor.specs.Laid.{AreMade, made_at}
use Rattle.gix_object_editor.specs.Outcomes.{MakesFolder}
use Rattle.gix_object_editor.proofs.Changes.{SameChanged, begins, one_more_left, opened_changed, opened_same_changed}
use Rattle.gix_object_editor.proofs.Cuts.{made_as_read, made_hollow}
use Rattle.gix_object_editor.proofs.Edited.{Reach, grown_same}
use Rattle.gix_object_editor.proofs.Entered.{none_met, made_keeps, names_drop, no_folder_at_end}
use Rattle.gix_object_editor.proofs.Folders.{folder_clear}
use Rattle.gix_object_editor.proofs.Marked.{marks_then, opened_marked}
use Rattle.gix_object_editor.proofs.Raised.{made_folders, stood_folders}
use Rattle.gix_object_editor.proofs.SlotChange.{way_above}
use Rattle.gix_object_editor.proofs.Standing.{laid_links, nothing_there}
use Rattle.gix_object_editor.proofs.Upserted.{same_slots, up_changed, up_forest, up_marked, up_read}
use Rattle.gix_object_editor.proofs.Walked.{names}

-- ---- the folder is there

pub leads_there : {honest : Type 0} {table : Table} {old new : List Node} {path left : Path} {at : ℕ} {name : Bytes} → Reach honest table old new path at name left → left ≡ [] → (c : ℕ) → child_of (slots_of new at name) ≡ Some c
    → LeadsTo (slots_of new) path c []
leads_there {at = at} {name = name} r last c found = (name ∷ r.leads.0, (at, r.leads.1, found), ap (λ l. onto r.leads.0 (name ∷ l)) (sym last) ∙ r.leads.2)

module _ {S : Type 0} (is_honest : S → Type 0) (table : S → Table) (old new : Editor S) {path left : Path} {at : ℕ} {name : Bytes} (r : Reach (is_honest old.store) (table old.store) old.nodes.items new.nodes.items path at name left)
    (last : left ≡ []) (c : ℕ) (found : child_of (slots_of new.nodes.items at name) ≡ Some c) where
  pub makes_there : (hash : Kind) → MakesFolder is_honest table hash path old new
  makes_there hash =
      let o = old.nodes.items in
      let n = new.nodes.items in
      let there = leads_there r last c found in
      let same = grown_same is_honest table old new r in
      record {
        files = λ h trees has q. sym (folder_clear trees (slots_of n) path c there q) ∙ ap (λ x. if is_some (behind q path) then None else x) (r.grows.opened.files h trees has q 0 old.forest.rooted);
        entries = λ h trees has q free. r.grows.opened.entries h trees has none_met q 0 old.forest.rooted;
        folders = λ h trees has q t on apart.
            absurd (apart (stood_folders (is_honest old.store) (table old.store) (slots_of o) (slots_of n) (length o) (length n) old.forest r.grows.opened h trees has (marks_of o) (marks_of n) r.grows.marks path there.0 c there.1 there.2 q t on));
        changed = λ tree is. inl ((same tree).0 is);
        nothing = λ h trees has none. same;
        stood = λ h trees has stands. same;
      }

-- ---- the folder is made

-- what is marked if something was there before
module _ {honest : Type 0} {table : Table} {old mid laid new : List Node} {at end : ℕ} {xs : List (Bor (List ℕ))} {hash : Kind} {state : Bool} (ok : IsForestOf old) (marked : IsMarkedOf old) (grows : Grows honest table old mid) (within : at < length mid)
    (so : AreMade mid at xs hash state laid end) (up : IsTrue state → IsMarkedUp laid at new) (same : IsFalse state → new ≡ laid) where
  appends_if : (b : Bool) → state ≡ b → Appends b mid at (first_of xs) laid
  appends_if b e = subst (λ x. Appends x mid at (first_of xs) laid) e so.appends

  -- the marks are those of opened trees
  unmarked : IsFalse state → KeepsMarks false old laid
  unmarked free =
      marks_then false (slots_of old) (slots_of mid) (slots_of laid) (marks_of old) (marks_of mid) (marks_of laid) (length old) (length mid) (length laid) grows.opened.longer so.appends.longer grows.marks (appends_if false free).marks

  pub made_slots : slots_of new ≡ slots_of laid
  made_slots = elim (by_test state) [
    | inl stood ↦ same_slots grows within (appends_if true stood) (up stood)
    | inr free ↦ ap slots_of (same free)
  ]

  pub made_forest : IsForestOf new
  made_forest = elim (by_test state) [
    | inl stood ↦ up_forest grows within (appends_if true stood) (up stood)
    | inr free ↦ subst IsForestOf (sym (same free)) so.appends.forest
  ]

  pub made_marked : IsMarkedOf new
  made_marked = elim (by_test state) [
    | inl stood ↦ up_marked grows within (appends_if true stood) (up stood)
    | inr free ↦ subst IsMarkedOf (sym (same free))
        (opened_marked (slots_of old) (slots_of laid) (marks_of old) (marks_of laid) (length old) (length laid) ok marked false (unmarked free) so.appends.forest (unmarked free).fresh)
  ]

  pub made_within : end < length new
  made_within = elim (by_test state) [
    | inl stood ↦ omega (arith, so.within, (up stood).len)
    | inr free ↦ subst (λ ns. end < length ns) (sym (same free)) so.within
  ]

  pub made_keeps_each : honest → (has : Property) → PassesDown table has → MayStandMade has hash (names xs) → EachHas has (slots_of old) → EachHas has (slots_of new)
  made_keeps_each h has down fit each = subst (EachHas has) (sym made_slots) (so.each has fit (grows.each h has down each))

  pub made_read : (way : Path) → Way (slots_of mid) way at → (IsFalse state → slots_of mid at (first_of xs) ≡ None) → OverStored honest table (λ trees. AreAsRead trees (slots_of old) (marks_of old) → AreAsRead trees (slots_of new) (marks_of new))
  made_read way w none h trees has read = elim (by_test state) [
    | inl stood ↦ up_read grows within (appends_if true stood) (up stood) h trees has read
    | inr free ↦
        let start = grows.as_read h trees has read in
        let above : (i : ℕ) (m : Bytes) → i < at → slots_of laid i m ≡ slots_of mid i m = λ i m lt. so.appends.others i m (omega (arith, lt, within)) (λ e _. absurd (omega (arith, lt, e))) in
        let down : Way (slots_of laid) way at = way_above (slots_of mid) (slots_of laid) (length mid) at grows.opened.forest above way at (omega arith) w in
        let hollow = made_hollow trees (slots_of mid) (slots_of laid) at (first_of xs) way (onto way (names xs)) w down (none free) (so.files trees way w) in
        let ways = so.made way w in
        subst (λ (ns : List Node). AreAsRead trees (slots_of ns) (marks_of ns)) (sym (same free))
        (made_as_read trees (slots_of mid) (slots_of laid) (length mid) (length laid) grows.opened.forest so.appends.forest at (first_of xs) so.appends.others hollow (none free)
        (marks_of mid) (marks_of laid) so.appends.marks.same (λ k ge lt. let on = ways k ge lt in (on.4.0, on.4.1)) so.null so.appends.marks.links start)
  ]

  pub leads_made : {path left : Path} {name : Bytes} → LeadsTo (slots_of mid) path at (name ∷ left) → names xs ≡ name ∷ left → LeadsTo (slots_of new) path end []
  leads_made {path = path} leads is = subst (λ f. LeadsTo f path end []) (sym made_slots) (subst (λ p. LeadsTo (slots_of laid) p end []) (ap (onto leads.0) is ∙ leads.2) (so.leads leads.0 leads.1))

module _ {S : Type 0} (is_honest : S → Type 0) (table : S → Table) (old new : Editor S) {mid laid : List Node} {path left : Path} {at end : ℕ} {name : Bytes} {xs : List (Bor (List ℕ))} {hash : Kind} {state : Bool}
    (r : Reach (is_honest old.store) (table old.store) old.nodes.items mid path at name left) (plain : IsNoFolder (slots_of mid at name)) (so : AreMade mid at xs hash state laid end) (up : IsTrue state → IsMarkedUp laid at new.nodes.items)
    (same : IsFalse state → new.nodes.items ≡ laid) (is : names xs ≡ name ∷ left) where
  slots : slots_of new.nodes.items ≡ slots_of laid
  slots = made_slots old.forest old.marked r.grows r.within so up same

  whole : onto r.leads.0 (names xs) ≡ path
  whole = ap (onto r.leads.0) is ∙ r.leads.2

  makes_entries : (trees : Trees) (q : Path) → entry_from none_met trees (slots_of laid) 0 q ≡ made_at hash left (behind (onto r.leads.0 (name ∷ [])) q) (entry_from none_met trees (slots_of mid) 0 q)
  makes_entries trees q =
      let stood = entry_from none_met trees (slots_of mid) 0 q in
      so.entries trees r.leads.0 r.leads.1 q
      ∙ ap (λ p. made_at hash (names (drop 1 xs)) (behind (onto r.leads.0 (get_or p 0 [] ∷ [])) q) stood) is
      ∙ ap (λ p. made_at hash p (behind (onto r.leads.0 (name ∷ [])) q) stood) (names_drop xs ∙ ap (drop 1) is)

  -- the trees that are changed now
  changed_made : (tree : Path) → IsChangedIn new.nodes.items tree → IsChangedIn old.nodes.items tree ⊎ Begins tree path
  changed_made tree changed = elim (by_test state) [
    | inl stood ↦
        let more : onto r.leads.0 ((name ∷ left) ++ [] ∷ []) ≡ path ++ [] ∷ [] = onto-append r.leads.0 (name ∷ left) ([] ∷ []) ∙ ap (λ p. p ++ [] ∷ []) r.leads.2 in
        let on_path = subst (λ p. AreOnPath (slots_of laid) (p ++ [] ∷ []) (length mid) (length laid)) whole (so.made r.leads.0 r.leads.1) in
        elim (up_changed r.grows r.within (appends_if old.forest old.marked r.grows r.within so up same true stood) (up stood) r.leads.0 (path ++ [] ∷ []) ((name ∷ left) ++ [] ∷ []) r.leads.1
        (one_more_left (name ∷ left) []) more on_path tree changed) [
          | inl was ↦ inl was
          | inr above ↦ inr (begins path [] tree above.0 above.1 above.2)
        ]
    | inr free ↦
        let now = subst (λ (ns : List Node). IsChangedIn ns tree) (same free) changed in
        inl (opened_changed (slots_of old.nodes.items) (slots_of laid) (marks_of old.nodes.items) (marks_of laid) (length old.nodes.items) (length laid) so.appends.forest
        (unmarked old.forest old.marked r.grows r.within so up same free) tree now.0 now.1 now.2)
  ]

  -- nothing was there
  nothing_made : IsFalse state → slots_of mid at name ≡ None → SameChanged (slots_of old.nodes.items) (marks_of old.nodes.items) (slots_of new.nodes.items) (marks_of new.nodes.items)
  nothing_made free none =
      let o = old.nodes.items in
      let first : slots_of mid at (first_of xs) ≡ None = ap (λ p. slots_of mid at (get_or p 0 [])) is ∙ none in
      subst (λ (ns : List Node). SameChanged (slots_of o) (marks_of o) (slots_of ns) (marks_of ns)) (sym (same free))
      (opened_same_changed (slots_of o) (slots_of laid) (marks_of o) (marks_of laid) (length o) (length laid) old.forest so.appends.forest (unmarked old.forest old.marked r.grows r.within so up same free)
      (λ k m d e. laid_links (slots_of mid) (slots_of laid) (length mid) at (first_of xs) (λ j x le. none_past mid j x le) first so.appends.others k m d (r.grows.opened.links k m d e)))

  pub makes_made : state ≡ is_some (slots_of mid at name) → MakesFolder is_honest table hash path old new
  makes_made state_is =
      let o = old.nodes.items in
      record {
        files = λ h trees has q.
            ap (λ f. files_of_node trees f 0 q) slots ∙ so.files trees r.leads.0 r.leads.1 q ∙ ap (λ p. cleared p (files_of_node trees (slots_of mid) 0) q) whole
            ∙ ap (λ x. if is_some (behind q path) then None else x) (r.grows.opened.files h trees has q 0 old.forest.rooted);
        entries = λ h trees has q free.
            ap (λ f. entry_from none_met trees f 0 q) slots
            ∙ made_keeps (is_honest old.store) (table old.store) (slots_of o) (slots_of mid) (length o) (length mid) old.forest r.grows.opened path at name left (name ∷ left) r.leads refl h trees has q free (slots_of laid) hash plain
            (makes_entries trees q);
        folders = λ h trees has q t on apart.
            ap (λ f. entry_from none_met trees f 0 q) slots
            ∙ made_folders (is_honest old.store) (table old.store) (slots_of o) (slots_of mid) (length o) (length mid) old.forest r.grows.opened path at name left (name ∷ left) r.leads refl h trees has (marks_of o) (marks_of mid) r.grows.marks
            (slots_of laid) hash q t on apart (makes_entries trees q);
        changed = changed_made;
        nothing = λ h trees has none.
            let there = nothing_there (is_honest old.store) (table old.store) (slots_of o) (slots_of mid) (length o) (length mid) old.forest r.grows.opened path at name left (name ∷ left) r.leads refl (λ l. Some l)
            (λ some. (plain, λ l e. cc e)) h trees has none in
            nothing_made (state_is ∙ ap is_some there) there;
        stood = λ h trees has stands.
            absurd (no_folder_at_end (is_honest old.store) (table old.store) (slots_of o) (slots_of mid) (length o) (length mid) old.forest r.grows.opened path at name left (name ∷ left) r.leads refl h trees has plain stands);
      }
