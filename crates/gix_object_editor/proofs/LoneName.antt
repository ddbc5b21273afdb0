-- A slot put under one name, without a ladder.
use Rattle.std.proofs.Common.{ℕ, ◌≡◌, ◌<◌, Bool, List, [], ◌∷◌, Some, None, refl, sym, ap, subst, ◌∙◌, inl, inr, arith, length, get_or, drop}
use Rattle.std.specs.Borrow.{Bor}
use Rattle.gix_object_nodes.specs.declared.node.Node.{Node}
use Rattle.gix_object_nodes.specs.declared.node.Slot.{Slot}
use Rattle.gix_object_nodes.specs.Files.{Bytes, Path, Trees, behind, through, put}
use Rattle.gix_object_nodes.specs.Nodes.{slots_of, child_or, child_of, leaf_in, files_of_node, slot_entry, entry_from, Way, onto, IsPutIn}
use Rattle.gix_object_editor.specs.Grown.{IsForestOf, KeepsMarks}
use Rattle.gix_object_editor.specs.Laid.{laid_at, IsLaid}
use Rattle.gix_object_nodes.specs.Marks.{AreOnPath, KeepsRest}
use Rattle.gix_object_nodes.proofs.Slots.{none_past}
use Rattle.gix_object_editor.proofs.Changes.{none_on_path}
use Rattle.gix_object_editor.proofs.Kept.{first_fits, put_each}
use Rattle.gix_object_editor.proofs.Opening.{at_or_off}
use Rattle.gix_object_nodes.proofs.Paths.{onto-append}
use Rattle.gix_object_editor.proofs.Walked.{names, names_length}
use Rattle.gix_object_editor.proofs.SlotChange.{puts, way_above}
use Rattle.gix_object_editor.proofs.Edits.{less_forest}
use Rattle.gix_object_editor.proofs.Entered.{none_met, closed_entry, laid_entries}

none_behind : (path : List (Bor (List ℕ))) → length path ≡ 1 → names (drop 1 path) ≡ []
none_behind [] e = absurd (omega arith)
none_behind (p ∷ []) e = refl
none_behind (p ∷ q ∷ path) e = absurd (omega arith)

lone_name : (path : List (Bor (List ℕ))) → length path ≡ 1 → names path ≡ get_or (names path) 0 [] ∷ []
lone_name [] e = absurd (omega arith)
lone_name (p ∷ []) e = refl
lone_name (p ∷ q ∷ path) e = absurd (omega arith)

module _ (old new : List Node) (ok : IsForestOf old) (path : List (Bor (List ℕ))) (one : length path ≡ 1) (s : Slot) (closed : s.child ≡ None)
    (at : ℕ) (within : at < length old) (name : Bytes) (name_is : get_or (names path) 0 [] ≡ name) (stands : slots_of new at name ≡ Some s) (rest : KeepsRest old at name new) where
  name_only : names path ≡ name ∷ []
  name_only = lone_name path one ∙ ap (λ n. n ∷ []) name_is

  unlinked : child_of (slots_of new at name) ≡ None
  unlinked = ap child_of stands ∙ ap (λ o. child_or o (λ d. Some d) None) closed

  pub put_files : (trees : Trees) (way : Path) → Way (slots_of old) way at
      → (q : Path) → files_of_node trees (slots_of new) 0 q ≡ put trees (onto way (names path)) (leaf_in s) (files_of_node trees (slots_of old) 0) q
  put_files trees way reached q =
      puts trees (slots_of old) (slots_of new) (length old) ok at name way reached rest.others s stands closed q
      ∙ ap (λ p. put trees (onto way p) (leaf_in s) (files_of_node trees (slots_of old) 0) q) (sym name_only)

  put_entries : (trees : Trees) (way : Path) → Way (slots_of old) way at
      → (q : Path) → entry_from none_met trees (slots_of new) 0 q ≡ laid_at trees (leaf_in s) [] (behind (onto way (name ∷ [])) q) (entry_from none_met trees (slots_of old) 0 q)
  put_entries trees way reached q =
      laid_entries trees (slots_of old) (slots_of new) (length old) ok at name way reached (λ i m lt off. rest.others i m off) (leaf_in s) []
      (λ r. ap (λ o. through o (slot_entry none_met trees (slots_of new) r)) stands ∙ closed_entry trees (slots_of new) s closed r) q

  put_end : (way : Path) → Way (slots_of old) way at → IsPutIn (slots_of new) (onto way (names path)) at
  put_end way reached =
      let same : (i : ℕ) (m : Bytes) → i < at → slots_of new i m ≡ slots_of old i m = λ i m lt. rest.others i m (λ e _. absurd (omega arith)) in
      let down : Way (slots_of new) way at = way_above (slots_of old) (slots_of new) (length old) at ok same way at (omega arith) reached in
      subst (λ p. IsPutIn (slots_of new) (onto way p) at) (sym name_only) (onto way [], name, onto-append way [] (name ∷ []), (way, down, refl))

  put_marks : (state : Bool) → KeepsMarks state old new
  put_marks state = record {
    same = λ i lt. rest.marks i;
    fresh = λ i le lt. absurd (omega (arith, le, lt, rest.len));
    before = λ i le lt. absurd (omega (arith, le, lt, rest.len));
    up = λ i n c e le. let w = ok.within i n c (ap child_of (sym (kept i n c e)) ∙ e) in absurd (omega (arith, le, w));
    links = λ i n c e lt. kept i n c e;
  }
    where
      kept : (i : ℕ) (n : Bytes) (c : ℕ) → child_of (slots_of new i n) ≡ Some c → slots_of new i n ≡ slots_of old i n
      kept i n c e = elim (at_or_off i at n name) [
        | inl x ↦ absurd (cc (sym (ap (λ k. child_of (slots_of new k n)) x.0 ∙ ap (λ k. child_of (slots_of new at k)) x.1 ∙ unlinked) ∙ e))
        | inr off ↦ rest.others i n off
      ]

  -- the slot is laid
  pub lone_laid : (state : Bool) → IsLaid old at path s state new at
  lone_laid state = record {
    appends = record {
      forest = less_forest (slots_of old) (slots_of new) (length old) (length new) at name ok (sym rest.len) unlinked rest.others;
      longer = omega (arith, rest.len);
      others = λ i m lt off. rest.others i m (λ e same. off e (same ∙ sym name_is));
      marks = put_marks state;
    };
    within = omega (arith, within, rest.len);
    files = put_files;
    entries = λ trees way reached q.
        let stood = entry_from none_met trees (slots_of old) 0 q in
        put_entries trees way reached q
        ∙ ap (λ p. laid_at trees (leaf_in s) p (behind (onto way (name ∷ [])) q) stood) (sym (none_behind path one))
        ∙ ap (λ m. laid_at trees (leaf_in s) (names (drop 1 path)) (behind (onto way (m ∷ [])) q) stood) (sym name_is);
    put_in = put_end;
    each = λ has fit each. put_each (slots_of old) (slots_of new) at name s has stands (first_fits has (names path) (leaf_in s) name fit (omega (arith, names_length path, one)) name_is).0 rest.others each;
    null = λ more. absurd (omega (arith, more, one));
    last = λ more. absurd (omega (arith, more, one));
    rungs = λ i m u le is. absurd (cc (sym (none_past new i m (omega (arith, le, rest.len))) ∙ is));
    made = λ way reached. subst (AreOnPath (slots_of new) (onto way (names path)) (length old)) (sym rest.len) (none_on_path (slots_of new) (onto way (names path)) (length old));
  }
