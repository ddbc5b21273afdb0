-- Folders that are made by an entry below them that is removed again.
use Rattle.std.proofs.Common.{ℕ, inl, inr, Bool, true, List, ◌≡◌, ◌≢◌, ◌∙◌, ◌<◌, ◌++◌, ◌∷◌, [], None, ap, sym, subst, arith, length, get_or, drop}
use Rattle.std.specs.Borrow.{Bor}
use Rattle.std.specs.List.{All, Contains}
use Rattle.gix_hash.specs.Id.{id_of}
use Rattle.gix_hash.specs.declared.kind.Kind.{Kind}
use Rattle.gix_object_nodes.specs.declared.node.Node.{Node}
use Rattle.gix_object_nodes.specs.declared.node.Slot.{Slot}
use Rattle.gix_object_nodes.specs.Files.{Bytes, Path, Leaf, is_null, put, behind}
use Rattle.gix_object_nodes.specs.Nodes.{slots_of, leaf_in, files_of_node, entry_from, child_of, onto, IsFolderAt, IsPutIn, Way}
use Rattle.gix_object_nodes.specs.Marks.{marks_of, AreMarksKept, AreOnPath, KeepsRest}
use Rattle.gix_object_nodes.proofs.Paths.{onto-append}
use Rattle.gix_object_editor.specs.Asked.{front_of}
use Rattle.gix_object_editor.specs.Entries.{MayStand, made_leaf}
use Rattle.gix_object_editor.specs.Grown.{IsForestOf}
use Rattle.gix_object_editor.specs.Laid.{AreMade, IsLaid, laid_at, made_at}
use Rattle.gix_object_editor.proofs.Asking.{front_pushed}
use Rattle.gix_object_editor.proofs.Cuts.{null_itself}
use Rattle.gix_object_editor.proofs.Edits.{less_forest}
use Rattle.gix_object_editor.proofs.Entered.{none_met, made_then, names_drop}
use Rattle.gix_object_editor.proofs.Folders.{none_below, made_leads, made_files, taken_entries, taken_link, taken_marks, taken_ways, two_long, same_first_name}
use Rattle.gix_object_editor.proofs.Kept.{unless_empty, may_stand_more, each_more_has, made_each}
use Rattle.gix_object_editor.proofs.Walked.{names, names_length}

module _ (old mid new : List Node) (at end : ℕ) (path more : List (Bor (List ℕ))) (slot : Slot) (hash : Kind) (state : Bool) (named : 0 < length path) (longer : names more ≡ names path ++ [] ∷ []) (leaf : leaf_in slot ≡ made_leaf hash)
    (laid : IsLaid old at more slot state mid end) (here : slots_of new end [] ≡ None) (rest : KeepsRest mid end [] new) where
  some : 0 < length (names path)
  some = omega (arith, names_length path, named)

  two : 1 < length more
  two = two_long (names path) more longer some

  first : get_or (names more) 0 [] ≡ get_or (names path) 0 []
  first = ap (λ p. get_or p 0 []) longer ∙ same_first_name (names path) ([] ∷ []) some

  whole : (way : Path) → onto way (names more) ≡ onto way (names path) ++ [] ∷ []
  whole way = ap (onto way) longer ∙ onto-append way (names path) ([] ∷ [])

  put_in : (way : Path) → Way (slots_of old) way at → IsPutIn (slots_of mid) (onto way (names path) ++ [] ∷ []) end
  put_in way reached = subst (λ p. IsPutIn (slots_of mid) p end) (whole way) (laid.put_in way reached)

  no_id : is_null (id_of slot.oid) ≡ true
  no_id = ap (λ (l : Leaf). is_null l.id) leaf ∙ null_itself hash

  taken_others : (i : ℕ) (m : Bytes) → i < length old → ((i ≡ at) → (m ≡ get_or (names path) 0 []) → ⊥) → slots_of new i m ≡ slots_of old i m
  taken_others i m lt off = rest.others i m (λ e _. absurd (omega (arith, e, lt, (laid.last two).1))) ∙ laid.appends.others i m lt (λ e same. off e (same ∙ first))

  pub taken_made : IsForestOf old → IsFolderAt (slots_of old) at (get_or (names path) 0 []) None → All (λ name. name ≢ []) (names path) → AreMade old at path hash state new end
  taken_made ok plain full = record {
    appends = record {
      forest = less_forest (slots_of mid) (slots_of new) (length mid) (length new) end [] laid.appends.forest (sym rest.len) (ap child_of here) rest.others;
      longer = omega (arith, laid.appends.longer, rest.len);
      others = taken_others;
      marks = subst (AreMarksKept state (slots_of old) (slots_of new) (marks_of old) (marks_of new) (length old)) (sym rest.len)
          (taken_marks (slots_of mid) (slots_of new) [] end here rest.others state (slots_of old) (marks_of old) (marks_of mid) (marks_of new) (length old) (length mid) rest.marks laid.appends.marks);
    };
    within = omega (arith, laid.within, rest.len);
    files = λ trees way reached q.
        made_files (slots_of mid) (slots_of new) (length mid) laid.appends.forest (onto way (names path)) [] end (put_in way reached) here rest.others trees (leaf_in slot)
        (files_of_node trees (slots_of old) 0) (none_below trees (slots_of old) way at (names path) reached some plain)
        (λ r. laid.files trees way reached r ∙ ap (λ p. put trees p (leaf_in slot) (files_of_node trees (slots_of old) 0) r) (whole way)) q;
    entries = λ trees way reached q.
        let stood = λ (r : Path). entry_from none_met trees (slots_of old) 0 r in
        taken_entries (slots_of mid) (slots_of new) (length mid) laid.appends.forest (onto way (names path)) [] end (put_in way reached) here rest.others trees q
        ∙ made_then trees (leaf_in slot) way (names path) (names more) longer some stood q _
        (laid.entries trees way reached q ∙ ap (λ p. laid_at trees (leaf_in slot) p (behind (onto way (get_or (names more) 0 [] ∷ [])) q) (stood q)) (names_drop more))
        ∙ ap (λ (l : Leaf). made_at l.id.kind (drop 1 (names path)) (behind (onto way (get_or (names path) 0 [] ∷ [])) q) (stood q)) leaf
        ∙ ap (λ p. made_at hash p (behind (onto way (get_or (names path) 0 [] ∷ [])) q) (stood q)) (sym (names_drop path));
    leads = λ way reached. made_leads (slots_of mid) (slots_of new) (length mid) laid.appends.forest (onto way (names path)) [] end (put_in way reached) here rest.others;
    each = λ has fit each.
        let fits : MayStand (unless_empty has) (names more) (leaf_in slot) =
        subst (λ (p : Path). MayStand (unless_empty has) p (leaf_in slot)) (sym longer) (subst (MayStand (unless_empty has) (names path ++ [] ∷ [])) (sym leaf) (may_stand_more has hash (names path) fit)) in
        made_each (slots_of old) (slots_of mid) (slots_of new) (length old) at end (names path) (get_or (names path) 0 []) has full (full 0 [] some)
        (laid.each (unless_empty has) fits (each_more_has has (slots_of old) each)) here rest.others (λ i m lt off. laid.appends.others i m lt (λ e is. off e (is ∙ first)))
        (λ i m s le is. elim (laid.rungs i m s le is) [
          | inl e ↦ inl e
          | inr h ↦ inr (subst (λ (p : Path). Contains p m) (ap front_of longer ∙ front_pushed (names path) []) h)
        ]) each;
    null = λ i m s k is link le. laid.null two no_id i m s k (sym (taken_link (slots_of mid) (slots_of new) [] end here rest.others i m k (ap child_of is ∙ link)) ∙ is) link le;
    made = λ way reached.
        subst (AreOnPath (slots_of new) (onto way (names path) ++ [] ∷ []) (length old)) (sym rest.len)
        (taken_ways (slots_of mid) (slots_of new) [] end here rest.others (length mid) laid.appends.forest (onto way (names path) ++ [] ∷ []) (length old)
        (λ j lt. omega (arith, lt, (laid.last two).0))
        (subst (λ p. AreOnPath (slots_of mid) p (length old) (length mid)) (whole way) (laid.made way reached)));
  }
