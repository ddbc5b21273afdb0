-- Trees of which more are opened.
use Rattle.std.proofs.Common.{ℕ, ◌≡◌, ◌∙◌, ◌&&◌, Bool, true, false, List, [], ◌∷◌, Option, Some, None, refl, sym, ap, length, if◌then◌else◌}
use Rattle.std.specs.Prelude.{not}
use Rattle.gix_object_lookup.specs.Table.{Table}
use Rattle.gix_object_tree.specs.Mode.{is_tree_value}
use Rattle.gix_object_nodes.specs.declared.node.Node.{Node}
use Rattle.gix_object_nodes.specs.declared.node.Slot.{Slot}
use Rattle.gix_object_nodes.specs.Files.{Bytes, Path, Leaf, Trees, is_null, leads_on, leaf_of, named, through, files_of_entry}
use Rattle.gix_object_nodes.specs.Nodes.{Slots, slots_of, child_or, leaf_in, files_of_slot, files_of_node, IsFolderAt, IsNoFolder}
use Rattle.gix_object_nodes.specs.Marks.{marks_of, IsIdle, KeepsRest}
use Rattle.gix_object_editor.specs.Asked.{unopened_into}
use Rattle.gix_object_editor.specs.Grown.{Grows, IsCut, IsForestOf, IsMarkedOf, IsMarkedUp, IsSame}
use Rattle.gix_object_editor.proofs.Asking.{no_slot, plain_split}
use Rattle.gix_object_editor.proofs.Marked.{marks_none, marks_same, marks_then, opened_marked, read_same, marked_for, idle_marked}
use Rattle.gix_object_editor.proofs.Opening.{as_function, opened_none, opened_same, opened_then}

pub same_items : (old new : List Node) → new ≡ old → IsSame old new
same_items old new e = record { len = ap length e; slots = λ i m. ap (λ ns. slots_of ns i m) e; marks = λ i lt. ap (λ ns. marks_of ns i) e }

module _ {honest : Type 0} {table : Table} where
  pub grows_none : (nodes : List Node) → IsForestOf nodes → Grows honest table nodes nodes
  grows_none nodes ok = record {
    opened = opened_none honest table (slots_of nodes) (length nodes) ok;
    marks = marks_none false (slots_of nodes) (marks_of nodes) (length nodes) ok;
    as_read = λ h trees has read. read;
    each = λ h has down was. was;
  }

  pub grows_then : {a b c : List Node} → Grows honest table a b → Grows honest table b c → Grows honest table a c
  grows_then {a} {b} {c} first second = record {
    opened = opened_then honest table (slots_of a) (slots_of b) (slots_of c) (length a) (length b) (length c) first.opened second.opened;
    marks = marks_then false (slots_of a) (slots_of b) (slots_of c) (marks_of a) (marks_of b) (marks_of c) (length a) (length b) (length c) first.opened.longer second.opened.longer first.marks second.marks;
    as_read = λ h trees has read. second.as_read h trees has (first.as_read h trees has read);
    each = λ h has down was. second.each h has down (first.each h has down was);
  }

  pub grows_same : {old new : List Node} → IsForestOf old → IsSame old new → Grows honest table old new
  grows_same {old} {new} ok same = record {
    opened = opened_same honest table (slots_of old) (slots_of new) (length old) (length new) ok (sym same.len) same.slots;
    marks = marks_same false (slots_of old) (slots_of new) (marks_of old) (marks_of new) (length old) (length new) ok (sym same.len) same.slots same.marks;
    as_read = λ h trees has read. read_same trees (slots_of old) (slots_of new) (marks_of old) (marks_of new) (length old) ok (as_function (slots_of new) (slots_of old) same.slots) same.marks read;
    each = λ h has down each i m s is. each i m s (sym (same.slots i m) ∙ is);
  }

  pub grown_marked : {old new : List Node} → IsForestOf old → IsMarkedOf old → Grows honest table old new → IsMarkedOf new
  grown_marked {old} {new} ok marked grows =
      opened_marked (slots_of old) (slots_of new) (marks_of old) (marks_of new) (length old) (length new) ok marked false grows.marks grows.opened.forest grows.marks.fresh

-- ---- a name without a folder

nowhere : (trees : Trees) (m : Bytes) (rest : Path) (leaf : Leaf) → leads_on leaf ≡ false → files_of_entry trees (m ∷ rest) leaf ≡ None
nowhere trees m rest leaf plain = by_case (is_null leaf.id) (is_tree_value leaf.mode.value) plain
  where
    by_case : (null is_tree : Bool) → (is_tree && not null) ≡ false
        → (if null then None else through (if is_tree then trees leaf.id else None) (λ items. through (named m items) (λ item. files_of_entry trees rest (leaf_of item)))) ≡ None
    by_case true _ e = refl
    by_case false true e = absurd (cc e)
    by_case false false e = refl

pub no_files : (slots : Slots) (at : ℕ) (name : Bytes) → IsNoFolder (slots at name) → IsFolderAt slots at name None
no_files slots at name plain = λ trees m rest. by_slot trees m rest (slots at name) plain
  where
    by_slot : (trees : Trees) (m : Bytes) (rest : Path) (o : Option Slot) → IsNoFolder o → through o (files_of_slot trees slots (m ∷ rest)) ≡ None
    by_slot trees m rest None free = refl
    by_slot trees m rest (Some s) free =
        ap (λ o. child_or o (λ c. files_of_node trees slots c (m ∷ rest)) (files_of_entry trees (m ∷ rest) (leaf_in s))) (free s refl).0 ∙ nowhere trees m rest (leaf_in s) (free s refl).1

pub none_into : (trees : Trees) (slots : Slots) (at : ℕ) (name : Bytes) (rest : Path) → IsNoFolder (slots at name) → unopened_into trees slots at (name ∷ rest) ≡ []
none_into trees slots at name rest plain = by_slot (slots at name) refl
  where
    by_slot : (o : Option Slot) → slots at name ≡ o → unopened_into trees slots at (name ∷ rest) ≡ []
    by_slot None is = no_slot trees slots at name rest is
    by_slot (Some s) is = let free = plain s is in plain_split trees slots at name rest s is free.0 free.1

-- ---- a slot that is taken out

module _ (old mid : List Node) (at : ℕ) (name : Bytes) (here : slots_of mid at name ≡ None) (rest : KeepsRest old at name mid) where
  -- more than a made folder was there, and the tree is marked
  pub cut_marked : (new : List Node) → (IsIdle (marks_of old) (slots_of old at name) → ⊥) → IsMarkedUp mid at new → IsCut old at name new
  cut_marked new more up = record {
    len = up.len ∙ rest.len;
    here = up.slots at name ∙ here;
    others = λ i m off. up.slots i m ∙ rest.others i m off;
    marks = marked_for (slots_of old) (slots_of mid) (slots_of new) (marks_of old) (marks_of mid) (marks_of new) at name (length old) (length mid) rest.len (as_function (slots_of new) (slots_of mid) up.slots) rest.marks rest.others up.marked;
    idle = λ idle. absurd (more idle);
  }

  -- no more was
  pub cut_idle : IsMarkedOf old → IsIdle (marks_of old) (slots_of old at name) → IsCut old at name mid
  cut_idle marked idle = record {
    len = rest.len;
    here = here;
    others = rest.others;
    marks = idle_marked (slots_of old) (slots_of mid) (marks_of old) (marks_of mid) at name (length old) marked idle here rest.others rest.marks;
    idle = λ is. rest.marks;
  }
