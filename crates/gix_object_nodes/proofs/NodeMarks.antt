-- The marks of nodes after a change.
use Rattle.std.proofs.Common.{ℕ, zero, suc, ◌≡◌, ◌≢◌, ◌<◌, List, [], ◌∷◌, ◌++◌, refl, sym, ap, ◌∙◌, inl, inr, arith, length, get_or, slice_set, take}
use Rattle.std.proofs.lemmas.Bool.{cases_eq}
use Rattle.std.proofs.lemmas.List.{length-set}
use Rattle.gix_object_nodes.specs.declared.node.Node.{Node}
use Rattle.gix_object_nodes.specs.Files.{Bytes}
use Rattle.gix_object_nodes.specs.Nodes.{slot_in, slots_of}
use Rattle.gix_object_nodes.specs.Marks.{mark_of, marks_of, KeepsRest}
use Rattle.gix_object_nodes.proofs.Slots.{set_here, set_other, set_others, node_at}

pub mark_here : (nodes : List Node) (i : ℕ) (d : Node) → i < length nodes → marks_of nodes i ≡ mark_of (get_or nodes i d)
mark_here [] i d lt = absurd (omega arith)
mark_here (k ∷ nodes) zero d lt = refl
mark_here (k ∷ nodes) (suc i) d lt = let less : i < length nodes = omega arith in mark_here nodes i d less

pub mark_set_here : (nodes : List Node) (i : ℕ) (n : Node) → i < length nodes → marks_of (slice_set nodes i n) i ≡ mark_of n
mark_set_here [] i n lt = absurd (omega arith)
mark_set_here (k ∷ nodes) zero n lt = refl
mark_set_here (k ∷ nodes) (suc i) n lt = let less : i < length nodes = omega arith in mark_set_here nodes i n less

pub mark_set_other : (nodes : List Node) (i j : ℕ) (n : Node) → j ≢ i → marks_of (slice_set nodes i n) j ≡ marks_of nodes j
mark_set_other [] i j n ne = refl
mark_set_other (k ∷ nodes) zero zero n ne = absurd (ne refl)
mark_set_other (k ∷ nodes) zero (suc j) n ne = refl
mark_set_other (k ∷ nodes) (suc i) zero n ne = refl
mark_set_other (k ∷ nodes) (suc i) (suc j) n ne = mark_set_other nodes i j n (λ e. ne (ap suc e))

pub marks_set : (nodes : List Node) (j : ℕ) (d new : Node) → j < length nodes → mark_of new ≡ mark_of (get_or nodes j d) → (i : ℕ) → marks_of (slice_set nodes j new) i ≡ marks_of nodes i
marks_set nodes j d new lt same i = elim (cases_eq i j) [
  | inl e ↦ ap (marks_of (slice_set nodes j new)) e ∙ mark_set_here nodes j new lt ∙ same ∙ sym (mark_here nodes j d lt) ∙ ap (marks_of nodes) (sym e)
  | inr ne ↦ mark_set_other nodes j i new ne
]

pub set_rest : (nodes : List Node) (j : ℕ) (d new : Node) (name : Bytes) → j < length nodes → ((other : Bytes) → other ≢ name → slot_in new other ≡ slot_in (get_or nodes j d) other) → mark_of new ≡ mark_of (get_or nodes j d)
    → KeepsRest nodes j name (slice_set nodes j new)
set_rest nodes j d new name lt same mark = record { len = length-set nodes j new; others = set_others nodes j d new name lt same; marks = marks_set nodes j d new lt mark }

pub slots_set : (nodes : List Node) (j : ℕ) (d new : Node) → j < length nodes → ((m : Bytes) → slot_in new m ≡ slot_in (get_or nodes j d) m) → (i : ℕ) (m : Bytes) → slots_of (slice_set nodes j new) i m ≡ slots_of nodes i m
slots_set nodes j d new lt same i m = elim (cases_eq i j) [
  | inl e ↦ ap (λ k. slots_of (slice_set nodes j new) k m) e ∙ set_here nodes j new m lt ∙ same m ∙ sym (node_at nodes j d m lt) ∙ ap (λ k. slots_of nodes k m) (sym e)
  | inr ne ↦ set_other nodes j i new m ne
]

pub marks_front : (nodes more : List Node) (i : ℕ) → i < length nodes → marks_of (nodes ++ more) i ≡ marks_of nodes i
marks_front [] more i lt = absurd (omega arith)
marks_front (k ∷ nodes) more zero lt = refl
marks_front (k ∷ nodes) more (suc i) lt = let less : i < length nodes = omega arith in marks_front nodes more i less

pub mark_end : (nodes : List Node) (n : Node) → marks_of (nodes ++ n ∷ []) (length nodes) ≡ mark_of n
mark_end [] n = refl
mark_end (k ∷ nodes) n = mark_end nodes n

pub marks_taken : (ns : List Node) (k i : ℕ) → i < k → marks_of (take k ns) i ≡ marks_of ns i
marks_taken [] zero i lt = refl
marks_taken [] (suc k) i lt = refl
marks_taken (x ∷ ns) zero i lt = absurd (omega arith)
marks_taken (x ∷ ns) (suc k) zero lt = refl
marks_taken (x ∷ ns) (suc k) (suc i) lt = let less : i < k = omega arith in marks_taken ns k i less
