-- One step further down.
use Rattle.std.proofs.Common.{ℕ, zero, suc, arith, ◌≡◌, ◌<◌, ◌+◌, List, [], ◌∷◌, refl, Option, Some, sym, ap, ◌∙◌, length, get_or, map, drop, add-one, drop-cons}
use Rattle.std.specs.Borrow.{Bor}
use Rattle.gix_object_nodes.specs.declared.node.Node.{Node}
use Rattle.gix_object_nodes.specs.Files.{Bytes, Path, through}
use Rattle.gix_object_nodes.specs.Nodes.{Slots, slots_of, slot_in, entry_in, child_of, onto, LeadsTo, entry_at}
use Rattle.gix_object_nodes.proofs.Slots.{node_at}
use Rattle.gix_object_editor.proofs.SlotChange.{way_kept}

abbrev pub names : List (Bor (List ℕ)) → Path
names path = map (λ n. n.now) path

pub names_length : (path : List (Bor (List ℕ))) → length (names path) ≡ length path
names_length [] = refl
names_length (p ∷ path) = ap suc (names_length path)

pub names_step : (path : List (Bor (List ℕ))) (i : ℕ) (d : Bor (List ℕ)) → i < length path → names (drop i path) ≡ (get_or path i d).now ∷ names (drop (i + 1) path)
names_step path i d lt = ap names (drop-cons path i d lt) ∙ ap (λ k. (get_or path i d).now ∷ names (drop k path)) (sym (add-one i))

pub leads_kept : (old new : Slots) (path : Path) (j : ℕ) (rest : Path) → ((i : ℕ) (m : Bytes) (c : ℕ) → child_of (old i m) ≡ Some c → child_of (new i m) ≡ Some c) → LeadsTo old path j rest → LeadsTo new path j rest
leads_kept old new path j rest links way = (way.0, way_kept old new links way.0 j way.1, way.2)

pub leads_on : (old new : Slots) (whole : Path) (path : List (Bor (List ℕ))) (j i : ℕ) (d : Bor (List ℕ)) (c : ℕ) → i < length path
    → ((k : ℕ) (m : Bytes) (e : ℕ) → child_of (old k m) ≡ Some e → child_of (new k m) ≡ Some e)
    → child_of (new j (get_or path i d).now) ≡ Some c
    → LeadsTo old whole j (names (drop i path)) → LeadsTo new whole c (names (drop (i + 1) path))
leads_on old new whole path j i d c lt links found way =
    ((get_or path i d).now ∷ way.0, (j, way_kept old new links way.0 j way.1, found), ap (onto way.0) (sym (names_step path i d lt)) ∙ way.2)

pub last_name : (path : List (Bor (List ℕ))) (i : ℕ) (d : Bor (List ℕ)) → i + 1 ≡ length path → names (drop i path) ≡ (get_or path i d).now ∷ []
last_name [] i d e = absurd (omega arith)
last_name (p ∷ []) zero d e = refl
last_name (p ∷ q ∷ path) zero d e = absurd (omega arith)
last_name (p ∷ path) (suc i) d e = let less : i + 1 ≡ length path = omega arith in last_name path i d less

-- ---- the entry at a path's end

pub entry_down : (slots : Slots) (at : ℕ) (path : List (Bor (List ℕ))) (i : ℕ) (d : Bor (List ℕ)) (c : Option ℕ) → suc i < length path → child_of (slots at (get_or path i d).now) ≡ c
    → entry_at slots at (names (drop i path)) ≡ through c (λ k. entry_at slots k (names (drop (suc i) path)))
entry_down slots at [] i d c lt e = absurd (omega arith)
entry_down slots at (p ∷ []) zero d c lt e = absurd (omega arith)
entry_down slots at (p ∷ q ∷ path) zero d c lt e = ap (λ o. through o (λ k. entry_at slots k (q.now ∷ names path))) e
entry_down slots at (p ∷ path) (suc i) d c lt e = let less : suc i < length path = omega arith in entry_down slots at path i d c less e

pub entry_last : (nodes : List Node) (at : ℕ) (path : List (Bor (List ℕ))) (i : ℕ) (d : Bor (List ℕ)) (node : Node) → node ≡ get_or nodes at node → at < length nodes → i + 1 ≡ length path
    → entry_in (get_or path i d).now (slot_in node (get_or path i d).now) ≡ entry_at (slots_of nodes) at (names (drop i path))
entry_last nodes at path i d node is lt last =
    ap (λ n. entry_in (get_or path i d).now (slot_in n (get_or path i d).now)) is
    ∙ ap (entry_in (get_or path i d).now) (sym (node_at nodes at node (get_or path i d).now lt))
    ∙ sym (ap (entry_at (slots_of nodes) at) (last_name path i d last))
