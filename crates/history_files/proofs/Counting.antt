-- How many trees edits in a row look up.
use Rattle.std.proofs.Common.{◌≡◌, ◌∙◌, ap, sym, subst, refl, ℕ, zero, suc, ◌+◌, ◌<◌, ◌≤◌, ◌^◌, arith, true, false, Bool, cond, List, [], ◌∷◌, ◌++◌, length, take, drop, get_or, Option, Some, None}
use Rattle.std.proofs.Math.Seq.{take-suc}
use Rattle.gix_hash.specs.Id.{Id}
use Rattle.gix_object_tree.specs.Entry.{Item}
use Rattle.gix_object_editor.specs.Asked.{CountsUp, front_of, ids_from, slot_into, trees_into, unopened_into}
use Rattle.gix_object_nodes.specs.Files.{Path, Leaf, Trees, leads_on, leaf_of, named, through}
use Rattle.gix_object_nodes.specs.Nodes.{Slots, child_or, leaf_in}
use Rattle.gix_object_nodes.specs.declared.node.NodeId.{NodeId}
use Rattle.gix_object_nodes.specs.declared.node.Slot.{Slot}
use Rattle.history_model.specs.Bytes.{Bytes}
use Rattle.history_model.specs.FileMap.{components}
use Rattle.history_files.specs.Edits.{name_count}
use Rattle.history_files.specs.Lookups.{AsksOf, RisesBy, edit_way, root_count, way_of}
use Rattle.history_files.specs.declared.edits.Change.{Change}
use Rattle.history_files.specs.declared.edits.Change.TheVariants.{Put, Remove, RemoveFile, Graft}
use Rattle.history_files.specs.declared.edits.Edit.{Edit}

-- ---- no more trees than names

into_short : (trees : Trees) (rest : Path) (leaf : Leaf) → length (trees_into trees rest leaf) ≤ suc (length rest)
into_short trees [] leaf = go (leads_on leaf)
  where
    go : (b : Bool) → length (cond b (leaf.id ∷ []) []) ≤ 1
    go true = omega arith
    go false = omega arith
into_short trees (name ∷ rest) leaf = go (leads_on leaf) (through (trees leaf.id) (named name)) (λ item. into_short trees rest (leaf_of item))
  where
    go : (b : Bool) (o : Option Item) → ((item : Item) → length (trees_into trees rest (leaf_of item)) ≤ suc (length rest))
        → length (cond b (leaf.id ∷ ids_from o (λ item. trees_into trees rest (leaf_of item))) []) ≤ suc (suc (length rest))
    go false o later = omega arith
    go true None later = omega arith
    go true (Some item) later = let h = later item in omega arith

slot_short : (trees : Trees) (slots : Slots) (rest : Path) (s : Slot) → length (slot_into trees slots rest s) ≤ suc (length rest)
slot_short trees slots [] s = go s.child
  where
    go : (child : Option NodeId) → length (child_or child (λ c. []) (trees_into trees [] (leaf_in s))) ≤ 1
    go None = into_short trees [] (leaf_in s)
    go (Some c) = omega arith
slot_short trees slots (name ∷ rest) s = go s.child (λ t. slot_short trees slots rest t)
  where
    by_slot : (o : Option Slot) → ((t : Slot) → length (slot_into trees slots rest t) ≤ suc (length rest)) → length (ids_from o (slot_into trees slots rest)) ≤ suc (suc (length rest))
    by_slot None later = omega arith
    by_slot (Some t) later = let h = later t in omega arith

    go : (child : Option NodeId) → ((t : Slot) → length (slot_into trees slots rest t) ≤ suc (length rest))
        → length (child_or child (λ c. ids_from (slots c name) (slot_into trees slots rest)) (trees_into trees (name ∷ rest) (leaf_in s))) ≤ suc (suc (length rest))
    go None later = into_short trees (name ∷ rest) (leaf_in s)
    go (Some c) later = by_slot (slots c.0 name) later

pub unopened_short : (trees : Trees) (slots : Slots) (i : ℕ) (path : Path) → length (unopened_into trees slots i path) ≤ length path
unopened_short trees slots i [] = omega arith
unopened_short trees slots i (name ∷ rest) = go (slots i name)
  where
    go : (o : Option Slot) → length (ids_from o (slot_into trees slots rest)) ≤ suc (length rest)
    go None = omega arith
    go (Some s) = slot_short trees slots rest s

front_short : (path : Path) → length (front_of path) ≤ length path
front_short [] = omega arith
front_short (name ∷ []) = omega arith
front_short (name ∷ next ∷ rest) = let h = front_short (next ∷ rest) in omega arith

pub way_short : (path : Bytes) (change : Change) → length (way_of path change) ≤ length (components path)
way_short path (Put kind id) = front_short (components path)
way_short path Remove = front_short (components path)
way_short path RemoveFile = omega arith
way_short path (Graft found) = front_short (components path)

-- ---- one edit more

pub one_more : (into : Path → List Id) (done : List Edit) (edit : Edit) (was now new more : ℕ) → RisesBy into done was now → new ≡ now + more
    → (done ≡ [] → more ≡ length (into (edit_way edit))) → RisesBy into (done ++ edit ∷ []) was new
one_more into [] edit was now new more so next first = let m : more ≡ length (into (edit_way edit)) = first refl in omega arith
one_more into (e ∷ []) edit was now new more so next first = omega arith
one_more into (e ∷ f ∷ es) edit was now new more so next first = omega arith

pub take_next : (edits : List Edit) (i : ℕ) (d : Edit) → i < length edits → take (i + 1) edits ≡ take i edits ++ get_or edits i d ∷ []
take_next edits i d within =
    let next : suc i ≡ i + 1 = omega arith in
    subst (λ n. take n edits ≡ take i edits ++ get_or edits i d ∷ []) next (take-suc edits i d within)

pub take_all : (edits : List Edit) (i : ℕ) → length edits ≤ i → take i edits ≡ edits
take_all [] zero h = refl
take_all [] (suc i) h = refl
take_all (e ∷ edits) zero h = absurd (omega arith)
take_all (e ∷ edits) (suc i) h = ap (λ es. e ∷ es) (take_all edits i (omega arith))

pub take_none : (edits : List Edit) → take 0 edits ≡ []
take_none [] = refl
take_none (e ∷ edits) = refl

pub some_taken : (done : List Edit) (edit : Edit) → done ++ edit ∷ [] ≡ [] → ⊥
some_taken [] edit e = cc
some_taken (d ∷ done) edit e = cc

-- ---- from a root on

pub root_few : (root : Option Id) → root_count root ≤ 1
root_few None = omega arith
root_few (Some id) = omega arith

pub rises_after : (into other : Path → List Id) (edits : List Edit) (roots asked lookups : ℕ) → ((path : Path) → into path ≡ other path) → RisesBy into edits 0 asked → lookups ≡ asked + roots → RisesBy other edits roots lookups
rises_after into other [] roots asked lookups same so total = omega arith
rises_after into other (e ∷ []) roots asked lookups same so total = let n : length (into (edit_way e)) ≡ length (other (edit_way e)) = ap (λ (ids : List Id). length ids) (same (edit_way e)) in omega arith
rises_after into other (e ∷ f ∷ es) roots asked lookups same so total = let n : length (into (edit_way e)) ≡ length (other (edit_way e)) = ap (λ (ids : List Id). length ids) (same (edit_way e)) in omega arith

pub asks_after : (into other : Path → List Id) (edits : List Edit) (roots was asked lookups : ℕ) → was ≡ 0 → ((path : Path) → into path ≡ other path) → AsksOf into edits was asked → asked ≤ was + name_count edits
    → CountsUp asked lookups roots → AsksOf other edits roots lookups
asks_after into other edits roots was asked lookups none same so few up = λ fit.
    let start = subst (λ n. RisesBy into edits n asked) none (so (omega arith)) in
    rises_after into other edits roots asked lookups same start (up (omega arith))
