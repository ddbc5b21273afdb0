use Rattle.std.proofs.Common.{List, sym, subst, map}
use Rattle.gix_hash.specs.Id.{id_of}
use Rattle.gix_object_tree.specs.Entry.{item_of, SpellsTree}
use Rattle.gix_object_tree.specs.WellFormed.{IsWellFormed}
use Rattle.gix_object_tree.specs.declared.tree.entry.EntryRef.{EntryRef}
use Rattle.gix_object_nodes.specs.Files.{named}
use Rattle.gix_object_nodes.specs.Nodes.{slot_in}
use Rattle.gix_object_editor.proofs.Loaded.{fresh_of, entries_stand}
use Rattle.gix_object_editor.proofs.tree.editor.load.load.Goals as goal

pub node_of-requires : goal.node_of-requires
node_of-requires g c =
    subst (λ (xs : List EntryRef). IsWellFormed (map item_of xs)) (sym c.as_slice.ensures.value) (c.is_well_formed.ensures.0 c.if-not-is_well_formed.false)

pub returns-clause-opened : goal.returns-clause-opened
returns-clause-opened g c = λ honest.
    let id = id_of c.args.oid in
    let read = c.in_ok-tree.ensures.read in
    let items = map item_of c.as_slice.result.now in
    let spelled = subst (λ (xs : List EntryRef). SpellsTree id.kind read.0 (map item_of xs)) (sym c.as_slice.ensures.value) read.2 in
    (items, c.in_ok-node_of.ensures, λ trees has. has id read.0 items (read.1 honest) spelled)

pub returns-clause-holds : goal.returns-clause-holds
returns-clause-holds g c = λ honest.
    let id = id_of c.args.oid in
    let read = c.in_ok-tree.ensures.read in
    let items = map item_of c.as_slice.result.now in
    let spelled = subst (λ (xs : List EntryRef). SpellsTree id.kind read.0 (map item_of xs)) (sym c.as_slice.ensures.value) read.2 in
    let whole = subst (λ (xs : List EntryRef). IsWellFormed (map item_of xs)) (sym c.as_slice.ensures.value) (c.is_well_formed.ensures.0 c.if-not-is_well_formed.false) in
    (read.0, items, read.1 honest, spelled, whole, λ m s is. entries_stand (slot_in c.in_ok-node_of.field-0) items c.in_ok-node_of.ensures m s is)

pub returns-clause-fresh : goal.returns-clause-fresh
returns-clause-fresh g c = λ m. fresh_of (slot_in c.in_ok-node_of.field-0 m) (named m (map item_of c.as_slice.result.now)) (c.in_ok-node_of.ensures m)
