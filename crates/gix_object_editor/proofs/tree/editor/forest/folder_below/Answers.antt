use Rattle.std.proofs.Common.{ℕ, inl, inr, List, [], sym, subst, refl, arith}
use Rattle.std.specs.Prelude.{IfOk, IfErr}
use Rattle.std.specs.Borrow.{Bor}
use Rattle.std.proofs.lemmas.List.{get_or-map}
use Rattle.gix_object_editor.specs.Grown.{IsFolderOf, IsUnopenedFor}
use Rattle.gix_object_nodes.specs.Nodes.{slots_of}
use Rattle.gix_object_editor.proofs.Asking.{asks_below, asks_same, asks_done}
use Rattle.gix_object_editor.proofs.Growth.{grows_none, none_into}
use Rattle.gix_object_editor.proofs.tree.editor.forest.folder_below.Goals as goal

pub returns-clause-refused : goal.returns-clause-refused
returns-clause-refused g c =
    subst (λ n. IfErr c.open.result (IsUnopenedFor (g.S.Lookup.is_honest c.args.store.now) (g.S.Lookup.may_fail c.args.store.now) (g.S.Lookup.table c.args.store.now) c.open.new.nodes.items c.args.at.0 n))
    (sym (get_or-map (λ (n : Bor (List ℕ)). n.now) c.args.names.now 0 _ [] c.requires.named)) c.open.ensures.refused

pub returns-clause-asked : goal.returns-clause-asked
returns-clause-asked g c =
    asks_below (g.S.Lookup.is_honest c.args.store.now) (g.S.Lookup.may_fail c.args.store.now) (g.S.Lookup.table c.args.store.now) (slots_of c.args.nodes.now.items) (slots_of c.open.new.nodes.items) c.args.at.0 _ _ c.open.result c.args.lookups.now c.open.new.lookups
    (sym (get_or-map (λ (n : Bor (List ℕ)). n.now) c.args.names.now 0 _ [] c.requires.named)) c.open.ensures.asked

pub returns-clause-found : goal.returns-clause-found
returns-clause-found g c =
    subst (λ n. IfOk c.open.result (IsFolderOf c.args.nodes.now.items c.open.new.nodes.items c.args.at.0 n))
    (sym (get_or-map (λ (n : Bor (List ℕ)). n.now) c.args.names.now 0 _ [] c.requires.named)) c.open.ensures.found

pub returns-clause-alone : goal.returns-clause-alone
returns-clause-alone g c = inl (omega (arith, c.requires.named))

pub returns-then-names-gt1-clause-alone : goal.returns-then-names-gt1-clause-alone
returns-then-names-gt1-clause-alone g c = inr refl

pub returns-then-names-gt1-clause-grows : goal.returns-then-names-gt1-clause-grows
returns-then-names-gt1-clause-grows g c = grows_none c.args.nodes.now.items c.requires.tree.forest

pub returns-then-names-gt1-clause-found : goal.returns-then-names-gt1-clause-found
returns-then-names-gt1-clause-found g c = (c.requires.blocked (omega arith), refl)

pub returns-then-names-gt1-clause-asked : goal.returns-then-names-gt1-clause-asked
returns-then-names-gt1-clause-asked g c = λ honest trees has.
    let table = g.S.Lookup.table c.args.store.now in
    let ids = none_into trees (slots_of c.args.nodes.now.items) c.args.at.0 _ [] (c.requires.blocked (omega arith)) in
    asks_done table _ c.args.lookups.now c.args.lookups.now (asks_same table _ [] c.args.lookups.now c.args.lookups.now ids refl)
