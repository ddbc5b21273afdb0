use Rattle.std.proofs.Common.{rules, List, subst, OnOk}
use Rattle.gix_hash.specs.Id.{Id}
use Rattle.gix_object_nodes.specs.Files.{Trees}
use Rattle.gix_object_nodes.specs.Nodes.{slots_of}
use Rattle.gix_object_editor.specs.Editor.{names_of, leaf_of_kind}
use Rattle.gix_object_editor.specs.Asked.{front_of, Asks}
use Rattle.gix_object_editor.specs.Outcomes.{Puts, FaultOfEdit}
use Rattle.gix_object_editor.proofs.Folders.{below_base}
use Rattle.gix_object_editor.proofs.Asking.{asked_below}
use Rattle.gix_object_editor.proofs.tree.editor.state.Cursor.upsert.Goals as goal

pub returns-clause-put : goal.returns-clause-put
returns-clause-put g c = λ base stands.
    subst (λ p. OnOk c.upsert_from.result (Puts g.S.Lookup.is_honest g.S.Lookup.table p (leaf_of_kind c.args.kind c.args.id) c.args.self.now.editor.now c.upsert_from.new.self))
    (below_base stands.0 base (names_of c.args.path.now) stands.2) (c.upsert_from.ensures.put stands.0 stands.1)

pub returns-clause-refused : goal.returns-clause-refused
returns-clause-refused g c = λ base stands.
    subst (λ p. FaultOfEdit g.S.Lookup.is_honest g.S.Lookup.may_fail g.S.Lookup.table (names_of c.args.path.now) p c.args.self.now.editor.now c.upsert_from.new.self c.upsert_from.result)
    (below_base stands.0 base (names_of c.args.path.now) stands.2) (c.upsert_from.ensures.refused stands.0 stands.1)

pub returns-clause-asked : goal.returns-clause-asked
returns-clause-asked g c = λ base stands.
    subst (λ (ids : Trees → List Id). Asks (g.S.Lookup.is_honest c.args.self.now.editor.now.store) (g.S.Lookup.may_fail c.args.self.now.editor.now.store) (g.S.Lookup.table c.args.self.now.editor.now.store) ids c.args.self.now.editor.now.lookups c.upsert_from.new.self.lookups c.upsert_from.result)
    (asked_below (slots_of c.args.self.now.editor.now.nodes.items) base c.args.self.now.at.0 (front_of (names_of c.args.path.now)) stands) c.upsert_from.ensures.asked

pub returns-clause-stays : goal.returns-clause-stays
returns-clause-stays g c = record { stands = λ base stands. (stands.0, c.upsert_from.ensures.stays.way stands.0 stands.1, stands.2); lent = search rules }
