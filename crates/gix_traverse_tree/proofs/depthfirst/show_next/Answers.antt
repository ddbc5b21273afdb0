use Rattle.std.proofs.Common.{◌≡◌, ◌∙◌, sym, ap, subst, refl, inr, ℕ, List, Some, Ok, Err, ◌-◌, length, drop}
use Rattle.std.proofs.lemmas.Result.{err_from_is_err_and}
use Rattle.gix_hash.specs.Id.{id_of}
use Rattle.gix_object_tree.specs.Entry.{item_of, SpellsEntry}
use Rattle.gix_object_tree.specs.Reading.{Place, Steps, place_of, start}
use Rattle.gix_traverse_tree.specs.Opened.{left_of}
use Rattle.gix_traverse_tree.proofs.Opening.{shows_next, next_begins}
use Rattle.gix_traverse_tree.proofs.depthfirst.show_next.Goals as goal

pub returns-in_err-entry-clause-refused : goal.returns-in_err-entry-clause-refused
returns-in_err-entry-clause-refused g c =
    let p = err_from_is_err_and c.from_residual.result c.from_residual.ensures.1 in
    let place : place_of c.from_bytes-entries.result ≡ start (id_of c.args.tree.now.id).kind (left_of c.args.tree.now) = c.from_bytes-entries.ensures ∙ (λ i. start (c.kind.ensures i) (c.bytes_left.ensures i)) in
    let found = subst (λ r. Steps (place_of c.from_bytes-entries.result) (Some r) (place_of c.next.new.self)) c.in_err-entry.was c.in-Some.ensures.steps in
    let steps = subst (λ (q : Place). Steps q (Some (Err c.in_err-entry.field-0.0)) (place_of c.next.new.self)) place found in
    rw (p.1, p.2) (inr (steps.0, steps.1, steps.2, refl))

pub returns-clause-shown : goal.returns-clause-shown
returns-clause-shown g c =
    let tree = c.args.tree.now in
    let place : place_of c.from_bytes-entries.result ≡ start (id_of tree.id).kind (left_of tree) = c.from_bytes-entries.ensures ∙ (λ i. start (c.kind.ensures i) (c.bytes_left.ensures i)) in
    let found = subst (λ r. Steps (place_of c.from_bytes-entries.result) (Some r) (place_of c.next.new.self)) c.in_ok-entry.was c.in-Some.ensures.steps in
    let steps = subst (λ (q : Place). Steps q (Some (Ok c.in_ok-entry.entry)) (place_of c.next.new.self)) place found in
    let input = (place_of c.next.new.self).input in
    let begins = next_begins (id_of tree.id).kind tree.content.items tree.offset (item_of c.in_ok-entry.entry) input steps.1 in
    let at = ap (λ (k : ℕ). drop k tree.content.items) (c.offset_to_next_entry-tree.ensures ∙ ap (λ (t : List ℕ). length t - length input) c.as_slice.ensures.value) ∙ begins in
    let spelled = subst (λ (t : List ℕ). SpellsEntry (id_of tree.id).kind (left_of tree) (item_of c.in_ok-entry.entry) t) (sym at) steps.1 in
    shows_next g.V.Visit.goes c.args.delegate.now tree c.pass.new.delegate (record tree { offset = c.offset_to_next_entry-tree.result }) c.in_ok-step.step (item_of c.in_ok-entry.entry) spelled c.in_ok-step.ensures
