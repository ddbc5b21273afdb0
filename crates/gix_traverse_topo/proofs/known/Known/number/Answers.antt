use Rattle.std.proofs.Common.{◌≡◌, ◌==◌, ℕ, false, ap, List, refl, sym, subst}
use Rattle.gix_hash.specs.declared.object_id.ObjectId.{ObjectId}
use Rattle.gix_traverse_graph.specs.Order.{At}
use Rattle.gix_traverse_graph.proofs.Ids.{same_from_test}
use Rattle.gix_traverse_topo.specs.Nodes.{counts, NamesAre}
use Rattle.gix_traverse_topo.specs.declared.known.Node.{Node}
use Rattle.gix_traverse_topo.proofs.Walking.{new_key, old_key, told_pushed, unnamed_pushed}
use Rattle.std.specs.Prelude.{is_ok}
use Rattle.std.specs.Int.RustNames.{bit_and}
use Rattle.gix_traverse_commit_known.specs.declared.nodes.WalkFlags.{WalkFlags}
use Rattle.gix_traverse_topo.specs.Nodes.{is_hidden}
use Rattle.gix_traverse_topo.proofs.Flagged.{first_either, hidden_pushed}
use Rattle.gix_traverse_topo.proofs.known.Known.number.Goals as goal

pub returns-in_ok-push-clause-number : goal.returns-in_ok-push-clause-number
returns-in_ok-push-clause-number c =
    let (key, at, same) = c.in_ok-place.ensures.stored in
    subst (λ (x : ObjectId). At c.insert_full.new.self.keys c.in_ok-place.place x) (sym (same_from_test c.args.id.now key same)) at

pub returns-in_ok-push-clause-told : goal.returns-in_ok-push-clause-told
returns-in_ok-push-clause-told c = told_pushed c.args.self.now.nodes.items c.push.new.self.items (record { facts = c.unread_facts.result; names = 0; flags = c.empty.result }) c.in_ok-push.ensures.items

pub returns-in_ok-push-clause-names : goal.returns-in_ok-push-clause-names
returns-in_ok-push-clause-names c =
    let node : Node = record { facts = c.unread_facts.result; names = 0; flags = c.empty.result } in
    let keys : List ObjectId = c.args.self.now.ids.keys in
    let key = new_key keys c.insert_full.new.self.keys c.args.id.now c.in_ok-place.is_new c.in_ok-place.ensures.added c.if-is_new.true c.in_ok-place.ensures.keys in
    unnamed_pushed c.args.self.now.nodes.items c.push.new.self.items node keys c.insert_full.new.self.keys c.args.id.now c.in_ok-push.ensures.items refl key.0 key.1

pub returns-else-is_new-clause-number : goal.returns-else-is_new-clause-number
returns-else-is_new-clause-number c =
    let (key, at, same) = c.in_ok-place.ensures.stored in
    subst (λ (x : ObjectId). At c.insert_full.new.self.keys c.in_ok-place.place x) (sym (same_from_test c.args.id.now key same)) at

pub returns-else-is_new-clause-names : goal.returns-else-is_new-clause-names
returns-else-is_new-clause-names c = λ low names many known.
    let keys : List ObjectId = c.args.self.now.ids.keys in
    let same = old_key keys c.insert_full.new.self.keys c.args.id.now c.in_ok-place.is_new c.in_ok-place.ensures.added c.if-is_new.false c.in_ok-place.ensures.keys in
    subst (λ (ks : List ObjectId). NamesAre low ks (counts c.args.self.now.nodes.items) names) (sym same) known

unflagged : (flags : WalkFlags) → flags.0 ≡ 0 → is_hidden flags ≡ false
unflagged flags e = ap (λ (n : ℕ). bit_and n 8 == 8) e

pub returns-in_ok-push-clause-hidden : goal.returns-in_ok-push-clause-hidden
returns-in_ok-push-clause-hidden c =
    let node : Node = record { facts = c.unread_facts.result; names = 0; flags = c.empty.result } in
    hidden_pushed c.args.self.now.nodes.items c.push.new.self.items node c.in_ok-push.ensures.items (unflagged c.empty.result (c.empty.ensures tt))

pub invariant_of-self-then-is_new : goal.invariant_of-self-then-is_new
invariant_of-self-then-is_new c =
    let node : Node = record { facts = c.unread_facts.result; names = 0; flags = c.empty.result } in
    record { hidden_first = first_either (is_ok c.push.result) c.args.self.now.nodes.items c.push.new.self.items node c.push.ensures.items (unflagged c.empty.result (c.empty.ensures tt)) c.args.self.now.hidden_first }
