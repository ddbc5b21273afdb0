use Rattle.std.proofs.Common.{◌≡◌, ◌∙◌, ◌++◌, ◌∷◌, ◌+◌, [], ap, sym, subst, arith, true, false, length, suc, rules, if◌then◌else◌, ◌-◌, take}
use Rattle.std.specs.Prelude.{is_ok}
use Rattle.gix_object_nodes.specs.declared.node.Node.{Node}
use Rattle.gix_object_nodes.specs.declared.node.NodeId.{NodeId}
use Rattle.gix_object_nodes.specs.Nodes.{slots_of}
use Rattle.gix_object_nodes.specs.Marks.{KeepsRest}
use Rattle.gix_object_nodes.proofs.NodeMarks.{marks_front, mark_end, marks_taken}
use Rattle.gix_object_nodes.proofs.Slots.{at_end, front_kept, given_back, without_last, length_push}
use Rattle.gix_object_editor.specs.Grown.{IsAttached, IsSame}
use Rattle.gix_object_editor.proofs.Growth.{same_items}
use Rattle.std.proofs.lemmas.List.{length-take}
use Rattle.std.proofs.lemmas.Result.{err_from_is_err_and}
use Rattle.gix_object_editor.proofs.tree.editor.forest.attach.Goals as goal

pub returns-in-Ok-clause-attached : goal.returns-in-Ok-clause-attached
returns-in-Ok-clause-attached c =
    let old = c.args.nodes.now.items in
    let node : Node = c.place.new.self in
    let new = c.put_at.new.nodes in
    let ok : is_ok c.push.result ≡ true = search rules in
    let pushed : c.push.new.self.items ≡ old ++ node ∷ [] = c.push.ensures.items ∙ ap (λ b. if b then old ++ node ∷ [] else old) ok in
    let rest = subst (λ ns. KeepsRest ns c.args.at.0 c.args.name.now new) (c.as_mut_slice.ensures.value ∙ pushed) c.put_at.ensures.rest in
    let n : c.push.new.self.len ≡ length new = omega (arith, c.put_at.ensures.rest.len, c.as_mut_slice.ensures.len) in
    let number : c.len.result ≡ length old = omega arith in
    let child : NodeId = record { 0 = c.len.result } in
    subst (λ ns. IsAttached old c.args.at.0 c.args.name.now c.args.slot c.args.tree ns child) (sym (given_back c.push.new.self.len new _ n)) (record {
      number = number;
      len = omega (arith, rest.len, length_push old node);
      here = c.in-Ok.ensures.here;
      behind = λ m. rest.others (length old) m (λ e _. omega (arith, e)) ∙ at_end old node m ∙ c.place.ensures.slots m;
      others = λ i m lt off. rest.others i m off ∙ front_kept old (node ∷ []) i m lt;
      marks = λ i lt. rest.marks i ∙ marks_front old (node ∷ []) i lt;
      unchanged = rest.marks (length old) ∙ mark_end old node ∙ c.place.ensures.mark;
    })

pub returns-in-Err-clause-same : goal.returns-in-Err-clause-same
returns-in-Err-clause-same c =
    let old = c.args.nodes.now.items in
    let node : Node = c.place.new.self in
    let new = c.put_at.new.nodes in
    let ok : is_ok c.push.result ≡ true = search rules in
    let pushed : c.push.new.self.items ≡ old ++ node ∷ [] = c.push.ensures.items ∙ ap (λ b. if b then old ++ node ∷ [] else old) ok in
    let given = c.as_mut_slice.ensures.value ∙ pushed in
    let rest = subst (λ ns. KeepsRest ns c.args.at.0 c.args.name.now new) given c.put_at.ensures.rest in
    let len : length new ≡ suc (length old) = omega (arith, rest.len, length_push old node) in
    let n : c.push.new.self.len ≡ length new = omega (arith, c.put_at.ensures.rest.len, c.as_mut_slice.ensures.len) in
    let end = c.push.new.self.len - 1 in
    let front : end ≡ length old = omega (arith, len, n) in
    subst (IsSame old) (sym (c.pop.ensures.rest ∙ ap (take end) (given_back c.push.new.self.len new _ n))) (record {
      len = omega (arith, front, len, length-take end new);
      slots = without_last old new node end front len (λ k m. c.in-Err.ensures.err k m ∙ ap (λ ns. slots_of ns k m) given);
      marks = λ i lt. marks_taken new end i (omega (arith, front, lt)) ∙ rest.marks i ∙ marks_front old (node ∷ []) i lt;
    })

pub returns-in_err-push-clause-same : goal.returns-in_err-push-clause-same
returns-in_err-push-clause-same c =
    let old = c.args.nodes.now.items in
    let p = err_from_is_err_and c.from_residual.result c.from_residual.ensures.1 in
    let failed : is_ok c.push.result ≡ false = search rules in
    rw p.1 (same_items old c.push.new.self.items (c.push.ensures.items ∙ ap (λ b. if b then old ++ c.place.new.self ∷ [] else old) failed))
