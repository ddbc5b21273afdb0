use Rattle.std.proofs.Common.{ℕ, List, [], ◌≡◌, ◌∙◌, ap, sym, arith, length}
use Rattle.std.specs.Borrow.{Bor}
use Rattle.std.proofs.lemmas.List.{get_or-map}
use Rattle.gix_object_nodes.specs.Nodes.{slots_of}
use Rattle.gix_object_editor.proofs.tree.editor.entry.stands_already.Goals as goal

pub returns-in-Some-clause-so : goal.returns-in-Some-clause-so
returns-in-Some-clause-so c = λ is.
    let so = c.is_entry.ensures.so is in
    let one : length c.args.names.now ≡ 1 = omega arith in
    (one, (c.in-Some.there, ap (slots_of c.args.nodes.now c.args.at.0) (get_or-map (λ (n : Bor (List ℕ)). n.now) c.args.names.now 0 _ [] c.requires.named) ∙ sym c.slot_at.ensures ∙ c.in-Some.is, so.0, so.1))
