use Rattle.std.proofs.Common.{◌≡◌, ◌∙◌, ap, sym, ℕ, List, [], length, rules}
use Rattle.std.specs.Prelude.{◌==◌}
use Rattle.std.proofs.lemmas.Bool.{false≢true}
use Rattle.gix_object_tree.specs.Entry.{SpellsNoEntry}
use Rattle.gix_object_tree.proofs.tree.ref_iter.TreeRefIterIterator.next.Goals as goal

pub returns-in-Err-clause-steps : goal.returns-in-Err-clause-steps
returns-in-Err-clause-steps c =
    let left : c.args.self.now.rest.now ≡ [] → ⊥ = λ e. false≢true (sym c.if-is_empty.false ∙ c.is_empty.ensures ∙ ap (λ (t : List ℕ). length t == 0) e) in
    let none : SpellsNoEntry c.args.self.now.hash_kind c.args.self.now.rest.now = λ item rest is. let h = c.in-Err.ensures.every item rest is in cc in
    search rules
