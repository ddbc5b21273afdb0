use Rattle.std.proofs.Common.{◌≡◌, ◌∙◌, refl, true, false, ◌++◌, rules}
use Rattle.std.specs.Ordering.{nat_cmp}
use Rattle.std.specs.Cmp.Lexicographic.{slice_cmp}
use Rattle.std.proofs.lemmas.Iterator.{YieldsList-from_slice}
use Rattle.std.proofs.lemmas.Iterator.Consumers.{YieldsList-from_chain}
use Rattle.std.proofs.lemmas.Iterator.Search.{cmp_from_yields_List}
use Rattle.gix_object_tree.specs.Order.{git_key}
use Rattle.gix_object_tree.proofs.Keys.{key_is}
use Rattle.gix_object_tree.proofs.tree.order.name_order.Goals as goal
use Rattle.gix_object_tree.proofs.tree.order.name_order.Goals.{then-a_is_tree, else-a_is_tree, then-b_is_tree, else-b_is_tree}

pub returns : goal.returns
returns c =
    let of_a : c.args.a.now ++ c.if-a_is_tree.slash_of_a.now ≡ git_key c.args.a.now c.args.a_is_tree =
    elim c.if-a_is_tree.branch [
      | then-a_is_tree w ↦ key_is c.args.a.now c.args.a_is_tree true c.if-a_is_tree.slash_of_a.now (search rules) (search rules)
      | else-a_is_tree w ↦ key_is c.args.a.now c.args.a_is_tree false c.if-a_is_tree.slash_of_a.now (search rules) (search rules)
    ] in
    let of_b : c.args.b.now ++ c.if-b_is_tree.slash_of_b.now ≡ git_key c.args.b.now c.args.b_is_tree =
    elim c.if-b_is_tree.branch [
      | then-b_is_tree w ↦ key_is c.args.b.now c.args.b_is_tree true c.if-b_is_tree.slash_of_b.now (search rules) (search rules)
      | else-b_is_tree w ↦ key_is c.args.b.now c.args.b_is_tree false c.if-b_is_tree.slash_of_b.now (search rules) (search rules)
    ] in
    cmp_from_yields_List (λ x y. y ≡ x) c.chain-2.result nat_cmp c.cmp.result c.cmp.ensures.ran
    (YieldsList-from_chain (YieldsList-from_slice c.args.a.now (cc)) (YieldsList-from_slice c.if-a_is_tree.slash_of_a.now (cc)) c.chain.ensures.first_done c.chain.ensures.second_done)
    (λ it e. YieldsList-from_chain (YieldsList-from_slice c.args.b.now (cc)) (YieldsList-from_slice c.if-b_is_tree.slash_of_b.now (cc)) (cc) (cc))
    (λ x y. refl)
    ∙ (λ i. slice_cmp nat_cmp (of_a i) (of_b i))
