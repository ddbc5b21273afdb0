use Rattle.std.proofs.Common.{◌≡◌, sym, ◌∙◌, ap, arith, [], ◌∷◌, ◌++◌, map, map-id, append_assoc}
use Rattle.std.proofs.lemmas.Iterator.Adapters.{YieldsList-from_vec}
use Rattle.std.proofs.lemmas.Iterator.Consumers.{YieldsList-end}
use Rattle.std.proofs.lemmas.List.{map-append}
use Rattle.history_plans.specs.Plans.{object_parts, tree_parts}
use Rattle.history_plans.proofs.planning.add_tree_objects.Goals as goal

pub loop-tree-preserved : goal.loop-tree-preserved
loop-tree-preserved c =
    let old = map object_parts c.args.objects.now.items in
    ap (map object_parts) c.in_ok-push.ensures.items ∙ map-append object_parts c.loop-tree.objects.items _
    ∙ ap (λ front. front ++ tree_parts c.in-Some.tree ∷ []) c.loop-tree.invariant
    ∙ append_assoc old (map tree_parts c.loop-tree.yielded) (tree_parts c.in-Some.tree ∷ [])
    ∙ ap (λ parts. old ++ parts) (sym (map-append tree_parts c.loop-tree.yielded (c.in-Some.tree ∷ [])))

pub returns : goal.returns
returns c =
    let gives = c.into_iter-tree-iterator.ensures.into_iter_gives in
    let ends = YieldsList-end (YieldsList-from_vec {s = c.into_iter-tree-iterator.result} c.args.trees.items gives.0 (omega (arith, gives.1, c.args.trees.ok.0))) c.loop-tree.yielded c.loop-tree.tree-iterator c.loop-tree.yielded_by c.next.result c.next.new.self c.in-None.is c.next.ensures.steps in
    let all : c.loop-tree.yielded ≡ c.args.trees.items = sym (map-id c.loop-tree.yielded) ∙ ends.0 in
    c.loop-tree.invariant ∙ ap (λ trees. map object_parts c.args.objects.now.items ++ map tree_parts trees) all
