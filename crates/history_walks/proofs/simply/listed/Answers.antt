use Rattle.std.proofs.Common.{◌≡◌, ◌∙◌, ap, subst, true, [], List, Option, inl, Vec}
use Rattle.std.specs.Prelude.{IfOk, IfErr}
use Rattle.std.specs.declared.alloc.Global.{Global}
use Rattle.gix_hash.specs.declared.object_id.ObjectId.{ObjectId}
use Rattle.gix_traverse_commit.specs.Giving.{IsAccepted}
use Rattle.gix_traverse_commit_known.specs.Faults.{TipFault}
use Rattle.gix_traverse_commit_known.specs.Asked.{Answers, Asked, IsSure}
use Rattle.gix_traverse_commit.specs.Simply.{IsMade, graph_of, objects_of}
use Rattle.gix_traverse_commit_known.specs.Told.{rows_of}
use Rattle.gix_traverse_graph.specs.declared.parents.Parents.TheVariants.{All as AllParents}
use Rattle.gix_traverse_graph.specs.declared.rows.Row.{Row}
use Rattle.gix_traverse_graph.specs.declared.sorting.Sorting.TheVariants.{BreadthFirst}
use Rattle.history_walks.specs.Faults.{WalkFault, as_walked}
use Rattle.history_walks.specs.Simply.{asked}
use Rattle.history_walks.proofs.Faulty.{tip_fault}
use Rattle.history_walks.proofs.Walking.{over_same, told_error}
use Rattle.history_walks.proofs.simply.listed.Goals as goal

pub returns-in_err-sorting-clause-refused : goal.returns-in_err-sorting-clause-refused
returns-in_err-sorting-clause-refused g c =
    let tips = c.args.tips.items in
    let hidden = c.args.hidden.items in
    let walk = c.in_ok-walk.walk in
    let error = c.in_err-sorting.field-0.0 in
    let objects : objects_of walk ≡ c.args.store = ap (λ s. s.objects) c.in_ok-walk.ensures.source ∙ ap (λ s. s.objects) c.parents.ensures.source ∙ ap objects_of c.commit_graph.ensures.same ∙ c.in_ok-new.ensures.source.objects in
    let rows : graph_of walk ≡ c.args.rows = ap (λ s. s.rows) c.in_ok-walk.ensures.source ∙ ap (λ s. s.rows) c.parents.ensures.source ∙ ap graph_of c.commit_graph.ensures.same in
    let made : IsMade (λ _ _. true) (asked tips hidden c.args.parents BreadthFirst) walk =
    c.in_ok-walk.ensures.made (asked tips [] c.args.parents BreadthFirst) (inl (c.parents.ensures.made (asked tips [] AllParents BreadthFirst) (inl (c.commit_graph.ensures.made (asked tips [] AllParents BreadthFirst) c.in_ok-new.ensures.made)))) in
    let accepted = IsAccepted (asked tips hidden c.args.parents BreadthFirst) in
    let over_walk = c.in_err-sorting.ensures.refused (asked tips hidden c.args.parents BreadthFirst) (inl made) in
    let over_store = subst (λ o. TipFault (g.F.Lookup.is_honest o) (g.F.Lookup.may_fail o) (rows_of (graph_of walk)) (g.F.Lookup.table o) tips accepted error) objects over_walk in
    let bare = subst (λ (r : Option (List Row)). TipFault (g.F.Lookup.is_honest c.args.store) (g.F.Lookup.may_fail c.args.store) (rows_of r) (g.F.Lookup.table c.args.store) tips accepted error) rows over_store in
    λ is h told sure. told_error (WalkFault (g.F.Lookup.may_fail c.args.store) (rows_of c.args.rows) (g.F.Lookup.table c.args.store) h tips hidden) c.from_residual-in_err-sorting.result (as_walked error) c.from_residual-in_err-sorting.ensures.1
    (tip_fault (g.F.Lookup.is_honest c.args.store) (g.F.Lookup.may_fail c.args.store) is (rows_of c.args.rows) (g.F.Lookup.table c.args.store) h told accepted tips hidden error bare)

pub returns-clause-lists : goal.returns-clause-lists
returns-clause-lists g c =
    let tips = c.args.tips.items in
    let hidden = c.args.hidden.items in
    let walk = c.in_ok-sorting.field-0 in
    let objects : objects_of walk ≡ c.args.store =
    c.in_ok-sorting.ensures.reads.objects ∙ ap (λ s. s.objects) c.in_ok-walk.ensures.source ∙ ap (λ s. s.objects) c.parents.ensures.source ∙ ap objects_of c.commit_graph.ensures.same ∙ c.in_ok-new.ensures.source.objects in
    let rows : graph_of walk ≡ c.args.rows = c.in_ok-sorting.ensures.reads.rows ∙ ap (λ s. s.rows) c.in_ok-walk.ensures.source ∙ ap (λ s. s.rows) c.parents.ensures.source ∙ ap graph_of c.commit_graph.ensures.same in
    let made : IsMade (λ _ _. true) (asked tips hidden c.args.parents c.args.sorting) walk =
    (c.in_ok-sorting.ensures.made (asked tips hidden c.args.parents BreadthFirst)
    (inl (c.in_ok-walk.ensures.made (asked tips [] c.args.parents BreadthFirst) (inl (c.parents.ensures.made (asked tips [] AllParents BreadthFirst) (inl (c.commit_graph.ensures.made (asked tips [] AllParents BreadthFirst) c.in_ok-new.ensures.made))))))).made in
    λ is h told sure. over_same g.F.Lookup.is_honest g.F.Lookup.table
    (λ o r h. (a : Asked) → IsSure (g.F.Lookup.may_fail o) a → IsMade (λ _ _. true) a walk → IfOk c.collect_ids.result (λ (ids : Vec ObjectId Global). Answers h a ids.items)) (objects_of walk) c.args.store (graph_of walk) c.args.rows objects rows c.collect_ids.ensures.lists
    is h told (asked tips hidden c.args.parents c.args.sorting) sure made

pub returns-clause-refused : goal.returns-clause-refused
returns-clause-refused g c =
    let tips = c.args.tips.items in
    let hidden = c.args.hidden.items in
    let walk = c.in_ok-sorting.field-0 in
    let objects : objects_of walk ≡ c.args.store =
    c.in_ok-sorting.ensures.reads.objects ∙ ap (λ s. s.objects) c.in_ok-walk.ensures.source ∙ ap (λ s. s.objects) c.parents.ensures.source ∙ ap objects_of c.commit_graph.ensures.same ∙ c.in_ok-new.ensures.source.objects in
    let rows : graph_of walk ≡ c.args.rows = c.in_ok-sorting.ensures.reads.rows ∙ ap (λ s. s.rows) c.in_ok-walk.ensures.source ∙ ap (λ s. s.rows) c.parents.ensures.source ∙ ap graph_of c.commit_graph.ensures.same in
    let made : IsMade (λ _ _. true) (asked tips hidden c.args.parents c.args.sorting) walk =
    (c.in_ok-sorting.ensures.made (asked tips hidden c.args.parents BreadthFirst)
    (inl (c.in_ok-walk.ensures.made (asked tips [] c.args.parents BreadthFirst) (inl (c.parents.ensures.made (asked tips [] AllParents BreadthFirst) (inl (c.commit_graph.ensures.made (asked tips [] AllParents BreadthFirst) c.in_ok-new.ensures.made))))))).made in
    λ is h told sure. over_same g.F.Lookup.is_honest g.F.Lookup.table
    (λ o r h. (a : Asked) → IsSure (g.F.Lookup.may_fail o) a → IsMade (λ _ _. true) a walk → IfErr c.collect_ids.result (WalkFault (g.F.Lookup.may_fail o) (rows_of r) (g.F.Lookup.table o) h a.tips a.hidden)) (objects_of walk) c.args.store (graph_of walk) c.args.rows objects rows c.collect_ids.ensures.refused
    is h told (asked tips hidden c.args.parents c.args.sorting) sure made
