use Rattle.std.proofs.Common.{sym, subst, Vec}
use Rattle.std.specs.Prelude.{IfOk}
use Rattle.std.specs.declared.alloc.Global.{Global}
use Rattle.gix_hash.specs.declared.object_id.ObjectId.{ObjectId}
use Rattle.gix_traverse_commit_known.specs.Asked.{Answers}
use Rattle.gix_traverse_graph.specs.declared.parents.Parents.TheVariants.{All as AllParents}
use Rattle.gix_traverse_graph.specs.declared.sorting.Sorting.TheVariants.{BreadthFirst}
use Rattle.history_walks.specs.Asking.{IsInOrder, walk_from}
use Rattle.history_walks.specs.Simply.{asked}
use Rattle.history_walks.specs.declared.listing.Order.TheVariants.{Breadth, Newest, Oldest}
use Rattle.history_walks.proofs.Walking.{breadth_answers, breadth_sure, newest_answers, ok_then, oldest_answers}
use Rattle.history_walks.proofs.listing.list_commits.Goals as goal

pub returns-in-Breadth-clause-lists : goal.returns-in-Breadth-clause-lists
returns-in-Breadth-clause-lists g c =
    let tips = c.args.request.tips.items in
    let hidden = c.args.request.hidden.items in
    let parents = c.in-Breadth.parents in
    λ is h told none. subst (λ order. IfOk c.listed.result (λ (ids : Vec ObjectId Global). IsInOrder order h (walk_from order tips hidden) ids.items)) (sym c.in-Breadth.is)
    (ok_then c.listed.result (λ (ids : Vec ObjectId Global). Answers h (asked tips hidden parents BreadthFirst) ids.items)
    (λ (ids : Vec ObjectId Global). IsInOrder (Breadth parents) h (walk_from (Breadth parents) tips hidden) ids.items) (λ ids answers. breadth_answers h tips hidden parents ids.items answers)
    (c.listed.ensures.lists is h told (breadth_sure (g.S.Lookup.may_fail c.args.store.now) tips hidden parents)))

pub returns-in-Newest-clause-lists : goal.returns-in-Newest-clause-lists
returns-in-Newest-clause-lists g c =
    let tips = c.args.request.tips.items in
    let hidden = c.args.request.hidden.items in
    let since = c.in-Newest.since in
    let sorting = c.by_time-sorting.result in
    λ is h told none. subst (λ order. IfOk c.listed_by_time.result (λ (ids : Vec ObjectId Global). IsInOrder order h (walk_from order tips hidden) ids.items)) (sym c.in-Newest.is)
    (ok_then c.listed_by_time.result (λ (ids : Vec ObjectId Global). Answers h (asked tips hidden AllParents sorting) ids.items)
    (λ (ids : Vec ObjectId Global). IsInOrder (Newest since) h (walk_from (Newest since) tips hidden) ids.items) (λ ids answers. newest_answers h tips hidden ids.items sorting since answers c.by_time-sorting.ensures)
    (c.listed_by_time.ensures.lists is h told))

pub returns-in-Oldest-clause-lists : goal.returns-in-Oldest-clause-lists
returns-in-Oldest-clause-lists g c =
    let tips = c.args.request.tips.items in
    let hidden = c.args.request.hidden.items in
    let since = c.in-Oldest.since in
    let sorting = c.by_time-sorting-in-Oldest.result in
    λ is h told none. subst (λ order. IfOk c.listed_by_time-in-Oldest.result (λ (ids : Vec ObjectId Global). IsInOrder order h (walk_from order tips hidden) ids.items)) (sym c.in-Oldest.is)
    (ok_then c.listed_by_time-in-Oldest.result (λ (ids : Vec ObjectId Global). Answers h (asked tips hidden AllParents sorting) ids.items)
    (λ (ids : Vec ObjectId Global). IsInOrder (Oldest since) h (walk_from (Oldest since) tips hidden) ids.items) (λ ids answers. oldest_answers h tips hidden ids.items sorting since answers c.by_time-sorting-in-Oldest.ensures)
    (c.listed_by_time-in-Oldest.ensures.lists is h told))
