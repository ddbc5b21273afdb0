use Rattle.std.proofs.Common.{refl, ◌≡◌, List, [], length, ◌≤◌, ◌++◌, get_or, subst, Some, slice_get}
use Rattle.gix_hash.specs.declared.object_id.ObjectId.{ObjectId}
use Rattle.gix_hash.specs.declared.object_id.ObjectId.TheVariants.{Sha1}
use Rattle.gix_traverse_graph.specs.Numbered.{same_id}
use Rattle.std.proofs.lemmas.Option.{slice_get-get_or}
use Rattle.std.specs.HashSet.{contains}
use Rattle.gix_traverse_graph.specs.Commits.{asked_parents}
use Rattle.gix_traverse_graph.specs.RowCommits.{commits_of}
use Rattle.gix_traverse_graph.proofs.Walked.{walked_parent, walked_row}
use Rattle.gix_traverse_graph.proofs.walk.queue_parents.Goals as goal

pub parents-init : goal.parents-init
parents-init c = λ tips hides listed w r. (w, r)

pub parents-preserved : goal.parents-preserved
parents-preserved c = λ tips hides listed w r.
    let row : List ObjectId = c.in-Some.names.now in
    let here = slice_get-get_or row c.parents.parent-index (Sha1 []) c.parents-test.true in
    walked_parent (asked_parents c.args.parents (commits_of c.args.rows.now)) tips hides (λ q. contains same_id c.parents.seen q) _ listed c.parents.queue.items c.meet.new.queue.items c.parents.parent-index (get_or row c.parents.parent-index (Sha1 [])) c.args.id (c.parents.invariant tips hides listed w r)
    (subst (λ (zs : List ObjectId). slice_get zs c.parents.parent-index ≡ Some (get_or row c.parents.parent-index (Sha1 []))) c.in-Some.ensures.names here) c.in_ok-meet.ensures.queued c.in_ok-meet.ensures.seen

pub returns-clause-entered : goal.returns-clause-entered
returns-clause-entered c = λ tips hides listed w r.
    walked_row (asked_parents c.args.parents (commits_of c.args.rows.now)) tips hides (λ q. contains same_id c.parents.seen q) (listed ++ c.parents.queue.items) (length listed) c.parents.parent-index c.args.id (c.parents.invariant tips hides listed w r) (subst (λ (row : List ObjectId). length row ≤ c.parents.parent-index) c.in-Some.ensures.names c.parents-test.false)

pub returns-clause-stored : goal.returns-clause-stored
returns-clause-stored c = c.in-Some.ensures.stored refl
