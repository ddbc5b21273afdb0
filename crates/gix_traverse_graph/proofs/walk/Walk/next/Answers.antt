use Rattle.std.proofs.Common.{refl, sym, subst, ◌≡◌, List, [], ◌∷◌, ◌++◌, length}
use Rattle.gix_hash.specs.declared.object_id.ObjectId.{ObjectId}
use Rattle.gix_traverse_graph.specs.Numbered.{same_id}
use Rattle.std.specs.HashSet.{contains}
use Rattle.gix_traverse_graph.specs.Commits.{asked_parents, Reached}
use Rattle.gix_traverse_graph.specs.Rows.{Holds}
use Rattle.gix_traverse_graph.specs.Standing.{WalkedAll, NotIn}
use Rattle.gix_traverse_graph.specs.RowCommits.{commits_of}
use Rattle.gix_traverse_graph.proofs.Walked.{walked_pop, popped_reached, of_missing}
use Rattle.gix_traverse_graph.proofs.walk.Walk.next.Goals as goal

pub returns-in-Ok-clause-more : goal.returns-in-Ok-clause-more
returns-in-Ok-clause-more c = λ tips hides listed w.
    let r = walked_pop (asked_parents c.args.self.now.parents (commits_of c.args.self.now.rows.now)) tips hides (λ q. contains same_id c.args.self.now.seen q) listed c.args.self.now.queue.items (listed ++ c.in_ok-id.id ∷ []) c.pop_front.new.self.items c.in_ok-id.id w c.in_ok-id.ensures.items refl in
    c.in-Ok.ensures.entered tips hides (listed ++ c.in_ok-id.id ∷ []) r.0 r.1

pub returns-in-Err-clause-missing : goal.returns-in-Err-clause-missing
returns-in-Err-clause-missing c =
    let rows = c.args.self.now.rows.now in
    let along = asked_parents c.args.self.now.parents (commits_of rows) in
    let id = c.in_ok-id.id in
    of_missing (λ x. (x ≡ id) × (¬ Holds rows id))
    (λ x. (¬ Holds rows x) × ((tips hides listed : List ObjectId) → WalkedAll along tips hides (λ q. contains same_id c.args.self.now.seen q) (listed ++ c.args.self.now.queue.items) (length listed) → Reached along (NotIn hides) tips x))
    (λ x h. (
      subst (λ (y : ObjectId). ¬ Holds rows y) (sym h.0) h.1,
      λ tips hides listed w. subst (λ (y : ObjectId). Reached along (NotIn hides) tips y) (sym h.0) (popped_reached along tips hides (λ q. contains same_id c.args.self.now.seen q) listed c.args.self.now.queue.items c.pop_front.new.self.items id w c.in_ok-id.ensures.items),
    ))
    c.in-Err.error c.in-Err.ensures.missing
