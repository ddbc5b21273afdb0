use Rattle.std.proofs.Common.{rules, length, ◌≡◌, ◌∙◌, List, [], map, sym, ap}
use Rattle.gix_traverse_commit_known.specs.Known.{KnownCommits, ids_at, turn_at, turns_of}
use Rattle.gix_traverse_commit_known.specs.Waiting.{pendings}
use Rattle.gix_traverse_commit_known.specs.declared.waiting.Pending.{Pending}
use Rattle.gix_traverse_commit_known.proofs.KnownLemmas.{empty_turns}
use Rattle.gix_traverse_graph.proofs.Lists.{none_from_length}
use Rattle.gix_traverse_commit_known.proofs.known.Known.is_idle.Goals as goal

pub returns-then-is_empty : goal.returns-then-is_empty
returns-then-is_empty c =
    let zero : length c.self.inside.queue.items ≡ 0 = search rules in
    let empty : c.self.inside.queue.items ≡ [] = none_from_length c.self.inside.queue.items zero in
    let nodes = c.self.inside.nodes in
    let waiting : List Pending = pendings c.self.inside.waiting in
    let none = c.is_empty-then-is_empty.ensures in (
      (λ t. (
        sym (ap (λ (k : KnownCommits). k.queue) c.self.view_is) ∙ ap (ids_at nodes) empty,
        sym (ap turns_of c.self.view_is) ∙ ap (map (turn_at nodes)) (none.0 t),
      )),
      (λ both. none.1 (empty_turns nodes waiting (ap turns_of c.self.view_is ∙ both.1))),
    )
