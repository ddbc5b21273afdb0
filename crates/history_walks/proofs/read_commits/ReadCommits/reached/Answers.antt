use Rattle.std.proofs.Common.{◌∙◌, ◌++◌, ap, inl, []}
use Rattle.gix_traverse_graph.specs.declared.parents.Parents.TheVariants.{All as AllParents}
use Rattle.gix_traverse_graph.specs.declared.sorting.Sorting.TheVariants.{BreadthFirst}
use Rattle.history_walks.specs.Simply.{asked}
use Rattle.history_walks.proofs.Reading.{reading_refused, reads_met}
use Rattle.history_walks.proofs.read_commits.ReadCommits.reached.Goals as goal

pub returns-clause-reads : goal.returns-clause-reads
returns-clause-reads g c =
    let both = c.in_ok-extend_from_slice.ensures.items ∙ ap (λ xs. xs ++ c.args.hidden.now) c.in_ok-starts.ensures.items in
    reads_met g.S.Lookup.is_honest g.S.Lookup.may_fail g.S.Lookup.table c.parents.result c.args.store c.args.rows (ap (λ s. s.objects) c.parents.ensures.source ∙ ap (λ w. w.source.objects) c.commit_graph-walk.ensures.same ∙ c.in_ok-new.ensures.source.objects) (ap (λ s. s.rows) c.parents.ensures.source ∙ ap (λ w. w.source.rows) c.commit_graph-walk.ensures.same) c.args.parents c.extend_from_slice.new.self.items c.args.tips.now c.args.hidden.now both (c.parents.ensures.made (asked c.extend_from_slice.new.self.items [] AllParents BreadthFirst) (inl (c.commit_graph-walk.ensures.made (asked c.extend_from_slice.new.self.items [] AllParents BreadthFirst) c.in_ok-new.ensures.made))) c.read_all.result c.read_all.ensures.reads

pub returns-clause-refused : goal.returns-clause-refused
returns-clause-refused g c =
    let both = c.in_ok-extend_from_slice.ensures.items ∙ ap (λ xs. xs ++ c.args.hidden.now) c.in_ok-starts.ensures.items in
    reading_refused g.S.Lookup.is_honest g.S.Lookup.may_fail g.S.Lookup.table c.parents.result c.args.store c.args.rows (ap (λ s. s.objects) c.parents.ensures.source ∙ ap (λ w. w.source.objects) c.commit_graph-walk.ensures.same ∙ c.in_ok-new.ensures.source.objects) (ap (λ s. s.rows) c.parents.ensures.source ∙ ap (λ w. w.source.rows) c.commit_graph-walk.ensures.same) c.args.parents c.extend_from_slice.new.self.items c.args.tips.now c.args.hidden.now both (c.parents.ensures.made (asked c.extend_from_slice.new.self.items [] AllParents BreadthFirst) (inl (c.commit_graph-walk.ensures.made (asked c.extend_from_slice.new.self.items [] AllParents BreadthFirst) c.in_ok-new.ensures.made))) c.read_all.result
    c.read_all.ensures.refused
