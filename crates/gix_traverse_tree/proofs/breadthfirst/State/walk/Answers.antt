use Rattle.std.proofs.Common.{◌≡◌, ◌∙◌, sym, ap, subst, ℕ, ◌<◌, ◌≤◌, List, [], ◌++◌, length, None, map, arith}
use Rattle.std.proofs.lemmas.Result.{err_from_is_err_and}
use Rattle.gix_traverse_tree.specs.Nodes.{IsLinked, node_under, StopsListing, StopsLevel, Walks}
use Rattle.gix_traverse_tree.specs.Trees.{failed}
use Rattle.gix_traverse_tree.specs.declared.breadthfirst.Node.{Node}
use Rattle.gix_traverse_tree.proofs.Called.{memory_or}
use Rattle.gix_traverse_tree.proofs.Ways.{linked_more}
use Rattle.gix_traverse_tree.proofs.Walked.{Walked, levels_left, walked_start, walked_level, walked_done, walked_stopped, walked_root_stopped, fewer}
use Rattle.gix_traverse_tree.proofs.breadthfirst.State.walk.Goals as goal

none_linked : IsLinked []
none_linked n node at = let z : ⊥ = cc in absurd z

pub returns-in_err-show_entries-clause-stopped : goal.returns-in_err-show_entries-clause-stopped
returns-in_err-show_entries-clause-stopped g c =
    let p = err_from_is_err_and c.from_residual.result c.from_residual.ensures.1 in
    let H = g.F.Lookup.is_honest c.args.objects.now in
    let M = g.F.Lookup.may_fail c.args.objects.now in
    let table = g.F.Lookup.table c.args.objects.now in
    rw (p.1, p.2) (memory_or (StopsListing g.V.Visit.goes c.args.root.hash_kind c.args.root.rest.now c.args.delegate.now c.show_entries.new.delegate) (λ error. Walks g.V.Visit.goes H M table c.args.root.hash_kind c.args.root.rest.now c.args.delegate.now c.show_entries.new.delegate (failed error)) c.in_err-show_entries.field-0.0
    (λ error stop. walked_root_stopped g.V.Visit.goes H M table (g.F.Lookup.ids c.args.objects.now) c.args.root.hash_kind c.args.root.rest.now c.args.delegate.now c.show_entries.new.delegate error stop)
    c.in_err-show_entries.ensures.stopped)

pub levels-init : goal.levels-init
levels-init g c =
    let shows = c.in_ok-show_entries.ensures.listed in
    let (calls, below, runs, listing, (added, named, put)) = shows in
    let put2 = put ∙ ap (λ (ns : List Node). ns ++ map (node_under None) added) c.clear.ensures.items in
    record {
      linked = subst IsLinked (sym put2) (linked_more [] None added none_linked tt);
      within = omega arith;
      walked = walked_start g.V.Visit.goes (g.F.Lookup.is_honest c.args.objects.now) (g.F.Lookup.may_fail c.args.objects.now) (g.F.Lookup.table c.args.objects.now) (g.F.Lookup.ids c.args.objects.now) c.args.root.hash_kind c.args.root.rest.now c.args.delegate.now c.show_entries.new.delegate c.clear.new.self.items c.show_entries.new.nodes.items c.clear.ensures.items shows;
    }

pub returns-in_err-read_level-clause-stopped : goal.returns-in_err-read_level-clause-stopped
returns-in_err-read_level-clause-stopped g c =
    let p = err_from_is_err_and c.from_residual-in_err-read_level.result c.from_residual-in_err-read_level.ensures.1 in
    let H = g.F.Lookup.is_honest c.args.objects.now in
    let M = g.F.Lookup.may_fail c.args.objects.now in
    let table = g.F.Lookup.table c.args.objects.now in
    let so = c.levels.invariant.walked in
    rw (p.1, p.2) (memory_or (StopsLevel g.V.Visit.goes H M table so.trees c.levels.delegate c.read_level.new.delegate) (λ error. Walks g.V.Visit.goes H M table c.args.root.hash_kind c.args.root.rest.now c.args.delegate.now c.read_level.new.delegate (failed error)) c.in_err-read_level.field-0.0
    (λ error stop. walked_stopped g.V.Visit.goes H M table (g.F.Lookup.ids c.args.objects.now) c.args.root.hash_kind c.args.root.rest.now c.levels.start c.args.delegate.now c.levels.delegate c.read_level.new.delegate c.levels.self.nodes.items error so stop)
    (c.in_err-read_level.ensures.stopped so.trees so.all))

pub levels-smaller : goal.levels-smaller
levels-smaller g c =
    let nodes = c.levels.self.nodes.items in
    let so = c.levels.invariant.walked in
    let ids = g.F.Lookup.ids c.args.objects.now in
    let less : c.levels.start < length nodes = let t = c.levels-test.true in let e = c.len.ensures in omega arith in
    let h = fewer g.V.Visit.goes (g.F.Lookup.is_honest c.args.objects.now) (g.F.Lookup.may_fail c.args.objects.now) (g.F.Lookup.table c.args.objects.now) ids c.args.root.hash_kind c.args.root.rest.now c.levels.start c.args.delegate.now c.levels.delegate c.read_level.new.delegate nodes c.read_level.new.self.nodes.items less so (c.in_ok-read_level.ensures.read so.trees so.all) in
    let same : length nodes ≡ c.len-end.result = let e = c.len-end.ensures in omega arith in
    subst (λ (k : ℕ). levels_left ids c.read_level.new.self.nodes.items k < levels_left ids nodes c.levels.start) same h

pub levels-preserved : goal.levels-preserved
levels-preserved g c =
    let nodes = c.levels.self.nodes.items in
    let so = c.levels.invariant.walked in
    let shows = c.in_ok-read_level.ensures.read so.trees so.all in
    let same : length nodes ≡ c.len-end.result = let e = c.len-end.ensures in omega arith in
    let next = walked_level g.V.Visit.goes (g.F.Lookup.is_honest c.args.objects.now) (g.F.Lookup.may_fail c.args.objects.now) (g.F.Lookup.table c.args.objects.now) (g.F.Lookup.ids c.args.objects.now) c.args.root.hash_kind c.args.root.rest.now c.levels.start c.args.delegate.now c.levels.delegate c.read_level.new.delegate nodes c.read_level.new.self.nodes.items so shows in
    record {
      linked = c.in_ok-read_level.ensures.linked;
      within = let a = shows.all.1 in omega arith;
      walked = subst (λ (k : ℕ). Walked g.V.Visit.goes (g.F.Lookup.is_honest c.args.objects.now) (g.F.Lookup.may_fail c.args.objects.now) (g.F.Lookup.table c.args.objects.now) (g.F.Lookup.ids c.args.objects.now) c.args.root.hash_kind c.args.root.rest.now k c.args.delegate.now c.read_level.new.delegate c.read_level.new.self.nodes.items) same next;
    }

pub returns-clause-whole : goal.returns-clause-whole
returns-clause-whole g c =
    let nodes = c.levels.self.nodes.items in
    let past : length nodes ≤ c.levels.start = let t = c.levels-test.false in let e = c.len.ensures in omega arith in
    walked_done g.V.Visit.goes (g.F.Lookup.is_honest c.args.objects.now) (g.F.Lookup.may_fail c.args.objects.now) (g.F.Lookup.table c.args.objects.now) (g.F.Lookup.ids c.args.objects.now) c.args.root.hash_kind c.args.root.rest.now c.levels.start c.args.delegate.now c.levels.delegate nodes past c.levels.invariant.walked
