use Rattle.std.proofs.Common.{arith}
use Rattle.std.proofs.lemmas.Result.{err_from_is_err_and}
use Rattle.gix_traverse_tree.proofs.Levelled.{levelled_start, levelled_tree, levelled_done, levelled_stopped}
use Rattle.gix_traverse_tree.proofs.breadthfirst.State.read_level.Goals as goal

pub trees-init : goal.trees-init
trees-init g c = record {
  linked = c.requires.linked;
  longer = omega arith;
  levelled = λ trees all. levelled_start g.V.Visit.goes (g.F.Lookup.is_honest c.args.objects.now) (g.F.Lookup.may_fail c.args.objects.now) (g.F.Lookup.table c.args.objects.now) (g.F.Lookup.ids c.args.objects.now) trees c.args.start c.args.end c.args.delegate.now c.args.self.now.nodes.items c.requires.all all;
}

pub returns-in_err-read-clause-stopped : goal.returns-in_err-read-clause-stopped
returns-in_err-read-clause-stopped g c = λ trees all.
    let p = err_from_is_err_and c.from_residual.result c.from_residual.ensures.1 in
    rw (p.1, p.2) (levelled_stopped g.V.Visit.goes (g.F.Lookup.is_honest c.args.objects.now) (g.F.Lookup.may_fail c.args.objects.now) (g.F.Lookup.table c.args.objects.now) (g.F.Lookup.ids c.args.objects.now) trees c.trees.number c.args.end c.args.delegate.now c.trees.delegate c.read.new.delegate c.args.self.now.nodes.items c.trees.self.nodes.items c.in_err-read.field-0.0 c.trees-test.true (c.trees.invariant.levelled trees all)
    (λ tree others stand. c.in_err-read.ensures.stopped tree others stand))

pub trees-preserved : goal.trees-preserved
trees-preserved g c = record {
  linked = c.in_ok-read.ensures.linked;
  longer = let l = c.trees.invariant.longer in let m = c.in_ok-read.ensures.longer in omega arith;
  levelled = λ trees all. levelled_tree g.V.Visit.goes (g.F.Lookup.is_honest c.args.objects.now) (g.F.Lookup.may_fail c.args.objects.now) (g.F.Lookup.table c.args.objects.now) (g.F.Lookup.ids c.args.objects.now) trees c.trees.number c.args.end c.args.delegate.now c.trees.delegate c.read.new.delegate c.args.self.now.nodes.items c.trees.self.nodes.items c.read.new.self.nodes.items c.trees-test.true (c.trees.invariant.levelled trees all)
      (λ tree stand. c.in_ok-read.ensures.read tree stand);
}

pub returns-clause-read : goal.returns-clause-read
returns-clause-read g c = λ trees all.
    levelled_done g.V.Visit.goes (g.F.Lookup.is_honest c.args.objects.now) (g.F.Lookup.may_fail c.args.objects.now) (g.F.Lookup.table c.args.objects.now) (g.F.Lookup.ids c.args.objects.now) trees c.trees.number c.args.end c.args.delegate.now c.trees.delegate c.args.self.now.nodes.items c.trees.self.nodes.items c.trees-test.false (c.trees.invariant.levelled trees all)
