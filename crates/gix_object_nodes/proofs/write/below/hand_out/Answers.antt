use Rattle.std.proofs.Common.{◌∙◌, ◌≡◌, ap, arith, length, eq-eqb}
use Rattle.std.proofs.lemmas.Fn.{called_at}
use Rattle.gix_object_nodes.proofs.Paths.{not_both}
use Rattle.gix_object_nodes.proofs.write.below.hand_out.Goals as goal

pub returns-in-Ok-clause-answered : goal.returns-in-Ok-clause-answered
returns-in-Ok-clause-answered g c = (
  λ e.
      let none : c.args.tree.now.entries.len ≡ 0 = omega (arith, c.args.tree.now.entries.ok.0, ap length e) in
      not_both c.is_empty.result (c.is_empty.ensures ∙ eq-eqb c.args.tree.now.entries.len 0 none) c.if-is_empty.false,
  called_at g.F.FnMut c.out.ensures c.in-Ok.is,
)

pub returns-in-Err-clause-answered : goal.returns-in-Err-clause-answered
returns-in-Err-clause-answered g c = (
  λ e.
      let none : c.args.tree.now.entries.len ≡ 0 = omega (arith, c.args.tree.now.entries.ok.0, ap length e) in
      not_both c.is_empty.result (c.is_empty.ensures ∙ eq-eqb c.args.tree.now.entries.len 0 none) c.if-is_empty.false,
  called_at g.F.FnMut c.out.ensures c.in-Err.is,
)
