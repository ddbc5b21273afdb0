use Rattle.gix_hash.proofs.laws.prefixes.comparisons_fall.Goals as goal

pub returns : goal.returns
returns c = (
  c.prefix_run-run.result.first,
  c.prefix_run-run.result.past,
  c.prefix_run-run.ensures.within.0,
  c.prefix_run-run.ensures.within.1,
  c.prefix_run-run.ensures.order,
)
