use Rattle.std.proofs.Common.{ap}
use Rattle.gix_traverse_commit.proofs.simple.Simple.stop.Goals as goal

pub returns-clause-store : goal.returns-clause-store
returns-clause-store g c = record {
  objects = ap (λ w. w.source.objects) c.finish.ensures.stays;
  rows = ap (λ w. w.source.rows) c.finish.ensures.stays;
  unasked = ap (λ w. w.predicate) c.finish.ensures.stays;
}

pub returns-clause-lookups : goal.returns-clause-lookups
returns-clause-lookups g c = ap (λ w. w.source.lookups) c.finish.ensures.stays
