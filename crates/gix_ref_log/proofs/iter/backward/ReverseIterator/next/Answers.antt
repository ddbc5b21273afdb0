use Rattle.gix_ref_log.proofs.LogGivesLemmas.{nearer_counts}
use Rattle.gix_ref_log.proofs.iter.backward.ReverseIterator.next.Goals as goal

pub returns-clause-goes : goal.returns-clause-goes
returns-clause-goes g c = rw c.if-self.false (record {
  on = λ finite. (tt, tt, nearer_counts _ _ _ c.take_line.ensures.nearer);
  keeps = tt;
  rests = λ _. tt;
})
