use Rattle.std.proofs.Common.{sym, subst}
use Rattle.gix_object_lines.specs.Time.{SpellsTime}
use Rattle.gix_object_commit.proofs.commit.CommitRef.time.Goals as goal

pub returns-clause-every : goal.returns-clause-every
returns-clause-every c = λ time is. c.read_time.ensures.every time (subst (λ t. SpellsTime t time) (sym c.as_bytes.ensures) is)
