use Rattle.history.proofs.Puts.{HasPut}
use Rattle.history.proofs.commit.put_all.Given as goal

-- the objects so far were put
abbrev pub invariant-loop-object : goal.invariant-loop-object
invariant-loop-object g l = HasPut g.F.Files l.objects l.object-index l.initial.repository l.repository
