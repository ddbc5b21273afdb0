use Rattle.std.proofs.Common.{arith, rules}
use Rattle.gix_ref_log.proofs.LogWindowLemmas.{filled}
use Rattle.gix_ref_log.proofs.iter.place.read_before.Goals as goal

pub returns-in-Ok-clause-told : goal.returns-in-Ok-clause-told
returns-in-Ok-clause-told g c = λ honest inside.
    filled (g.R.ReadAt.contents c.args.log.now) c.args.buffer.now c.read_at.new.buffer c.args.end c.min-held.result c.in-Ok.count
    (search rules) (omega (arith, c.min-held.ensures)) (omega (arith, c.min-held.ensures)) inside (c.in-Ok.ensures.bytes honest)
