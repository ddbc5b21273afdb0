use Rattle.std.proofs.Common.{subst, sym}
use Rattle.gix_ref_log.specs.LogLine.{SpellsLine}
use Rattle.gix_ref_log.proofs.LogLineLemmas.{every_of}
use Rattle.gix_ref_log.proofs.line.LineRef.from_bytes.Goals as goal

pub returns-clause-every : goal.returns-clause-every
returns-clause-every c = rw c.ok_or.ensures.value (λ parts is. every_of _ c.read_line.result _ c.read_line.ensures parts (subst (λ t. SpellsLine t parts) (sym c.without_feed.ensures.bytes) is))
