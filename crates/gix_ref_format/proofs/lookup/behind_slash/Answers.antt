use Rattle.std.proofs.Common.{sym}
use Rattle.gix_ref_format.proofs.WordLemmas.{no_slash, slash_at}
use Rattle.gix_ref_format.proofs.lookup.behind_slash.Goals as goal

pub returns-in_err-rest : goal.returns-in_err-rest
returns-in_err-rest c = rw c.from_residual.ensures (sym (no_slash c.args.text.now c.in_err-rest.ensures))

pub returns : goal.returns
returns c = sym (slash_at c.args.text.now c.in_ok-rest.field-0-0.now c.in_ok-rest.rest.now c.in_ok-rest.ensures.0 c.in_ok-rest.ensures.1)
