use Rattle.std.proofs.Common.{sym, subst, inr, refl}
use Rattle.bstr.specs.BStr.{bstr_bytes}
use Rattle.gix_object_lines.specs.Actor.{TellsTime}
use Rattle.gix_object_lines.proofs.ActorLemmas.{one_cut, untold}
use Rattle.gix_object_lines.proofs.lines.actor.read_actor.Goals as goal

pub returns-in_default-clause-every : goal.returns-in_default-clause-every
returns-in_default-clause-every c = λ name email time is. c.in_default.ensures name email time is.cut

pub returns-in_default-read_time-clause-every : goal.returns-in_default-read_time-clause-every
returns-in_default-read_time-clause-every c = λ name email time is.
    let same = one_cut c.args.line.now _ _ _ name email time c.in-Some.ensures is.cut in
    untold _ _ c.in_default-read_time.field-0 c.as_bytes.ensures c.in_default-read_time.ensures.every (subst TellsTime (sym same.2) is.time_told)

pub returns-in_default-read_time-clause-refused : goal.returns-in_default-read_time-clause-refused
returns-in_default-read_time-clause-refused c =
    inr (refl, (bstr_bytes c.in-Some.actor.name, bstr_bytes c.in-Some.actor.email, bstr_bytes c.in-Some.actor.time, c.in-Some.ensures, λ told. untold _ _ c.in_default-read_time.field-0 c.as_bytes.ensures c.in_default-read_time.ensures.every told))

pub returns-clause-read : goal.returns-clause-read
returns-clause-read c = record { cut = c.in-Some.ensures; time_told = subst TellsTime c.as_bytes.ensures (c.in-Ok._time, c.in-Ok.ensures.read) }

pub returns-clause-every : goal.returns-clause-every
returns-clause-every c = λ name email time is. one_cut c.args.line.now _ _ _ name email time c.in-Some.ensures is.cut
