use Rattle.gix_ref_name.proofs.FrontLemmas.{without_some, without_none}
use Rattle.gix_ref_name.proofs.front.without_front.Goals as goal

pub returns-in-Some : goal.returns-in-Some
returns-in-Some c = without_some c.args.front.now c.args.bytes.now c.in-Some.rest.now c.in-Some.ensures

pub returns-in-None : goal.returns-in-None
returns-in-None c = without_none c.args.front.now c.args.bytes.now c.in-None.ensures
