use Rattle.gix_hash.proofs.PrefixLawLemmas.{nest_or_apart}
use Rattle.gix_hash.proofs.laws.prefixes.matches_nest_or_are_disjoint.Goals as goal

pub returns : goal.returns
returns c = nest_or_apart c.args.one.now.digits c.args.other.now.digits
