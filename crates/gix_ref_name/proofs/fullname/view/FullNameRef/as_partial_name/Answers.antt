use Rattle.std.proofs.lemmas.Bool.{and_parts}
use Rattle.gix_ref_name.proofs.fullname.view.FullNameRef.as_partial_name.Goals as goal

pub invariant_of-result : goal.invariant_of-result
invariant_of-result c = record { partial = (and_parts _ _ c.args.self.full).0 }
