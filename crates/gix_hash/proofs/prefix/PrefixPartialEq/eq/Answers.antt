use Rattle.std.proofs.Common.{◌∙◌, ap, sym}
use Rattle.std.specs.Ordering.{is_eq}
use Rattle.gix_hash.specs.OrderLaws.{id_tied}
use Rattle.gix_hash.proofs.prefix.PrefixPartialEq.eq.Goals as goal

pub returns : goal.returns
returns c = c.is_eq.ensures ∙ (ap (λ o. is_eq o) c.cmp.ensures ∙ sym (id_tied c.args.self.now c.args.other.now))
