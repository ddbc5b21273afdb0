use Rattle.std.proofs.Common.{◌∙◌}
use Rattle.gix_hash.proofs.PrefixLawLemmas.{front-AreDigits}
use Rattle.gix_hash.proofs.TextOrder.{order_less, order_greater, order_texts}
use Rattle.gix_hash.proofs.laws.prefixes.order_of_prefixes.Goals as goal

pub returns : goal.returns
returns c =
    let a = c.args.one.now in
    let b = c.args.other.now in
    let ha = front-AreDigits a.digits _ _ c.as_bytes.result.now c.as_oid.ensures.digits c.as_bytes.ensures.digits c.bytes_fit.ensures in
    let hb = front-AreDigits b.digits _ _ c.as_bytes-2.result.now c.as_oid-2.ensures.digits c.as_bytes-2.ensures.digits c.bytes_fit-2.ensures in
    record {
      less = λ h. c.cmp.ensures ∙ order_less a b h;
      greater = λ h. c.cmp.ensures ∙ order_greater a b h;
      texts = λ h. c.cmp.ensures ∙ order_texts a b h ha hb;
    }
