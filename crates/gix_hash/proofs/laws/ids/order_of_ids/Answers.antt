use Rattle.std.proofs.Common.{◌∙◌}
use Rattle.gix_hash.specs.Id.{id_of}
use Rattle.gix_hash.proofs.LawLemmas.{id-AreDigits}
use Rattle.gix_hash.proofs.TextOrder.{order_less, order_greater, order_texts}
use Rattle.gix_hash.proofs.laws.ids.order_of_ids.Goals as goal

pub returns : goal.returns
returns c =
    let a = id_of c.args.one.now in
    let b = id_of c.args.other.now in
    let ha = id-AreDigits a c.as_slice.result.now c.as_slice.ensures c.bytes_fit.ensures in
    let hb = id-AreDigits b c.as_slice-2.result.now c.as_slice-2.ensures c.bytes_fit-2.ensures in
    record {
      less = λ h. c.cmp.ensures ∙ order_less a b h;
      greater = λ h. c.cmp.ensures ∙ order_greater a b h;
      texts = λ h. c.cmp.ensures ∙ order_texts a b h ha hb;
    }
