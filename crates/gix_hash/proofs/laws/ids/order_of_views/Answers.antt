use Rattle.std.proofs.Common.{◌∙◌, sym}
use Rattle.gix_hash.specs.Id.{digits_of}
use Rattle.gix_hash.proofs.Compared.{bytes_cmp}
use Rattle.gix_hash.proofs.LawLemmas.{bytes-AreDigits}
use Rattle.gix_hash.proofs.TextOrder.{text_cmp}
use Rattle.gix_hash.proofs.laws.ids.order_of_views.Goals as goal

pub returns : goal.returns
returns c =
    let xs = c.args.one.bytes.now in
    let ys = c.args.other.bytes.now in
    let digits = c.cmp.ensures ∙ bytes_cmp xs ys in
    let hx = bytes-AreDigits (digits_of xs) c.as_bytes.result.now c.as_bytes.ensures.digits c.bytes_fit.ensures in
    let hy = bytes-AreDigits (digits_of ys) c.as_bytes-2.result.now c.as_bytes-2.ensures.digits c.bytes_fit-2.ensures in
    record {
      digits = digits;
      texts = digits ∙ sym (text_cmp (digits_of xs) (digits_of ys) hx hy);
    }
