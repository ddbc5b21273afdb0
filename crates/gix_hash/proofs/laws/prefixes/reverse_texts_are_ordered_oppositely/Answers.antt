use Rattle.std.proofs.Common.{◌≡◌, ◌∙◌, ◌*◌, length, ap, sym}
use Rattle.gix_hash.specs.Kind.{byte_len}
use Rattle.gix_hash.proofs.ByteLists.{id-digits_len}
use Rattle.gix_hash.proofs.PrefixLawLemmas.{reverse_cmp}
use Rattle.gix_hash.proofs.LawLemmas.{id-AreDigits}
use Rattle.gix_hash.proofs.TextOrder.{order_same}
use Rattle.gix_hash.proofs.laws.prefixes.reverse_texts_are_ordered_oppositely.Goals as goal

pub returns : goal.returns
returns c =
    let a = c.args.one.now in
    let b = c.args.other.now in
    let len : length b.digits ≡ length a.digits =
    id-digits_len b c.as_bytes-2.result.now c.as_bytes-2.ensures ∙ (ap (λ k. 2 * byte_len k) (sym c.requires) ∙ sym (id-digits_len a c.as_bytes.result.now c.as_bytes.ensures)) in
    c.cmp.ensures ∙ (order_same a b c.requires
    ∙ sym (reverse_cmp b.digits a.digits len (id-AreDigits b c.as_bytes-2.result.now c.as_bytes-2.ensures c.bytes_fit-2.ensures) (id-AreDigits a c.as_bytes.result.now c.as_bytes.ensures c.bytes_fit.ensures)))
