use Rattle.std.proofs.Common.{◌∙◌, sym}
use Rattle.gix_hash.specs.Id.{id_of}
use Rattle.gix_hash.proofs.ByteLists.{id-digits_len}
use Rattle.gix_hash.proofs.KindLemmas.{hex_len-byte_len}
use Rattle.gix_hash.proofs.LawLemmas.{id-AreDigits, texts_decide, kind_of_text}
use Rattle.gix_hash.proofs.laws.ids.ids_are_equal.Goals as goal

pub returns : goal.returns
returns c =
    let a = id_of c.args.one.now in
    let b = id_of c.args.other.now in
    let ha = id-AreDigits a c.as_slice.result.now c.as_slice.ensures c.bytes_fit.ensures in
    let hb = id-AreDigits b c.as_slice-2.result.now c.as_slice-2.ensures c.bytes_fit-2.ensures in
    let la = id-digits_len a c.as_slice.result.now c.as_slice.ensures ∙ sym (hex_len-byte_len a.kind) in
    let lb = id-digits_len b c.as_slice-2.result.now c.as_slice-2.ensures ∙ sym (hex_len-byte_len b.kind) in
    let decides = texts_decide a b c.eq.result c.eq.ensures ha hb in (
      λ h. (decides.0 h).1,
      λ h. decides.1 (kind_of_text a b la lb ha hb h, h),
    )
