use Rattle.gix_hash.proofs.PrefixLawLemmas.{front-AreDigits}
use Rattle.gix_hash.proofs.LawLemmas.{texts_decide}
use Rattle.gix_hash.proofs.laws.prefixes.prefixes_are_equal.Goals as goal

pub returns : goal.returns
returns c =
    texts_decide c.args.one.now c.args.other.now c.eq.result c.eq.ensures
    (front-AreDigits c.args.one.now.digits _ _ c.as_bytes.result.now c.as_oid.ensures.digits c.as_bytes.ensures.digits c.bytes_fit.ensures)
    (front-AreDigits c.args.other.now.digits _ _ c.as_bytes-2.result.now c.as_oid-2.ensures.digits c.as_bytes-2.ensures.digits c.bytes_fit-2.ensures)
