use Rattle.gix_hash.proofs.PrefixLawLemmas.{reverse_hex_text-IsReverseHexOf}
use Rattle.gix_hash.proofs.LawLemmas.{id-AreDigits}
use Rattle.gix_hash.proofs.laws.prefixes.printed_change_id_reads_back.Goals as goal

pub returns : goal.returns
returns c =
    reverse_hex_text-IsReverseHexOf c.args.id.now.digits (id-AreDigits c.args.id.now c.as_bytes.result.now c.as_bytes.ensures c.bytes_fit.ensures)
