use Rattle.gix_hash.proofs.LawLemmas.{hex_text-IsHexOf, id-AreDigits}
use Rattle.gix_hash.specs.Id.{id_of}
use Rattle.gix_hash.proofs.laws.ids.printed_id_reads_back.Goals as goal

pub returns : goal.returns
returns c =
    hex_text-IsHexOf (id_of c.args.id.now).digits (id-AreDigits (id_of c.args.id.now) c.as_slice.result.now c.as_slice.ensures c.bytes_fit.ensures)
