use Rattle.std.proofs.Common.{◌∙◌, sym, refl}
use Rattle.gix_hash.specs.Id.{id_of}
use Rattle.gix_hash.proofs.ByteLists.{id-digits_len}
use Rattle.gix_hash.proofs.KindLemmas.{hex_len-byte_len}
use Rattle.gix_ref_format.proofs.WrittenLemmas.{id_reads}
use Rattle.gix_ref_format.proofs.laws.written_id_is_read.Goals as goal

pub returns : goal.returns
returns c =
    let id = id_of c.args.id.now in
    id_reads id.kind id c.printed_id_reads_back.ensures (id-digits_len id c.as_slice-bytes.result.now c.as_slice-bytes.ensures ∙ sym (hex_len-byte_len id.kind)) refl
