use Rattle.std.proofs.Common.{◌∙◌, ap, sym}
use Rattle.gix_hash.specs.Id.{id_of}
use Rattle.gix_hash.specs.Kind.{hex_len}
use Rattle.gix_hash.proofs.ByteLists.{id-digits_len}
use Rattle.gix_hash.proofs.KindLemmas.{hex_len-byte_len}
use Rattle.gix_ref_format.proofs.laws.written.id_can_stand.Goals as goal

pub returns : goal.returns
returns c = λ kind same.
    let id = id_of c.args.id.now in
    record {
      of_kind = same;
      digits = id-digits_len id c.as_slice-bytes.result.now c.as_slice-bytes.ensures ∙ sym (hex_len-byte_len id.kind) ∙ ap hex_len same;
      spelled = c.printed_id_reads_back.ensures;
    }
