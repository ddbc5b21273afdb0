use Rattle.std.proofs.Common.{◌∙◌, ap, sym}
use Rattle.std.proofs.lemmas.List.{length-map}
use Rattle.gix_hash.specs.Id.{id_of}
use Rattle.gix_hash.specs.Kind.{hex_len}
use Rattle.gix_hash.specs.Spelling.{hex_character}
use Rattle.gix_hash.proofs.ByteLists.{id-digits_len}
use Rattle.gix_hash.proofs.KindLemmas.{hex_len-byte_len}
use Rattle.gix_ref_format.proofs.packed.run.digit_count.Goals as goal

pub returns-clause-count : goal.returns-clause-count
returns-clause-count c =
    let id = id_of c.args.id.now in
    c.len_in_hex.ensures ∙ ap hex_len c.kind.ensures ∙ hex_len-byte_len id.kind
    ∙ sym (id-digits_len id c.as_slice-bytes.result.now c.as_slice-bytes.ensures) ∙ sym (length-map id.digits hex_character)
