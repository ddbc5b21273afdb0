use Rattle.std.proofs.Common.{◌∙◌, ◌*◌, length, arith}
use Rattle.std.proofs.lemmas.List.{take_all, length-map}
use Rattle.gix_hash.specs.Id.{digits_of}
use Rattle.gix_hash.specs.Spelling.{hex_character, hex_text}
use Rattle.gix_hash.proofs.ByteLists.{length-digits_of}
use Rattle.gix_hash.proofs.id_view.view.oid.to_hex.Goals as goal

pub returns : goal.returns
returns c =
    let bytes = c.args.self.now.bytes.now in
    let len = length-map (digits_of bytes) hex_character ∙ length-digits_of bytes in
    c.to_hex_with_len.ensures ∙ take_all (2 * length bytes) (hex_text (digits_of bytes)) (omega (arith, len))
