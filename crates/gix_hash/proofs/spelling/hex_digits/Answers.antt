use Rattle.std.proofs.Common.{◌*◌, length, length-take, arith, ◌∙◌}
use Rattle.std.proofs.lemmas.List.{take_at, length-map}
use Rattle.gix_hash.proofs.ByteLists.{length-digits_of}
use Rattle.gix_hash.specs.Id.{digits_of}
use Rattle.gix_hash.specs.Spelling.{hex_character, hex_text}
use Rattle.gix_hash.proofs.Texts.{encode_with-digits, from_ok}
use Rattle.gix_hash.proofs.spelling.hex_digits.Goals as goal

pub returns : goal.returns
returns c =
    let bytes = c.args.bytes.now in
    let ok = c.encode_to_slice.ensures.fits.1 (length-take _ _ ∙ omega arith) in
    let is = from_ok _ ok c.encode_to_slice.ensures.written ∙ encode_with-digits bytes in
    rw is (take_at (hex_text (digits_of bytes)) _ (2 * length bytes) (length-map (digits_of bytes) hex_character ∙ length-digits_of bytes))
