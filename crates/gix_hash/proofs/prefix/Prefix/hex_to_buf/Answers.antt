use Rattle.std.proofs.Common.{◌∙◌, ap}
use Rattle.gix_hash.specs.Id.{Id, digits_of}
use Rattle.gix_hash.specs.Spelling.{hex_text}
use Rattle.gix_hash.proofs.Texts.{IsAscii-front, IsAscii-hex_text}
use Rattle.gix_hash.proofs.PrefixLemmas.{prefix_text, prefix_room}
use Rattle.gix_hash.proofs.prefix.Prefix.hex_to_buf.Goals as goal

pub written-requires-clause-ascii : goal.written-requires-clause-ascii
written-requires-clause-ascii c =
    IsAscii-front c.hex_digits-digits.result _ _ _ c.hex_digits-digits.ensures (IsAscii-hex_text (digits_of c.as_slice.result.now))
    (prefix_room c.self.inside.bytes c.self.inside.hex_len c.as_slice.result.now c.self.invariant c.as_slice.ensures)

pub returns : goal.returns
returns c =
    c.written.ensures
    ∙ (prefix_text c.self.inside.bytes c.self.inside.hex_len c.as_slice.result.now c.hex_digits-digits.result c.self.invariant c.as_slice.ensures c.hex_digits-digits.ensures
    ∙ ap (λ (v : Id). hex_text v.digits) c.self.view_is)
