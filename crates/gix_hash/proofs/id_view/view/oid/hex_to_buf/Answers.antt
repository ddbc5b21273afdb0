use Rattle.std.proofs.Common.{arith}
use Rattle.gix_hash.specs.Id.{digits_of}
use Rattle.gix_hash.proofs.Texts.{IsAscii-front, IsAscii-hex_text}
use Rattle.gix_hash.proofs.id_view.view.oid.hex_to_buf.Goals as goal

pub written-requires-clause-ascii : goal.written-requires-clause-ascii
written-requires-clause-ascii c =
    IsAscii-front c.hex_digits-digits.result _ _ _ c.hex_digits-digits.ensures (IsAscii-hex_text (digits_of c.args.self.now.bytes.now)) (omega arith)
