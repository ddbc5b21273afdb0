use Rattle.gix_hash.specs.Id.{id_of}
use Rattle.gix_hash.specs.Views.{IsHexOfId}
use Rattle.gix_object_lines.proofs.HexDigits.{id_is_read}
use Rattle.gix_object_lines.proofs.hex_line.id_of_digits.Goals as goal

pub unwrap-requires : goal.unwrap-requires
unwrap-requires c = id_is_read c.args.digits.now c.from_hex.result (λ id. IsHexOfId c.args.digits.now (id_of id)) c.requires c.from_hex.ensures
