use Rattle.std.proofs.Common.{◌≡◌, ◌*◌, take, length}
use Rattle.gix_hash.specs.Id.{digits_of}
use Rattle.gix_hash.specs.ReverseSpelling.{reverse_hex_text}
use Rattle.gix_hash.proofs.change_id.spelling.reverse_hex_digits.Given as goal

abbrev pub invariant-bytes : goal.invariant-bytes
invariant-bytes l = (length l.digits ≡ 64) × (take (2 * l.i) l.digits ≡ reverse_hex_text (digits_of (take l.i l.bytes)))
