use Rattle.std.proofs.Common.{◌%◌, ◌≡◌, arith}
use Rattle.gix_hash.proofs.PrefixLemmas.{first_even, first_odd}
use Rattle.gix_hash.proofs.prefix.first_digits_of.Goals as goal

pub returns-then-hex_len-eq1 : goal.returns-then-hex_len-eq1
returns-then-hex_len-eq1 c =
    rw c.copy_from_slice.ensures.after (first_odd c.args.bytes.now c.args.hex_len c.if-hex_len-eq1.true c.requires.digits c.requires.room)

pub returns-else-hex_len-eq1 : goal.returns-else-hex_len-eq1
returns-else-hex_len-eq1 c =
    let even : c.args.hex_len % 2 ≡ 0 = omega arith in
    rw c.copy_from_slice.ensures.after (first_even c.args.bytes.now c.args.hex_len even c.requires.digits c.requires.room)
