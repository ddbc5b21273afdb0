use Rattle.std.proofs.Common.{refl, arith, length-set}
use Rattle.gix_hash.proofs.ReverseTexts.{reverse_more}
use Rattle.gix_hash.proofs.change_id.spelling.reverse_hex_digits.Goals as goal

pub bytes-preserved : goal.bytes-preserved
bytes-preserved c = (
  search (length-set),
  reverse_more c.args.bytes.now c.bytes.digits c.bytes.i _ _ (omega arith) (omega arith) refl refl c.bytes.invariant.1,
)
