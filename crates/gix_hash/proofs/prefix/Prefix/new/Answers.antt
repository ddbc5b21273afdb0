use Rattle.std.proofs.Common.{rules, ◌≡◌, arith}
use Rattle.gix_hash.specs.Views.{viewed_id}
use Rattle.gix_hash.specs.PackedBeginning.{IsZeroFrom, beginning_of}
use Rattle.gix_hash.specs.Prefix.{first_digits}
use Rattle.gix_hash.proofs.PrefixLemmas.{new_prefix}
use Rattle.gix_hash.proofs.prefix.Prefix.new.Goals as goal
use Rattle.gix_hash.proofs.prefix.Prefix.new.Goals.{After-from_bytes_or_panic}

-- the prefix that is made
made : (c : After-from_bytes_or_panic) → IsZeroFrom c.from_bytes_or_panic.result c.args.hex_len
    × (beginning_of c.from_bytes_or_panic.result c.args.hex_len ≡ first_digits (viewed_id c.args.id) c.args.hex_len)
made c = new_prefix c.from_bytes_or_panic.result (viewed_id c.args.id) c.first_digits_of-bytes.result c.as_bytes.result.now c.args.hex_len
    c.as_bytes.ensures (search rules) (rw (← c.kind-object_kind.ensures) (omega arith)) (rw (← c.kind-object_kind.ensures, ← c.len_in_bytes.ensures) c.from_bytes_or_panic.ensures) c.first_digits_of-bytes.ensures

pub invariant_of-result : goal.invariant_of-result
invariant_of-result c = (made c).0

pub returns-clause-ok : goal.returns-clause-ok
returns-clause-ok c = (made (goal.at.returns-clause-ok c).After-from_bytes_or_panic).1
