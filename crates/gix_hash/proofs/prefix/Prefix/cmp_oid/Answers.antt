use Rattle.std.proofs.Common.{ℕ, ap, arith, length}
use Rattle.gix_hash.specs.Id.{Id}
use Rattle.gix_hash.specs.PackedBeginning.{length-beginning_of}
use Rattle.gix_hash.proofs.ByteLists.{length-digits_of}
use Rattle.gix_hash.proofs.prefix.Prefix.cmp_oid.Goals as goal

pub compare_digits-requires-clause-candidate : goal.compare_digits-requires-clause-candidate
compare_digits-requires-clause-candidate c =
    let own = length-beginning_of c.self.inside.bytes c.self.inside.hex_len c.self.invariant in
    let shown = ap (λ (v : Id). length v.digits) c.self.view_is in
    let bytes = length-digits_of c.as_bytes.result.now in
    let digits = ap (λ (ds : _). length {A = ℕ} ds) c.as_bytes.ensures.digits in
    let enough = c.requires in
    omega arith
