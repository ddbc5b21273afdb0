use Rattle.std.proofs.Common.{◌∙◌, ap}
use Rattle.gix_hash.specs.Id.{Id}
use Rattle.gix_hash.specs.Spelling.{hex_text}
use Rattle.gix_hash.proofs.PrefixLemmas.{prefix_text}
use Rattle.gix_hash.proofs.prefix.Prefix.write_hex_to.Goals as goal

pub returns : goal.returns
returns g c =
    let text = prefix_text c.self.inside.bytes c.self.inside.hex_len c.as_slice.result.now c.hex_digits-digits.result c.self.invariant c.as_slice.ensures c.hex_digits-digits.ensures
    ∙ ap (λ (v : Id). hex_text v.digits) c.self.view_is in
    record { written = rw text at c.write_bytes.ensures.written; stopped = rw text at c.write_bytes.ensures.stopped }
