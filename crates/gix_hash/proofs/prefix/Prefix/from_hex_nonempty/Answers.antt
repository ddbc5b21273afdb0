use Rattle.std.proofs.Common.{◌∙◌, length, refl}
use Rattle.std.proofs.lemmas.List.{drop_at, drop-replicate}
use Rattle.gix_hash.proofs.prefix.Prefix.from_hex_nonempty.Goals as goal

pub read_padded-requires-clause-zeros : goal.read_padded-requires-clause-zeros
read_padded-requires-clause-zeros c =
    let digits = c.as_bytes-digits.result.now in
    rw c.copy_from_slice.ensures.after (drop_at digits _ (length digits) refl ∙ drop-replicate (length digits) 64 48)
