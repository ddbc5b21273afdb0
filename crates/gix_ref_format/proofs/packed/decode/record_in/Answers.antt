use Rattle.std.proofs.Common.{◌≡◌, rules, take, None}
use Rattle.gix_hash.specs.Kind.{hex_len}
use Rattle.gix_ref_format.specs.Ids.{id_from_hex}
use Rattle.gix_ref_format.proofs.PackedLemmas.{record_idless}
use Rattle.gix_ref_format.proofs.packed.decode.record_in.Goals as goal

pub returns-in_err-id : goal.returns-in_err-id
returns-in_err-id c =
    let none : id_from_hex c.args.kind (take (hex_len c.args.kind) c.args.text.now) ≡ None = search rules in
    rw c.from_residual-in_err-id.ensures (record_idless c.args.kind c.args.text.now none)
