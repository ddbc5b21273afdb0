-- A prefix's fields against what contracts see of it.
use Rattle.std.specs.Prelude.{ℕ, ◌≡◌, length}
use Rattle.std.proofs.Common.{ap, ◌∙◌}
use Rattle.gix_hash.specs.declared.prefix.Prefix.TheInside.{Inside}
use Rattle.gix_hash.specs.declared.object_id.ObjectId.{ObjectId}
use Rattle.gix_hash.specs.Id.{Id}
use Rattle.gix_hash.specs.PackedBeginning.{beginning_of, padded_id_of, IsZeroFrom, length-beginning_of, padded_id_of-beginning_of}

-- the beginning that a prefix is
abbrev pub prefix_view : Inside → Id
prefix_view p = beginning_of p.bytes p.hex_len

-- the fields of a beginning
abbrev pub prefix_inverse : Id → Inside
prefix_inverse v = record { bytes = padded_id_of v; hex_len = length v.digits }

-- a prefix is found by its beginning
pub prefix_inverse_ok : (p : Inside) → IsZeroFrom p.bytes p.hex_len
    → prefix_inverse (prefix_view p) ≡ p
prefix_inverse_ok p h =
    let bytes = padded_id_of-beginning_of p.bytes p.hex_len h in
    let len = length-beginning_of p.bytes p.hex_len h in
    let make : ObjectId → ℕ → Inside = λ bytes n. record { bytes = bytes; hex_len = n } in
    ap (λ (b : ObjectId). make b (length (beginning_of p.bytes p.hex_len).digits)) bytes ∙ ap
    (λ (n : ℕ). make p.bytes n) len
