use Rattle.std.proofs.Common.{◌≡◌, ◌∙◌, ◌-◌, ℕ, length, take, map, ap, subst, rules, arith, Some, refl}
use Rattle.std.proofs.lemmas.List.{length-take-le}
use Rattle.hex.specs.Hex.{hex_digit_value}
use Rattle.gix_hash.specs.Kind.{hex_len}
use Rattle.gix_hash.specs.Id.{id_of}
use Rattle.gix_hash.specs.Views.{IsHexOfId}
use Rattle.gix_hash.specs.PackedBeginning.{IsZeroFrom}
use Rattle.gix_hash.proofs.PrefixLemmas.{read_prefix, cut_text, refused_front, hex_len-small}
use Rattle.gix_hash.proofs.Reading.{refused_whole}
use Rattle.gix_hash.proofs.prefix.read_padded.Goals as goal
use Rattle.gix_hash.proofs.prefix.read_padded.Goals.{In-Ok}

-- the prefix that is read
read : (c : In-Ok) → IsZeroFrom c.in-Ok.bytes c.args.hex_len × ((id_of c.in-Ok.bytes).kind ≡ c.args.kind)
    × (map hex_digit_value (take c.args.hex_len c.args.text.now) ≡ map (λ (d : ℕ). Some d) (take c.args.hex_len (id_of c.in-Ok.bytes).digits))
read c =
    let small = hex_len-small c.args.kind in
    let text = c.args.text.now in
    let n = c.args.hex_len in
    let room : length text ≡ 64 = search rules in
    let is : IsHexOfId (take c.len_in_hex.result text) (id_of c.in-Ok.bytes) = c.in-Ok.ensures in
    let whole : IsHexOfId (take (hex_len c.args.kind) text) (id_of c.in-Ok.bytes) = subst (λ (m : ℕ). IsHexOfId (take m text) (id_of c.in-Ok.bytes)) c.len_in_hex.ensures is in
    let front : length (take n text) ≡ n = length-take-le n text (omega arith) in
    let p = read_prefix c.in-Ok.bytes (take n text) (take (hex_len c.args.kind) text) c.args.kind (omega arith)
    (cut_text text n (hex_len c.args.kind) room c.requires.fits small c.requires.zeros) whole in (
      subst (λ (m : ℕ). IsZeroFrom c.in-Ok.bytes m) front p.0,
      p.1,
      p.2 ∙ ap (λ (m : ℕ). map (λ (d : ℕ). Some d) (take m (id_of c.in-Ok.bytes).digits)) front,
    )

pub invariant_of-result : goal.invariant_of-result
invariant_of-result c = (read c).0

pub returns-in-Ok : goal.returns-in-Ok
returns-in-Ok c = record { same_kind = (read c).1; spelled = (read c).2 }

pub returns-in-Err : goal.returns-in-Err
returns-in-Err c =
    let small = hex_len-small c.args.kind in
    let text = c.args.text.now in
    let n = c.args.hex_len in
    let room : length text ≡ 64 = search rules in
    let len : length (take c.len_in_hex.result text) ≡ hex_len c.args.kind =
    ap (λ (m : ℕ). length (take m text)) c.len_in_hex.ensures ∙ length-take-le (hex_len c.args.kind) text (omega arith) in
    let bad = refused_whole hex_digit_value (take c.len_in_hex.result text) c.args.kind c.in-Err.field-0 len c.in-Err.ensures in (
      refl,
      refused_front (take n text) (take c.len_in_hex.result text) (hex_len c.args.kind - length (take n text))
          (ap (λ (m : ℕ). take m text) c.len_in_hex.ensures ∙ cut_text text n (hex_len c.args.kind) room c.requires.fits small c.requires.zeros) bad,
    )
