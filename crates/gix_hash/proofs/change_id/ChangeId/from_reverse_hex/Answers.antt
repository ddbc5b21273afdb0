use Rattle.std.proofs.Common.{◌≡◌, ◌≢◌, ◌∙◌, ℕ, length, take, rules, arith}
use Rattle.std.proofs.lemmas.List.{length-take-le}
use Rattle.hex.specs.Hex.{hex_digit_value}
use Rattle.gix_hash.specs.ReverseSpelling.{reverse_digit_value}
use Rattle.gix_hash.proofs.Reading.{any_through}
use Rattle.gix_hash.proofs.PrefixLemmas.{refused_len}
use Rattle.gix_hash.proofs.change_id.ChangeId.from_reverse_hex.Goals as goal
use Rattle.gix_hash.proofs.change_id.ChangeId.from_reverse_hex.Goals.{else-len-ne40-via-then-len-ne40+else-len-ne64, else-len-ne40-via-else-len-ne40}

pub returns-in-Err : goal.returns-in-Err
returns-in-Err c =
    let n : ℕ = length c.args.buffer.now in
    let text = c.in-Some.text in
    let which : n ≢ 40 → n ≡ 64 = elim c.else-len-ne40.branch [
      | else-len-ne40-via-then-len-ne40+else-len-ne64 w ↦ λ ne. omega arith
      | else-len-ne40-via-else-len-ne40 w ↦ λ ne. absurd (ne (omega arith))
    ] in
    let room : length text ≡ 64 = search rules in
    let small : length (take n text) ≡ n = length-take-le n text (elim c.else-len-ne40.branch [
      | else-len-ne40-via-then-len-ne40+else-len-ne64 w ↦ omega arith
      | else-len-ne40-via-else-len-ne40 w ↦ omega arith
    ]) in (
      which,
      any_through hex_digit_value reverse_digit_value (take n text) c.args.buffer.now c.in-Some.ensures.0
          (refused_len hex_digit_value (take n text) c.in-Err.field-0 (λ ne. small ∙ which (λ e. ne (small ∙ e))) c.in-Err.ensures),
    )
