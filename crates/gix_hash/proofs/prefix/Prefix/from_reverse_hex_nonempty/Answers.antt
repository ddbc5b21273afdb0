use Rattle.std.proofs.Common.{◌≡◌, ◌≤◌, ◌∙◌, ℕ, List, length, take, map, Some, subst, ap}
use Rattle.hex.specs.Hex.{hex_digit_value}
use Rattle.gix_hash.specs.Kind.{kind_for_digits}
use Rattle.gix_hash.specs.ReverseSpelling.{reverse_digit_value}
use Rattle.gix_hash.proofs.PrefixLemmas.{match_weaker, spells_through, fault_through}
use Rattle.gix_hash.proofs.prefix.Prefix.from_reverse_hex_nonempty.Goals as goal

pub returns : goal.returns
returns c =
    let value = c.args.value.now in
    let same = c.as_bytes-letters.ensures.value in
    let n = length c.as_bytes-letters.result.now in
    let front = take n c.in-Some.text in
    let least : 1 ≤ length value = subst (λ (bs : List ℕ). 1 ≤ length bs) same c.in_ok-kind.ensures.0 in
    let kind : kind_for_digits (length value) ≡ Some c.in_ok-kind.kind = subst (λ (bs : List ℕ). kind_for_digits (length bs) ≡ Some c.in_ok-kind.kind) same c.in_ok-kind.ensures.1 in
    let read : map hex_digit_value front ≡ map reverse_digit_value value = c.in-Some.ensures.0 ∙ ap (λ (bs : List ℕ). map reverse_digit_value bs) same in
    match_weaker c.read_padded.result _ _ _ _ c.read_padded.ensures
    (λ prefix h. spells_through reverse_digit_value value front c.in_ok-kind.kind prefix least kind read h)
    (λ fault h. fault_through reverse_digit_value value front c.in_ok-kind.kind fault least kind read h)
