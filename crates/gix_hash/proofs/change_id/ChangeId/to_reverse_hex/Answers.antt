use Rattle.std.proofs.Common.{◌≡◌, ◌∙◌, ◌*◌, List, ℕ, length, ap, sym, arith}
use Rattle.std.proofs.lemmas.List.{take_all, length-map}
use Rattle.gix_hash.specs.ReverseSpelling.{reverse_character, reverse_hex_text}
use Rattle.gix_hash.proofs.ByteLists.{length-digits_of}
use Rattle.gix_hash.proofs.change_id.ChangeId.to_reverse_hex.Goals as goal

pub returns : goal.returns
returns c =
    let digits = c.args.self.now.digits in
    let same : length digits ≡ 2 * length c.as_bytes.result.now =
    ap (λ (ds : List ℕ). length ds) (sym c.as_bytes.ensures.digits) ∙ length-digits_of c.as_bytes.result.now in
    let len = length-map digits reverse_character in
    c.to_reverse_hex_with_len.ensures ∙ take_all (2 * length c.as_bytes.result.now) (reverse_hex_text digits) (omega arith)
