use Rattle.std.proofs.Common.{◌≤◌, arith, length, subst}
use Rattle.hex.specs.Hex.{hex_digit_value}
use Rattle.gix_hash.specs.Kind.{hex_len}
use Rattle.gix_hash.specs.Prefix as prefixes
use Rattle.history_model.specs.Bytes.{Bytes}
use Rattle.history_repository.proofs.ShortIds.{no_text, spells}
use Rattle.history_repository.proofs.words.short_id.Goals as goal

pub returns-in_default : goal.returns-in_default
returns-in_default c = no_text c.args.kind c.args.word.now c.in_default.ensures.cases.0

pub returns-in-Ok-from_hex : goal.returns-in-Ok-from_hex
returns-in-Ok-from_hex c =
    let kind = c.len_in_hex.ensures in
    let test = c.if-word-len_in_hex.false in
    let fits : length c.args.word.now ≤ hex_len c.args.kind = omega (arith, kind, test) in
    spells c.args.kind c.args.word.now c.in-Ok-from_hex.prefix fits
    (subst (λ (text : Bytes). prefixes.SpellsPrefix hex_digit_value 4 text c.in-Ok-from_hex.prefix) c.in-Ok.ensures.cases.0 c.in-Ok-from_hex.ensures)
