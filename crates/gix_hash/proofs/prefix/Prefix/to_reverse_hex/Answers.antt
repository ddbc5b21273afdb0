use Rattle.std.proofs.Common.{◌∙◌, ap, take}
use Rattle.std.proofs.lemmas.List.{take-map}
use Rattle.gix_hash.specs.Id.{Id}
use Rattle.gix_hash.specs.ReverseSpelling.{reverse_hex_text, reverse_character}
use Rattle.gix_hash.proofs.prefix.Prefix.to_reverse_hex.Goals as goal

pub returns : goal.returns
returns c =
    ap (λ (v : Id). take c.self.inside.hex_len (reverse_hex_text v.digits)) c.as_oid.ensures
    ∙ (take-map reverse_character c.self.inside.hex_len _ ∙ ap (λ (v : Id). reverse_hex_text v.digits) c.self.view_is)
