-- Ids as texts spell them: hexadecimal digits of either letter case (Git's glossary, "object
-- name").
use Rattle.std.specs.Prelude.{ℕ, unwrap_or, is_some, List, length, map, ◌==◌, if◌then◌else◌, Option, Some, None, option_map}
use Rattle.std.specs.List.{list_all}
use Rattle.hex.specs.Hex.{hex_digit_value}
use Rattle.gix_hash.specs.Id.{Id}
use Rattle.gix_hash.specs.Kind.{hex_len}
use Rattle.gix_hash.specs.declared.kind.Kind.{Kind}

-- the digits that hexadecimal characters of either case spell
abbrev pub digits_read : List ℕ → Option (List ℕ)
digits_read text =
    if list_all (λ c. is_some (hex_digit_value c)) text
    then Some (map (λ c. unwrap_or (hex_digit_value c) 0) text) else None

-- the id that as many digits as the kind has spell
abbrev pub id_from_hex : Kind → List ℕ → Option Id
id_from_hex kind text =
    if length text == hex_len kind
    then option_map (λ digits. record { kind = kind; digits = digits }) (digits_read text)
    else None
