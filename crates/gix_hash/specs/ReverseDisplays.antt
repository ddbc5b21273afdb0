-- What the display of reverse hexadecimal prints.
use Rattle.std.specs.Prelude.{ℕ, List, take}
use Rattle.gix_hash.specs.declared.change_id.display.ReverseHexDisplay.{ReverseHexDisplay}
use Rattle.gix_hash.specs.Views.{viewed_id}
use Rattle.gix_hash.specs.ReverseSpelling.{reverse_hex_text}

-- the digits that are wanted, in reverse hexadecimal, all if there are fewer
abbrev pub shown_reverse_hex : ReverseHexDisplay → List ℕ
shown_reverse_hex d = take d.hex_len (reverse_hex_text (viewed_id d.inner).digits)
