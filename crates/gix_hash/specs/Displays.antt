-- What the displays of the crate print.
use Rattle.std.specs.Prelude.{ℕ, List, take}
use Rattle.gix_hash.specs.declared.display.HexDisplay.{HexDisplay}
use Rattle.gix_hash.specs.Views.{viewed_id}
use Rattle.gix_hash.specs.Spelling.{hex_text}

-- the digits that are wanted, all if there are fewer
abbrev pub shown_hex : HexDisplay → List ℕ
shown_hex d = take d.hex_len (hex_text (viewed_id d.inner).digits)
