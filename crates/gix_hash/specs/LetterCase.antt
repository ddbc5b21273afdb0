-- Hexadecimal digits in lower case, as Git prints ids (git-rev-parse, git-hash-object).
use Rattle.std.specs.Prelude.{ℕ, List, IsFalse}
use Rattle.std.specs.Char.{is_ascii_uppercase}
use Rattle.std.specs.List.{list_any}

-- it holds no capital letter
abbrev pub IsLowerCase : List ℕ → Type 0
IsLowerCase text = IsFalse (list_any is_ascii_uppercase text)
