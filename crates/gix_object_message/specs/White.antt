-- White space at the ends of a text: space, tab, LF, form feed and CR.
use Rattle.std.specs.Prelude.{ℕ, ◌-◌, List, length, take, drop}
use Rattle.std.specs.List.{prefix_len, suffix_len}
use Rattle.std.specs.Char.{is_ascii_whitespace}

abbrev pub trim_start : List ℕ → List ℕ
trim_start text = drop (prefix_len is_ascii_whitespace text) text

abbrev pub trim_end : List ℕ → List ℕ
trim_end text = take (length text - suffix_len is_ascii_whitespace text) text

-- both ends
abbrev pub trim : List ℕ → List ℕ
trim text = trim_end (trim_start text)
