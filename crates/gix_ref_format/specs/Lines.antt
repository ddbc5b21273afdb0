-- The lines of a text.
use Rattle.std.specs.Prelude.{ℕ, nat_eq, ◌-◌, ◌==◌, List, [], ◌∷◌, length, take, if◌then◌else◌, Option, Some, None}
use Rattle.std.specs.List.{ends_with, onto_first}

-- Each line has the line feed that ends it; the last may lack one.
abbrev pub lines : List ℕ → List (List ℕ)
lines [] = []
lines (byte ∷ rest) = if byte == 10 then (10 ∷ []) ∷ lines rest else onto_first byte (lines rest)

abbrev pub without_last : ℕ → List ℕ → List ℕ
without_last byte text =
    if ends_with nat_eq text (byte ∷ []) then take (length text - 1) text else text

-- the text of a line that ends with a line feed, or with a carriage return and a line feed
abbrev pub cut_line : List ℕ → Option (List ℕ)
cut_line line =
    if ends_with nat_eq line (10 ∷ []) then Some (without_last 13 (take (length line - 1) line))
    else None
