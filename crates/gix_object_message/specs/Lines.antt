-- The lines of a text.
use Rattle.std.specs.Prelude.{ℕ, ◌==◌, Bool, ◌||◌, List, [], ◌∷◌, ◌++◌, length, take, if◌then◌else◌}
use Rattle.std.specs.Str.{bytes_eq}

-- the bytes come before those of the first piece
abbrev pub onto_first : List ℕ → List (List ℕ) → List (List ℕ)
onto_first bytes [] = bytes ∷ []
onto_first bytes (piece ∷ pieces) = (bytes ++ piece) ∷ pieces

-- the lines, each with the line feed that ends it; only the last may have none
unfoldable pub lines_of : List ℕ → List (List ℕ)
lines_of [] = []
lines_of (byte ∷ text) =
    if byte == 10 then (byte ∷ []) ∷ lines_of text else onto_first (byte ∷ []) (lines_of text)

-- a line of nothing but its end, LF or CR LF
abbrev pub is_empty_line : List ℕ → Bool
is_empty_line line = bytes_eq line (10 ∷ []) || bytes_eq line (13 ∷ 10 ∷ [])

-- the text begins with these bytes
abbrev pub begins_with : List ℕ → List ℕ → Bool
begins_with front text = bytes_eq (take (length front) text) front
