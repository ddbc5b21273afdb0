-- What a part of a commit is read from.
use Rattle.std.specs.Prelude.{ℕ, List, ◌∷◌, []}
use Rattle.gix_object_lines.specs.Bytes.{IsBeginningOf}

-- no space begins the text, so it goes on with no line before it
abbrev pub IsUnspaced : List ℕ → Type 0
IsUnspaced text = ¬ IsBeginningOf (32 ∷ []) text
