-- Beginnings of bytes that are put before others, or taken off.
use Rattle.std.specs.Prelude.{ℕ, ◌≡◌, ◌⊎◌, List, ◌∷◌, ◌++◌, length, drop, if◌then◌else◌}
use Rattle.gix_object_lines.specs.Bytes.{Lacks}
use Rattle.gix_object_lines.specs.NameTest.{begins}

-- what follows the front, if it begins the text
abbrev pub without_front : List ℕ → List ℕ → List ℕ
without_front front text = if begins front text then drop (length front) text else text

-- the front once, before the text
abbrev pub with_front : List ℕ → List ℕ → List ℕ
with_front front text = if begins front text then text else front ++ text

-- the last component of a name
abbrev pub IsLastPart : List ℕ → List ℕ → Type 0
IsLastPart name part =
    Lacks 47 part × ((name ≡ part) ⊎ ((front : List ℕ) × (name ≡ front ++ 47 ∷ part)))
