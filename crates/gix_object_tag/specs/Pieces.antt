-- What is written of a value, piece by piece.
use Rattle.std.specs.Prelude.{ℕ, List, [], ◌∷◌, ◌++◌, Option, None, Some}
use Rattle.gix_object_lines.specs.Writes.{Refusal}

-- a piece's text, and what of it the format never writes, if there is any
pub record Piece : Type 0 where
  pub text : List ℕ
  pub refusal : Option Refusal

abbrev pub all_text : List Piece → List ℕ
all_text [] = []
all_text (piece ∷ pieces) = piece.text ++ all_text pieces

-- a refusal after some text
abbrev pub behind : List ℕ → Option Refusal → Option Refusal
behind text None = None
behind text (Some refusal) =
    Some (record { before = text ++ refusal.before; cause = refusal.cause })

abbrev pub first_of : Option Refusal → List ℕ → Option Refusal → Option Refusal
first_of (Some refusal) text later = Some refusal
first_of None text later = behind text later

-- the first of the refusals
abbrev pub first_refusal : List Piece → Option Refusal
first_refusal [] = None
first_refusal (piece ∷ pieces) = first_of piece.refusal piece.text (first_refusal pieces)
