-- What is written of a value in pieces, one after the other, up to the first that the format never
-- writes.
use Rattle.std.specs.Prelude.{ℕ, List, [], ◌∷◌, ◌++◌, flat_map, Option, None, Some, Result}
use Rattle.gix_object_lines.specs.Writes.{Refusal, Writes}
use Rattle.gix_object_lines.specs.declared.write.Error.{Error}

-- a piece's text and, if the format never writes it, why
pub record Piece : Type 0 where
  pub text : List ℕ
  pub cause : Option Error

abbrev pub pieces_text : List Piece → List ℕ
pieces_text pieces = flat_map (λ piece. piece.text) pieces

abbrev pub refused_or : Option Error → List ℕ → Option Refusal → Option Refusal
refused_or None before later = later
refused_or (Some cause) before later = Some (record { before = before; cause = cause })

-- the first piece that is refused, and all before it
abbrev pub first_refused : List ℕ → List Piece → Option Refusal
first_refused before [] = None
first_refused before (piece ∷ pieces) =
    refused_or piece.cause before (first_refused (before ++ piece.text) pieces)

abbrev pub WritesPieces : {U : Type 0} → Option (List ℕ) → Option (List ℕ) → List Piece
    → Result U Error → Type 0
WritesPieces old new pieces result =
    Writes old new (pieces_text pieces) (first_refused [] pieces) result
