-- Pieces that are written in several parts, of which the first alone may be refused.
use Rattle.std.proofs.Common.{◌≡◌, ◌∙◌, ap, refl, sym, subst, ℕ, List, [], ◌∷◌, ◌++◌, append_assoc, append-nil}
use Rattle.std.specs.Prelude.{Option, None, Result, Ok, Err}
use Rattle.std.specs.Option.{option_map}
use Rattle.gix_object_lines.specs.Writes.{Writes}
use Rattle.gix_object_lines.specs.LineWrites.{WritesLine}
use Rattle.gix_object_lines.specs.declared.write.Error.{Error}
use Rattle.gix_object_lines.specs.declared.write.Error.TheVariants.{Writer, Header, TagName, Filename}
use Rattle.gix_object_lines.specs.declared.encode.Error as encode
use Rattle.gix_object_lines.specs.declared.encode.Error.TheVariants.{NewlineInHeaderValue, EmptyValue, Unspellable}
use Rattle.gix_object_commit.specs.Commit.{line}
use Rattle.gix_object_commit.specs.OwnedText.{text_piece}
use Rattle.gix_object_lines.specs.Pieces.{Piece, pieces_text, first_refused, refused_or, WritesPieces}
use Rattle.gix_object_lines.proofs.Pieces.{pieces_then, pieces_stop}

in_parts : (a b : Option (List ℕ)) (first : Piece) (rest : List Piece) (text : List ℕ) (r : Result (Unit {0}) Error) → first_refused first.text rest ≡ None → first.text ++ pieces_text rest ≡ text
    → WritesPieces {U = Unit {0}} a b (first ∷ rest) r → WritesPieces {U = Unit {0}} a b (record { text = text; cause = first.cause } ∷ []) r
in_parts a b first rest text r none is w =
    subst (λ t. Writes {U = Unit {0}} a b t (refused_or first.cause [] None) r) (is ∙ sym (append-nil text))
    (subst (λ o. Writes {U = Unit {0}} a b (first.text ++ pieces_text rest) o r) (ap (refused_or first.cause []) none) w)

-- ---- texts that are never refused

module _ (a b c : Option (List ℕ)) (done part : List ℕ) where
  pub text_then : (whole : List ℕ) (r : Result (Unit {0}) Error) → done ++ part ≡ whole → WritesPieces {U = Unit {0}} a b (text_piece done ∷ []) (Ok tt) → WritesPieces {U = Unit {0}} b c (text_piece part ∷ []) r
      → WritesPieces {U = Unit {0}} a c (text_piece whole ∷ []) r
  text_then whole r is w v =
      in_parts a c (text_piece done) (text_piece part ∷ []) whole r refl (ap (λ t. done ++ t) (append-nil part) ∙ is)
      (pieces_then a b c (text_piece done ∷ []) (text_piece part ∷ []) r w v)

  pub text_stop : (rest whole : List ℕ) (e : Error) → done ++ (part ++ rest) ≡ whole → WritesPieces {U = Unit {0}} a b (text_piece done ∷ []) (Ok tt) → WritesPieces {U = Unit {0}} b c (text_piece part ∷ []) (Err e)
      → WritesPieces {U = Unit {0}} a c (text_piece whole ∷ []) (Err e)
  text_stop rest whole e is w v =
      in_parts a c (text_piece done) (text_piece part ∷ (text_piece rest ∷ [])) whole (Err e) refl (ap (λ t. done ++ (part ++ t)) (append-nil rest) ∙ is)
      (pieces_then a b c (text_piece done ∷ []) (text_piece part ∷ (text_piece rest ∷ [])) (Err e) w
      (pieces_stop b c (text_piece part ∷ []) (text_piece rest ∷ []) e v))

-- ---- a line: its word and a space, its text, and its end

module _ (word text : List ℕ) (cause : Option encode.Error) where
  abbrev pub front_piece : Piece
  front_piece = record { text = word ++ 32 ∷ []; cause = option_map Header cause }

  abbrev pub end_piece : Piece
  end_piece = text_piece (10 ∷ [])

  abbrev pub line_piece : Piece
  line_piece = record { text = line word text; cause = option_map Header cause }

  line_is : (word ++ 32 ∷ []) ++ (text ++ 10 ∷ []) ≡ line word text
  line_is = append_assoc word (32 ∷ []) (text ++ 10 ∷ [])

  as_line : (a b : Option (List ℕ)) (r : Result (Unit {0}) Error) → WritesPieces {U = Unit {0}} a b (front_piece ∷ (text_piece text ∷ (end_piece ∷ []))) r → WritesPieces {U = Unit {0}} a b (line_piece ∷ []) r
  as_line a b r w = in_parts a b front_piece (text_piece text ∷ (end_piece ∷ [])) (line word text) r refl line_is w

  pub front_stops : (a b : Option (List ℕ)) (e : Error) → WritesPieces {U = Unit {0}} a b (front_piece ∷ []) (Err e) → WritesPieces {U = Unit {0}} a b (line_piece ∷ []) (Err e)
  front_stops a b e w = as_line a b (Err e) (pieces_stop a b (front_piece ∷ []) (text_piece text ∷ (end_piece ∷ [])) e w)

  pub text_stops : (a b c : Option (List ℕ)) (e : Error) → WritesPieces {U = Unit {0}} a b (front_piece ∷ []) (Ok tt) → WritesPieces {U = Unit {0}} b c (text_piece text ∷ []) (Err e) → WritesPieces {U = Unit {0}} a c (line_piece ∷ []) (Err e)
  text_stops a b c e w v =
      as_line a c (Err e) (pieces_then a b c (front_piece ∷ []) (text_piece text ∷ (end_piece ∷ [])) (Err e) w (pieces_stop b c (text_piece text ∷ []) (end_piece ∷ []) e v))

  pub line_ends : (a b c d : Option (List ℕ)) (r : Result (Unit {0}) Error) → WritesPieces {U = Unit {0}} a b (front_piece ∷ []) (Ok tt) → WritesPieces {U = Unit {0}} b c (text_piece text ∷ []) (Ok tt)
      → WritesPieces {U = Unit {0}} c d (end_piece ∷ []) r → WritesPieces {U = Unit {0}} a d (line_piece ∷ []) r
  line_ends a b c d r w v u =
      as_line a d r (pieces_then a b d (front_piece ∷ []) (text_piece text ∷ (end_piece ∷ [])) r w (pieces_then b c d (text_piece text ∷ []) (end_piece ∷ []) r v u))

-- a line that has a text is such a piece
pub from_line : (P : Type 0) (a b : Option (List ℕ)) (text : List ℕ) (r : Result (Unit {0}) Error) → P → WritesLine P a b text r → WritesPieces {U = Unit {0}} a b (text_piece text ∷ []) r
from_line P a b text r p h = subst (λ t. Writes {U = Unit {0}} a b t None r) (sym (append-nil text)) (by r p h)
  where
    by : (r : Result (Unit {0}) Error) → P → WritesLine P a b text r → Writes {U = Unit {0}} a b text None r
    by (Ok u) p h = (refl, h.1)
    by (Err (Writer e)) p h = h.1
    by (Err (Header NewlineInHeaderValue)) p h = absurd h
    by (Err (Header EmptyValue)) p h = absurd h
    by (Err (Header Unspellable)) p h = absurd (h.0 p)
    by (Err (TagName e)) p h = absurd h
    by (Err (Filename e)) p h = absurd h

pub as_piece : (a b : Option (List ℕ)) (p q : Piece) (r : Result (Unit {0}) Error) → p ≡ q → WritesPieces {U = Unit {0}} a b (p ∷ []) r → WritesPieces {U = Unit {0}} a b (q ∷ []) r
as_piece a b p q r is w = subst (λ piece. WritesPieces {U = Unit {0}} a b (piece ∷ []) r) is w
