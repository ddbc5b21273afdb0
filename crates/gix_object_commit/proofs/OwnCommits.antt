-- A commit that owns its parts, in its pieces.
use Rattle.std.proofs.Common.{◌≡◌, ◌∙◌, sym, subst, ℕ, List, [], ◌∷◌, ◌++◌, map, append_assoc}
use Rattle.std.specs.Prelude.{Option, Result, Ok, Err}
use Rattle.gix_object_lines.specs.Writes.{Writes}
use Rattle.gix_object_lines.specs.declared.write.Error.{Error}
use Rattle.gix_object_commit.specs.Commit.{commit_text}
use Rattle.gix_object_commit.specs.OwnedText.{own_field, own_parts_with, own_author_pieces, own_committer_pieces, own_front_pieces, own_pieces_with, own_refusal_with}
use Rattle.gix_object_commit.specs.Writing.{field_piece, message_piece, id_pieces, author_pieces, committer_pieces, encoding_pieces, header_pieces, message_pieces}
use Rattle.gix_object_lines.specs.Pieces.{Piece, pieces_text, WritesPieces}
use Rattle.gix_object_commit.specs.declared.commit.owned.Commit.{Commit}
use Rattle.gix_object_commit.specs.declared.header.ExtraHeader.{ExtraHeader}
use Rattle.gix_object_commit.proofs.Commits.{text_is}
use Rattle.gix_object_lines.proofs.Pieces.{text_more, pieces_then, pieces_stop}

module _ (headers : List ExtraHeader) (commit : Commit) where
  text_with : pieces_text (own_pieces_with headers commit) ≡ commit_text (own_parts_with headers commit)
  text_with =
      let parts = own_parts_with headers commit in
      let end : List Piece = encoding_pieces parts ++ (header_pieces parts ++ message_pieces parts) in
      text_more (id_pieces parts) (own_author_pieces commit ++ (own_committer_pieces commit ++ end))
      ∙ sym (text_more (id_pieces parts) (author_pieces parts ++ (committer_pieces parts ++ end)))
      ∙ text_is parts

  abbrev front : List Piece
  front = own_front_pieces (map own_field headers) commit

  abbrev lines : List Piece
  lines = map field_piece (map own_field headers)

  abbrev end : List Piece
  end = message_piece commit.message ∷ []

  pub pieces_are : front ++ (lines ++ end) ≡ own_pieces_with headers commit
  pieces_are =
      let parts = own_parts_with headers commit in
      append_assoc (id_pieces parts) (own_author_pieces commit ++ (own_committer_pieces commit ++ encoding_pieces parts)) (lines ++ end)

  whole : (a b : Option (List ℕ)) (r : Result (Unit {0}) Error) → WritesPieces {U = Unit {0}} a b (front ++ (lines ++ end)) r
      → Writes {U = Unit {0}} a b (commit_text (own_parts_with headers commit)) (own_refusal_with headers commit) r
  whole a b r w =
      subst (λ t. Writes {U = Unit {0}} a b t (own_refusal_with headers commit) r) text_with (subst (λ ps. WritesPieces {U = Unit {0}} a b ps r) pieces_are w)

  -- ---- written in three parts

  pub front_stops : (a b : Option (List ℕ)) (e : Error) → WritesPieces {U = Unit {0}} a b front (Err e) → Writes {U = Unit {0}} a b (commit_text (own_parts_with headers commit)) (own_refusal_with headers commit) (Err e)
  front_stops a b e w = whole a b (Err e) (pieces_stop a b front (lines ++ end) e w)

  pub lines_stop : (a b c : Option (List ℕ)) (e : Error) → WritesPieces {U = Unit {0}} a b front (Ok tt) → WritesPieces {U = Unit {0}} b c lines (Err e)
      → Writes {U = Unit {0}} a c (commit_text (own_parts_with headers commit)) (own_refusal_with headers commit) (Err e)
  lines_stop a b c e w v = whole a c (Err e) (pieces_then a b c front (lines ++ end) (Err e) w (pieces_stop b c lines end e v))

  pub all_written : (a b c d : Option (List ℕ)) (r : Result (Unit {0}) Error) → WritesPieces {U = Unit {0}} a b front (Ok tt) → WritesPieces {U = Unit {0}} b c lines (Ok tt) → WritesPieces {U = Unit {0}} c d end r
      → Writes {U = Unit {0}} a d (commit_text (own_parts_with headers commit)) (own_refusal_with headers commit) r
  all_written a b c d r w v u = whole a d r (pieces_then a b d front (lines ++ end) r w (pieces_then b c d lines end r v u))
