-- A commit in its pieces.
use Rattle.std.proofs.Common.{◌≡◌, ◌∙◌, ap, subst, ℕ, List, ◌∷◌, ◌++◌, ◌+◌, length, map, append-nil, length-append, arith}
use Rattle.std.specs.Prelude.{Option, Result, flat_map, codes}
use Rattle.std.proofs.lemmas.List.Folds.{flat_map-map}
use Rattle.gix_object_lines.specs.HexLine.{hex_line}
use Rattle.gix_object_lines.specs.Writes.{Writes}
use Rattle.gix_object_lines.specs.declared.write.Error.{Error}
use Rattle.gix_object_commit.specs.Commit.{Field, Parts, line, encoding_text, field_text, commit_text}
use Rattle.gix_object_commit.specs.Writing.{parent_piece, person_piece, encoding_piece, field_piece, id_pieces, author_pieces, committer_pieces, encoding_pieces, header_pieces, message_pieces, commit_pieces, commit_refusal}
use Rattle.gix_object_lines.specs.Pieces.{Piece, pieces_text, WritesPieces}
use Rattle.gix_object_lines.proofs.Pieces.{text_more}
use Rattle.gix_object_lines.specs.Person.{actor_line}

parents_text : (tree : List ℕ) (parents : List (List ℕ)) → pieces_text (map (parent_piece tree) parents) ≡ flat_map (hex_line (codes "parent")) parents
parents_text tree parents = flat_map-map (λ (piece : Piece). piece.text) (parent_piece tree) parents

headers_text : (headers : List Field) → pieces_text (map field_piece headers) ≡ flat_map field_text headers
headers_text headers = flat_map-map (λ (piece : Piece). piece.text) field_piece headers

pub text_is : (parts : Parts) → pieces_text (commit_pieces parts) ≡ commit_text parts
text_is parts =
    let end : List Piece = header_pieces parts ++ message_pieces parts in
    let tail : List Piece = person_piece (codes "author") parts.author ∷ (person_piece (codes "committer") parts.committer ∷ (encoding_piece parts.encoding parts.headers ∷ end)) in
    let last : pieces_text end ≡ flat_map field_text parts.headers ++ 10 ∷ parts.message =
    text_more (header_pieces parts) (message_pieces parts) ∙ ap (λ t. t ++ pieces_text (message_pieces parts)) (headers_text parts.headers) ∙ ap (λ t. flat_map field_text parts.headers ++ t) (append-nil (10 ∷ parts.message)) in
    ap (λ t. hex_line (codes "tree") parts.tree ++ t)
    (text_more (map (parent_piece parts.tree) parts.parents) tail
    ∙ ap (λ t. t ++ pieces_text tail) (parents_text parts.tree parts.parents)
    ∙ ap (λ t. flat_map (hex_line (codes "parent")) parts.parents ++ (line (codes "author") (actor_line parts.author) ++ (line (codes "committer") (actor_line parts.committer) ++ (encoding_text parts.encoding ++ t)))) last)

pub whole : (a b : Option (List ℕ)) (parts : Parts) (r : Result (Unit {0}) Error) → WritesPieces {U = Unit {0}} a b (commit_pieces parts) r → Writes {U = Unit {0}} a b (commit_text parts) (commit_refusal parts) r
whole a b parts r w = subst (λ t. Writes {U = Unit {0}} a b t (commit_refusal parts) r) (text_is parts) w

-- the lengths of the pieces
pub length_is : (parts : Parts) → length (commit_text parts) ≡ length (pieces_text (id_pieces parts)) + (length (pieces_text (author_pieces parts)) + (length (pieces_text (committer_pieces parts))
    + (length (pieces_text (encoding_pieces parts)) + (length (pieces_text (header_pieces parts)) + length (pieces_text (message_pieces parts))))))
length_is parts =
    let more = λ (a b : List Piece). ap length (text_more a b) ∙ length-append (pieces_text a) (pieces_text b) in
    let e = header_pieces parts ++ message_pieces parts in
    let d = encoding_pieces parts ++ e in
    let c = committer_pieces parts ++ d in
    let b = author_pieces parts ++ c in
    omega (arith, ap length (text_is parts), more (id_pieces parts) b, more (author_pieces parts) c, more (committer_pieces parts) d, more (encoding_pieces parts) e, more (header_pieces parts) (message_pieces parts))
