-- How a commit is written, and which parts the format never writes.
use Rattle.std.specs.Prelude.{ℕ, nat_eq, ◌==◌, ◌&&◌, Bool, true, false, not, List, [], ◌∷◌, ◌++◌, codes, map, length, if◌then◌else◌, Option, None, Some}
use Rattle.std.specs.List.{list_any}
use Rattle.std.specs.Option.{option_map}
use Rattle.std.specs.Cmp.Lexicographic.{pointwise}
use Rattle.gix_object_lines.specs.HexLine.{hex_line, is_id}
use Rattle.gix_object_lines.specs.TimeTest.{tells_time}
use Rattle.gix_object_lines.specs.Pieces.{Piece, first_refused}
use Rattle.gix_object_lines.specs.Writes.{Refusal}
use Rattle.gix_object_lines.specs.declared.write.Error.{Error}
use Rattle.gix_object_lines.specs.declared.write.Error.TheVariants.{Header}
use Rattle.gix_object_lines.specs.declared.encode.Error as encode
use Rattle.gix_object_lines.specs.declared.encode.Error.TheVariants.{NewlineInHeaderValue, EmptyValue, Unspellable}
use Rattle.gix_object_lines.specs.Person.{Person, actor_line}
use Rattle.gix_object_commit.specs.Commit.{Field, Parts, line, encoding_text, field_text}

-- ---- what is refused

abbrev pub holds : ℕ → List ℕ → Bool
holds byte text = list_any (λ other. other == byte) text

abbrev pub unspellable_unless : Bool → Option encode.Error
unspellable_unless fine = if fine then None else Some Unspellable

-- the same, as a piece is refused for it
abbrev pub refused_unless : Bool → Option Error
refused_unless fine = option_map Header (unspellable_unless fine)

-- an id in as many digits as the tree's
abbrev pub is_id_like : List ℕ → List ℕ → Bool
is_id_like tree digits = length digits == length tree && is_id digits

-- it holds no `<`, `>` or line feed
abbrev pub is_plain : List ℕ → Bool
is_plain part = not (holds 60 part) && (not (holds 62 part) && not (holds 10 part))

-- such a name and email, and a text that is a time
abbrev pub is_person : Person → Bool
is_person person = is_plain person.name && (is_plain person.email && tells_time person.time)

abbrev pub begins_with_space : List ℕ → Bool
begins_with_space [] = false
begins_with_space (byte ∷ _) = byte == 32

-- each line feed is followed by a space
abbrev pub is_folded : List ℕ → Bool
is_folded [] = true
is_folded (byte ∷ rest) = (if byte == 10 then begins_with_space rest else true) && is_folded rest

abbrev pub is_empty : List ℕ → Bool
is_empty text = length text == 0

-- one word in one line
abbrev pub is_word : List ℕ → Bool
is_word name = not (is_empty name) && (not (holds 32 name) && not (holds 10 name))

abbrev pub is_field : Field → Bool
is_field field = is_word field.name && is_folded field.value

-- the first header is named as the encoding's line is
abbrev pub is_encoding_first : List Field → Bool
is_encoding_first [] = false
is_encoding_first (field ∷ _) = pointwise nat_eq field.name (codes "encoding")

abbrev pub encoding_cause : Option (List ℕ) → List Field → Option encode.Error
encoding_cause None headers = unspellable_unless (not (is_encoding_first headers))
encoding_cause (Some name) headers =
    if is_empty name then Some EmptyValue else if holds 10 name then Some NewlineInHeaderValue
    else None

-- ---- the pieces of a commit

abbrev pub tree_piece : List ℕ → Piece
tree_piece digits =
    record { text = hex_line (codes "tree") digits; cause = refused_unless (is_id digits) }

abbrev pub parent_piece : List ℕ → List ℕ → Piece
parent_piece tree digits =
    record {
      text =
          hex_line (codes "parent") digits;
      cause = refused_unless (is_id_like tree digits);
    }

abbrev pub person_piece : List ℕ → Person → Piece
person_piece word person =
    record { text = line word (actor_line person); cause = refused_unless (is_person person) }

abbrev pub encoding_piece : Option (List ℕ) → List Field → Piece
encoding_piece encoding headers =
    record {
      text =
          encoding_text encoding;
      cause = option_map Header (encoding_cause encoding headers);
    }

abbrev pub field_piece : Field → Piece
field_piece field = record { text = field_text field; cause = refused_unless (is_field field) }

abbrev pub message_piece : List ℕ → Piece
message_piece message = record { text = 10 ∷ message; cause = None }

abbrev pub id_pieces : Parts → List Piece
id_pieces parts = tree_piece parts.tree ∷ map (parent_piece parts.tree) parts.parents

abbrev pub author_pieces : Parts → List Piece
author_pieces parts = person_piece (codes "author") parts.author ∷ []

abbrev pub committer_pieces : Parts → List Piece
committer_pieces parts = person_piece (codes "committer") parts.committer ∷ []

abbrev pub encoding_pieces : Parts → List Piece
encoding_pieces parts = encoding_piece parts.encoding parts.headers ∷ []

abbrev pub header_pieces : Parts → List Piece
header_pieces parts = map field_piece parts.headers

abbrev pub message_pieces : Parts → List Piece
message_pieces parts = message_piece parts.message ∷ []

abbrev pub commit_pieces : Parts → List Piece
commit_pieces parts =
    id_pieces parts
    ++
    (author_pieces parts
    ++
    (committer_pieces parts
    ++ (encoding_pieces parts ++ (header_pieces parts ++ message_pieces parts))))

-- the first part that the format never writes, and all before it
abbrev pub commit_refusal : Parts → Option Refusal
commit_refusal parts = first_refused [] (commit_pieces parts)
