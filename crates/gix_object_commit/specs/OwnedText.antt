-- A commit that owns its parts, as it is written.
use Rattle.std.specs.Prelude.{ℕ, ℤ, Bool, ◌==◌, ◌&&◌, nat_lt, ◌%◌, List, [], ◌∷◌, ◌++◌, codes, map, Option, None, unsigned_abs}
use Rattle.gix_hash.specs.Id.{id_of}
use Rattle.gix_hash.specs.Spelling.{hex_text}
use Rattle.gix_hash.specs.declared.object_id.ObjectId.{ObjectId}
use Rattle.gix_object_lines.specs.Writes.{Refusal}
use Rattle.gix_object_lines.specs.declared.lines.actor.Actor.{Actor}
use Rattle.gix_object_commit.specs.Commit.{Field, Parts, line, folded}
use Rattle.gix_object_commit.specs.Writing.{is_plain, refused_unless, encoding_piece, id_pieces, encoding_pieces, header_pieces, message_pieces}
use Rattle.gix_object_lines.specs.Pieces.{Piece, first_refused}
use Rattle.gix_object_lines.specs.Person.{own_person, actor_line}
use Rattle.gix_object_commit.specs.declared.commit.owned.Commit.{Commit}
use Rattle.gix_object_commit.specs.declared.header.ExtraHeader.{ExtraHeader}

-- ---- the parts as they are written

-- in lower case
abbrev pub own_digits : ObjectId → List ℕ
own_digits id = hex_text (id_of id).digits

abbrev pub own_field : ExtraHeader → Field
own_field header = record { name = header.name; value = folded header.value }

-- with these further headers in the place of the commit's own
abbrev pub own_parts_with : List ExtraHeader → Commit → Parts
own_parts_with headers commit = record {
  tree = own_digits commit.tree;
  parents = map own_digits commit.parents.items;
  author = own_person commit.author;
  committer = own_person commit.committer;
  encoding = commit.encoding;
  headers = map own_field headers;
  message = commit.message;
}

abbrev pub own_parts : Commit → Parts
own_parts commit = own_parts_with commit.extra_headers.items commit

-- ---- what is refused: an actor also if its offset has no text

-- whole minutes, below 100 hours
abbrev pub is_whole_offset : ℤ → Bool
is_whole_offset offset = unsigned_abs offset % 60 == 0 && nat_lt (unsigned_abs offset) 360_000

abbrev pub is_own_person : Actor → Bool
is_own_person actor =
    is_plain actor.name && (is_plain actor.email && is_whole_offset actor.time.offset)

abbrev pub own_person_piece : List ℕ → Actor → Piece
own_person_piece word actor =
    record {
      text =
          line word (actor_line (own_person actor));
      cause = refused_unless (is_own_person actor);
    }

abbrev pub own_author_pieces : Commit → List Piece
own_author_pieces commit = own_person_piece (codes "author") commit.author ∷ []

abbrev pub own_committer_pieces : Commit → List Piece
own_committer_pieces commit = own_person_piece (codes "committer") commit.committer ∷ []

-- all before the further headers, of which the first may not be named as the line for the encoding
-- is
abbrev pub own_front_pieces : List Field → Commit → List Piece
own_front_pieces headers commit =
    id_pieces (own_parts commit)
    ++
    (own_author_pieces commit
    ++ (own_committer_pieces commit ++ encoding_piece commit.encoding headers ∷ []))

abbrev pub own_pieces_with : List ExtraHeader → Commit → List Piece
own_pieces_with headers commit =
    let parts = own_parts_with headers commit in
    id_pieces parts
    ++
    (own_author_pieces commit
    ++
    (own_committer_pieces commit
    ++ (encoding_pieces parts ++ (header_pieces parts ++ message_pieces parts))))

-- the first part that the format never writes, and all before it
abbrev pub own_refusal_with : List ExtraHeader → Commit → Option Refusal
own_refusal_with headers commit = first_refused [] (own_pieces_with headers commit)

abbrev pub own_refusal : Commit → Option Refusal
own_refusal commit = own_refusal_with commit.extra_headers.items commit

-- a text that is written as it is
abbrev pub text_piece : List ℕ → Piece
text_piece text = record { text = text; cause = None }
