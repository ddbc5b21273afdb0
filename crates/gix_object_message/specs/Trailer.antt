-- Trailer lines (git-interpret-trailers: a token, the separator `:` and a value; this port requires
-- the space after the colon, and takes no continuation line).
use Rattle.std.specs.Prelude.{ℕ, ◌≡◌, ◌≢◌, ◌==◌, Bool, ◌||◌, ◌&&◌, IsTrue, List, [], ◌++◌, Option, Some, None, take, drop, codes, nat_lt, if◌then◌else◌}
use Rattle.std.specs.List.{prefix_len, filter_map, list_all}
use Rattle.std.specs.Char.{is_ascii_alphanumeric}
use Rattle.gix_object_message.specs.Lines.{lines_of, begins_with}
use Rattle.gix_object_message.specs.White.{trim}

pub record Trailer : Type 0 where
  pub token : List ℕ
  pub value : List ℕ

-- an ASCII letter, a digit or `-`
abbrev pub is_token_byte : ℕ → Bool
is_token_byte byte = is_ascii_alphanumeric byte || byte == 45

-- how many bytes of a token begin the line
abbrev pub token_len : List ℕ → ℕ
token_len line = prefix_len is_token_byte line

-- a token of at least one byte, and `: ` after it
abbrev pub is_trailer_line : List ℕ → Bool
is_trailer_line line =
    nat_lt 0 (token_len line) && begins_with (codes ": ") (drop (token_len line) line)

-- the token, and what follows `: ` without white space at its ends
abbrev pub trailer_of : List ℕ → Option Trailer
trailer_of line =
    if is_trailer_line line then
    Some
    (record {
      token =
          take (token_len line) line;
      value = trim (drop 2 (drop (token_len line) line));
    })
    else None

-- the same as a relation: a token of at least one byte, `: ` and the value
pub record SpellsTrailer (line : List ℕ) (trailer : Trailer) : Type 0 where
  pub rest : List ℕ
  pub spelled : line ≡ trailer.token ++ (codes ": " ++ rest)
  pub some : trailer.token ≢ []
  pub token : IsTrue (list_all is_token_byte trailer.token)
  pub value : trailer.value ≡ trim rest

-- those of a text, in order; other lines are skipped
abbrev pub trailers_in : List ℕ → List Trailer
trailers_in text = filter_map trailer_of (lines_of text)
