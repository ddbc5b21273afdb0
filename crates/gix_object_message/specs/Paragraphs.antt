-- The paragraphs of a body, and its trailer part (git-interpret-trailers: the group of lines at the
-- end, preceded by an empty line; that its first line decides is this port's).
use Rattle.std.specs.Prelude.{ℕ, Bool, false, not, ◌&&◌, List, [], ◌∷◌, if◌then◌else◌}
use Rattle.gix_object_message.specs.Lines.{onto_first, lines_of, is_empty_line}
use Rattle.gix_object_message.specs.Trailer.{is_trailer_line}

abbrev pub begins_empty : List (List ℕ) → Bool
begins_empty [] = false
begins_empty (line ∷ lines) = is_empty_line line

-- a paragraph ends with the empty lines after it
unfoldable pub paragraphs_of_lines : List (List ℕ) → List (List ℕ)
paragraphs_of_lines [] = []
paragraphs_of_lines (line ∷ lines) =
    if is_empty_line line && not (begins_empty lines) then line ∷ paragraphs_of_lines lines
    else onto_first line (paragraphs_of_lines lines)

abbrev pub paragraphs_of : List ℕ → List (List ℕ)
paragraphs_of text = paragraphs_of_lines (lines_of text)

abbrev pub begins_with_trailer : List (List ℕ) → Bool
begins_with_trailer [] = false
begins_with_trailer (line ∷ lines) = is_trailer_line line

-- its first line is a trailer line
abbrev pub is_trailer_paragraph : List ℕ → Bool
is_trailer_paragraph paragraph = begins_with_trailer (lines_of paragraph)

-- the last paragraph, if it is a trailer paragraph
unfoldable pub last_trailers : List (List ℕ) → List ℕ
last_trailers [] = []
last_trailers (paragraph ∷ []) = if is_trailer_paragraph paragraph then paragraph else []
last_trailers (paragraph ∷ next ∷ paragraphs) = last_trailers (next ∷ paragraphs)

abbrev pub trailer_part : List ℕ → List ℕ
trailer_part body = last_trailers (paragraphs_of body)
