-- What one step of a reader leaves; no public clause cites it.
use Rattle.std.specs.Prelude.{ℕ, ◌≡◌, ◌<◌, Bool, List, [], ◌∷◌, ◌++◌, length, if◌then◌else◌}
use Rattle.std.specs.List.{concat}
use Rattle.gix_object_message.specs.Paragraphs.{paragraphs_of, is_trailer_paragraph, trailer_part}
use Rattle.gix_object_message.specs.Blocks.{AllOfKind, StopsKind}

-- the text is a paragraph, then this rest, and its paragraphs are that one and the rest's
abbrev pub IsBehindParagraph : List ℕ → List ℕ → Type 0
IsBehindParagraph text rest =
    (paragraph : List ℕ) × (text ≡ paragraph ++ rest) × (0 < length paragraph)
    × (paragraphs_of text ≡ paragraph ∷ paragraphs_of rest)

-- the text ends with this paragraph, which alone decides its trailer part
abbrev pub IsLastParagraph : List ℕ → List ℕ → Type 0
IsLastParagraph text last =
    (front : List ℕ) × (text ≡ front ++ last)
    × (trailer_part text ≡ (if is_trailer_paragraph last then last else []))

-- the text is a run of paragraphs of one kind, which is these bytes, and this rest, which goes on
-- with another kind
abbrev pub IsRun : Bool → List ℕ → List ℕ → List ℕ → Type 0
IsRun trailers text front rest =
    (run : List (List ℕ)) × (front ≡ concat run) × (text ≡ concat run ++ rest)
    × (paragraphs_of text ≡ run ++ paragraphs_of rest)
    × AllOfKind trailers run × StopsKind trailers (paragraphs_of rest)

abbrev pub IsBehindRun : Bool → List ℕ → List ℕ → Type 0
IsBehindRun trailers text rest = (front : List ℕ) × IsRun trailers text front rest
