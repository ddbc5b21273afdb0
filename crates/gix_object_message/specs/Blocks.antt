-- Message blocks (this port's): a run of paragraphs without trailers, perhaps none, with the
-- trailer paragraphs that follow.
use Rattle.std.specs.Prelude.{ℕ, ◌≡◌, ◌≢◌, ⊤, Bool, true, false, List, [], ◌∷◌, ◌++◌, if◌then◌else◌}
use Rattle.std.specs.List.{concat}
use Rattle.gix_object_message.specs.Paragraphs.{paragraphs_of, is_trailer_paragraph}

pub record Block : Type 0 where
  pub message : List ℕ
  pub trailers : List ℕ

-- the paragraph comes before the message of the first block
abbrev pub onto_message : List ℕ → List Block → List Block
onto_message paragraph [] = record { message = paragraph; trailers = [] } ∷ []
onto_message paragraph (block ∷ blocks) =
    record { message = paragraph ++ block.message; trailers = block.trailers } ∷ blocks

-- and before the trailers of the first block
abbrev pub onto_trailers : List ℕ → List Block → List Block
onto_trailers paragraph [] = record { message = []; trailers = paragraph } ∷ []
onto_trailers paragraph (block ∷ blocks) =
    record { message = block.message; trailers = paragraph ++ block.trailers } ∷ blocks

abbrev pub trailers_come : List (List ℕ) → Bool
trailers_come [] = false
trailers_come (paragraph ∷ paragraphs) = is_trailer_paragraph paragraph

-- a block ends after a trailer paragraph that no other follows
unfoldable pub blocks_of_paragraphs : List (List ℕ) → List Block
blocks_of_paragraphs [] = []
blocks_of_paragraphs (paragraph ∷ paragraphs) =
    if is_trailer_paragraph paragraph then
    (if trailers_come paragraphs then onto_trailers paragraph (blocks_of_paragraphs paragraphs)
    else record { message = []; trailers = paragraph } ∷ blocks_of_paragraphs paragraphs)
    else onto_message paragraph (blocks_of_paragraphs paragraphs)

abbrev pub blocks_of : List ℕ → List Block
blocks_of body = blocks_of_paragraphs (paragraphs_of body)

-- its bytes in the body
abbrev pub block_bytes : Block → List ℕ
block_bytes block = block.message ++ block.trailers

-- ---- runs

-- each paragraph of the run is a trailer paragraph, or none is
abbrev pub AllOfKind : Bool → List (List ℕ) → Type 0
AllOfKind trailers [] = ⊤
AllOfKind trailers (paragraph ∷ run) =
    (is_trailer_paragraph paragraph ≡ trailers) × AllOfKind trailers run

-- none of that kind comes first
abbrev pub StopsKind : Bool → List (List ℕ) → Type 0
StopsKind trailers [] = ⊤
StopsKind trailers (paragraph ∷ paragraphs) = is_trailer_paragraph paragraph ≢ trailers

-- a run of paragraphs without trailers, perhaps none, and all trailer paragraphs that follow; only
-- the last block may have none
pub record IsFirstBlock (paragraphs : List (List ℕ)) (block : Block)
    (rest : List (List ℕ)) : Type 0 where
  pub plain : List (List ℕ)
  pub with_trailers : List (List ℕ)
  pub spelled : paragraphs ≡ plain ++ (with_trailers ++ rest)
  pub some : plain ++ with_trailers ≢ []
  pub all_plain : AllOfKind false plain
  pub all_trailers : AllOfKind true with_trailers
  pub no_trailers_next : StopsKind true rest
  pub last : with_trailers ≡ [] → rest ≡ []
  pub message : block.message ≡ concat plain
  pub trailers : block.trailers ≡ concat with_trailers

-- the blocks are those of the paragraphs, in order
abbrev pub AreBlocks : List (List ℕ) → List Block → Type 0
AreBlocks paragraphs [] = paragraphs ≡ []
AreBlocks paragraphs (block ∷ blocks) =
    (rest : List (List ℕ)) × IsFirstBlock paragraphs block rest × AreBlocks rest blocks
