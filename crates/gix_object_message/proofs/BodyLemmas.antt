-- The last paragraph of a body, and what its paragraphs join to.
use Rattle.std.proofs.Common.{◌≡◌, ◌≢◌, ◌∙◌, ap, refl, sym, ℕ, ◌==◌, ◌<◌, false, not, ◌&&◌, cond, List, [], ◌∷◌, ◌++◌, length, append_assoc, append-nil, arith}
use Rattle.std.specs.List.{concat}
use Rattle.std.proofs.lemmas.Bool.{cond-false, cond_both}
use Rattle.gix_object_message.specs.Lines.{lines_of, onto_first, is_empty_line}
use Rattle.gix_object_message.specs.Paragraphs.{begins_empty, begins_with_trailer, is_trailer_paragraph, paragraphs_of_lines, paragraphs_of, last_trailers, trailer_part}
use Rattle.gix_object_message.specs.Steps.{IsLastParagraph}
use Rattle.gix_object_message.proofs.LineLemmas.{lines_of-nil}
use Rattle.gix_object_message.proofs.ParagraphLemmas.{paragraphs_of-nil}

-- ---- the pieces are the text

concat-onto_first : (bytes : List ℕ) (pieces : List (List ℕ)) → concat (onto_first bytes pieces) ≡ bytes ++ concat pieces
concat-onto_first bytes [] = refl
concat-onto_first bytes (piece ∷ pieces) = append_assoc bytes piece (concat pieces)

pub concat-lines_of : (text : List ℕ) → concat (lines_of text) ≡ text
unfolding lines_of
concat-lines_of [] = refl
concat-lines_of (b ∷ text) =
    cond_both (b == 10) ((b ∷ []) ∷ lines_of text) (onto_first (b ∷ []) (lines_of text)) (λ pieces. concat pieces ≡ b ∷ text)
    (λ _. ap (λ t. b ∷ t) (concat-lines_of text))
    (λ _. concat-onto_first (b ∷ []) (lines_of text) ∙ ap (λ t. b ∷ t) (concat-lines_of text))

concat-paragraphs_of_lines : (lines : List (List ℕ)) → concat (paragraphs_of_lines lines) ≡ concat lines
unfolding paragraphs_of_lines
concat-paragraphs_of_lines [] = refl
concat-paragraphs_of_lines (line ∷ lines) =
    cond_both (is_empty_line line && not (begins_empty lines)) (line ∷ paragraphs_of_lines lines) (onto_first line (paragraphs_of_lines lines)) (λ pieces. concat pieces ≡ line ++ concat lines)
    (λ _. ap (λ t. line ++ t) (concat-paragraphs_of_lines lines))
    (λ _. concat-onto_first line (paragraphs_of_lines lines) ∙ ap (λ t. line ++ t) (concat-paragraphs_of_lines lines))

pub concat-paragraphs_of : (text : List ℕ) → concat (paragraphs_of text) ≡ text
concat-paragraphs_of text = concat-paragraphs_of_lines (lines_of text) ∙ concat-lines_of text

-- ---- the last paragraph

pub last_trailers-skip : (paragraph : List ℕ) (paragraphs : List (List ℕ)) → paragraphs ≢ [] → last_trailers (paragraph ∷ paragraphs) ≡ last_trailers paragraphs
unfolding last_trailers
last_trailers-skip paragraph [] some = absurd (some refl)
last_trailers-skip paragraph (next ∷ paragraphs) some = refl

pub last_trailers-one : (paragraph : List ℕ) → last_trailers (paragraph ∷ []) ≡ cond (is_trailer_paragraph paragraph) paragraph []
unfolding last_trailers
last_trailers-one paragraph = refl

pub trailer_part-nil : trailer_part [] ≡ []
unfolding last_trailers
trailer_part-nil = ap last_trailers paragraphs_of-nil

some_paragraph : (text : List ℕ) → 0 < length text → paragraphs_of text ≢ []
some_paragraph text some none =
    let empty : [] ≡ text = ap concat (sym none) ∙ concat-paragraphs_of text in
    omega (arith, ap length empty)

abbrev pub Parted : List ℕ → List ℕ → Type 0
Parted text last = (front : List ℕ) × (text ≡ front ++ last) × (trailer_part text ≡ trailer_part last)

abbrev pub IsCutParagraph : List ℕ → List ℕ → List ℕ → Type 0
IsCutParagraph text paragraph rest = (text ≡ paragraph ++ rest) × (0 < length paragraph) × (paragraphs_of text ≡ paragraph ∷ paragraphs_of rest)

pub parted_on : (text last paragraph rest : List ℕ) → Parted text last → IsCutParagraph last paragraph rest → 0 < length rest → Parted text rest
parted_on text last paragraph rest parted cut some = (
  parted.0 ++ paragraph,
  parted.1 ∙ ap (λ l. parted.0 ++ l) cut.0 ∙ sym (append_assoc parted.0 paragraph rest),
  parted.2 ∙ ap last_trailers cut.2 ∙ last_trailers-skip paragraph (paragraphs_of rest) (some_paragraph rest some),
)

pub parted_last : (text last paragraph rest : List ℕ) → Parted text last → IsCutParagraph last paragraph rest → rest ≡ [] → IsLastParagraph text last
parted_last text last paragraph rest parted cut none =
    let whole : paragraph ≡ last = sym (append-nil paragraph) ∙ ap (λ r. paragraph ++ r) (sym none) ∙ sym cut.0 in
    let one : paragraphs_of last ≡ last ∷ [] = cut.2 ∙ ap (λ p. p ∷ paragraphs_of rest) whole ∙ ap (λ ps. last ∷ ps) (ap paragraphs_of none ∙ paragraphs_of-nil) in
    (parted.0, parted.1, parted.2 ∙ ap last_trailers one ∙ last_trailers-one last)

pub parted_none : (text last : List ℕ) → Parted text last → last ≡ [] → IsLastParagraph text last
parted_none text last parted none =
    let plain : is_trailer_paragraph last ≡ false = ap is_trailer_paragraph none ∙ ap begins_with_trailer lines_of-nil in
    (parted.0, parted.1, parted.2 ∙ ap trailer_part none ∙ trailer_part-nil ∙ sym (cond-false _ last [] plain))
