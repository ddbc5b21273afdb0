-- The first paragraph of a text.
use Rattle.std.proofs.Common.{◌≡◌, ◌≢◌, ◌∙◌, ap, refl, sym, ℕ, ◌<◌, true, false, not, List, [], ◌∷◌, ◌++◌, length, length-append, append_assoc, append-nil, arith}
use Rattle.std.proofs.lemmas.Bool.{cond-true, cond-false, and_from, and_left, and_right}
use Rattle.gix_object_message.specs.Lines.{lines_of, onto_first, is_empty_line}
use Rattle.gix_object_message.specs.Paragraphs.{begins_empty, paragraphs_of_lines, paragraphs_of}
use Rattle.gix_object_message.specs.Steps.{IsBehindParagraph}
use Rattle.gix_object_message.proofs.LineLemmas.{lines_of-nil}

-- no bytes make no piece of their own
abbrev pub join_first : List ℕ → List (List ℕ) → List (List ℕ)
join_first [] pieces = pieces
join_first (byte ∷ bytes) pieces = onto_first (byte ∷ bytes) pieces

pub paragraphs_of-nil : paragraphs_of [] ≡ []
unfolding paragraphs_of_lines
paragraphs_of-nil = ap paragraphs_of_lines lines_of-nil

-- the line ends its paragraph
pub paragraphs_ends : (line : List ℕ) (lines : List (List ℕ)) → is_empty_line line ≡ true → begins_empty lines ≡ false → paragraphs_of_lines (line ∷ lines) ≡ line ∷ paragraphs_of_lines lines
unfolding paragraphs_of_lines
paragraphs_ends line lines empty next = cond-true _ _ _ (and_from (is_empty_line line) (not (begins_empty lines)) empty (ap not next))

-- the paragraph goes on
pub paragraphs_filled : (line : List ℕ) (lines : List (List ℕ)) → is_empty_line line ≡ false → paragraphs_of_lines (line ∷ lines) ≡ onto_first line (paragraphs_of_lines lines)
unfolding paragraphs_of_lines
paragraphs_filled line lines filled = cond-false _ _ _ (and_left (is_empty_line line) (not (begins_empty lines)) filled)

pub paragraphs_goes_on : (line : List ℕ) (lines : List (List ℕ)) → begins_empty lines ≡ true → paragraphs_of_lines (line ∷ lines) ≡ onto_first line (paragraphs_of_lines lines)
unfolding paragraphs_of_lines
paragraphs_goes_on line lines next = cond-false _ _ _ (and_right (is_empty_line line) (not (begins_empty lines)) (ap not next))

-- bytes before the first piece, taken in two steps
pub join_first_twice : (taken line : List ℕ) (pieces : List (List ℕ)) → line ≢ [] → join_first taken (onto_first line pieces) ≡ join_first (taken ++ line) pieces
join_first_twice [] [] pieces some = absurd (some refl)
join_first_twice [] (b ∷ line) pieces some = refl
join_first_twice (a ∷ taken) line [] some = refl
join_first_twice (a ∷ taken) line (piece ∷ pieces) some = ap (λ bytes. (a ∷ bytes) ∷ pieces) (sym (append_assoc taken line piece))

pub join_first_own : (taken line : List ℕ) (pieces : List (List ℕ)) → line ≢ [] → join_first taken (line ∷ pieces) ≡ (taken ++ line) ∷ pieces
join_first_own [] line pieces some = refl
join_first_own (a ∷ taken) line pieces some = refl

-- ---- the loop over lines

abbrev pub Taken : List ℕ → List ℕ → Type 0
Taken text rest = (taken : List ℕ) × (text ≡ taken ++ rest) × (paragraphs_of text ≡ join_first taken (paragraphs_of rest))

abbrev pub IsCutLine : List ℕ → List ℕ → List ℕ → Type 0
IsCutLine rest line behind = (rest ≡ line ++ behind) × (0 < length line) × (lines_of rest ≡ line ∷ lines_of behind)

some_line : (line : List ℕ) → 0 < length line → line ≢ []
some_line line some none = let e : length line ≡ 0 = ap length none in omega arith

spelled : (text taken rest line behind : List ℕ) → text ≡ taken ++ rest → rest ≡ line ++ behind → text ≡ (taken ++ line) ++ behind
spelled text taken rest line behind e f = e ∙ ap (λ r. taken ++ r) f ∙ sym (append_assoc taken line behind)

goes_on : (text rest line behind : List ℕ) → Taken text rest → IsCutLine rest line behind → paragraphs_of rest ≡ onto_first line (paragraphs_of behind) → Taken text behind
goes_on text rest line behind taken cut joined = (
  taken.0 ++ line,
  spelled text taken.0 rest line behind taken.1 cut.0,
  taken.2 ∙ ap (join_first taken.0) joined ∙ join_first_twice taken.0 line (paragraphs_of behind) (some_line line cut.1),
)

pub goes_on_filled : (text rest line behind : List ℕ) → Taken text rest → IsCutLine rest line behind → is_empty_line line ≡ false → Taken text behind
goes_on_filled text rest line behind taken cut filled =
    goes_on text rest line behind taken cut (ap paragraphs_of_lines cut.2 ∙ paragraphs_filled line (lines_of behind) filled)

pub goes_on_empty : (text rest line behind : List ℕ) → Taken text rest → IsCutLine rest line behind → begins_empty (lines_of behind) ≡ true → Taken text behind
goes_on_empty text rest line behind taken cut next =
    goes_on text rest line behind taken cut (ap paragraphs_of_lines cut.2 ∙ paragraphs_goes_on line (lines_of behind) next)

pub ends_here : (text rest line behind : List ℕ) → Taken text rest → IsCutLine rest line behind → is_empty_line line ≡ true → begins_empty (lines_of behind) ≡ false → IsBehindParagraph text behind
ends_here text rest line behind taken cut empty next = (
  taken.0 ++ line,
  spelled text taken.0 rest line behind taken.1 cut.0,
  omega (arith, length-append taken.0 line, cut.1),
  taken.2 ∙ ap (join_first taken.0) (ap paragraphs_of_lines cut.2 ∙ paragraphs_ends line (lines_of behind) empty next) ∙ join_first_own taken.0 line (paragraphs_of behind) (some_line line cut.1),
)

join_first-nil : (taken : List ℕ) → 0 < length taken → join_first taken [] ≡ taken ∷ []
join_first-nil [] some = absurd (omega arith)
join_first-nil (a ∷ taken) some = refl

pub ends_last : (text rest : List ℕ) → 0 < length text → Taken text rest → rest ≡ [] → IsBehindParagraph text rest
ends_last text rest some taken none =
    let whole : text ≡ taken.0 = taken.1 ∙ ap (λ r. taken.0 ++ r) none ∙ append-nil taken.0 in
    let long : 0 < length taken.0 = omega (arith, ap length whole) in
    let pieces : paragraphs_of rest ≡ [] = ap paragraphs_of none ∙ paragraphs_of-nil in
    (taken.0, taken.1, long, taken.2 ∙ ap (join_first taken.0) pieces ∙ join_first-nil taken.0 long ∙ ap (λ ps. taken.0 ∷ ps) (sym pieces))
