-- Runs of paragraphs of one kind.
use Rattle.std.proofs.Common.{◌≡◌, ◌≢◌, ◌∙◌, ap, refl, sym, subst, ℕ, Bool, List, [], ◌∷◌, ◌++◌, append_assoc, append-nil}
use Rattle.std.specs.List.{concat}
use Rattle.gix_object_message.specs.Blocks.{AllOfKind, StopsKind}
use Rattle.gix_object_message.specs.Steps.{IsBehindRun}
use Rattle.gix_object_message.specs.Paragraphs.{is_trailer_paragraph, paragraphs_of}
use Rattle.gix_object_message.proofs.BodyLemmas.{IsCutParagraph}
use Rattle.gix_object_message.proofs.ParagraphLemmas.{paragraphs_of-nil}

abbrev pub Passed : Bool → List ℕ → List ℕ → Type 0
Passed trailers text rest = (run : List (List ℕ)) × (text ≡ concat run ++ rest) × (paragraphs_of text ≡ run ++ paragraphs_of rest) × AllOfKind trailers run

concat_push : (run : List (List ℕ)) (paragraph : List ℕ) → concat (run ++ paragraph ∷ []) ≡ concat run ++ paragraph
concat_push [] paragraph = append-nil paragraph
concat_push (first ∷ run) paragraph = ap (λ t. first ++ t) (concat_push run paragraph) ∙ sym (append_assoc first (concat run) paragraph)

all_push : (trailers : Bool) (run : List (List ℕ)) (paragraph : List ℕ) → AllOfKind trailers run → is_trailer_paragraph paragraph ≡ trailers → AllOfKind trailers (run ++ paragraph ∷ [])
all_push trailers [] paragraph all is = (is, tt)
all_push trailers (first ∷ run) paragraph all is = (all.0, all_push trailers run paragraph all.1 is)

pub passed_on : (trailers : Bool) (text rest paragraph behind : List ℕ) → Passed trailers text rest → IsCutParagraph rest paragraph behind → is_trailer_paragraph paragraph ≡ trailers → Passed trailers text behind
passed_on trailers text rest paragraph behind passed cut is =
    let run = passed.0 in (
      run ++ paragraph ∷ [],
      passed.1 ∙ ap (λ r. concat run ++ r) cut.0 ∙ sym (append_assoc (concat run) paragraph behind) ∙ ap (λ f. f ++ behind) (sym (concat_push run paragraph)),
      passed.2 ∙ ap (λ ps. run ++ ps) cut.2 ∙ sym (append_assoc run (paragraph ∷ []) (paragraphs_of behind)),
      all_push trailers run paragraph passed.3 is,
    )

stops : (trailers : Bool) (text rest : List ℕ) → Passed trailers text rest → StopsKind trailers (paragraphs_of rest) → IsBehindRun trailers text rest
stops trailers text rest passed end = (concat passed.0, (passed.0, refl, passed.1, passed.2, passed.3, end))

pub passed_stop : (trailers : Bool) (text rest paragraph behind : List ℕ) → Passed trailers text rest → IsCutParagraph rest paragraph behind → is_trailer_paragraph paragraph ≢ trailers → IsBehindRun trailers text rest
passed_stop trailers text rest paragraph behind passed cut differs = stops trailers text rest passed (subst (StopsKind trailers) (sym cut.2) differs)

pub passed_end : (trailers : Bool) (text rest : List ℕ) → Passed trailers text rest → rest ≡ [] → IsBehindRun trailers text rest
passed_end trailers text rest passed none = stops trailers text rest passed (subst (StopsKind trailers) (sym (ap paragraphs_of none ∙ paragraphs_of-nil)) tt)
