-- Lines and fields that were taken, and where what follows stops.
use Rattle.std.proofs.Common.{◌≡◌, ◌≢◌, ℕ, ◌+◌, true, List, [], ◌∷◌, ◌++◌, length, take, drop, get_or, Some, refl, sym, ap, subst, ◌∙◌, append_assoc, arith}
use Rattle.std.specs.List.{join_with_byte}
use Rattle.std.specs.Option.{option_and_then}
use Rattle.std.proofs.lemmas.Grind.{flat_map-append}
use Rattle.std.proofs.lemmas.List.{length-append, length-take, take_more, take-append-drop}
use Rattle.history_model.specs.Bytes.{Bytes, line}
use Rattle.history_model.specs.Spelling.{Part, Line, Field, part_text, parts_text, is_part}
use Rattle.history_model.specs.Stage.{opens}
use Rattle.history_model.specs.Lines.{Heading}
use Rattle.history_model.specs.LineWords.{words_of, sizes, are_sizes}
use Rattle.history_word.specs.LineTable.{heading_of, Place, Start, Done}
use Rattle.history_word.specs.TableRuns.{at, run_from, next_offered, StopsAt, IsLineAt}
use Rattle.history_model.specs.declared.Cause.{Cause}
use Rattle.history_model.specs.declared.Cause.TheVariants.{Syntax, Truncated, LineTooLong}
use Rattle.history_word.proofs.TableLaws.{line_goes, field_goes, run_append, heading_reads, heading_words, some_words, line_words, table_tells_stops}
use Rattle.history_word.specs.Held.{IsLineOf}
use Rattle.history_word.specs.Progress.{IsNoField, StopsFrom, IsCauseOf}
use Rattle.std.proofs.lemmas.Option.{same_Some}

-- ---- what was taken leads on

pub leads_line : (place following : Place) (h : Heading) (more : List Part) → next_offered place h ≡ Some following → is_part (Line (words_of h)) ≡ true → are_sizes (sizes h) ≡ true
    → run_from (at [] place) (Line (words_of h) ∷ more) ≡ run_from (at (sizes h) following) more
leads_line place following h more stands known sized = ap (option_and_then (λ after. run_from after more)) (line_goes opens place following h stands known sized)

pub leads_field : (bytes : Bytes) (fields : List ℕ) (place : Place) (more : List Part) → run_from (at (length bytes ∷ fields) place) (Field bytes ∷ more) ≡ run_from (at fields place) more
leads_field bytes fields place more = ap (option_and_then (λ after. run_from after more)) (field_goes opens bytes fields place)

pub text_then : (xs ys : List Part) → parts_text (xs ++ ys) ≡ parts_text xs ++ parts_text ys
text_then xs ys = flat_map-append part_text xs ys

-- ---- what follows stops

pub stops_here : (fields : List ℕ) (place : Place) (bytes : Bytes) (cause : Cause) → StopsAt fields place bytes cause → StopsFrom fields place bytes cause
stops_here fields place bytes cause h = record { parts = []; tail = bytes; then = at fields place; runs = refl; split = refl; stops = h }

pub stops_after : (fields later : List ℕ) (place following : Place) (parts : List Part) (taken tail : Bytes) (cause : Cause) → run_from (at fields place) parts ≡ Some (at later following) → taken ≡ parts_text parts
    → StopsFrom later following tail cause → StopsFrom fields place (taken ++ tail) cause
stops_after fields later place following parts taken tail cause e spelled s = record {
  parts = parts ++ s.parts;
  tail = s.tail;
  then = s.then;
  runs = run_append opens (at fields place) parts s.parts ∙ ap (option_and_then (λ q. run_from q s.parts)) e ∙ s.runs;
  split = ap (λ t. t ++ tail) spelled ∙ ap (λ t. parts_text parts ++ t) s.split ∙ sym (append_assoc (parts_text parts) (parts_text s.parts) s.tail) ∙ ap (λ t. t ++ s.tail) (sym (text_then parts s.parts));
  stops = s.stops;
}

pub field_stops : (size : ℕ) (fields : List ℕ) (place : Place) (bytes : Bytes) (cause : Cause) → IsNoField size bytes cause → StopsAt (size ∷ fields) place bytes cause
field_stops size fields place bytes Truncated h = h
field_stops size fields place bytes Syntax h = (
  take size bytes,
  drop (size + 1) bytes,
  get_or bytes size 0,
  omega (arith, length-take size bytes, h.0),
  sym (take-append-drop (size + 1) bytes) ∙ ap (λ t. t ++ drop (size + 1) bytes) (take_more bytes size 0 h.0) ∙ append_assoc (take size bytes) (get_or bytes size 0 ∷ []) (drop (size + 1) bytes),
  h.1,
)
field_stops size fields place bytes cause h = absurd h

pub line_taken : (n : ℕ) (xs : Bytes) → IsLineOf n xs → take (n + 1) xs ≡ line (take n xs)
line_taken n xs h = take_more xs n 0 h.within ∙ ap (λ b. take n xs ++ b ∷ []) h.ends

pub strange_stops : (place : Place) (n : ℕ) (xs : Bytes) → place ≢ Done → IsLineOf n xs → ¬ (IsLineAt place (take n xs)) → StopsAt [] place xs Syntax
strange_stops place n xs live h strange =
    (live, (take n xs, drop (n + 1) xs, sym (take-append-drop (n + 1) xs) ∙ ap (λ t. t ++ drop (n + 1) xs) (line_taken n xs h), h.whole, omega (arith, h.short, length-take n xs), strange))

-- ---- no line says two things

pub one_heading : (a b : Heading) (text : Bytes) → text ≡ join_with_byte 32 (words_of a) → is_part (Line (words_of a)) ≡ true → are_sizes (sizes a) ≡ true
    → text ≡ join_with_byte 32 (words_of b) → is_part (Line (words_of b)) ≡ true → are_sizes (sizes b) ≡ true → a ≡ b
one_heading a b text e known sized f known_too sized_too =
    let words : words_of a ≡ words_of b = sym (heading_words (words_of a) (some_words a) known) ∙ ap line_words (sym e ∙ f) ∙ heading_words (words_of b) (some_words b) known_too in
    same_Some a b (sym (heading_reads a sized) ∙ ap heading_of words ∙ heading_reads b sized_too)

-- ---- the cause of what came

no_bytes_left : (a b : Bytes) → [] ≡ a ++ b → b ≡ []
no_bytes_left [] b e = sym e
no_bytes_left (x ∷ a) b e = cc

stops_at_none : (fields : List ℕ) (place : Place) (cause : Cause) → StopsAt fields place [] cause → cause ≡ Truncated
stops_at_none [] place Truncated h = refl
stops_at_none (size ∷ fields) place Truncated h = refl
stops_at_none [] place LineTooLong h = absurd (omega (arith, h.1))
stops_at_none [] place Syntax h = let e = h.1.2 in absurd (omega (arith, ap length e, length-append (line h.1.0) h.1.1, length-append h.1.0 (10 ∷ [])))
stops_at_none (size ∷ fields) place Syntax h = let e = h.4 in absurd (omega (arith, ap length e, length-append h.0 (h.2 ∷ h.1)))
stops_at_none fields place cause h = absurd h

pub cause_is : (bytes : Bytes) (cause : Cause) → StopsFrom [] Start bytes cause → IsCauseOf bytes cause
cause_is [] cause s = stops_at_none s.then.fields s.then.place cause (subst (λ t. StopsAt s.then.fields s.then.place t cause) (no_bytes_left (parts_text s.parts) s.tail s.split) s.stops)
cause_is (b ∷ bytes) cause s = record {
  some = λ e. cc;
  parts = s.parts;
  tail = s.tail;
  split = s.split;
  stops = (table_tells_stops s.parts s.then.fields s.then.place s.runs s.tail cause).1 s.stops;
}
