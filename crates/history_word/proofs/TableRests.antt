-- A rest that isn't empty begins with a command or has a cause.
use Rattle.std.proofs.Common.{◌≡◌, ◌≢◌, ◌⊎◌, ℕ, zero, suc, ◌+◌, ◌<◌, ◌≤◌, Bool, true, false, not, ◌&&◌, ◌==◌, eqb, List, [], ◌∷◌, ◌++◌, length, take, refl, sym, ap, ◌∙◌, subst, Option, Some, None, nat_le, IsTrue, inl, inr, codes, append_assoc, append-nil, length-append, arith, tests}
use Rattle.std.specs.List.{list_all, join_with_byte, slice_split, onto_first}
use Rattle.std.proofs.lemmas.List.Splits.{join_with_byte-slice_split, slice_split-cons_no}
use Rattle.history_model.specs.Bytes.{Bytes, line, has_byte, is_empty}
use Rattle.history_model.specs.Commands.{Command}
use Rattle.history_model.specs.Spelling.{Part, Line, Field, parts_text, part_text, spelling, is_part, is_word, max_line}
use Rattle.history_model.specs.Grammar.{LineFitsOf, FieldStandsOf, StopsByOf, HasRestCauseOf}
use Rattle.history_model.specs.laws.Grammars.{RestBeginsOrHasCause}
use Rattle.history_model.specs.declared.Cause.{Cause}
use Rattle.history_model.specs.declared.Cause.TheVariants.{Syntax, Truncated, LineTooLong}
use Rattle.history_model.specs.Lines.{Heading, CommitHeading, ParentHeading, PutHeading, RemoveHeading, RemoveFileHeading, GraftHeading, ActorHeading, MessageHeading, EndHeading, TagHeading, MoveHeading, ToHeading, RenameHeading, DeleteHeading, SwitchHeading, PackHeading, IndexHeading, NamesHeading, FilesHeading, PastHeading, LogHeading, ShowHeading}
use Rattle.history_model.specs.LineWords.{words_of}
use Rattle.history_word.specs.LineTable.{Place, Start, Done}
use Rattle.history_word.specs.TableRuns.{Progress, at, is_told, part_step_of, reached_of}
use Rattle.history_word.proofs.TableRunLemmas.{line_goes, commands_run}
use Rattle.history_word.proofs.TableReaches.{table_tells_fields, table_tells_lines, table_tells_what_fits, table_takes_fields, step_on}
use Rattle.std.proofs.lemmas.Bool.{or_from, or_parts, and_parts}

-- ---- the words of a line

abbrev pub line_words : Bytes → List Bytes
line_words text = slice_split (λ b. eqb b 32) text

one_word : (u : Bytes) → has_byte 32 u ≡ false → line_words u ≡ u ∷ []
one_word [] h = refl
one_word (b ∷ u) h =
    let both = or_parts (b == 32) (has_byte 32 u) h in
    slice_split-cons_no (λ b. eqb b 32) b u both.0 ∙ ap (onto_first b) (one_word u both.1)

first_word : (u rest : Bytes) → has_byte 32 u ≡ false → line_words (u ++ 32 ∷ rest) ≡ u ∷ line_words rest
first_word [] rest h = refl
first_word (b ∷ u) rest h =
    let both = or_parts (b == 32) (has_byte 32 u) h in
    slice_split-cons_no (λ b. eqb b 32) b (u ++ 32 ∷ rest) both.0 ∙ ap (onto_first b) (first_word u rest both.1)

spaceless : (w : Bytes) → is_word w ≡ true → has_byte 32 w ≡ false
spaceless w h = turned (has_byte 32 w) (and_parts (not (is_empty w)) (not (has_byte 32 w)) (and_parts (not (is_empty w) && not (has_byte 32 w)) (not (has_byte 10 w)) h).0).1
  where
    turned : (b : Bool) → not b ≡ true → b ≡ false
    turned true h = cc
    turned false h = refl

pub line_words_of : (u : Bytes) (us : List Bytes) → list_all is_word (u ∷ us) ≡ true → line_words (join_with_byte 32 (u ∷ us)) ≡ u ∷ us
line_words_of u [] h = one_word u (spaceless u (and_parts (is_word u) true h).0)
line_words_of u (v ∷ us) h =
    let both = and_parts (is_word u) (list_all is_word (v ∷ us)) h in
    first_word u (join_with_byte 32 (v ∷ us)) (spaceless u both.0) ∙ ap (λ ws. u ∷ ws) (line_words_of v us both.1)

-- the words of a line of the table
pub heading_words : (us : List Bytes) → us ≢ [] → is_part (Line us) ≡ true → line_words (join_with_byte 32 us) ≡ us
heading_words [] some h = absurd (some refl)
heading_words (u ∷ us) some h = line_words_of u us (and_parts (list_all is_word (u ∷ us)) (nat_le (length (join_with_byte 32 (u ∷ us))) max_line) h).0

pub some_words : (h : Heading) → words_of h ≢ []
some_words (CommitHeading name expect) e = cc
some_words (ParentHeading word) e = cc
some_words (PutHeading kind path content) e = cc
some_words (RemoveHeading path) e = cc
some_words (RemoveFileHeading path) e = cc
some_words (GraftHeading path word source) e = cc
some_words (ActorHeading role name email seconds offset) e = cc
some_words (MessageHeading message) e = cc
some_words EndHeading e = cc
some_words (TagHeading name expect word) e = cc
some_words MoveHeading e = cc
some_words (ToHeading name expect word) e = cc
some_words (RenameHeading old new) e = cc
some_words (DeleteHeading name at) e = cc
some_words (SwitchHeading name) e = cc
some_words PackHeading e = cc
some_words IndexHeading e = cc
some_words (NamesHeading folder) e = cc
some_words (FilesHeading word) e = cc
some_words (PastHeading name) e = cc
some_words (LogHeading sent first items path) e = cc
some_words (ShowHeading word path) e = cc

-- ---- cutting

data Cut (t : Bytes) : Type 0 where
  whole : has_byte 10 t ≡ false → Cut t
  cut : (text more : Bytes) → t ≡ line text ++ more → has_byte 10 text ≡ false → Cut t

cut_more : (b : ℕ) (t : Bytes) → (b == 10) ≡ false → Cut t → Cut (b ∷ t)
cut_more b t other (whole none) = whole (or_from (b == 10) (has_byte 10 t) other none)
cut_more b t other (cut text more is none) = cut (b ∷ text) more (ap (λ s. b ∷ s) is) (or_from (b == 10) (has_byte 10 text) other none)

is_ten : (b : ℕ) → (b == 10) ≡ true → b ≡ 10
is_ten b h = grind (arith, tests)

is_other : (b : ℕ) → (b == 10) ≡ false → b ≢ 10
is_other b h e = grind (arith, tests)

cut_at : (b : ℕ) (t : Bytes) (same : Bool) → (b == 10) ≡ same → Cut t → Cut (b ∷ t)
cut_at b t true h c = cut [] t (ap (λ n. n ∷ t) (is_ten b h)) refl
cut_at b t false h c = cut_more b t h c

cut_line : (t : Bytes) → Cut t
cut_line [] = whole refl
cut_line (b ∷ t) = cut_at b t (b == 10) refl (cut_line t)

none_in_front : (n : ℕ) (t : Bytes) → has_byte 10 t ≡ false → has_byte 10 (take n t) ≡ false
none_in_front zero t h = refl
none_in_front (suc n) [] h = refl
none_in_front (suc n) (b ∷ t) h =
    let both = or_parts (b == 10) (has_byte 10 t) h in
    or_from (b == 10) (has_byte 10 (take n t)) both.0 (none_in_front n t both.1)

none_before : (n : ℕ) (text more : Bytes) → n ≤ length text → has_byte 10 text ≡ false → has_byte 10 (take n (line text ++ more)) ≡ false
none_before zero text more le h = refl
none_before (suc n) [] more le h = absurd (omega arith)
none_before (suc n) (b ∷ text) more le h =
    let both = or_parts (b == 10) (has_byte 10 text) h in
    or_from (b == 10) (has_byte 10 (take n (line text ++ more))) both.0 (none_before n text more (omega arith) both.1)

record FieldCut (n : ℕ) (t : Bytes) : Type 0 where
  bytes : Bytes
  byte : ℕ
  more : Bytes
  long : length bytes ≡ n
  is : t ≡ bytes ++ byte ∷ more

cut_field : (n : ℕ) (t : Bytes) → n < length t → FieldCut n t
cut_field n [] short = absurd (omega arith)
cut_field zero (b ∷ t) short = record { bytes = []; byte = b; more = t; long = refl; is = refl }
cut_field (suc n) (b ∷ t) short =
    let rest = cut_field n t (omega arith) in
    record { bytes = b ∷ rest.bytes; byte = rest.byte; more = rest.more; long = ap suc rest.long; is = ap (λ s. b ∷ s) rest.is }

-- ---- one part more

pub text_on : (parts : List Part) (part : Part) (more : Bytes) → parts_text (parts ++ part ∷ []) ++ more ≡ parts_text parts ++ (part_text part ++ more)
text_on [] part more = ap (λ s. s ++ more) (append-nil (part_text part))
text_on (p ∷ parts) part more =
    append_assoc (part_text p) (parts_text (parts ++ part ∷ [])) more
    ∙ ap (λ s. part_text p ++ s) (text_on parts part more)
    ∙ sym (append_assoc (part_text p) (parts_text parts) (part_text part ++ more))

-- ---- reading

module _ (offers : Heading → Bool) (some_offered : offers (FilesHeading (codes "HEAD")) ≡ true) where
  abbrev part_step : List ℕ → Place → Part → Option Progress
  part_step = part_step_of offers

  abbrev reached : List Part → Option Progress
  reached = reached_of offers

  abbrev LineFits : List Part → Bytes → Type 0
  LineFits = LineFitsOf (is_told offers)

  abbrev FieldStands : List Part → ℕ → Type 0
  FieldStands = FieldStandsOf (is_told offers)

  abbrev StopsBy : List Part → Bytes → Cause → Type 0
  StopsBy = StopsByOf (is_told offers)

  abbrev HasRestCause : Bytes → Cause → Type 0
  HasRestCause = HasRestCauseOf (is_told offers)

  abbrev Found : Bytes → Type 0
  Found rest = ((command : Command) × (more : Bytes) × IsTrue (is_told offers command) × (rest ≡ spelling command ++ more)) ⊎ ((cause : Cause) × HasRestCause rest cause)

  -- what follows parts that lead somewhere, and is shorter than this, is judged
  abbrev Judged : ℕ → Bytes → Type 0
  Judged n rest = (parts : List Part) (tail : Bytes) (fields : List ℕ) (place : Place) → length tail < n → rest ≡ parts_text parts ++ tail → reached parts ≡ Some (at fields place) → Found rest

  stopped : (rest : Bytes) → rest ≢ [] → (parts : List Part) (tail : Bytes) (cause : Cause) → rest ≡ parts_text parts ++ tail → StopsBy parts tail cause → Found rest
  stopped rest some parts tail cause split stops = inr (cause, record { some = some; parts = parts; tail = tail; split = split; stops = stops })

  -- one part more is split off
  split_on : (rest : Bytes) (parts : List Part) (part : Part) (tail more : Bytes) → rest ≡ parts_text parts ++ tail → tail ≡ part_text part ++ more → rest ≡ parts_text (parts ++ part ∷ []) ++ more
  split_on rest parts part tail more split is = split ∙ ap (λ t. parts_text parts ++ t) is ∙ sym (text_on parts part more)

  fits_length : (n m : ℕ) → nat_le n m ≡ true → n ≤ m
  fits_length n m h = grind (arith, tests)

  exceeds_length : (n m : ℕ) → nat_le n m ≡ false → m < n
  exceeds_length n m h = grind (arith, tests)

  line_length : (text more : Bytes) → length (line text ++ more) ≡ suc (length text + length more)
  line_length [] more = omega arith
  line_length (b ∷ text) more = let rest = line_length text more in omega arith

  -- a line that the table hasn't doesn't fit
  unfit : (parts : List Part) (place : Place) (text : Bytes) → reached parts ≡ Some (at [] place) → part_step [] place (Line (line_words text)) ≡ None → LineFits parts text → ⊥
  unfit parts place text e none f =
      let h = (table_tells_what_fits offers some_offered parts place e text).0 f in
      let words : line_words text ≡ words_of h.heading = ap line_words h.spelled ∙ heading_words (words_of h.heading) (some_words h.heading) h.known in
      no_step (sym none ∙ ap (λ ws. part_step [] place (Line ws)) words ∙ line_goes offers place h.following h.heading h.stands h.known h.sized)
    where
      no_step : {A : Type 0} {x : A} → None ≡ Some x → ⊥
      no_step e = cc

  module _ (n : ℕ) (rest : Bytes) (some : rest ≢ []) (judged : Judged n rest) (parts : List Part) (tail : Bytes) (short : length tail < suc n) (split : rest ≡ parts_text parts ++ tail) where
    whole_line : (place : Place) → reached parts ≡ Some (at [] place) → place ≢ Done → (text more : Bytes) → tail ≡ line text ++ more → has_byte 10 text ≡ false → length text ≤ max_line
        → (o : Option Progress) → part_step [] place (Line (line_words text)) ≡ o → Found rest
    whole_line place e live text more is none le (Some q) s =
        let len : length tail ≡ suc (length text + length more) = ap length is ∙ line_length text more in
        let words : tail ≡ part_text (Line (line_words text)) ++ more = is ∙ ap (λ t. line t ++ more) (sym (join_with_byte-slice_split 32 text)) in
        judged (parts ++ Line (line_words text) ∷ []) more q.fields q.place (omega arith) (split_on rest parts (Line (line_words text)) tail more split words) (step_on offers some_offered parts (Line (line_words text)) [] place q e s)
    whole_line place e live text more is none le None s =
        stopped rest some parts tail Syntax split (inl (text, more, table_tells_lines offers some_offered parts place e live, is, none, le, unfit parts place text e s))

    long_line : (place : Place) → reached parts ≡ Some (at [] place) → place ≢ Done → (text more : Bytes) → tail ≡ line text ++ more → has_byte 10 text ≡ false → (b : Bool) → nat_le (length text) max_line ≡ b → Found rest
    long_line place e live text more is none true le = whole_line place e live text more is none (fits_length (length text) max_line le) (part_step [] place (Line (line_words text))) refl
    long_line place e live text more is none false le =
        let over = exceeds_length (length text) max_line le in
        let len : length tail ≡ suc (length text + length more) = ap length is ∙ line_length text more in
        stopped rest some parts tail LineTooLong split
        (table_tells_lines offers some_offered parts place e live, omega arith, subst (λ t. has_byte 10 (take (max_line + 1) t) ≡ false) (sym is) (none_before (max_line + 1) text more (omega arith) none))

    endless_line : (place : Place) → reached parts ≡ Some (at [] place) → place ≢ Done → has_byte 10 tail ≡ false → (b : Bool) → nat_le (length tail) max_line ≡ b → Found rest
    endless_line place e live none true le = stopped rest some parts tail Truncated split (inl (table_tells_lines offers some_offered parts place e live, none, fits_length (length tail) max_line le))
    endless_line place e live none false le =
        stopped rest some parts tail LineTooLong split (table_tells_lines offers some_offered parts place e live, exceeds_length (length tail) max_line le, none_in_front (max_line + 1) tail none)

    line_judged : (place : Place) → reached parts ≡ Some (at [] place) → place ≢ Done → Cut tail → Found rest
    line_judged place e live (whole none) = endless_line place e live none (nat_le (length tail) max_line) refl
    line_judged place e live (cut text more is none) = long_line place e live text more is none (nat_le (length text) max_line) refl

    field_end : (size : ℕ) (fields : List ℕ) (place : Place) → reached parts ≡ Some (at (size ∷ fields) place) → (f : FieldCut size tail) → (b : Bool) → (f.byte == 10) ≡ b → Found rest
    field_end size fields place e f true h =
        let is : tail ≡ part_text (Field f.bytes) ++ f.more = f.is ∙ ap (λ b. f.bytes ++ b ∷ f.more) (is_ten f.byte h) ∙ sym (append_assoc f.bytes (10 ∷ []) f.more) in
        let len : length tail ≡ length f.bytes + suc (length f.more) = ap length f.is ∙ length-append f.bytes (f.byte ∷ f.more) in
        judged (parts ++ Field f.bytes ∷ []) f.more fields place (omega arith) (split_on rest parts (Field f.bytes) tail f.more split is)
        (table_takes_fields offers some_offered parts f.bytes fields place (subst (λ n. reached parts ≡ Some (at (n ∷ fields) place)) (sym f.long) e))
    field_end size fields place e f false h =
        let stands = subst (FieldStands parts) (sym f.long) (table_tells_fields offers some_offered parts size fields place e) in
        stopped rest some parts tail Syntax split (inr (f.bytes, f.more, f.byte, stands, f.is, is_other f.byte h))

    field_judged : (size : ℕ) (fields : List ℕ) (place : Place) → reached parts ≡ Some (at (size ∷ fields) place) → (b : Bool) → nat_le (length tail) size ≡ b → Found rest
    field_judged size fields place e true le = stopped rest some parts tail Truncated split (inr (size, table_tells_fields offers some_offered parts size fields place e, fits_length (length tail) size le))
    field_judged size fields place e false le =
        let f = cut_field size tail (exceeds_length (length tail) size le) in
        field_end size fields place e f (f.byte == 10) refl

  judges : (n : ℕ) (rest : Bytes) → rest ≢ [] → Judged n rest
  judges zero rest some parts tail fields place short split e = absurd (omega arith)
  judges (suc n) rest some parts tail (size ∷ fields) place short split e = field_judged n rest some (judges n rest some) parts tail short split size fields place e (nat_le (length tail) size) refl
  judges (suc n) rest some parts tail [] Done short split e =
      let found = commands_run offers parts e in
      inl (found.0, tail, found.1, split ∙ ap (λ ps. parts_text ps ++ tail) (sym found.2))
  judges (suc n) rest some parts tail [] place short split e = line_judged n rest some (judges n rest some) parts tail short split place e (λ same. cc) (cut_line tail)

  pub rest_begins_or_has_cause : RestBeginsOrHasCause (is_told offers)
  rest_begins_or_has_cause rest some = judges (suc (length rest)) rest some [] rest [] Start (omega arith) refl refl
