-- The cause by which what follows stops is determined by the progress alone.
use Rattle.std.proofs.Common.{◌≡◌, ◌≢◌, ◌↔◌, ℕ, ◌≤◌, Bool, true, List, [], ◌∷◌, length, sym, ◌∙◌, subst, Option, Some, None, inl, inr, codes}
use Rattle.history_model.specs.Bytes.{Bytes}
use Rattle.history_model.specs.Spelling.{Part, Line, Field}
use Rattle.history_model.specs.Grammar.{LineStandsOf, FieldStandsOf, StopsByOf}
use Rattle.history_model.specs.declared.Cause.{Cause}
use Rattle.history_model.specs.declared.Cause.TheVariants.{Syntax, Truncated, LineTooLong}
use Rattle.history_model.specs.Lines.{Heading, FilesHeading}
use Rattle.history_word.specs.LineTable.{Place, Done}
use Rattle.history_word.specs.TableRuns.{Progress, at, is_told, next_of, reached_of, StopsAtOf}
use Rattle.history_word.proofs.TableRunLemmas.{line_step, field_step}
use Rattle.history_word.proofs.TableReaches.{table_tells_fields, table_tells_lines, table_tells_what_fits, step_of}

module _ (offers : Heading → Bool) (some_offered : offers (FilesHeading (codes "HEAD")) ≡ true) where
  abbrev reached : List Part → Option Progress
  reached = reached_of offers

  abbrev LineStands : List Part → Type 0
  LineStands = LineStandsOf (is_told offers)

  abbrev FieldStands : List Part → ℕ → Type 0
  FieldStands = FieldStandsOf (is_told offers)

  abbrev StopsBy : List Part → Bytes → Cause → Type 0
  StopsBy = StopsByOf (is_told offers)

  abbrev StopsAt : List ℕ → Place → Bytes → Cause → Type 0
  StopsAt = StopsAtOf offers

  -- if a line may follow, no field is awaited; if a field may follow, one is
  no_line : {A : Type 0} (parts : List Part) (size : ℕ) (fields : List ℕ) (place : Place) → reached parts ≡ Some (at (size ∷ fields) place) → LineStands parts → A
  no_line parts size fields place e l = let st = step_of offers some_offered parts (Line l.0) (size ∷ fields) place e l.1 in nothing st.1
    where
      nothing : {A : Type 0} {x : Progress} → None ≡ Some x → A
      nothing e = cc

  no_field : {A : Type 0} (parts : List Part) (n : ℕ) (place : Place) → reached parts ≡ Some (at [] place) → FieldStands parts n → A
  no_field parts n place e f = let st = step_of offers some_offered parts (Field f.0) [] place e f.2 in nothing st.1
    where
      nothing : {A : Type 0} {x : Progress} → None ≡ Some x → A
      nothing e = cc

  live : (parts : List Part) (place : Place) → reached parts ≡ Some (at [] place) → LineStands parts → place ≢ Done
  live parts place e l done =
      let st = step_of offers some_offered parts (Line l.0) [] place e l.1 in
      let step = line_step offers place l.0 st.0 st.1 in
      nothing step.heading step.following (subst (λ p. next_of offers p step.heading ≡ Some step.following) done step.stands)
    where
      nothing : (h : Heading) (following : Place) → next_of offers Done h ≡ Some following → ⊥
      nothing h following e = cc

  one_size : (parts : List Part) (n size : ℕ) (fields : List ℕ) (place : Place) → reached parts ≡ Some (at (size ∷ fields) place) → FieldStands parts n → n ≡ size
  one_size parts n size fields place e f =
      let st = step_of offers some_offered parts (Field f.0) (size ∷ fields) place e f.2 in
      sym f.1 ∙ (field_step offers size fields place f.0 st.0 st.1).0

  to : (parts : List Part) (fields : List ℕ) (place : Place) → reached parts ≡ Some (at fields place) → (tail : Bytes) (cause : Cause) → StopsBy parts tail cause → StopsAt fields place tail cause
  to parts [] place e tail Truncated (inl (l, none, le)) = (live parts place e l, none, le)
  to parts [] place e tail Truncated (inr (n, f, le)) = no_field parts n place e f
  to parts [] place e tail LineTooLong (l, more, none) = (live parts place e l, more, none)
  to parts [] place e tail Syntax (inl (text, more, l, is, none, le, unfit)) =
      (live parts place e l, (text, more, is, none, le, λ h. unfit ((table_tells_what_fits offers some_offered parts place e text).1 h)))
  to parts [] place e tail Syntax (inr (bytes, more, byte, f, is, other)) = no_field parts (length bytes) place e f
  to parts (size ∷ fields) place e tail Truncated (inl (l, none, le)) = no_line parts size fields place e l
  to parts (size ∷ fields) place e tail Truncated (inr (n, f, le)) = subst (λ m. length tail ≤ m) (one_size parts n size fields place e f) le
  to parts (size ∷ fields) place e tail LineTooLong (l, more, none) = no_line parts size fields place e l
  to parts (size ∷ fields) place e tail Syntax (inl (text, more, l, is, none, le, unfit)) = no_line parts size fields place e l
  to parts (size ∷ fields) place e tail Syntax (inr (bytes, more, byte, f, is, other)) = (bytes, more, byte, one_size parts (length bytes) size fields place e f, is, other)
  to parts fields place e tail cause s = absurd s

  from : (parts : List Part) (fields : List ℕ) (place : Place) → reached parts ≡ Some (at fields place) → (tail : Bytes) (cause : Cause) → StopsAt fields place tail cause → StopsBy parts tail cause
  from parts [] place e tail Truncated (live, none, le) = inl (table_tells_lines offers some_offered parts place e live, none, le)
  from parts [] place e tail LineTooLong (live, more, none) = (table_tells_lines offers some_offered parts place e live, more, none)
  from parts [] place e tail Syntax (live, (text, more, is, none, le, unfit)) =
      inl (text, more, table_tells_lines offers some_offered parts place e live, is, none, le, λ f. unfit ((table_tells_what_fits offers some_offered parts place e text).0 f))
  from parts (size ∷ fields) place e tail Truncated le = inr (size, table_tells_fields offers some_offered parts size fields place e, le)
  from parts (size ∷ fields) place e tail Syntax (bytes, more, byte, long, is, other) =
      inr (bytes, more, byte, subst (FieldStands parts) (sym long) (table_tells_fields offers some_offered parts size fields place e), is, other)
  from parts (size ∷ fields) place e tail LineTooLong s = absurd s
  from parts fields place e tail cause s = absurd s

  pub table_tells_stops : (parts : List Part) (fields : List ℕ) (place : Place) → reached parts ≡ Some (at fields place) → (tail : Bytes) (cause : Cause) → StopsBy parts tail cause ↔ StopsAt fields place tail cause
  table_tells_stops parts fields place e tail cause = (to parts fields place e tail cause, from parts fields place e tail cause)
