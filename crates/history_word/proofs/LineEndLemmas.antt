-- The fields that follow a line: their lengths, their texts, and where they stop.
use Rattle.std.proofs.Common.{◌≡◌, ℕ, List, [], ◌∷◌, ◌++◌, length, map, Some, None, refl, sym, ap, ◌∙◌, flat_map}
use Rattle.std.proofs.lemmas.List.{append-nil}
use Rattle.history_model.specs.Bytes.{Bytes, line}
use Rattle.history_model.specs.Spelling as spelling
use Rattle.history_model.specs.Lines as lines
use Rattle.history_model.specs.LineWords as wording
use Rattle.history_word.specs.LineTable as table
use Rattle.history_word.specs.TableRuns.{at, run_from}
use Rattle.history_model.specs.declared.Cause.{Cause}
use Rattle.history_word.specs.Progress.{IsNoField, StopsFrom}
use Rattle.history_word.specs.Drafts.{place_of, IsEditHeading, IsOpening, IsHeading}
use Rattle.history_word.specs.Come.{edit_sizes, opening_sizes, heading_sizes, TakesLine}
use Rattle.history_word.specs.declared.heading.EditHeading.{EditHeading}
use Rattle.history_word.specs.declared.heading.EditHeading.TheVariants as edit
use Rattle.history_word.specs.declared.heading.Opening.{Opening}
use Rattle.history_word.specs.declared.heading.Opening.TheVariants as opening
use Rattle.history_word.specs.declared.heading.Heading.{Heading}
use Rattle.history_word.specs.declared.heading.Heading.TheVariants as heading
use Rattle.history_word.specs.declared.place.Place.{Place}
use Rattle.history_word.proofs.ProgressLemmas.{leads_line, leads_field, stops_here, stops_after, field_stops}

-- ---- the lengths of the fields that follow

edit_sizes_are : (said : EditHeading) (h : lines.Heading) → IsEditHeading said h → wording.sizes h ≡ edit_sizes said
edit_sizes_are (edit.Put kind m n) (lines.PutHeading k a b) e = λ i. sym e.1 i ∷ sym e.2 i ∷ []
edit_sizes_are (edit.Remove n) (lines.RemoveHeading a) e = λ i. sym e i ∷ []
edit_sizes_are (edit.RemoveFile n) (lines.RemoveFileHeading a) e = λ i. sym e i ∷ []
edit_sizes_are (edit.Graft m word n) (lines.GraftHeading a w b) e = λ i. sym e.0 i ∷ sym e.2 i ∷ []
edit_sizes_are said h e = absurd e

opening_sizes_are : (said : Opening) (h : lines.Heading) → IsOpening said h → wording.sizes h ≡ opening_sizes said
opening_sizes_are (opening.Commit name expect) (lines.CommitHeading n x) e = refl
opening_sizes_are (opening.Tag target) (lines.TagHeading n x w) e = refl
opening_sizes_are opening.Move lines.MoveHeading e = refl
opening_sizes_are (opening.Rename from to) (lines.RenameHeading old new) e = refl
opening_sizes_are (opening.Delete name expect) (lines.DeleteHeading n at) e = refl
opening_sizes_are (opening.Files word) (lines.FilesHeading w) e = refl
opening_sizes_are (opening.Show word) (lines.ShowHeading w None) e = refl
opening_sizes_are (opening.ShowPath word n) (lines.ShowHeading w (Some m)) e = λ i. sym e.1 i ∷ []
opening_sizes_are opening.Names (lines.NamesHeading None) e = refl
opening_sizes_are (opening.NamesIn folder) (lines.NamesHeading (Some f)) e = refl
opening_sizes_are (opening.Past word) (lines.PastHeading w) e = refl
opening_sizes_are (opening.Switch name) (lines.SwitchHeading n) e = refl
opening_sizes_are opening.Pack lines.PackHeading e = refl
opening_sizes_are opening.Index lines.IndexHeading e = refl
opening_sizes_are (opening.Log said) (lines.LogHeading sent first_parents items paths) e = sym e.1
opening_sizes_are said h e = absurd e

pub heading_sizes_are : (said : Heading) (h : lines.Heading) → IsHeading said h → wording.sizes h ≡ heading_sizes said
heading_sizes_are (heading.Opening said) h e = opening_sizes_are said h e
heading_sizes_are (heading.Parent word) (lines.ParentHeading w) e = refl
heading_sizes_are (heading.To to) (lines.ToHeading name expect word) e = refl
heading_sizes_are (heading.Edit said) h e = edit_sizes_are said h e
heading_sizes_are (heading.Actor said) (lines.ActorHeading r m n s o) e = λ i. sym e.1 i ∷ sym e.2 i ∷ []
heading_sizes_are (heading.Message n) (lines.MessageHeading m) e = λ i. sym e i ∷ []
heading_sizes_are heading.End lines.EndHeading e = refl
heading_sizes_are said h e = absurd e

-- ---- the first of a list

pub first_number : {a b : ℕ} {xs ys : List ℕ} → a ∷ xs ≡ b ∷ ys → a ≡ b
first_number e = cc

pub second_number : {a b c d : ℕ} {xs ys : List ℕ} → a ∷ c ∷ xs ≡ b ∷ d ∷ ys → c ≡ d
second_number e = cc

pub first_text : {a b : Bytes} {xs ys : List Bytes} → a ∷ xs ≡ b ∷ ys → a ≡ b
first_text e = cc

pub second_text : {a b c d : Bytes} {xs ys : List Bytes} → a ∷ c ∷ xs ≡ b ∷ d ∷ ys → c ≡ d
second_text e = cc

-- ---- a field that stops

pub field_first_stops : (size : ℕ) (later : List ℕ) (place : table.Place) (ys : Bytes) (cause : Cause) → IsNoField size ys cause → StopsFrom (size ∷ later) place ys cause
field_first_stops size later place ys cause bad = stops_here (size ∷ later) place ys cause (field_stops size later place ys cause bad)

pub field_second_stops : (field zs : Bytes) (first size : ℕ) (later : List ℕ) (place : table.Place) → length field ≡ first → zs ≡ line field → (ys : Bytes) (cause : Cause) → IsNoField size ys cause
    → StopsFrom (first ∷ size ∷ later) place (zs ++ ys) cause
field_second_stops field zs first size later place l z ys cause bad =
    stops_after (first ∷ size ∷ later) (size ∷ later) place place (spelling.Field field ∷ []) zs ys cause
    (ap (λ n. run_from (at (n ∷ size ∷ later) place) (spelling.Field field ∷ [])) (sym l) ∙ leads_field field (size ∷ later) place [])
    (z ∙ sym (append-nil (line field)))
    (field_first_stops size later place ys cause bad)

pub fields_text : (fields : List Bytes) → spelling.parts_text (map spelling.Field fields) ≡ flat_map line fields
fields_text [] = refl
fields_text (f ∷ fields) = ap (λ t. line f ++ t) (fields_text fields)

leads_some : (done : List Bytes) (later : List ℕ) (place : table.Place) → run_from (at (map length done ++ later) place) (map spelling.Field done) ≡ Some (at later place)
leads_some [] later place = refl
leads_some (f ∷ done) later place = leads_field f (map length done ++ later) place (map spelling.Field done) ∙ leads_some done later place

-- a field after others stops
pub field_later_stops : (sizes : List ℕ) (done : List Bytes) (size : ℕ) (later : List ℕ) (place : table.Place) → sizes ≡ map length done ++ size ∷ later → (ys : Bytes) (cause : Cause) → IsNoField size ys cause
    → StopsFrom sizes place (flat_map line done ++ ys) cause
field_later_stops sizes done size later place e ys cause bad =
    stops_after sizes (size ∷ later) place place (map spelling.Field done) (flat_map line done) ys cause
    (ap (λ ns. run_from (at ns place) (map spelling.Field done)) e ∙ leads_some done (size ∷ later) place)
    (sym (fields_text done))
    (field_first_stops size later place ys cause bad)

-- all of the fields that follow a line stop
pub fields_stop : (p q : Place) (said : Heading) (xs : Bytes) (t : TakesLine p said q xs) (ys : Bytes) (cause : Cause) → ((place : table.Place) → StopsFrom (heading_sizes said) place ys cause)
    → StopsFrom [] (place_of p) (xs ++ ys) cause
fields_stop p q said xs t ys cause bad =
    stops_after [] (heading_sizes said) (place_of p) (place_of q) (spelling.Line (wording.words_of t.heading) ∷ []) xs ys cause
    (leads_line (place_of p) (place_of q) t.heading [] t.stands t.known t.sized ∙ ap (λ s. Some (at s (place_of q))) (heading_sizes_are said t.heading t.is))
    (t.spelled ∙ sym (append-nil (spelling.part_text (spelling.Line (wording.words_of t.heading)))))
    (bad (place_of q))

-- ---- the text of the fields

pub one_text : (ys a : Bytes) → ys ≡ line a → ys ≡ flat_map line (a ∷ [])
one_text ys a e = e ∙ sym (append-nil (line a))

pub two_texts : (ys zs a b : Bytes) → ys ≡ line a → zs ≡ line b → ys ++ zs ≡ flat_map line (a ∷ b ∷ [])
two_texts ys zs a b e f = ap (λ y. y ++ zs) e ∙ ap (λ z. line a ++ z) (f ∙ sym (append-nil (line b)))
