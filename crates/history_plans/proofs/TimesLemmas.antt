-- The causes that the tests of a command's edits and actors give.
use Rattle.std.proofs.Common.{◌≡◌, ℕ, zero, suc, ◌<◌, Bool, true, false, not, ◌||◌, List, [], ◌∷◌, length, refl, sym, ◌∙◌, ap, arith, Option, Some, None, MatchOption, Err}
use Rattle.std.specs.Bool.{MatchBool}
use Rattle.std.specs.List.{list_any, flat_map, AllWithin, HoldsAt}
use Rattle.std.proofs.lemmas.List.Folds.{list_any-append}
use Rattle.std.specs.Option.{ok_or}
use Rattle.history_model.specs.Repository.{Repository}
use Rattle.history_model.specs.Forms.{is_seconds, is_offset}
use Rattle.history_model.specs.Commands.{Commit, CommitCommand, ActorLine, EditLine}
use Rattle.history_model.specs.Causes.{holds}
use Rattle.history_model.specs.declared.Cause.{Cause}
use Rattle.history_model.specs.declared.Cause.TheVariants.{BadPath, IsFolder, NoSuchPath, BadActor, BadTime, BadMessage, TooLarge}
use Rattle.history_word.specs.Commands.{IsEdit, AreEdits}
use Rattle.history_word.specs.declared.command.Edit.{Edit}
use Rattle.history_plans.specs.CommitCauses.{first_among, form_causes, path_causes, IsTime, AreTimes}
use Rattle.gix_object_lines.specs.declared.lines.time.Time.{Time}
use Rattle.history_plans.proofs.FirstCauses.{here, passed}
use Rattle.history_model.proofs.StepLemmas.{passed as none_of}

or_true : (a : Bool) → (a || true) ≡ true
or_true true = refl
or_true false = refl

-- ---- edits

-- a test of an edit returns what the test of its line returns
abbrev pub Answers : (EditLine → Bool) → Bool → Edit → Type 0
Answers test answer edit = (line : EditLine) → IsEdit edit line → answer ≡ test line

module _ (test : EditLine → Bool) where
  some_line : (edits : List Edit) (lines : List EditLine) → AreEdits edits lines → (k : ℕ) → k < length edits → HoldsAt (Answers test true) edits k → list_any test lines ≡ true
  some_line [] lines are k less h = absurd (omega arith)
  some_line (edit ∷ edits) [] are k less h = absurd are
  some_line (edit ∷ edits) (line ∷ lines) are zero less h = ap (λ b. b || list_any test lines) (sym (h edit line are.0))
  some_line (edit ∷ edits) (line ∷ lines) are (suc k) less h = ap (λ b. test line || b) (some_line edits lines are.1 k (omega arith) h) ∙ or_true (test line)

  no_line : (edits : List Edit) (lines : List EditLine) → AreEdits edits lines → AllWithin (Answers test false) edits 0 (length edits) → list_any test lines ≡ false
  no_line [] [] are h = refl
  no_line [] (line ∷ lines) are h = absurd are
  no_line (edit ∷ edits) [] are h = absurd are
  no_line (edit ∷ edits) (line ∷ lines) are h =
      ap (λ b. b || list_any test lines) (sym (h 0 edit (omega arith) (omega arith) line are.0))
      ∙ no_line edits lines are.1 (λ k d low less. h (suc k) d (omega arith) (omega arith))

  -- a test finds one of the edits if one of the lines passes
  pub any_line : (edits : List Edit) (lines : List EditLine) → AreEdits edits lines → (answer : Bool)
      → MatchBool answer ((k : ℕ) × (k < length edits) × HoldsAt (Answers test true) edits k) (AllWithin (Answers test false) edits 0 (length edits)) → answer ≡ list_any test lines
  any_line edits lines are true h = sym (some_line edits lines are h.0 h.1 h.2)
  any_line edits lines are false h = sym (no_line edits lines are h)

pub any_flat : {X Y : Type 0} (p : Y → Bool) (f : X → List Y) (xs : List X) → list_any p (flat_map f xs) ≡ list_any (λ x. list_any p (f x)) xs
any_flat p f [] = refl
any_flat p f (x ∷ xs) = list_any-append p (f x) (flat_map f xs) ∙ ap (λ b. list_any p (f x) || b) (any_flat p f xs)

-- ---- the first of the causes

module _ (r : Repository) (sent : CommitCommand) where
  abbrev Holds : Cause → Bool
  Holds cause = holds cause r (Commit sent)

  -- if none of the causes of its paths holds
  module _ (none : first_among path_causes r (Commit sent) ≡ None) where
    path : Holds BadPath ≡ false
    path = (none_of _ _ _ none).0

    folder : Holds IsFolder ≡ false
    folder = (none_of _ _ _ (none_of _ _ _ none).1).0

    found : Holds NoSuchPath ≡ false
    found = (none_of (Holds NoSuchPath) NoSuchPath None (none_of (Holds IsFolder) IsFolder _ (none_of (Holds BadPath) BadPath _ none).1).1).0

    pub actor_refused : Holds BadActor ≡ true → AreTimes r sent (Err BadActor)
    actor_refused actor = passed _ _ _ _ path (passed _ _ _ _ folder (passed _ _ _ _ found (here _ _ _ actor)))

    pub time_refused : Holds BadActor ≡ false → Holds BadTime ≡ true → AreTimes r sent (Err BadTime)
    time_refused actor time = passed _ _ _ _ path (passed _ _ _ _ folder (passed _ _ _ _ found (passed _ _ _ _ actor (here _ _ _ time))))

    pub title_refused : Holds BadActor ≡ false → Holds BadTime ≡ false → Holds BadMessage ≡ true → AreTimes r sent (Err BadMessage)
    title_refused actor time title = passed _ _ _ _ path (passed _ _ _ _ folder (passed _ _ _ _ found (passed _ _ _ _ actor (passed _ _ _ _ time (here _ _ _ title)))))

    pub size_refused : Holds BadActor ≡ false → Holds BadTime ≡ false → Holds BadMessage ≡ false → Holds TooLarge ≡ true → AreTimes r sent (Err TooLarge)
    size_refused actor time title size = passed _ _ _ _ path (passed _ _ _ _ folder (passed _ _ _ _ found (passed _ _ _ _ actor (passed _ _ _ _ time (passed _ _ _ _ title (here _ _ _ size))))))

    pub all_formed : Holds BadActor ≡ false → Holds BadTime ≡ false → Holds BadMessage ≡ false → first_among form_causes r (Commit sent) ≡ None
    all_formed actor time title = passed _ _ _ _ path (passed _ _ _ _ folder (passed _ _ _ _ found (passed _ _ _ _ actor (passed _ _ _ _ time (passed _ _ _ _ title refl)))))

-- ---- actors and times

pub some_bad : (a b : Bool) → a ≡ true → (a || (b || false)) ≡ true
some_bad true b e = refl
some_bad false b e = cc

pub other_bad : (a b : Bool) → b ≡ true → (a || (b || false)) ≡ true
other_bad true b e = refl
other_bad false true e = refl
other_bad false false e = cc

pub neither_bad : (a b : Bool) → a ≡ false → b ≡ false → (a || (b || false)) ≡ false
neither_bad true b e f = cc
neither_bad false true e f = cc
neither_bad false false e f = refl

pub time_good : (line : ActorLine) (time : Time) → IsTime line time → (not (is_seconds line.seconds) || not (is_offset line.offset)) ≡ false
time_good line time h = ap (λ b. not b || not (is_offset line.offset)) h.good_seconds ∙ ap not h.good_offset

-- a missing value gives the error that was passed
pub absent : {A E : Type 0} (o : Option A) (given error : E) → Err given ≡ ok_or o error → (given ≡ error) × (o ≡ None)
absent None given error e = (cc, refl)
absent (Some x) given error e = cc

-- and so there is no error if the value exists
pub never_absent : {A E : Type 0} (P : A → Type 0) (found : Option A) (given error : E) → Err given ≡ ok_or found error → MatchOption found ⊥ P → ⊥
never_absent P found given error is there = rw (absent found given error is).1 at there
