-- The lines of a move: what is read of them, and the causes that they give.
use Rattle.std.proofs.Common.{◌≡◌, ℕ, zero, suc, ◌<◌, length, get_or, arith, Bool, true, false, cond, not, ◌&&◌, ◌||◌, List, [], ◌∷◌, ◌++◌, map, filter, refl, sym, ◌∙◌, ap, subst, Option, Some, None, option_map, is_some, is_none, unwrap_or}
use Rattle.std.specs.Prelude.{Vec, Result, Err, IsErrOf, ⊤}
use Rattle.std.specs.declared.alloc.Global.{Global}
use Rattle.std.specs.List.{AllZip, flat_map, list_all, list_any}
use Rattle.std.specs.FinMap.{keys}
use Rattle.std.proofs.lemmas.List.{map-append}
use Rattle.std.proofs.lemmas.List.Folds.{list_all-append, list_any-append}
use Rattle.std.proofs.lemmas.Bool.{and_parts, or_from}
use Rattle.gix_hash.specs.Id.{id_of, null_id}
use Rattle.gix_hash.specs.declared.object_id.ObjectId.{ObjectId}
use Rattle.gix_ref_file.specs.declared.files.FileError.{FileError}
use Rattle.gix_ref_file.specs.declared.files.FileError.TheVariants.{Failed, Memory as NoMemory}
use Rattle.history_model.specs.Bytes.{Bytes}
use Rattle.history_model.specs.Repository.{id_at, stands}
use Rattle.history_model.specs.Forms.{is_name, is_offset, is_seconds}
use Rattle.history_model.specs.Words.{commit_of}
use Rattle.history_model.specs.Commands.{Expect, Any, New, At, Move, MoveCommand, To}
use Rattle.history_model.specs.CommandParts.{at_word, words_in}
use Rattle.history_model.specs.Meaning.{read_actor}
use Rattle.history_model.specs.Causes.{do_collide, first_cause, holds, is_at, same_id}
use Rattle.history_model.specs.declared.Cause.{Cause}
use Rattle.history_model.specs.declared.Cause.TheVariants.{BadActor, BadMessage, BadName, BadTime, NoSuchName, Taken, NotExpected, NothingMoves}
use Rattle.history_model.specs.declared.Fault.TheVariants.{Memory, File, IdTaken}
use Rattle.history_layout.specs.MoveSteps.{line_entry}
use Rattle.history_texts.specs.Formats.{actor_of, entry_of}
use Rattle.history_texts.specs.declared.log_entry.LogEntry.{LogEntry}
use Rattle.history_word.specs.Commands.{AreTos, IsTo}
use Rattle.history_repository.specs.Reads.{IsReadingFault}
use Rattle.history_plans.specs.Bases.{IsExpected, expected_meanings}
use Rattle.history_repository.specs.Meanings.{words_cause, commit_in, commit_or_cause}
use Rattle.history_plans.specs.CommitCauses.{IsToldOf, TestsOf, first_among, held_causes, place_causes, word_causes}
use Rattle.history_repository.specs.Faults.{file_fault}
use Rattle.history_plans.specs.Moving.{AreLines, AreMoves, IsLine, IsLineMove, PlansMoves, TestsNames, bars, is_elsewhere, is_missing, is_new, is_taken, is_there, line_meanings, line_name, lines_cause, move_causes, names_cause, teller_causes, to_causes, to_name}
use Rattle.history_plans.specs.declared.base.Expected.{Expected}
use Rattle.history_repository.specs.Held.{held_id}
use Rattle.history_repository.specs.declared.held.Held.{Held}
use Rattle.history_plans.specs.declared.moving.Line.{Line}
use Rattle.history_store.specs.declared.changing.MovedName.{MovedName}
use Rattle.history_repository.specs.declared.stopped.Stopped.{Stopped}
use Rattle.history_plans.proofs.FirstCauses.{find_after_none, find_in_front, here, passed}
use Rattle.history_repository.proofs.WordCauses.{any_map, commit_told, words_told as all_words_told}
use Rattle.history_repository.proofs.HeldLemmas.{held_stands}
use Rattle.history_model.specs.Repository as plain
use Rattle.history_model.specs.Causes as model
use Rattle.history_word.specs.declared.command.To as sent
use Rattle.history_plans.specs.declared.base.Expected.TheVariants as expected
use Rattle.history_repository.specs.declared.stopped.Stopped.TheVariants as why

-- ---- lists

pub any_filter : {X : Type 0} (p q : X → Bool) (xs : List X) → list_any p (filter q xs) ≡ list_any (λ x. q x && p x) xs
any_filter p q [] = refl
any_filter {X} p q (x ∷ xs) = go (q x) (any_filter p q xs)
  where
    go : (b : Bool) → list_any p (filter q xs) ≡ list_any (λ x. q x && p x) xs → list_any p (cond b (x ∷ filter q xs) (filter q xs)) ≡ ((b && p x) || list_any (λ x. q x && p x) xs)
    go true rest = ap (λ t. p x || t) rest
    go false rest = rest

-- ---- names

abbrev pub name_of : To → Bytes
name_of to = to.name

pub names_sent : (tos : List sent.To) (orders : List To) → AreTos tos orders → map to_name tos ≡ map name_of orders
names_sent [] [] are = refl
names_sent [] (order ∷ orders) are = absurd are
names_sent (to ∷ tos) [] are = absurd are
names_sent (to ∷ tos) (order ∷ orders) are = λ i. (are.0).name i ∷ names_sent tos orders are.1 i

pub names_told : (r : plain.Repository) (order : MoveCommand) → first_among to_causes r (Move order) ≡ names_cause (map name_of order.to)
names_told r order = alone (list_any (λ name. not (is_name name)) (map name_of order.to)) _
  where
    alone : (b : Bool) (rest : Option Cause) → cond (b || false) (Some BadName) rest ≡ cond b (Some BadName) rest
    alone true rest = refl
    alone false rest = refl

-- if none of these causes holds, each name is a valid one
pub all_named : (names : List Bytes) → names_cause names ≡ None → list_any (λ name. not (is_name name)) names ≡ false
all_named names none = go (list_any (λ name. not (is_name name)) names) _ none
  where
    go : (b : Bool) (rest : Option Cause) → cond b (Some BadName) rest ≡ None → b ≡ false
    go true rest e = cc
    go false rest e = refl

pub each_named : (orders : List To) → list_any (λ name. not (is_name name)) (map name_of orders) ≡ false → list_all (λ (to : To). is_name to.name) orders ≡ true
each_named [] none = refl
each_named (order ∷ orders) none = go (is_name order.name) none (each_named orders)
  where
    go : (b : Bool) → (not b || list_any (λ name. not (is_name name)) (map name_of orders)) ≡ false
        → (list_any (λ name. not (is_name name)) (map name_of orders) ≡ false → list_all (λ (to : To). is_name to.name) orders ≡ true) → (b && list_all (λ (to : To). is_name to.name) orders) ≡ true
    go true e rest = rest e
    go false e rest = cc

-- ---- words

pub at_meanings : (r : plain.Repository) (expect : Expect) (what : Expected) → IsExpected r expect what → expected_meanings what ≡ map (commit_or_cause r) (at_word expect)
at_meanings r Any expected.Any is = refl
at_meanings r New expected.New is = refl
at_meanings r (At word) (expected.At meaning) is = ap (λ x. x ∷ []) is
at_meanings r Any expected.New is = absurd is
at_meanings r Any (expected.At meaning) is = absurd is
at_meanings r New expected.Any is = absurd is
at_meanings r New (expected.At meaning) is = absurd is
at_meanings r (At word) expected.Any is = absurd is
at_meanings r (At word) expected.New is = absurd is

pub meanings_are : (r : plain.Repository) (orders : List To) (lines : List Line) → AreLines r orders lines
    → flat_map line_meanings lines ≡ map (commit_or_cause r) (flat_map (λ (to : To). at_word to.expect ++ to.word ∷ []) orders)
meanings_are r [] [] are = refl
meanings_are r [] (line ∷ lines) are = absurd are
meanings_are r (order ∷ orders) [] are = absurd are
meanings_are r (order ∷ orders) (line ∷ lines) are =
    let words = flat_map (λ (to : To). at_word to.expect ++ to.word ∷ []) orders in
    (λ i. (at_meanings r order.expect line.expected (are.0).expected i ++ (are.0).word i ∷ []) ++ meanings_are r orders lines are.1 i)
    ∙ sym (map-append (commit_or_cause r) (at_word order.expect ++ order.word ∷ []) words
    ∙ ap (λ front. front ++ map (commit_or_cause r) words) (map-append (commit_or_cause r) (at_word order.expect) (order.word ∷ [])))

pub words_told : (r : plain.Repository) (order : MoveCommand) (lines : List Line) → AreLines r order.to lines → first_among word_causes r (Move order) ≡ words_cause (flat_map line_meanings lines)
words_told r order lines are =
    let words = words_in (Move order) in
    all_words_told r words (map (commit_or_cause r) words) (λ test. any_map test (commit_or_cause r) words) None
    ∙ ap words_cause (sym (meanings_are r order.to lines are))

-- ---- what the names hold

pub not_there : (held : Option Held) → not (is_some held) ≡ is_none held
not_there None = refl
not_there (Some held) = refl

abbrev pair_of : To → Bytes × Expect
pair_of to = (to.name, to.expect)

abbrev at_pairs : List To → List Bytes
at_pairs orders = map (λ (e : Bytes × Expect). e.0) (filter (λ (e : Bytes × Expect). is_at e.1) (map pair_of orders))

abbrev new_pairs : List To → List Bytes
new_pairs orders = map (λ (e : Bytes × Expect). e.0) (filter (λ (e : Bytes × Expect). model.is_new e.1) (map pair_of orders))

module _ (r : plain.Repository) where
  pub line_stands : (to : To) (line : Line) → IsLine r to line → is_some line.held ≡ stands r to.name
  line_stands to line is = sym (held_stands r to.name line.held is.held)

  missing_told : (orders : List To) (lines : List Line) → AreLines r orders lines → list_any (λ name. not (stands r name)) (at_pairs orders) ≡ list_any is_missing lines
  missing_told [] [] are = refl
  missing_told [] (line ∷ lines) are = absurd are
  missing_told (order ∷ orders) [] are = absurd are
  missing_told (order ∷ orders) (line ∷ lines) are = one order.expect line.expected (are.0).expected (missing_told orders lines are.1)
    where
      alone : (b : Bool) → b ≡ (b || false)
      alone true = refl
      alone false = refl

      one : (expect : Expect) (what : Expected) → IsExpected r expect what → list_any (λ name. not (stands r name)) (at_pairs orders) ≡ list_any is_missing lines
          → list_any (λ name. not (stands r name)) (map (λ (e : Bytes × Expect). e.0) (filter (λ (e : Bytes × Expect). is_at e.1) ((order.name, expect) ∷ map pair_of orders)))
          ≡ (list_any (λ _. is_none line.held) (expected_meanings what) || list_any is_missing lines)
      one Any expected.Any is more = more
      one New expected.New is more = more
      one (At word) (expected.At meaning) is more = λ i. (ap not (sym (line_stands order line are.0)) ∙ not_there line.held ∙ alone (is_none line.held)) i || more i
      one Any expected.New is more = absurd is
      one Any (expected.At meaning) is more = absurd is
      one New expected.Any is more = absurd is
      one New (expected.At meaning) is more = absurd is
      one (At word) expected.Any is more = absurd is
      one (At word) expected.New is more = absurd is

  taken_told : (orders : List To) (lines : List Line) → AreLines r orders lines → list_any (stands r) (new_pairs orders) ≡ list_any is_taken lines
  taken_told [] [] are = refl
  taken_told [] (line ∷ lines) are = absurd are
  taken_told (order ∷ orders) [] are = absurd are
  taken_told (order ∷ orders) (line ∷ lines) are = one order.expect line.expected (are.0).expected (taken_told orders lines are.1)
    where
      one : (expect : Expect) (what : Expected) → IsExpected r expect what → list_any (stands r) (new_pairs orders) ≡ list_any is_taken lines
          → list_any (stands r) (map (λ (e : Bytes × Expect). e.0) (filter (λ (e : Bytes × Expect). model.is_new e.1) ((order.name, expect) ∷ map pair_of orders)))
          ≡ ((is_new what && is_some line.held) || list_any is_taken lines)
      one Any expected.Any is more = more
      one New expected.New is more = λ i. sym (line_stands order line are.0) i || more i
      one (At word) (expected.At meaning) is more = more
      one Any expected.New is more = absurd is
      one Any (expected.At meaning) is more = absurd is
      one New expected.Any is more = absurd is
      one New (expected.At meaning) is more = absurd is
      one (At word) expected.Any is more = absurd is
      one (At word) expected.New is more = absurd is

  -- ---- names that are there already

  pub there_told : (orders : List To) (lines : List Line) → AreLines r orders lines → list_any (λ (to : To). same_id (id_at r to.name) (commit_of r to.word)) orders ≡ list_any is_there lines
  there_told [] [] are = refl
  there_told [] (line ∷ lines) are = absurd are
  there_told (order ∷ orders) [] are = absurd are
  there_told (order ∷ orders) (line ∷ lines) are = λ i.
      same_id (sym ((are.0).held).id i) (sym (are.0).commit i) || there_told orders lines are.1 i

  elsewhere_told : (orders : List To) (lines : List Line) → AreLines r orders lines → list_any (model.is_elsewhere r) (map pair_of orders) ≡ list_any is_elsewhere lines
  elsewhere_told [] [] are = refl
  elsewhere_told [] (line ∷ lines) are = absurd are
  elsewhere_told (order ∷ orders) [] are = absurd are
  elsewhere_told (order ∷ orders) (line ∷ lines) are = λ i. one order.expect line.expected (are.0).expected i || elsewhere_told orders lines are.1 i
    where
      one : (expect : Expect) (what : Expected) → IsExpected r expect what → model.is_elsewhere r (order.name, expect) ≡ Rattle.history_plans.specs.Moving.is_apart line what
      one Any expected.Any is = refl
      one New expected.New is = refl
      one (At word) (expected.At meaning) is = λ i. not (same_id (sym ((are.0).held).commit i) (commit_told r word meaning is i))
      one Any expected.New is = absurd is
      one Any (expected.At meaning) is = absurd is
      one New expected.Any is = absurd is
      one New (expected.At meaning) is = absurd is
      one (At word) expected.Any is = absurd is
      one (At word) expected.New is = absurd is

  pub held_told : (order : MoveCommand) (lines : List Line) → AreLines r order.to lines → first_among held_causes r (Move order) ≡ lines_cause lines
  held_told order lines are = λ i.
      cond (missing_told order.to lines are i) (Some NoSuchName) (cond (taken_told order.to lines are i) (Some Taken) (cond (elsewhere_told order.to lines are i) (Some NotExpected) None))

  -- ---- the first of the causes

  module _ (order : MoveCommand) where
    abbrev Tells : List Cause → Option Cause
    Tells causes = first_among causes r (Move order)

    abbrev P : Cause → Bool
    P cause = holds cause r (Move order)

    first_told : first_cause r (Move order) ≡ Tells move_causes
    first_told = refl

    abbrev behind_names : List Cause
    behind_names = word_causes ++ (held_causes ++ (place_causes ++ (teller_causes ++ NothingMoves ∷ [])))

    abbrev behind_words : List Cause
    behind_words = held_causes ++ (place_causes ++ (teller_causes ++ NothingMoves ∷ []))

    abbrev behind_held : List Cause
    behind_held = place_causes ++ (teller_causes ++ NothingMoves ∷ [])

    abbrev behind_places : List Cause
    behind_places = teller_causes ++ NothingMoves ∷ []

    pub by_names : (cause : Cause) → Tells to_causes ≡ Some cause → first_cause r (Move order) ≡ Some cause
    by_names cause e = first_told ∙ find_in_front P to_causes behind_names cause e

    module _ (names : Tells to_causes ≡ None) where
      past_names : first_cause r (Move order) ≡ Tells behind_names
      past_names = first_told ∙ find_after_none P to_causes behind_names names

      pub by_words : (cause : Cause) → Tells word_causes ≡ Some cause → first_cause r (Move order) ≡ Some cause
      by_words cause e = past_names ∙ find_in_front P word_causes behind_words cause e

      module _ (words : Tells word_causes ≡ None) where
        past_words : first_cause r (Move order) ≡ Tells behind_words
        past_words = past_names ∙ find_after_none P word_causes behind_words words

        pub by_held : (cause : Cause) → Tells held_causes ≡ Some cause → first_cause r (Move order) ≡ Some cause
        by_held cause e = past_words ∙ find_in_front P held_causes behind_held cause e

        module _ (held : Tells held_causes ≡ None) where
          past_held : first_cause r (Move order) ≡ Tells behind_held
          past_held = past_words ∙ find_after_none P held_causes behind_held held

          pub by_places : (cause : Cause) → Tells place_causes ≡ Some cause → first_cause r (Move order) ≡ Some cause
          by_places cause e = past_held ∙ find_in_front P place_causes behind_places cause e

          module _ (places : Tells place_causes ≡ None) where
            past_places : first_cause r (Move order) ≡ Tells behind_places
            past_places = past_held ∙ find_after_none P place_causes behind_places places

            pub by_teller : (cause : Cause) → Tells teller_causes ≡ Some cause → first_cause r (Move order) ≡ Some cause
            by_teller cause e = past_places ∙ find_in_front P teller_causes (NothingMoves ∷ []) cause e

            module _ (teller : Tells teller_causes ≡ None) where
              past_teller : first_cause r (Move order) ≡ Tells (NothingMoves ∷ [])
              past_teller = past_places ∙ find_after_none P teller_causes (NothingMoves ∷ []) teller

              pub by_there : P NothingMoves ≡ true → first_cause r (Move order) ≡ Some NothingMoves
              by_there e = past_teller ∙ ap (λ b. cond b (Some NothingMoves) None) e

              pub none_told : P NothingMoves ≡ false → first_cause r (Move order) ≡ None
              none_told e = past_teller ∙ ap (λ b. cond b (Some NothingMoves) None) e

-- ---- places

pub line_names : (r : plain.Repository) (orders : List To) (lines : List Line) → AreLines r orders lines → map line_name lines ≡ map name_of orders
line_names r [] [] are = refl
line_names r [] (line ∷ lines) are = absurd are
line_names r (order ∷ orders) [] are = absurd are
line_names r (order ∷ orders) (line ∷ lines) are = λ i. (are.0).name i ∷ line_names r orders lines are.1 i

-- ---- stops

-- names that a move can't be of, and memory that ran out on the way
pub names_planned : (r : plain.Repository) (order : MoveCommand) (MayFail : Type 0) (result : Result (Unit {0}) Stopped) (ends : Result (Vec MovedName Global) Stopped) (stopped : Stopped)
    → result ≡ Err stopped → ends ≡ Err stopped → TestsNames (map name_of order.to) result → PlansMoves MayFail r order ends
names_planned r order MayFail result ends stopped was is_end tests =
    subst (PlansMoves MayFail r order) (sym is_end) (by_case stopped (subst (TestsNames (map name_of order.to)) was tests))
  where
    by_case : (stopped : Stopped) → TestsNames (map name_of order.to) (Err stopped) → PlansMoves MayFail r order (Err stopped)
    by_case (why.Refused cause) h = by_names r order cause (names_told r order ∙ h)
    by_case (why.Fault Memory) h = tt
    by_case (why.Fault File) h = absurd h
    by_case (why.Fault IdTaken) h = absurd h

pub fault_planned : (MayFail : Type 0) (r : plain.Repository) (order : MoveCommand) (stopped : Stopped) → IsReadingFault MayFail stopped → PlansMoves MayFail r order (Err stopped)
fault_planned MayFail r order (why.Refused cause) h = absurd h
fault_planned MayFail r order (why.Fault fault) h = h

pub file_fails : {A : Type 0} (MayFail : Type 0) (result : Result A FileError) (error : FileError) → result ≡ Err error → (IsErrOf result Failed → MayFail) → IsReadingFault MayFail (why.Fault (file_fault error))
file_fails {A} MayFail result error was failed = by_error error (subst (λ (x : Result A FileError). IsErrOf x Failed → MayFail) was failed)
  where
    by_error : (error : FileError) → (IsErrOf {T = A} (Err error) Failed → MayFail) → IsReadingFault MayFail (why.Fault (file_fault error))
    by_error Failed may = may refl
    by_error NoMemory may = tt

-- ---- entries

or_null : (found : Option ObjectId) (null : ObjectId) → id_of (unwrap_or found null) ≡ unwrap_or (option_map id_of found) (id_of null)
or_null None null = refl
or_null (Some id) null = refl

-- the entry of a line that moves so
pub entry_told : (r : plain.Repository) (order : MoveCommand) (to : To) (line : Line) (other : ObjectId) (entry : LogEntry) → IsLine r to line → id_of other ≡ null_id r.kind
    → id_of entry.before ≡ unwrap_or (option_map held_id line.held) (null_id r.kind) → entry.after ≡ unwrap_or (commit_in line.word) other → actor_of entry.actor ≡ read_actor order.actor → entry.message.items ≡ order.message
    → entry_of entry ≡ line_entry r order to
entry_told r order to line other entry is other_null before after actor message =
    let before_is = before ∙ ap (λ found. unwrap_or found (null_id r.kind)) (is.held).id in
    let after_is = ap id_of after ∙ or_null (commit_in line.word) other ∙ (λ i. unwrap_or (is.commit i) (other_null i)) in
    λ i. record { before = before_is i; after = after_is i; actor = actor i; message = message i }

pub refusal_planned : (MayFail : Type 0) (r : plain.Repository) (order : MoveCommand) (ends : Result (Vec MovedName Global) Stopped) (cause : Cause) → ends ≡ Err (why.Refused cause) → first_cause r (Move order) ≡ Some cause → PlansMoves MayFail r order ends
refusal_planned MayFail r order ends cause is_end told = subst (PlansMoves MayFail r order) (sym is_end) told

pub places_planned : (r : plain.Repository) (order : MoveCommand) → first_among to_causes r (Move order) ≡ None → first_among word_causes r (Move order) ≡ None → first_among held_causes r (Move order) ≡ None
    → (MayFail : Type 0) (result : Result (Unit {0}) Stopped) (ends : Result (Vec MovedName Global) Stopped) (stopped : Stopped) → result ≡ Err stopped → ends ≡ Err stopped → TestsOf MayFail place_causes r (Move order) (λ (done : Unit {0}). ⊤) result
    → PlansMoves MayFail r order ends
places_planned r order names words held MayFail result ends stopped was is_end tests =
    subst (PlansMoves MayFail r order) (sym is_end) (by_case stopped (subst (λ (x : Result (Unit {0}) Stopped). TestsOf MayFail place_causes r (Move order) (λ (done : Unit {0}). ⊤) x) was tests))
  where
    by_case : (stopped : Stopped) → IsToldOf MayFail place_causes r (Move order) stopped → PlansMoves MayFail r order (Err stopped)
    by_case (why.Refused cause) h = by_places r order names words held cause h
    by_case (why.Fault fault) h = h

-- ---- lines in a row

abbrev pub swapped : plain.Repository → Line → To → Type 0
swapped r line to = IsLine r to line

pub zip_split : {A B : Type 0} (R : A → B → Type 0) (xs : List A) (x : A) (ys : List B) → AllZip R (xs ++ x ∷ []) ys → (front : List B) × (y : B) × (ys ≡ front ++ y ∷ []) × AllZip R xs front × R x y
zip_split R [] x [] all = absurd all
zip_split R [] x (y ∷ []) all = ([], y, refl, tt, all.0)
zip_split R [] x (y ∷ z ∷ ys) all = absurd all.1
zip_split R (w ∷ xs) x [] all = absurd all
zip_split R (w ∷ xs) x (y ∷ ys) all =
    let rest = zip_split R xs x ys all.1 in
    (y ∷ rest.0, rest.1, ap (λ t. y ∷ t) rest.2, (all.0, rest.3), rest.4)

zip_add : {A B : Type 0} (R : A → B → Type 0) (xs : List A) (ys : List B) (x : A) (y : B) → AllZip R xs ys → R x y → AllZip R (xs ++ x ∷ []) (ys ++ y ∷ [])
zip_add R [] [] x y all here = (here, tt)
zip_add R [] (z ∷ ys) x y all here = absurd all
zip_add R (w ∷ xs) [] x y all here = absurd all
zip_add R (w ∷ xs) (z ∷ ys) x y all here = (all.0, zip_add R xs ys x y all.1 here)

pub zip_at : {A B : Type 0} (R : A → B → Type 0) (xs : List A) (ys : List B) (d : A) (i : ℕ) → i < length xs → AllZip R xs ys → (y : B) × R (get_or xs i d) y
zip_at R [] ys d i within all = absurd (omega arith)
zip_at R (x ∷ xs) [] d i within all = absurd all
zip_at R (x ∷ xs) (y ∷ ys) d zero within all = (y, all.0)
zip_at R (x ∷ xs) (y ∷ ys) d (suc i) within all = zip_at R xs ys d i (omega arith) all.1

pub none_zip : {A B C : Type 0} (R : A → C → Type 0) (Q : C → B → Type 0) (ys : List C) (zs : List B) → zs ≡ [] → AllZip R [] ys → AllZip Q ys zs
none_zip R Q [] [] none all = tt
none_zip R Q [] (z ∷ zs) none all = cc
none_zip R Q (y ∷ ys) zs none all = absurd all

-- one line more is read
pub line_added : (r : plain.Repository) (tos : List sent.To) (to : sent.To) (orders : List To) (lines more : List Line) (line : Line) → AreTos (tos ++ to ∷ []) orders
    → ((front : List To) → AreTos tos front → AreLines r front lines) → ((order : To) → IsTo to order → IsLine r order line) → more ≡ lines ++ line ∷ [] → AreLines r orders more
line_added r tos to orders lines more line are so_far here added =
    let cut = zip_split IsTo tos to orders are in
    subst (λ all. AreLines r orders all) (sym added)
    (subst (λ all. AreLines r all (lines ++ line ∷ [])) (sym cut.2) (zip_add (IsLine r) cut.0 lines cut.1 line (so_far cut.0 cut.3) (here cut.1 cut.4)))

-- one line more is made a move
pub moves_added : (r : plain.Repository) (order : MoveCommand) (lines : List Line) (line : Line) (orders : List To) (moves more : List MovedName) (one : MovedName) → AllZip (swapped r) (lines ++ line ∷ []) orders
    → ((front : List To) → AllZip (swapped r) lines front → AreMoves r order front moves) → ((to : To) → IsLine r to line → IsLineMove r order to one) → more ≡ moves ++ one ∷ [] → AreMoves r order orders more
moves_added r order lines line orders moves more one are so_far here added =
    let cut = zip_split (swapped r) lines line orders are in
    subst (λ all. AreMoves r order orders all) (sym added)
    (subst (λ all. AreMoves r order all (moves ++ one ∷ [])) (sym cut.2) (zip_add (IsLineMove r order) cut.0 moves cut.1 one (so_far cut.0 cut.3) (here cut.1 cut.4)))

pub turned : (r : plain.Repository) (orders : List To) (lines : List Line) → AreLines r orders lines → AllZip (swapped r) lines orders
turned r [] [] are = tt
turned r [] (line ∷ lines) are = absurd are
turned r (order ∷ orders) [] are = absurd are
turned r (order ∷ orders) (line ∷ lines) are = (are.0, turned r orders lines are.1)

-- ---- one of the lines

pub named_at : (orders front back : List To) (to : To) → orders ≡ front ++ to ∷ back → list_all (λ (to : To). is_name to.name) orders ≡ true → is_name to.name ≡ true
named_at orders front back to cut named =
    let all = sym (ap (list_all (λ (to : To). is_name to.name)) cut) ∙ named in
    (and_parts (is_name to.name) (list_all (λ (to : To). is_name to.name) back)
    (and_parts (list_all (λ (to : To). is_name to.name) front) (list_all (λ (to : To). is_name to.name) (to ∷ back)) (sym (list_all-append (λ (to : To). is_name to.name) front (to ∷ back)) ∙ all)).1).0

pub one_more : {X : Type 0} (p : X → Bool) (front more : List X) (x : X) → more ≡ front ++ x ∷ [] → list_any p front ≡ false → p x ≡ false → list_any p more ≡ false
one_more p front more x is none here = ap (list_any p) is ∙ list_any-append p front (x ∷ []) ∙ or_from (list_any p front) (p x || false) none (or_from (p x) false here refl)

pub one_there : {X : Type 0} (p : X → Bool) (front back all : List X) (x : X) → all ≡ front ++ x ∷ back → p x ≡ true → list_any p all ≡ true
one_there p front back all x is here = ap (list_any p) is ∙ list_any-append p front (x ∷ back) ∙ (λ i. list_any p front || (here i || list_any p back)) ∙ last (list_any p front)
  where
    last : (b : Bool) → (b || true) ≡ true
    last true = refl
    last false = refl

module _ (r : plain.Repository) (to : To) (line : Line) (is : IsLine r to line) where
  pub standing_bars : is_some line.held ≡ true → false ≡ bars r to
  standing_bars there = sym (ap (λ s. not s && list_any (do_collide to.name) (keys r.names)) (sym (line_stands r to line is) ∙ there))

  pub new_bars : is_some line.held ≡ false → (found : Bool) → list_any (do_collide to.name) (keys r.names) ≡ found → found ≡ bars r to
  new_bars new found others = sym (ap (λ s. not s && list_any (do_collide to.name) (keys r.names)) (sym (line_stands r to line is) ∙ new) ∙ others)

-- ---- the actor and the message

module _ (r : plain.Repository) (order : MoveCommand) where
  alone : (b : Bool) → (b || false) ≡ b
  alone true = refl
  alone false = refl

  actor_told : (b : Bool) → model.is_bad_actor order.actor ≡ b → holds BadActor r (Move order) ≡ b
  actor_told b e = alone (model.is_bad_actor order.actor) ∙ e

  time_told : (b : Bool) → (not (is_seconds (order.actor).seconds) || not (is_offset (order.actor).offset)) ≡ b → holds BadTime r (Move order) ≡ b
  time_told b e = alone (not (is_seconds (order.actor).seconds) || not (is_offset (order.actor).offset)) ∙ e

  pub actor_refused : model.is_bad_actor order.actor ≡ true → first_among teller_causes r (Move order) ≡ Some BadActor
  actor_refused actor = here _ _ _ (actor_told true actor)

  module _ (actor : model.is_bad_actor order.actor ≡ false) where
    pub time_refused : (not (is_seconds (order.actor).seconds) || not (is_offset (order.actor).offset)) ≡ true → first_among teller_causes r (Move order) ≡ Some BadTime
    time_refused time = passed _ _ _ _ (actor_told false actor) (here _ _ _ (time_told true time))

    module _ (time : (not (is_seconds (order.actor).seconds) || not (is_offset (order.actor).offset)) ≡ false) where
      pub message_refused : model.is_bad_message (Move order) ≡ true → first_among teller_causes r (Move order) ≡ Some BadMessage
      message_refused message = passed _ _ _ _ (actor_told false actor) (passed _ _ _ _ (time_told false time) (here _ _ _ message))

      pub none_refused : model.is_bad_message (Move order) ≡ false → first_among teller_causes r (Move order) ≡ None
      none_refused message = passed _ _ _ _ (actor_told false actor) (passed _ _ _ _ (time_told false time) (passed _ _ _ _ message refl))
