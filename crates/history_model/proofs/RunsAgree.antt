-- Two runs over one input agree.
use Rattle.std.proofs.Common.{◌≡◌, ◌⊎◌, inl, inr, Bool, true, false, not, ◌&&◌, List, [], ◌∷◌, ◌++◌, refl, sym, ◌∙◌, ap, subst, MatchBool, append_assoc, append-nil, length-append, ◌≢◌, ◌≤◌, ◌+◌, ℕ, zero, suc, length, take, arith}
use Rattle.std.specs.List.{list_all, flat_map, join_with_byte}
use Rattle.history_model.specs.Bytes.{Bytes, line, has_byte}
use Rattle.history_model.specs.Repository.{Repository}
use Rattle.history_model.specs.Commands.{Command, Commit, Tag, Move, Rename, Delete, Switch, Pack, Index, Names, Files, Past, Log, Show, LogCommand}
use Rattle.history_model.specs.Spelling.{Part, Line, parts_of, parts_text, spelling, max_line}
use Rattle.history_model.specs.Grammar.{is_command, HasRestCause}
use Rattle.history_model.proofs.Offered.{StopsBy}
use Rattle.history_model.specs.Replies.{Reply, LogIs, reply_text}
use Rattle.history_model.specs.Answers.{kept, time_at}
use Rattle.history_model.specs.Stops.{is_changing}
use Rattle.history_model.specs.Steps.{Steps, is_faulted, next}
use Rattle.history_model.specs.laws.Determined.{leaves_choice, have_no_fault, is_sure, TellsFault, DifferAtOneTime, ListsAlike, AreAlike, AreAllAlike, RunsAgree, RunsGive}
use Rattle.history_model.specs.Runs.{Runs}
use Rattle.history_model.specs.declared.Cause.{Cause}
use Rattle.history_model.specs.declared.Cause.TheVariants.{Syntax, Truncated, LineTooLong}
use Rattle.history_model.specs.declared.End.TheVariants.{Input, Refused as ByRefusal, Fault as ByFault}
use Rattle.history_model.proofs.GrammarLemmas.{is_spelled, offered_prefix_free}
use Rattle.history_model.proofs.RestLemmas.{rest_begins_with_none}
use Rattle.history_model.proofs.StepLemmas.{steps_are_determined, replies_tell_the_state}
use Rattle.std.proofs.lemmas.Bool.{not-true, and_parts}

-- ---- the commands

begins_with_line : (command : Command) → (words : List Bytes) × (parts : List Part) × (parts_of command ≡ Line words ∷ parts)
begins_with_line (Commit c) = (_, _, refl)
begins_with_line (Tag c) = (_, _, refl)
begins_with_line (Move c) = (_, _, refl)
begins_with_line (Rename from to) = (_, _, refl)
begins_with_line (Delete name at) = (_, _, refl)
begins_with_line (Switch name) = (_, _, refl)
begins_with_line Pack = (_, _, refl)
begins_with_line Index = (_, _, refl)
begins_with_line (Names folder) = (_, _, refl)
begins_with_line (Files word) = (_, _, refl)
begins_with_line (Past name) = (_, _, refl)
begins_with_line (Log c) = (_, _, refl)
begins_with_line (Show word path) = (_, _, refl)

no_line : {A : Type 0} (text : Bytes) (rest more : Bytes) → [] ≡ (line text ++ rest) ++ more → A
no_line [] rest more e = absurd cc
no_line (b ∷ text) rest more e = absurd cc

-- no command has an empty text
some_text : {A : Type 0} (command : Command) (more : Bytes) → [] ≡ spelling command ++ more → A
some_text command more e =
    let first = begins_with_line command in
    no_line (join_with_byte 32 first.0) (parts_text first.1) more (e ∙ ap (λ parts. parts_text parts ++ more) first.2)

pub split_once : (commands others : List Command) → list_all is_command commands ≡ true → list_all is_command others ≡ true
    → flat_map spelling commands ++ [] ≡ flat_map spelling others ++ [] → others ≡ commands
split_once [] [] h k e = refl
split_once [] (other ∷ others) h k e = some_text other (flat_map spelling others ++ []) (e ∙ append_assoc (spelling other) (flat_map spelling others) [])
split_once (command ∷ commands) [] h k e = some_text command (flat_map spelling commands ++ []) (sym e ∙ append_assoc (spelling command) (flat_map spelling commands) [])
split_once (command ∷ commands) (other ∷ others) h k e =
    let mine = and_parts (is_command command) (list_all is_command commands) h in
    let yours = and_parts (is_command other) (list_all is_command others) k in
    let same = offered_prefix_free command other (flat_map spelling commands ++ []) (flat_map spelling others ++ []) mine.0 yours.0
    (sym (append_assoc (spelling command) (flat_map spelling commands) []) ∙ e ∙ append_assoc (spelling other) (flat_map spelling others) []) in
    let rest = split_once commands others mine.1 yours.1 same.1 in
    λ i. sym same.0 i ∷ rest i

-- ---- the replies

runs_on : (changing faulted : Bool) → faulted ≡ false → not (changing && faulted) ≡ true
runs_on true true e = cc
runs_on true false e = refl
runs_on false faulted e = refl

steps_alike : (old new end : Repository) (commands : List Command) (xs ys : List Reply) → have_no_fault xs ≡ true → have_no_fault ys ≡ true
    → Steps old commands xs new → Steps old commands ys end → AreAllAlike old commands xs ys × (end ≡ new)
steps_alike old new end [] [] [] f g h k = (tt, k ∙ sym h)
steps_alike old new end [] [] (y ∷ ys) f g h k = absurd k
steps_alike old new end [] (x ∷ xs) ys f g h k = absurd h
steps_alike old new end (command ∷ commands) [] ys f g h k = absurd h
steps_alike old new end (command ∷ commands) (x ∷ xs) [] f g h k = absurd k
steps_alike old new end (command ∷ commands) (x ∷ xs) (y ∷ ys) f g (mid, first, _, rest) (other, second, _, more) =
    let mine = and_parts (not (is_faulted x)) (have_no_fault xs) f in
    let yours = and_parts (not (is_faulted y)) (have_no_fault ys) g in
    let whole = not-true (is_faulted x) mine.0 in
    let one = steps_are_determined old mid other command x y whole (not-true (is_faulted y) yours.0) first second in
    let then = steps_alike mid new end commands xs ys mine.1 yours.1 rest (subst (λ (r : Repository). Steps r commands ys end) (sym one.1) more) in
    let told = replies_tell_the_state old mid command x first (runs_on (is_changing command) (is_faulted x) whole) in
    ((one.0, subst (λ (r : Repository). AreAllAlike r commands xs ys) told then.0), then.1)

log_once : (r : Repository) (c : LogCommand) (x y : Reply) → ListsAlike r c x y → leaves_choice c.order ≡ false → y ≡ x
log_once r c x y h none =
    let one : h.walk ≡ h.other = subst (λ b. MatchBool b (DifferAtOneTime (time_at r) h.walk h.other) (h.walk ≡ h.other)) none h.choice in
    h.y_is ∙ ap (λ ids. LogIs (kept r c.paths ids)) (sym one) ∙ sym h.x_is

alike_sure : (r : Repository) (command : Command) (x y : Reply) → AreAlike r command x y → is_sure command ≡ true → y ≡ x
alike_sure r (Commit c) x y h s = sym h
alike_sure r (Tag c) x y h s = sym h
alike_sure r (Move c) x y h s = sym h
alike_sure r (Rename from to) x y h s = sym h
alike_sure r (Delete name at) x y h s = sym h
alike_sure r (Switch name) x y h s = sym h
alike_sure r Pack x y h s = sym h
alike_sure r Index x y h s = sym h
alike_sure r (Names folder) x y h s = sym h
alike_sure r (Files word) x y h s = sym h
alike_sure r (Past name) x y h s = sym h
alike_sure r (Log c) x y (inl same) s = sym same
alike_sure r (Log c) x y (inr h) s = log_once r c x y h (not-true (leaves_choice c.order) s)
alike_sure r (Show word path) x y h s = sym h

all_sure : (r : Repository) (commands : List Command) (xs ys : List Reply) → AreAllAlike r commands xs ys → list_all is_sure commands ≡ true → ys ≡ xs
all_sure r [] [] [] h s = refl
all_sure r [] [] (y ∷ ys) h s = absurd h
all_sure r [] (x ∷ xs) ys h s = absurd h
all_sure r (command ∷ commands) [] ys h s = absurd h
all_sure r (command ∷ commands) (x ∷ xs) [] h s = absurd h
all_sure r (command ∷ commands) (x ∷ xs) (y ∷ ys) h s =
    let sure = and_parts (is_sure command) (list_all is_sure commands) s in
    λ i. alike_sure r command x y h.0 sure.0 i ∷ all_sure (next r command x) commands xs ys h.1 sure.1 i

pub runs_agree : RunsAgree
runs_agree old new end commands others replies answers input output written run f other g =
    let none = run.ends.0 in
    let ours = run.ran.splits.split ∙ ap (λ rest. flat_map spelling commands ++ rest) none in
    let theirs = other.ran.splits.split ∙ ap (λ rest. flat_map spelling others ++ rest) other.ends.0 in
    let same = split_once commands others run.ran.splits.known other.ran.splits.known (sym ours ∙ theirs) in
    let alike = steps_alike old new end commands replies answers f g run.ran.steps (subst (λ (these : List Command). Steps old these answers end) same other.ran.steps) in
    record {
      commands_are = same;
      new_is = alike.1;
      alike = alike.0;
      bytes = λ sure. other.ran.written ∙ (λ i. flat_map reply_text (all_sure old commands replies answers alike.0 sure i) ++ other.ends.2 i)
          ∙ sym (run.ran.written ∙ ap (λ last. flat_map reply_text replies ++ last) run.ends.2);
    }

-- ---- runs that end otherwise

-- Commands in front of a rest are those that the whole input begins with.
split_front : (others commands : List Command) (tail : Bytes) → list_all is_command others ≡ true → list_all is_command commands ≡ true
    → flat_map spelling others ++ tail ≡ flat_map spelling commands ++ [] → (coming : List Command) × (list_all is_command coming ≡ true) × (tail ≡ flat_map spelling coming ++ [])
split_front [] commands tail h k e = (commands, k, e)
split_front (other ∷ others) [] tail h k e = some_text other (flat_map spelling others ++ tail) (sym e ∙ append_assoc (spelling other) (flat_map spelling others) tail)
split_front (other ∷ others) (command ∷ commands) tail h k e =
    let mine = and_parts (is_command other) (list_all is_command others) h in
    let yours = and_parts (is_command command) (list_all is_command commands) k in
    let same = offered_prefix_free other command (flat_map spelling others ++ tail) (flat_map spelling commands ++ []) mine.0 yours.0
    (sym (append_assoc (spelling other) (flat_map spelling others) tail) ∙ e ∙ append_assoc (spelling command) (flat_map spelling commands) []) in
    split_front others commands tail mine.1 yours.1 same.1

take_front : (n : ℕ) (a b : Bytes) → n ≤ length a → take n (a ++ b) ≡ take n a
take_front zero a b le = refl
take_front (suc n) [] b le = absurd (omega arith)
take_front (suc n) (x ∷ a) b le = ap (λ t. x ∷ t) (take_front n a b (omega arith))

-- a text that stops by a cause does so also with more after it, unless it was cut short
stop_stays : (parts : List Part) (tail rest : Bytes) (cause : Cause) → (cause ≡ Truncated → ⊥) → StopsBy parts tail cause → StopsBy parts (tail ++ rest) cause
stop_stays parts tail rest Truncated whole stops = absurd (whole refl)
stop_stays parts tail rest LineTooLong whole (stands, long, none) = (
  stands,
  omega (arith, long, length-append tail rest),
  subst (λ t. has_byte 10 t ≡ false) (sym (take_front (max_line + 1) tail rest (omega (arith, long)))) none,
)
stop_stays parts tail rest Syntax whole (inl (text, more, stands, is, none, le, unfit)) =
    inl (text, more ++ rest, stands, ap (λ t. t ++ rest) is ∙ append_assoc (line text) more rest, none, le, unfit)
stop_stays parts tail rest Syntax whole (inr (bytes, more, byte, stands, is, other)) =
    inr (bytes, more ++ rest, byte, stands, ap (λ t. t ++ rest) is ∙ append_assoc bytes (byte ∷ more) rest, other)
stop_stays parts tail rest cause whole stops = absurd stops

some_more : (a b : Bytes) → a ≢ [] → a ++ b ≢ []
some_more [] b some e = some refl
some_more (x ∷ a) b some e = absurd cc

is_cut : (cause : Cause) → (cause ≡ Truncated) ⊎ (cause ≡ Truncated → ⊥)
is_cut Truncated = inl refl
is_cut cause = inr (λ e. absurd cc)

cause_stays : (tail rest : Bytes) (cause : Cause) → HasRestCause tail cause → (cause ≡ Truncated → rest ≡ []) → HasRestCause (tail ++ rest) cause
cause_stays tail rest cause h cut = by_case (is_cut cause)
  where
    by_case : (cause ≡ Truncated) ⊎ (cause ≡ Truncated → ⊥) → HasRestCause (tail ++ rest) cause
    by_case (inl e) = subst (λ r. HasRestCause (tail ++ r) cause) (sym (cut e)) (subst (λ t. HasRestCause t cause) (sym (append-nil tail)) h)
    by_case (inr whole) = record {
      some = some_more tail rest h.some;
      parts = h.parts;
      tail = h.tail ++ rest;
      split = ap (λ t. t ++ rest) h.split ∙ append_assoc (parts_text h.parts) h.tail rest;
      stops = stop_stays h.parts h.tail rest cause whole h.stops;
    }

-- a run isn't refused over commands alone
never_refused : {A : Type 0} (others commands : List Command) (tail rest input read : Bytes) (cause : Cause) → list_all is_command others ≡ true → list_all is_command commands ≡ true
    → read ≡ flat_map spelling others ++ tail → input ≡ read ++ rest → input ≡ flat_map spelling commands ++ [] → HasRestCause tail cause → (cause ≡ Truncated → rest ≡ []) → A
never_refused others commands tail rest input read cause h k is whole all because cut =
    let split = split_front others commands (tail ++ rest) h k
    (sym (append_assoc (flat_map spelling others) tail rest) ∙ ap (λ t. t ++ rest) (sym is) ∙ sym whole ∙ all) in
    let stays = cause_stays tail rest cause because cut in
    none split.0 split.1 split.2 stays
  where
    none : {A : Type 0} (coming : List Command) → list_all is_command coming ≡ true → tail ++ rest ≡ flat_map spelling coming ++ [] → HasRestCause (tail ++ rest) cause → A
    none [] known e stays = absurd (stays.some e)
    none (command ∷ coming) known e stays =
        absurd (rest_begins_with_none is_command is_spelled (tail ++ rest) (flat_map spelling coming ++ []) cause command stays
        (and_parts (is_command command) (list_all is_command coming) known).0 (e ∙ append_assoc (spelling command) (flat_map spelling coming) []))

pub runs_give : RunsGive
runs_give old new end commands others replies answers input output read rest written Input failed run f sure whole other =
    let ends = other.ends in
    by_fault (have_no_fault answers) refl
  where
    all_read : read ≡ input
    all_read = sym (append-nil read) ∙ ap (λ t. read ++ t) (sym other.ends.1) ∙ sym whole

    again : Runs (Unit {0}) (Unit {0}) old others answers input written Input false end
    again = record {
      rest = other.rest;
      last = other.last;
      ran = record {
        splits = record { known = other.ran.splits.known; split = sym all_read ∙ other.ran.splits.split };
        steps = other.ran.steps;
        fails = sym other.ends.3 ∙ other.ran.fails;
        written = other.ran.written;
        file_faults = other.ran.file_faults;
      };
      ends = (other.ends.0, tt, other.ends.2, refl);
    }

    by_fault : (b : Bool) → have_no_fault answers ≡ b → (written ≡ output) ⊎ TellsFault answers Input
    by_fault true e = inl ((runs_agree old new end commands others replies answers input output written run f again e).bytes sure)
    by_fault false e = inr (inl e)
runs_give old new end commands others replies answers input output read rest written ByRefusal failed run f sure whole other =
    never_refused others commands other.rest rest input read other.ends.0 other.ran.splits.known run.ran.splits.known other.ran.splits.split whole
    (run.ran.splits.split ∙ ap (λ t. flat_map spelling commands ++ t) run.ends.0) other.ends.1.because other.ends.1.at_end
runs_give old new end commands others replies answers input output read rest written ByFault failed run f sure whole other = inr (inr refl)
