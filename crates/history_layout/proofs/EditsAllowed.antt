-- If no cause holds of a command, its names can be moved and removed in one transaction.
use Rattle.std.proofs.Common.{◌≡◌, ◌⊎◌, ℕ, inl, inr, Bool, true, false, cond, not, ◌&&◌, ◌||◌, List, [], ◌∷◌, map, length, refl, sym, ◌∙◌, ap, subst, arith, tests, Option, Some, None, option_map, unwrap_or, bytes_eq, nat_le, nat_lt, ◌==◌}
use Rattle.std.specs.List.{AllByRecursion, list_any, list_all}
use Rattle.std.specs.Option.{option_to_list}
use Rattle.std.specs.FinMap.{get}
use Rattle.std.proofs.lemmas.Bool.{and_from, and_parts, or_from, or_parts, not-false, not_from_false}
use Rattle.std.proofs.lemmas.List.{append-nil}
use Rattle.std.proofs.lemmas.List.Sums.{take_while-cons}
use Rattle.gix_hash.specs.Id.{Id, null_id}
use Rattle.history_model.specs.Bytes.{Bytes, digits_value, has_byte, has_twice, is_decimal, is_empty}
use Rattle.history_model.specs.FileMap.{is_below}
use Rattle.history_model.specs.Repository.{Repository, Reference, id_at, stands}
use Rattle.history_model.specs.Forms.{IsWritten, is_actor, is_actor_part, is_id, is_log_entry, is_name, is_offset, is_seconds, max_seconds, max_title, title}
use Rattle.history_model.specs.Commands.{ActorLine, Command, Commit, Tag, Move, To, Rename, Delete}
use Rattle.history_model.specs.CommandParts.{actors_in, targets}
use Rattle.history_model.specs.Meaning.{after, read_actor}
use Rattle.history_model.specs.Causes.{do_collide, first_cause, is_bad_actor, is_bad_title}
use Rattle.history_model.specs.declared.Cause.TheVariants.{BadActor, BadMessage, BadTime, NameTwice, NoSuchName}
use Rattle.history_model.specs.laws.Wholeness.{IsSound}
use Rattle.history_model.proofs.IdLemmas.{null_is_id}
use Rattle.history_model.proofs.PlaceLemmas.{texts_apart, apart_texts}
use Rattle.history_model.proofs.WholeForms.{after_written, name_parts}
use Rattle.history_model.proofs.WholeLists.{In, all_in, in_either, none_is_some, none_passes, of_map}
use Rattle.history_model.proofs.WholeNames.{apart_after, names_from}
use Rattle.history_model.proofs.WholeReads.{no_cause, tests_bad_actor, tests_bad_message, tests_bad_time, tests_no_such_name}
use Rattle.history_model.proofs.WholeSteps.{contains_in}
use Rattle.history_layout.specs.EditFits.{IsNextEntry, MayStand, CanBeEdited, CommitsCanBeEdited, TagsCanBeEdited, MovesCanBeEdited, RenamesCanBeEdited, DeletesCanBeEdited}
use Rattle.history_layout.specs.EditSteps.{MovedName, moved_name, edited_names, AreEditsOf, MayTake, MovesTo}
use Rattle.history_layout.specs.CommandEdits.{moved_on}
use Rattle.history_layout.proofs.EditedNames.{id_formed}
use Rattle.history_layout.proofs.EditsOfCommands.{names_of_lines, commits_edit, tags_edit, moves_edit, renames_edit, deletes_edit}

-- ---- the forms of an entry

together : (empty name email decimal seconds offset : Bool) → (empty || not name || not email) ≡ false → (not (decimal && seconds) || not offset) ≡ false
    → (not empty && name && email && seconds && offset) ≡ true
together true name email decimal seconds offset a t = cc
together false false email decimal seconds offset a t = cc
together false true false decimal seconds offset a t = cc
together false true true false seconds offset a t = cc
together false true true true false offset a t = cc
together false true true true true false a t = cc
together false true true true true true a t = refl

abbrev is_untimely : ActorLine → Bool
is_untimely actor = not (is_seconds actor.seconds) || not (is_offset actor.offset)

actor_formed : (r : Repository) (command : Command) → first_cause r command ≡ None → (a : ActorLine) → In a (actors_in command) → list_any is_untimely (actors_in command) ≡ false → is_actor (read_actor a) ≡ true
actor_formed r command none a i times =
    together (is_empty a.name) (is_actor_part a.name) (is_actor_part a.email) (is_decimal a.seconds) (nat_le (digits_value a.seconds) max_seconds) (is_offset a.offset)
    (none_passes is_bad_actor (actors_in command) (no_cause r command none BadActor tests_bad_actor) a i)
    (none_passes is_untimely (actors_in command) times a i)

-- a message that a log's entry may have
abbrev IsLine : Bytes → Type 0
IsLine message = (has_byte 10 message ≡ false) × (nat_le (length message) max_title ≡ true)

fits_test : (m n : ℕ) → nat_lt m n ≡ false → nat_le n m ≡ true
fits_test m n h = grind (arith, tests)

title_short : (text : Bytes) → is_bad_title text ≡ false → nat_le (length text) max_title ≡ true
title_short text h =
    let a = or_parts (is_empty text || nat_lt max_title (length text) || has_byte 9 text || has_byte 13 text) (has_byte 0 text) h in
    let b = or_parts (is_empty text || nat_lt max_title (length text) || has_byte 9 text) (has_byte 13 text) a.0 in
    let c = or_parts (is_empty text || nat_lt max_title (length text)) (has_byte 9 text) b.0 in
    fits_test max_title (length text) (or_parts (is_empty text) (nat_lt max_title (length text)) c.0).1

title_more : (b : ℕ) (message : Bytes) → title (b ∷ message) ≡ cond (not (b == 10)) (b ∷ title message) []
title_more b message = take_while-cons (λ x. not (x == 10)) b message

title_one : (message : Bytes) → has_byte 10 (title message) ≡ false
title_one [] = refl
title_one (b ∷ message) = ap (has_byte 10) (title_more b message) ∙ go (b == 10) refl (title_one message)
  where
    go : (t : Bool) → (b == 10) ≡ t → has_byte 10 (title message) ≡ false → has_byte 10 (cond (not t) (b ∷ title message) []) ≡ false
    go true e rest = refl
    go false e rest = or_from (b == 10) (has_byte 10 (title message)) e rest

title_whole : (message : Bytes) → has_byte 10 message ≡ false → title message ≡ message
title_whole [] h = refl
title_whole (b ∷ message) h =
    let parts = or_parts (b == 10) (has_byte 10 message) h in
    title_more b message ∙ ap (λ t. cond (not t) (b ∷ title message) []) parts.0 ∙ ap (λ bs. b ∷ bs) (title_whole message parts.1)

title_line : (message : Bytes) → is_bad_title (title message) ≡ false → IsLine (title message)
title_line message h = (title_one message, title_short (title message) h)

-- The entry is from what the name holds, and its actor and its message are of a log.
record IsSigned (r : Repository) (m : MovedName) : Type 0 where
  before : m.entry.before ≡ unwrap_or (id_at r m.name) (null_id r.kind)
  actor : is_actor m.entry.actor ≡ true
  message : IsLine m.entry.message

before_formed : (r : Repository) → IsWritten r → (name : Bytes) → is_id r.kind (unwrap_or (id_at r name) (null_id r.kind)) ≡ true
before_formed r written name = go (get r.names name) refl
  where
    go : (o : Option Reference) → get r.names name ≡ o → is_id r.kind (unwrap_or (option_map (λ (ref : Reference). ref.id) o) (null_id r.kind)) ≡ true
    go None at = null_is_id r.kind
    go (Some ref) at = (and_parts (is_id r.kind ref.id) (list_all (is_log_entry r.kind) ref.moves) (name_parts r written name ref at).1).0

-- ---- the edits of a command

module _ (r : Repository) (command : Command) (moved : List MovedName) (taken : Option Bytes) (sound : IsSound r) (none : first_cause r command ≡ None) (are : AreEditsOf r command moved taken)
    (gone : MayStand r taken) where
  -- a name that exists, or is to hold an id
  abbrev IsThere : Bytes → Type 0
  IsThere name = (stands r name ≡ true) ⊎ In name (targets r command)

  moved_there : (name : Bytes) (id : Id) → id_at (after r command) name ≡ Some id → IsThere name
  moved_there name id held = go (get (after r command).names name) refl held
    where
      go : (o : Option Reference) → get (after r command).names name ≡ o → option_map (λ (ref : Reference). ref.id) o ≡ Some id → IsThere name
      go None at e = none_is_some id e
      go (Some ref) at e = names_from r command name ref at

  of_moved : (name : Bytes) → In name (map moved_name moved) → IsThere name
  of_moved name i =
      let from = of_map moved_name name moved i in
      subst (λ n. IsThere n) (sym from.2) (moved_there (from.0).name (from.0).entry.after (all_in (MovesTo r command) moved are.each from.0 from.1).holds)

  of_taken : (t : Option Bytes) → MayStand r t → (name : Bytes) → In name (option_to_list t) → IsThere name
  of_taken None there name i = absurd i
  of_taken (Some other) there name (inl e) = inl (ap (stands r) e ∙ there)
  of_taken (Some other) there name (inr i) = absurd i

  of_edited : (name : Bytes) → In name (edited_names moved taken) → IsThere name
  of_edited name i = elim (in_either name (map moved_name moved) (option_to_list taken) i) [
    | inl among ↦ of_moved name among
    | inr among ↦ of_taken taken gone name among
  ]

  not_collide : (name other : Bytes) → IsThere name → IsThere other → do_collide name other ≡ false
  not_collide name other a b = or_from (is_below name other) (is_below other name) (apart_after r sound.whole command none name other a b) (apart_after r sound.whole command none other name b a)

  next_entry : (m : MovedName) → MovesTo r command m → IsSigned r m → IsNextEntry r m
  next_entry m to signed = record {
    formed =
        and_from (is_id r.kind m.entry.before && is_id r.kind m.entry.after && is_actor m.entry.actor && not (has_byte 10 m.entry.message)) (nat_le (length m.entry.message) max_title)
        (and_from (is_id r.kind m.entry.before && is_id r.kind m.entry.after && is_actor m.entry.actor) (not (has_byte 10 m.entry.message))
        (and_from (is_id r.kind m.entry.before && is_id r.kind m.entry.after) (is_actor m.entry.actor)
        (and_from (is_id r.kind m.entry.before) (is_id r.kind m.entry.after) own_before own_after) signed.actor)
        (not_from_false (has_byte 10 m.entry.message) signed.message.0)) signed.message.1;
    before = signed.before;
  }
    where
      own_before : is_id r.kind m.entry.before ≡ true
      own_before = ap (is_id r.kind) signed.before ∙ before_formed r sound.written m.name

      own_after : is_id r.kind m.entry.after ≡ true
      own_after = id_formed r command (after_written r sound.whole sound.written command none) m to

  next_entries : (ms : List MovedName) → AllByRecursion (MovesTo r command) ms → AllByRecursion (IsSigned r) ms → AllByRecursion (IsNextEntry r) ms
  next_entries [] to signed = tt
  next_entries (m ∷ ms) to signed = (next_entry m to.0 signed.0, next_entries ms to.1 signed.1)

  all_named : (ms : List MovedName) (t : Option Bytes) → AllByRecursion (MovesTo r command) ms → MayTake r command moved t → AllByRecursion (λ name. is_name name ≡ true) (edited_names ms t)
  all_named [] None to takes = tt
  all_named [] (Some name) to takes = (takes.named, tt)
  all_named (m ∷ ms) t to takes = ((to.0).named, all_named ms t to.1 takes)

  can_be_edited : has_twice bytes_eq (edited_names moved taken) ≡ false → AllByRecursion (IsSigned r) moved → CanBeEdited r moved taken
  can_be_edited once signed = record {
    named = all_named moved taken are.each are.gone;
    once = once;
    apart = λ name other i there. not_collide name other (of_moved name (contains_in (map moved_name moved) name i))
        (elim there [ inl e ↦ inl e | inr j ↦ of_edited other (contains_in (edited_names moved taken) other j) ]);
    each = next_entries moved are.each signed;
    gone = gone;
  }

-- ---- each command

pub commits_can_be_edited : CommitsCanBeEdited
commits_can_be_edited r c sound none = can_be_edited r (Commit c) _ None sound none (commits_edit r c sound none) tt refl (
  record {
    before = refl;
    actor = actor_formed r (Commit c) none c.committer (inr (inl refl)) (no_cause r (Commit c) none BadTime tests_bad_time);
    message = title_line c.message (no_cause r (Commit c) none BadMessage tests_bad_message);
  },
  tt,
)

pub tags_can_be_edited : TagsCanBeEdited
tags_can_be_edited r c sound none = can_be_edited r (Tag c) _ None sound none (tags_edit r c sound none) tt refl (
  record {
    before = refl;
    actor = actor_formed r (Tag c) none c.tagger (inl refl) (no_cause r (Tag c) none BadTime tests_bad_time);
    message = title_line c.message (no_cause r (Tag c) none BadMessage tests_bad_message);
  },
  tt,
)

pub moves_can_be_edited : MovesCanBeEdited
moves_can_be_edited r c sound none = can_be_edited r (Move c) (map (moved_on r c) c.to) None sound none (moves_edit r c sound none) tt once (signed c.to)
  where
    once : has_twice bytes_eq (edited_names (map (moved_on r c) c.to) None) ≡ false
    once = ap (has_twice bytes_eq) (append-nil (map moved_name (map (moved_on r c) c.to)) ∙ names_of_lines r c c.to) ∙ no_cause r (Move c) none NameTwice (inr (inr (inl refl)))

    actor : is_actor (read_actor c.actor) ≡ true
    actor = actor_formed r (Move c) none c.actor (inl refl) (no_cause r (Move c) none BadTime tests_bad_time)

    bad : (is_bad_title (title c.message) ≡ false) × (has_byte 10 c.message ≡ false)
    bad = or_parts (is_bad_title (title c.message)) (has_byte 10 c.message) (no_cause r (Move c) none BadMessage tests_bad_message)

    message : IsLine c.message
    message = subst IsLine (title_whole c.message bad.1) (title_line c.message bad.0)

    signed : (lines : List To) → AllByRecursion (IsSigned r) (map (moved_on r c) lines)
    signed [] = tt
    signed (to ∷ lines) = (record { before = refl; actor = actor; message = message }, signed lines)

pub renames_can_be_edited : RenamesCanBeEdited
renames_can_be_edited r from to sound none = can_be_edited r (Rename from to) _ (Some from) sound none (renames_edit r from to sound none) there once (record { before = refl; actor = refl; message = (refl, refl) }, tt)
  where
    there : stands r from ≡ true
    there = not-false (stands r from) (none_passes (λ name. not (stands r name)) (from ∷ []) (no_cause r (Rename from to) none NoSuchName tests_no_such_name) from (inl refl))

    apart : bytes_eq to from ≡ false
    apart = texts_apart to from (λ same. apart_texts from to (no_cause r (Rename from to) none NameTwice (inr (inr (inl refl)))) (sym same))

    once : has_twice bytes_eq (to ∷ from ∷ []) ≡ false
    once = ap (λ b. (b || false) || false) apart

pub deletes_can_be_edited : DeletesCanBeEdited
deletes_can_be_edited r name at sound none = can_be_edited r (Delete name at) [] (Some name) sound none (deletes_edit r name at sound none) there refl tt
  where
    there : stands r name ≡ true
    there = not-false (stands r name) (none_passes (λ n. not (stands r n)) (name ∷ []) (no_cause r (Delete name at) none NoSuchName tests_no_such_name) name (inl refl))
