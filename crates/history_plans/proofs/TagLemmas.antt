-- What a tag is refused for, and what it stores, read from its command.
use Rattle.std.proofs.Common.{◌≡◌, ℕ, ◌<◌, ◌≤◌, refl, sym, ◌∙◌, ap, subst, Bool, true, false, cond, not, ◌&&◌, ◌||◌, List, [], ◌∷◌, ◌++◌, map, length, length-append, nat_le, nat_lt, tests, Option, Some, None, option_map, codes, arith}
use Rattle.std.specs.Prelude.{Result, Err, bytes_eq, unwrap_or}
use Rattle.std.specs.List.{list_any}
use Rattle.std.proofs.lemmas.List.{map-append}
use Rattle.std.proofs.lemmas.Bool.{and_parts, or_parts}
use Rattle.gix_hash.specs.Id.{Id, id_of, null_id}
use Rattle.gix_hash.specs.declared.kind.Kind.{Kind}
use Rattle.gix_hash.specs.declared.object_id.ObjectId.{ObjectId}
use Rattle.history_model.specs.Bytes.{Bytes, begins, is_empty, line}
use Rattle.history_model.specs.Objects.{TagValue, actor_text, hex, tag_content}
use Rattle.history_model.specs.Repository.{HoldsCommit, IsWholeStore}
use Rattle.history_model.specs.Forms.{is_actor, is_id, is_name, is_offset, is_private, is_seconds, is_tag_form, is_tag_name, max_content, max_title, tags_front, title}
use Rattle.history_model.specs.Words.{commit_of, word_meaning}
use Rattle.history_model.specs.Commands.{Tag, TagCommand}
use Rattle.history_model.specs.Meaning.{new_tag, read_actor, tag_rest}
use Rattle.history_model.specs.Causes.{first_cause, holds, is_bad_actor, is_bad_title, moves_nothing, same_id}
use Rattle.history_model.specs.declared.Cause.{Cause}
use Rattle.history_model.specs.declared.Cause.TheVariants.{AmbiguousWord, BadActor, BadMessage, BadName, BadTime, Collides, NotACommit, NothingMoves, TooLarge, UnbornHead, UnknownWord}
use Rattle.history_model.specs.declared.Fault.TheVariants.{File, IdTaken, Memory}
use Rattle.history_model.specs.CommandParts.{at_word}
use Rattle.history_layout.specs.OneNameSteps.{entry_of_move, tag_move}
use Rattle.history_model.proofs.WholePaths.{begins_parts}
use Rattle.history_model.proofs.WholeReads.{read_holds}
use Rattle.history_texts.specs.Formats.{actor_of, entry_of}
use Rattle.history_texts.specs.Tags.{SaysTag}
use Rattle.history_texts.specs.declared.actor.Actor.{Actor}
use Rattle.history_texts.specs.declared.log_entry.LogEntry.{LogEntry}
use Rattle.history_texts.specs.declared.object.NewObject.{NewObject}
use Rattle.history_texts.proofs.Spelled.{and_from, not_from}
use Rattle.history_repository.specs.Reads.{IsReadingFault}
use Rattle.history_plans.specs.Bases.{IsExpected, expected_meanings, held_cause}
use Rattle.history_repository.specs.Meanings.{words_cause, commit_or_cause, is_ambiguous_word, is_not_a_commit, is_unborn_head, is_unknown_word, meaning_of}
use Rattle.history_plans.specs.CommitCauses.{IsToldOf, TestsOf, first_among, held_causes, is_long, name_form_causes, place_causes, word_causes}
use Rattle.history_repository.specs.Held.{IsHeld, held_commit, held_id}
use Rattle.history_plans.specs.Tagging.{IsMadeTag, IsTagBase, MakesTag, PlansTag, is_tag_place, tagger_causes, target_causes}
use Rattle.history_plans.specs.declared.base.Expected.{Expected}
use Rattle.history_repository.specs.declared.held.Held.{Held}
use Rattle.history_repository.specs.declared.stopped.Stopped.{Stopped}
use Rattle.history_plans.specs.declared.tagging.TagBase.{TagBase}
use Rattle.history_plans.specs.declared.tagging.Tagged.{Tagged}
use Rattle.history_repository.specs.declared.words.WordMeaning.{WordMeaning}
use Rattle.history_plans.proofs.BaseLemmas.{expected_told}
use Rattle.history_plans.proofs.Collisions.{one_collides}
use Rattle.history_plans.proofs.LineLemmas.{at_meanings, one_there}
use Rattle.history_repository.proofs.WordCauses.{any_map, words_told as all_words_told}
use Rattle.history_repository.proofs.FieldLemmas.{beyond, within}
use Rattle.history_plans.proofs.FirstCauses.{find_after_none, find_in_front, here, passed}
use Rattle.history_plans.proofs.Planned.{commits_have_ids}
use Rattle.history_model.specs.Repository as plain
use Rattle.history_repository.specs.declared.stopped.Stopped.TheVariants as why
use Rattle.history_repository.specs.declared.words.WordMeaning.TheVariants as read

or_true : (a : Bool) → (a || true) ≡ true
or_true true = refl
or_true false = refl

alone : (b : Bool) → (b || false) ≡ b
alone true = refl
alone false = refl

-- ---- the name

module _ (name : Bytes) where
  -- what a tag's name follows
  pub place_cut : is_tag_place name ≡ true → name ≡ tags_front ++ tag_rest name
  place_cut is = begins_parts tags_front name (and_parts (begins tags_front name) (is_tag_name (tag_rest name)) is).0

  pub place_named : is_tag_place name ≡ true → is_name name ≡ true
  place_named is =
      let full = tags_front ++ tag_rest name in
      let form = (and_parts (begins tags_front name) (is_tag_name (tag_rest name)) is).1 in
      let but = (and_parts (is_name full && not (bytes_eq (tag_rest name) (codes "@"))) (not (begins (codes "-") (tag_rest name))) form).0 in
      ap is_name (place_cut is) ∙ (and_parts (is_name full) (not (bytes_eq (tag_rest name) (codes "@"))) but).0

  pub unnamed : is_name name ≡ false → is_tag_place name ≡ false
  unnamed none = by_test (is_tag_place name) refl
    where
      by_test : (b : Bool) → is_tag_place name ≡ b → b ≡ false
      by_test false e = refl
      by_test true e = cc (place_named e, none)

  pub never_cut : ((rest : Bytes) → name ≡ tags_front ++ rest → ⊥) → is_tag_place name ≡ false
  never_cut none = by_test (is_tag_place name) refl
    where
      by_test : (b : Bool) → is_tag_place name ≡ b → b ≡ false
      by_test false e = refl
      by_test true e = absurd (none (tag_rest name) (place_cut e))

  module _ (own : Bytes) (cut : name ≡ tags_front ++ own) where
    pub own_is : own ≡ tag_rest name
    own_is = sym (ap tag_rest cut)

-- ---- the first of the causes

module _ (r : plain.Repository) (sent : TagCommand) where
  abbrev Tells : List Cause → Option Cause
  Tells causes = first_among causes r (Tag sent)

  abbrev P : Cause → Bool
  P cause = holds cause r (Tag sent)

  abbrev last_causes : List Cause
  last_causes = TooLarge ∷ NothingMoves ∷ []

  abbrev behind_targets : List Cause
  behind_targets = tagger_causes ++ last_causes

  abbrev behind_name : List Cause
  behind_name = target_causes ++ behind_targets

  first_told : first_cause r (Tag sent) ≡ Tells (name_form_causes ++ behind_name)
  first_told = refl

  pub name_refused : is_tag_place sent.name ≡ false → first_cause r (Tag sent) ≡ Some BadName
  name_refused bad = here _ _ _ (ap (λ b. (not (is_name sent.name) || false) || not b) bad ∙ or_true (not (is_name sent.name) || false))

  pub name_told : is_tag_place sent.name ≡ true → Tells name_form_causes ≡ None
  name_told is =
      passed _ _ _ _ ((λ i. (not (place_named sent.name is i) || false) || not (is i)))
      (passed _ _ _ _ (ap (λ n. is_private n || false) (place_cut sent.name is)) refl)

  module _ (named : Tells name_form_causes ≡ None) where
    past_name : first_cause r (Tag sent) ≡ Tells behind_name
    past_name = first_told ∙ find_after_none P name_form_causes behind_name named

    pub target_refused : (cause : Cause) → Tells target_causes ≡ Some cause → first_cause r (Tag sent) ≡ Some cause
    target_refused cause e = past_name ∙ find_in_front P target_causes behind_targets cause e

    module _ (based : Tells target_causes ≡ None) where
      past_target : first_cause r (Tag sent) ≡ Tells behind_targets
      past_target = past_name ∙ find_after_none P target_causes behind_targets based

      pub tagger_refused : (cause : Cause) → Tells (tagger_causes ++ TooLarge ∷ []) ≡ Some cause → first_cause r (Tag sent) ≡ Some cause
      tagger_refused cause e = past_target ∙ find_in_front P (tagger_causes ++ TooLarge ∷ []) (NothingMoves ∷ []) cause e

      module _ (signed : Tells tagger_causes ≡ None) where
        past_tagger : first_cause r (Tag sent) ≡ Tells last_causes
        past_tagger = past_target ∙ find_after_none P tagger_causes last_causes signed

        pub size_refused : max_content < length (tag_content (new_tag r sent)) → first_cause r (Tag sent) ≡ Some TooLarge
        size_refused large = past_tagger ∙ here _ _ _ (alone (nat_lt max_content (length (tag_content (new_tag r sent)))) ∙ beyond max_content (length (tag_content (new_tag r sent))) large)

        module _ (fits : length (tag_content (new_tag r sent)) ≤ max_content) where
          past_size : first_cause r (Tag sent) ≡ Tells (NothingMoves ∷ [])
          past_size = past_tagger ∙ passed _ _ _ _ (alone (nat_lt max_content (length (tag_content (new_tag r sent)))) ∙ within max_content (length (tag_content (new_tag r sent))) fits) refl

          pub nothing_told : moves_nothing r (Tag sent) ≡ true → first_cause r (Tag sent) ≡ Some NothingMoves
          nothing_told is = past_size ∙ ap (λ b. cond b (Some NothingMoves) None) is

          pub none_told : moves_nothing r (Tag sent) ≡ false → first_cause r (Tag sent) ≡ None
          none_told is = past_size ∙ ap (λ b. cond b (Some NothingMoves) None) is

  -- ---- tagger and message

  abbrev is_bad_clock : Bool
  is_bad_clock = not (is_seconds (sent.tagger).seconds) || not (is_offset (sent.tagger).offset)

  pub actor_refused : is_bad_actor sent.tagger ≡ true → Tells (tagger_causes ++ TooLarge ∷ []) ≡ Some BadActor
  actor_refused actor = here _ _ _ (alone (is_bad_actor sent.tagger) ∙ actor)

  module _ (actor : is_bad_actor sent.tagger ≡ false) where
    pub time_refused : is_bad_clock ≡ true → Tells (tagger_causes ++ TooLarge ∷ []) ≡ Some BadTime
    time_refused time = passed _ _ _ _ (alone (is_bad_actor sent.tagger) ∙ actor) (here _ _ _ (alone is_bad_clock ∙ time))

    module _ (time : is_bad_clock ≡ false) where
      pub message_refused : is_bad_title (title sent.message) ≡ true → Tells (tagger_causes ++ TooLarge ∷ []) ≡ Some BadMessage
      message_refused bad = passed _ _ _ _ (alone (is_bad_actor sent.tagger) ∙ actor) (passed _ _ _ _ (alone is_bad_clock ∙ time) (here _ _ _ bad))

      module _ (good : is_bad_title (title sent.message) ≡ false) where
        -- a tag's content holds its message
        long_tag : (tag : TagValue) → max_content < length tag.message → is_long (tag_content tag) ≡ true
        long_tag tag large =
            let front = line (codes "object " ++ hex tag.target) ++ line (codes "type commit") ++ line (codes "tag " ++ tag.name) ++ line (codes "tagger " ++ actor_text tag.tagger) ++ line [] in
            beyond max_content (length (front ++ tag.message)) (omega (arith, large, length-append front tag.message))

        pub length_refused : max_content < length sent.message → Tells (tagger_causes ++ TooLarge ∷ []) ≡ Some TooLarge
        length_refused large = passed _ _ _ _ (alone (is_bad_actor sent.tagger) ∙ actor) (passed _ _ _ _ (alone is_bad_clock ∙ time) (passed _ _ _ _ good (here _ _ _ (alone (is_long (tag_content (new_tag r sent))) ∙ long_tag (new_tag r sent) large))))

        pub none_refused : Tells tagger_causes ≡ None
        none_refused = passed _ _ _ _ (alone (is_bad_actor sent.tagger) ∙ actor) (passed _ _ _ _ (alone is_bad_clock ∙ time) (passed _ _ _ _ good refl))

-- ---- what the causes rule out

-- a tagger who isn't refused has a message that can be one
pub good_title : (r : plain.Repository) (sent : TagCommand) → first_among tagger_causes r (Tag sent) ≡ None → is_bad_title (title sent.message) ≡ false
good_title r sent none = third (holds BadActor r (Tag sent)) (holds BadTime r (Tag sent)) (is_bad_title (title sent.message)) none
  where
    third : (a b c : Bool) → cond a (Some BadActor) (cond b (Some BadTime) (cond c (Some BadMessage) None)) ≡ None → c ≡ false
    third true b c e = cc
    third false true c e = cc
    third false false true e = cc
    third false false false e = refl

title_parts : (text : Bytes) → is_bad_title text ≡ false → (is_empty text ≡ false) × (nat_lt max_title (length text) ≡ false)
title_parts text good =
    let a = or_parts _ _ good in
    let b = or_parts _ _ a.0 in
    let c = or_parts _ _ b.0 in
    or_parts (is_empty text) (nat_lt max_title (length text)) c.0

some_message : (message : Bytes) → is_empty (title message) ≡ false → is_empty message ≡ false
some_message [] some = some
some_message (b ∷ message) some = refl

-- ---- the tag

module _ (r : plain.Repository) (sent : TagCommand) (store : IsWholeStore r) (commit : ObjectId) (reads : commit_of r sent.word ≡ Some (id_of commit)) (place : is_tag_place sent.name ≡ true)
    (tagger : Actor) (told : actor_of tagger ≡ read_actor sent.tagger) (good : is_bad_title (title sent.message) ≡ false) where
  target_is : id_of commit ≡ (new_tag r sent).target
  target_is = sym (ap (λ found. unwrap_or found (null_id r.kind)) reads)

  target_formed : is_id r.kind (new_tag r sent).target ≡ true
  target_formed =
      let holds_it : HoldsCommit r (id_of commit) = read_holds r store (word_meaning r sent.word) (id_of commit) reads in
      subst (λ id. is_id r.kind id ≡ true) target_is (and_parts (is_id r.kind (id_of commit)) true (commits_have_ids r store (id_of commit ∷ []) (holds_it, tt))).0

  tag_formed : is_tag_form r.kind (new_tag r sent) ≡ true
  tag_formed =
      let parts = title_parts (title sent.message) good in
      and_from _ _
      (and_from _ _
      (and_from _ _
      (and_from _ _ target_formed (and_parts (begins tags_front sent.name) (is_tag_name (tag_rest sent.name)) place).1)
      (subst (λ a. is_actor a ≡ true) told (tagger.formed).actor))
      (not_from _ (some_message sent.message parts.0)))
      (short (length (title sent.message)) parts.1)
    where
      short : (n : ℕ) → nat_lt max_title n ≡ false → nat_le n max_title ≡ true
      short n small = grind (arith, tests)

  pub tag_said : (own message : Bytes) → own ≡ tag_rest sent.name → message ≡ sent.message → SaysTag r.kind commit own tagger message (new_tag r sent)
  tag_said own message own_is message_is = record { form = tag_formed; target_is = target_is; name_is = own_is; tagger_is = told; message_is = message_is }

-- the store's kind is the repository's, so what is said for one kind is said for the other
pub tag_told : (kind : Kind) (r : plain.Repository) (sent : TagCommand) → kind ≡ r.kind → (commit : ObjectId) (own : Bytes) (tagger : Actor) (message : Bytes) (result : Result NewObject Stopped)
    → ((value : TagValue) → SaysTag kind commit own tagger message value → MakesTag kind value result) → SaysTag r.kind commit own tagger message (new_tag r sent) → MakesTag r.kind (new_tag r sent) result
tag_told kind r sent same commit own tagger message result told said =
    subst (λ (k : Kind). SaysTag k commit own tagger message (new_tag r sent) → MakesTag k (new_tag r sent) result) same (told (new_tag r sent)) said

-- how its name moves
pub entry_told : (r : plain.Repository) (sent : TagCommand) (held : Option Held) (object : NewObject) (entry : LogEntry) → IsHeld r sent.name held → IsMadeTag r.kind (new_tag r sent) object
    → id_of entry.before ≡ unwrap_or (option_map held_id held) (null_id r.kind) → entry.after ≡ object.id → actor_of entry.actor ≡ read_actor sent.tagger → entry.message.items ≡ title sent.message
    → entry_of entry ≡ entry_of_move r (tag_move r sent)
entry_told r sent held object entry held_is made before after actor message =
    let before_is = before ∙ ap (λ found. unwrap_or found (null_id r.kind)) held_is.id in
    let after_is = ap id_of after ∙ made.id in
    λ i. record { before = before_is i; after = after_is i; actor = actor i; message = message i }

-- whether the name holds this very tag
pub same_told : (r : plain.Repository) (sent : TagCommand) (held : Option Held) (found : Option ObjectId) (object : NewObject) → IsHeld r sent.name held → option_map id_of found ≡ option_map held_id held → IsMadeTag r.kind (new_tag r sent) object
    → same_id (option_map id_of found) (Some (id_of object.id)) ≡ moves_nothing r (Tag sent)
same_told r sent held found object held_is is made = λ i. same_id ((is ∙ held_is.id) i) (Some (made.id i))

-- ---- words and name

-- a word that means no commit is refused among all words
pub all_commits : (front : List (Result Id Cause)) (meaning : WordMeaning) (cause : Cause) → words_cause (front ++ meaning_of meaning ∷ []) ≡ None → meaning_of meaning ≡ Err cause → ⊥
all_commits front meaning cause none = go meaning none
  where
    none_of : (a b c d : Bool) → cond a (Some UnknownWord) (cond b (Some AmbiguousWord) (cond c (Some UnbornHead) (cond d (Some NotACommit) None))) ≡ None → (a ≡ false) × (b ≡ false) × (c ≡ false) × (d ≡ false)
    none_of true b c d e = absurd cc
    none_of false true c d e = absurd cc
    none_of false false true d e = absurd cc
    none_of false false false true e = absurd cc
    none_of false false false false e = (refl, refl, refl, refl)

    there : (test : Result Id Cause → Bool) (m : Result Id Cause) → test m ≡ true → list_any test (front ++ m ∷ []) ≡ true
    there test m is = one_there test front [] (front ++ m ∷ []) m refl is

    go : (m : WordMeaning) → words_cause (front ++ meaning_of m ∷ []) ≡ None → meaning_of m ≡ Err cause → ⊥
    go (read.Commit id) none is = cc
    go read.NoCommit none is = cc ((none_of _ _ _ _ none).3, there is_not_a_commit (Err NotACommit) refl)
    go read.Unborn none is = cc ((none_of _ _ _ _ none).2, there is_unborn_head (Err UnbornHead) refl)
    go read.Unknown none is = cc ((none_of _ _ _ _ none).0, there is_unknown_word (Err UnknownWord) refl)
    go read.Ambiguous none is = cc ((none_of _ _ _ _ none).1, there is_ambiguous_word (Err AmbiguousWord) refl)

module _ (r : plain.Repository) (sent : TagCommand) where
  pub words_so : (what : Expected) (meaning : WordMeaning) → IsExpected r sent.expect what → meaning_of meaning ≡ commit_or_cause r sent.word
      → first_among word_causes r (Tag sent) ≡ words_cause (expected_meanings what ++ meaning_of meaning ∷ [])
  words_so what meaning is reads =
      let words = at_word sent.expect ++ sent.word ∷ [] in
      all_words_told r words (map (commit_or_cause r) words) (λ test. any_map test (commit_or_cause r) words) None
      ∙ ap words_cause (map-append (commit_or_cause r) (at_word sent.expect) (sent.word ∷ []) ∙ (λ i. sym (at_meanings r sent.expect what is) i ++ sym reads i ∷ []))

  pub held_so : (what : Expected) (held : Option Held) (commit : Option ObjectId) → IsExpected r sent.expect what → IsHeld r sent.name held → option_map id_of commit ≡ option_map held_commit held
      → first_among held_causes r (Tag sent) ≡ held_cause what (option_map id_of commit)
  held_so what held commit is held_is same = expected_told r sent.name sent.expect what held commit is held_is same

  pub place_so : (collides : Bool) → one_collides r sent.name ≡ collides → first_among place_causes r (Tag sent) ≡ cond collides (Some Collides) None
  place_so collides is = λ i. cond (is i) (Some Collides) None

-- ---- stops

-- if it isn't based, nothing is planned
pub base_planned : (r : plain.Repository) (sent : TagCommand) → first_among name_form_causes r (Tag sent) ≡ None → (MayFail : Type 0) (result : Result TagBase Stopped) (ends : Result Tagged Stopped) (stopped : Stopped)
    → result ≡ Err stopped → ends ≡ Err stopped → TestsOf MayFail target_causes r (Tag sent) (IsTagBase r sent) result → PlansTag MayFail r sent ends
base_planned r sent named MayFail result ends stopped was is_end tests =
    subst (PlansTag MayFail r sent) (sym is_end) (by_case stopped (subst (λ (x : Result TagBase Stopped). TestsOf MayFail target_causes r (Tag sent) (IsTagBase r sent) x) was tests))
  where
    by_case : (stopped : Stopped) → IsToldOf MayFail target_causes r (Tag sent) stopped → PlansTag MayFail r sent (Err stopped)
    by_case (why.Refused cause) h = target_refused r sent named cause h
    by_case (why.Fault fault) h = h

-- a fault of reading is one of reading the base
pub fault_based : (MayFail : Type 0) (r : plain.Repository) (sent : TagCommand) (ends : Result TagBase Stopped) (stopped : Stopped) → ends ≡ Err stopped → IsReadingFault MayFail stopped → TestsOf MayFail target_causes r (Tag sent) (IsTagBase r sent) ends
fault_based MayFail r sent ends stopped is_end told = subst (λ (x : Result TagBase Stopped). TestsOf MayFail target_causes r (Tag sent) (IsTagBase r sent) x) (sym is_end) (by_case stopped told)
  where
    by_case : (stopped : Stopped) → IsReadingFault MayFail stopped → IsToldOf MayFail target_causes r (Tag sent) stopped
    by_case (why.Refused cause) h = absurd h
    by_case (why.Fault fault) h = h

-- if its object isn't made, nothing is planned
pub object_planned : (r : plain.Repository) (sent : TagCommand) → (max_content < length (tag_content (new_tag r sent)) → first_cause r (Tag sent) ≡ Some TooLarge) → (MayFail : Type 0) (result : Result NewObject Stopped) (ends : Result Tagged Stopped) (stopped : Stopped)
    → result ≡ Err stopped → ends ≡ Err stopped → MakesTag r.kind (new_tag r sent) result → PlansTag MayFail r sent ends
object_planned r sent large MayFail result ends stopped was is_end makes =
    subst (PlansTag MayFail r sent) (sym is_end) (by_case stopped (subst (MakesTag r.kind (new_tag r sent)) was makes))
  where
    by_case : (stopped : Stopped) → MakesTag r.kind (new_tag r sent) (Err stopped) → PlansTag MayFail r sent (Err stopped)
    by_case (why.Refused cause) h = subst (λ (c : Cause). first_cause r (Tag sent) ≡ Some c) (sym h.0) (large h.1)
    by_case (why.Fault Memory) h = tt
    by_case (why.Fault File) h = absurd h
    by_case (why.Fault IdTaken) h = absurd h
