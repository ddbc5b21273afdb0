-- The time of an actor's line, and the actor.
use Rattle.std.proofs.Common.{◌≡◌, pos, Bool, true, false, not, ◌&&◌, ◌||◌, ◌⊎◌, inl, inr, Option, Some, None, refl, sym, ◌∙◌, ap, nat_le}
use Rattle.std.specs.Prelude.{MatchOption, unsigned_abs}
use Rattle.gix_object_lines.specs.declared.lines.time.Time.{Time}
use Rattle.history_model.specs.Bytes.{Bytes, is_decimal, is_empty, digits_value}
use Rattle.history_model.specs.Causes.{is_bad_actor}
use Rattle.history_model.specs.Commands.{ActorLine}
use Rattle.history_model.specs.Meaning.{read_actor}
use Rattle.history_texts.specs.Actors.{plain_actor, IsFormed, IsNoTime, IsTimeOf}
use Rattle.history_texts.specs.Formats.{actor_of}
use Rattle.history_texts.specs.declared.actor.Actor.{Actor}
use Rattle.history_plans.specs.CommitCauses.{IsTime, ReadsTime}
use Rattle.history_model.specs.Forms.{is_seconds, is_offset, is_actor, is_actor_part, max_seconds}
use Rattle.std.proofs.lemmas.Bool.{and_parts}
use Rattle.history_repository.proofs.SecondsLemmas.{good_seconds, spells_none, spells_some}

neither : (a b : Bool) → (a ≡ false) ⊎ (b ≡ false) → (not a || not b) ≡ true
neither true b (inl e) = cc
neither false b (inl e) = refl
neither true b (inr e) = ap not e
neither false b (inr e) = refl

-- a time read from the line's seconds and offset is the line's time
pub time_read : (line : ActorLine) (seconds offset : Bytes) (found : Option Time) → seconds ≡ line.seconds → offset ≡ line.offset → MatchOption found (IsNoTime seconds offset) (IsTimeOf seconds offset) → ReadsTime line found
time_read line seconds offset None same also (inl none) = neither (is_seconds line.seconds) (is_offset line.offset) (inl (ap is_seconds (sym same) ∙ spells_none seconds none))
time_read line seconds offset None same also (inr none) = neither (is_seconds line.seconds) (is_offset line.offset) (inr (ap is_offset (sym also) ∙ none))
time_read line seconds offset (Some time) same also told =
    let read = spells_some seconds (unsigned_abs time.seconds) told.seconds_told.limit told.seconds_told.spelled in
    record {
      good_seconds = ap is_seconds (sym same) ∙ read.0;
      good_offset = ap is_offset (sym also) ∙ told.offset_told.formed;
      seconds = told.seconds_told.since ∙ ap pos (read.1 ∙ ap digits_value same);
      whole = told.offset_told.whole;
      offset = told.offset_told.spelled ∙ also;
    }

-- ---- an actor is made of good parts

all_good : (empty name email seconds offset : Bool) → (empty || not name || not email) ≡ false → seconds ≡ true → offset ≡ true → (not empty && name && email && seconds && offset) ≡ true
all_good true name email seconds offset bad s o = cc
all_good false true true seconds offset bad s o = λ i. true && s i && o i
all_good false true false seconds offset bad s o = cc
all_good false false email seconds offset bad s o = cc

pub plain_is : (line : ActorLine) (name email : Bytes) (time : Time) → name ≡ line.name → email ≡ line.email → IsTime line time → plain_actor name email time ≡ read_actor line
plain_is line name email time names emails h = λ i. record { name = names i; email = emails i; seconds = unsigned_abs (h.seconds i); offset = h.offset i }

pub line_formed : (line : ActorLine) (name email : Bytes) (time : Time) → name ≡ line.name → email ≡ line.email → is_bad_actor line ≡ false → IsTime line time → IsFormed name email time
line_formed line name email time names emails good h = record {
  plain_time = record { since = h.seconds ∙ ap (λ s. pos (unsigned_abs s)) (sym h.seconds); whole = h.whole };
  actor = ap is_actor (plain_is line name email time names emails h)
      ∙ all_good (is_empty line.name) (is_actor_part line.name) (is_actor_part line.email) (nat_le (digits_value line.seconds) max_seconds) (is_offset line.offset) good (and_parts (is_decimal line.seconds) _ h.good_seconds).1 h.good_offset;
}

-- so the actor is there, and it is the line's
pub actor_made : (line : ActorLine) (name email : Bytes) (time : Time) (found : Option Actor) → MatchOption found (¬ IsFormed name email time) (λ actor. actor_of actor ≡ plain_actor name email time)
    → name ≡ line.name → email ≡ line.email → is_bad_actor line ≡ false → IsTime line time → MatchOption found ⊥ (λ actor. actor_of actor ≡ read_actor line)
actor_made line name email time None unformed names emails good h = unformed (line_formed line name email time names emails good h)
actor_made line name email time (Some actor) made names emails good h = made ∙ plain_is line name email time names emails h
