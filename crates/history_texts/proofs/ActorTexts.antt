-- What an actor's text says.
use Rattle.std.proofs.Common.{inl, inr, ◌≡◌, ◌≢◌, ◌∙◌, ap, refl, sym, subst, ℕ, ◌≤◌, true, not, ◌&&◌, ◌∷◌, ◌++◌, append_assoc, arith, tests}
use Rattle.std.specs.Prelude.{nat_le, Option, Some, None, MatchOption, IsTrue, IsFalse, codes, decimal}
use Rattle.std.proofs.lemmas.Fmt.{decimal_injective}
use Rattle.history_model.specs.Bytes.{Bytes, has_byte, is_empty}
use Rattle.history_model.specs.Objects.{Actor, actor_text}
use Rattle.history_model.specs.Forms.{is_actor, is_actor_part, is_offset, max_seconds}
use Rattle.history_model.proofs.OnePairTexts.{part_plain, actor_same}
use Rattle.history_model.proofs.WholeTexts.{decimal_high}
use Rattle.std.specs.Prelude.{pos, unsigned_abs, FitsSigned}
use Rattle.std.specs.Int.{w64}
use Rattle.gix_object_lines.specs.Time.{SpellsTime, offset_text}
use Rattle.gix_object_lines.specs.Actor.{SpellsActor}
use Rattle.gix_object_lines.specs.declared.lines.time.Time.{Time}
use Rattle.gix_object_lines.proofs.TimeLemmas.{seconds_written}
use Rattle.gix_object_lines.proofs.ActorLemmas.{time_lacks}
use Rattle.gix_object_lines.specs.Person.{Person, actor_line}
use Rattle.history_texts.specs.Actors.{plain_actor, IsFormed, IsNoTime, IsTimeOf}
use Rattle.gix_object_commit.specs.Commit.{IsPerson}
use Rattle.history_texts.specs.Formats.{actor_of, person_of}
use Rattle.history_texts.specs.declared.actor.Actor as actors
use Rattle.history_texts.proofs.Offsets.{OffsetTold, offset_told}
use Rattle.history_texts.proofs.Spelled.{cut_same}
use Rattle.gix_ref_file.proofs.Rooted.{both}
use Rattle.history_model.proofs.PartLemmas.{one_is_in}

-- a text that is cut at a byte has it
pub stands : (byte : ℕ) (text front back : Bytes) → text ≡ front ++ byte ∷ back → IsFalse (has_byte byte text) → ⊥
stands byte text front back is none = cc (sym none ∙ ap (has_byte byte) is ∙ one_is_in byte front back)

-- ---- actors

pub record ActorParts (actor : Actor) : Type 0 where
  pub named : IsTrue (not (is_empty actor.name))
  pub name : IsTrue (is_actor_part actor.name)
  pub email : IsTrue (is_actor_part actor.email)
  pub seconds : actor.seconds ≤ max_seconds
  pub offset : IsTrue (is_offset actor.offset)

pub actor_parts : (actor : Actor) → IsTrue (is_actor actor) → ActorParts actor
actor_parts actor h =
    let a = both (not (is_empty actor.name) && is_actor_part actor.name && is_actor_part actor.email && nat_le actor.seconds max_seconds) (is_offset actor.offset) h in
    let b = both (not (is_empty actor.name) && is_actor_part actor.name && is_actor_part actor.email) (nat_le actor.seconds max_seconds) a.0 in
    let c = both (not (is_empty actor.name) && is_actor_part actor.name) (is_actor_part actor.email) b.0 in
    let d = both (not (is_empty actor.name)) (is_actor_part actor.name) c.0 in
    record { named = d.0; name = d.1; email = c.1; seconds = small actor.seconds b.1; offset = a.1 }
  where
    small : (n : ℕ) → nat_le n max_seconds ≡ true → n ≤ max_seconds
    small n k = grind (arith, tests)

-- ---- texts

abbrev pub time_words : Actor → Bytes
time_words actor = decimal actor.seconds ++ 32 ∷ actor.offset

pub time_spelled : (actor : Actor) (told : OffsetTold actor.offset) → actor.seconds ≤ max_seconds → SpellsTime (time_words actor) (record { seconds = pos actor.seconds; offset = told.offset })
time_spelled actor told small =
    let fits : FitsSigned w64 (pos actor.seconds) = record { sfits = omega arith } in
    record {
      front = decimal actor.seconds;
      back = actor.offset;
      spelled = refl;
      seconds = seconds_written (pos actor.seconds) fits;
      seconds_fit = fits;
      offset = told.spells;
    }

-- so it may be in an object's line
pub person_formed : (actor : Actor) → IsTrue (is_actor actor) → IsPerson (person_of actor)
person_formed actor formed =
    let parts = actor_parts actor formed in
    let told = offset_told actor.offset parts.offset in
    let spelled = time_spelled actor told parts.seconds in
    record {
      cut = record {
        spelled = refl;
        first = part_plain 60 refl actor.name parts.name;
        last = time_lacks (time_words actor) (record { seconds = pos actor.seconds; offset = told.offset }) spelled;
        name_in_line = part_plain 10 refl actor.name parts.name;
        email_in_line = part_plain 10 refl actor.email parts.email;
      };
      time_told = (record { seconds = pos actor.seconds; offset = told.offset }, spelled);
    }

-- the two ways to spell it are one
pub line_of_person : (actor : Actor) → actor_line (person_of actor) ≡ actor_text actor
line_of_person actor = sym (append_assoc (actor.name ++ codes " <" ++ actor.email ++ codes "> ") (decimal actor.seconds) (32 ∷ actor.offset))

-- actors of equal persons are equal
pub person_tells : (a b : Actor) → IsTrue (is_actor a) → IsTrue (is_actor b) → person_of a ≡ person_of b → a ≡ b
person_tells a b a_formed b_formed same = actor_same a b a_formed b_formed (sym (line_of_person a) ∙ ap actor_line same ∙ line_of_person b)

-- ---- the words of a text's time

-- the words are those of the actor
pub words_same : (actor : Actor) (time seconds offset : Bytes) → time ≡ time_words actor → time ≡ seconds ++ 32 ∷ offset → IsFalse (has_byte 32 seconds) → (seconds ≡ decimal actor.seconds) × (offset ≡ actor.offset)
words_same actor time seconds offset is cut clear = cut_same 32 seconds (decimal actor.seconds) offset actor.offset clear (decimal_high 32 (omega arith) actor.seconds) (sym cut ∙ is)

-- so they are a time
pub time_there : (actor : Actor) (seconds offset : Bytes) → IsTrue (is_actor actor) → (seconds ≡ decimal actor.seconds) × (offset ≡ actor.offset) → IsNoTime seconds offset → ⊥
time_there actor seconds offset formed words (inl none) = none actor.seconds (actor_parts actor formed).seconds words.0
time_there actor seconds offset formed words (inr none) = cc (sym none ∙ ap is_offset words.1 ∙ (actor_parts actor formed).offset)

pub plain_is : (actor : Actor) (name email seconds offset : Bytes) (time : Time) → IsTrue (is_actor actor) → name ≡ actor.name → email ≡ actor.email → (seconds ≡ decimal actor.seconds) × (offset ≡ actor.offset) → IsTimeOf seconds offset time
    → plain_actor name email time ≡ actor
plain_is actor name email seconds offset time formed names emails words told =
    let small = (actor_parts actor formed).seconds in
    let same : unsigned_abs time.seconds ≡ actor.seconds = decimal_injective (unsigned_abs time.seconds) actor.seconds (omega (arith, told.seconds_told.limit)) (omega arith) (sym told.seconds_told.spelled ∙ words.0) in
    let behind = told.offset_told.spelled ∙ words.1 in
    λ i. record { name = names i; email = emails i; seconds = same i; offset = behind i }

-- the words that were read are the time's
pub time_of_words : (time seconds offset : Bytes) (told : Time) → time ≡ seconds ++ 32 ∷ offset → IsTimeOf seconds offset told → time ≡ decimal (unsigned_abs told.seconds) ++ 32 ∷ offset_text told.offset
time_of_words time seconds offset told words is = words ∙ (λ i. is.seconds_told.spelled i ++ 32 ∷ sym is.offset_told.spelled i)

pub formed_there : (actor : Actor) (name email seconds offset : Bytes) (time : Time) → IsTrue (is_actor actor) → plain_actor name email time ≡ actor → IsTimeOf seconds offset time → IsFormed name email time
formed_there actor name email seconds offset time formed same told = record {
  plain_time = record { since = told.seconds_told.since; whole = told.offset_told.whole };
  actor = ap is_actor same ∙ formed;
}

-- an actor that is made of the parts is the person's; if none is made, the person is no actor's
pub answered : (person : Person) (name email : Bytes) (time : Time) (found : Option actors.Actor) → MatchOption found (¬ IsFormed name email time) (λ a. actor_of a ≡ plain_actor name email time)
    → person ≡ person_of (plain_actor name email time) → ((actor : Actor) → IsTrue (is_actor actor) → person ≡ person_of actor → IsFormed name email time)
    → MatchOption found ((a : Actor) → IsTrue (is_actor a) → person ≢ person_of a) (λ a. (person ≡ person_of (actor_of a)) × IsTrue (is_actor (actor_of a)))
answered person name email time None unformed is formed = λ actor has same. unformed (formed actor has same)
answered person name email time (Some a) made is formed = (is ∙ ap person_of (sym made), (a.formed).actor)

-- ---- lines

-- an actor's text is read to its parts
pub parts_read : (text : Bytes) (actor : Actor) → IsTrue (is_actor actor) → text ≡ actor_text actor → SpellsActor text actor.name actor.email (time_words actor)
parts_read text actor formed is = subst (λ t. SpellsActor t actor.name actor.email (time_words actor)) (line_of_person actor ∙ sym is) (person_formed actor formed)

-- whoever reads the parts of a text's actor reads the text
pub text_answered : (text : Bytes) (person : Person) (found : Option actors.Actor) → text ≡ actor_line person
    → ((a : Actor) → IsTrue (is_actor a) → text ≡ actor_text a → person ≡ person_of a)
    → MatchOption found ((a : Actor) → IsTrue (is_actor a) → person ≢ person_of a) (λ a. (person ≡ person_of (actor_of a)) × IsTrue (is_actor (actor_of a)))
    → MatchOption found ((a : Actor) → IsTrue (is_actor a) → text ≢ actor_text a) (λ a. (text ≡ actor_text (actor_of a)) × IsTrue (is_actor (actor_of a)))
text_answered text person None is told none = λ a formed same. none a formed (told a formed same)
text_answered text person (Some a) is told some = (is ∙ ap actor_line some.0 ∙ line_of_person (actor_of a), some.1)
