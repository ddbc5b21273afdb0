-- What a name, an email and a time mean as an actor of the plain repository.
use Rattle.std.specs.Prelude.{ℕ, ℤ, pos, ◌≡◌, ◌≢◌, ◌≤◌, ◌⊎◌, IsTrue, IsFalse, decimal, unsigned_abs}
use Rattle.gix_object_lines.specs.Time.{IsSpellableOffset, offset_text}
use Rattle.gix_object_lines.specs.declared.lines.actor.Actor as lines
use Rattle.gix_object_lines.specs.declared.lines.time.Time.{Time}
use Rattle.history_model.specs.Bytes.{Bytes}
use Rattle.history_model.specs.Forms.{is_actor, is_offset, max_seconds}
use Rattle.history_model.specs.Objects.{Actor}

abbrev pub plain_actor : Bytes → Bytes → Time → Actor
plain_actor name email time =
    record {
      name =
          name;
      email = email;
      seconds = unsigned_abs time.seconds;
      offset = offset_text time.offset;
    }

-- since 1970, with an offset of whole minutes below 100 hours
pub record IsPlainTime (time : Time) : Type 0 where
  pub since : time.seconds ≡ pos (unsigned_abs time.seconds)
  pub whole : IsSpellableOffset time.offset

-- the three make an actor of the written form
pub record IsFormed (name email : Bytes) (time : Time) : Type 0 where
  pub plain_time : IsPlainTime time
  pub actor : IsTrue (is_actor (plain_actor name email time))

-- an actor that a commit holds has the written form
abbrev pub HasActorForm : lines.Actor → Type 0
HasActorForm actor = IsFormed actor.name actor.email actor.time

-- ---- the words of a time

-- the word is the number in decimal, within the limit
pub record IsSecondsOf (word : Bytes) (seconds : ℤ) : Type 0 where
  pub since : seconds ≡ pos (unsigned_abs seconds)
  pub limit : unsigned_abs seconds ≤ max_seconds
  pub spelled : word ≡ decimal (unsigned_abs seconds)

-- the word has an offset's form and is the spelling of this one
pub record IsOffsetOf (word : Bytes) (offset : ℤ) : Type 0 where
  pub formed : IsTrue (is_offset word)
  pub whole : IsSpellableOffset offset
  pub spelled : offset_text offset ≡ word

pub record IsTimeOf (seconds offset : Bytes) (time : Time) : Type 0 where
  pub seconds_told : IsSecondsOf seconds time.seconds
  pub offset_told : IsOffsetOf offset time.offset

-- one of the two words spells nothing
abbrev pub IsNoTime : Bytes → Bytes → Type 0
IsNoTime seconds offset =
    ((n : ℕ) → n ≤ max_seconds → seconds ≢ decimal n) ⊎ IsFalse (is_offset offset)
