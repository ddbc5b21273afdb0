-- Who made an object, and when, in one line: `<name> <<email>> <time>` (git-fast-import, "author":
-- `SP <name> SP LT <email> GT SP <when>`, where name and email hold neither LT, GT nor LF). Readers
-- take further `<` and `>`: the email is all between the line's first `<` and its last `>`.
use Rattle.std.specs.Prelude.{ℕ, ◌≡◌, List, ◌++◌, codes}
use Rattle.gix_object_lines.specs.Bytes.{Lacks}
use Rattle.gix_object_lines.specs.Time.{SpellsTime, IsSpellableOffset, time_text}
use Rattle.gix_object_lines.specs.declared.lines.time.Time.{Time}

-- the line is a name, an email and what follows it
pub record IsCut (line name email rest : List ℕ) : Type 0 where
  pub spelled : line ≡ name ++ codes " <" ++ email ++ codes "> " ++ rest
  -- the `<` before the email is the line's first, and the `>` after it the last
  pub first : Lacks 60 name
  pub last : Lacks 62 rest
  -- neither has a line feed
  pub name_in_line : Lacks 10 name
  pub email_in_line : Lacks 10 email

abbrev pub IsUncut : List ℕ → Type 0
IsUncut line = (name email rest : List ℕ) → ¬ IsCut line name email rest

-- the text spells a time
abbrev pub TellsTime : List ℕ → Type 0
TellsTime text = (time : Time) × SpellsTime text time

-- the line is a name, an email and the text of a time
pub record SpellsActor (line name email time : List ℕ) : Type 0 where
  pub cut : IsCut line name email time
  pub time_told : TellsTime time

-- the line has a name and an email, but no time
abbrev pub IsUntimed : List ℕ → Type 0
IsUntimed line =
    (name : List ℕ) × (email : List ℕ) × (rest : List ℕ) × IsCut line name email rest
    × ¬ TellsTime rest

-- ---- what is written

-- it holds no `<`, `>` or line feed
pub record IsPlain (part : List ℕ) : Type 0 where
  pub no_open : Lacks 60 part
  pub no_close : Lacks 62 part
  pub in_line : Lacks 10 part

pub record IsSpellable (name email : List ℕ) (time : Time) : Type 0 where
  pub name_plain : IsPlain name
  pub email_plain : IsPlain email
  pub offset_spellable : IsSpellableOffset time.offset

abbrev pub actor_text : List ℕ → List ℕ → Time → List ℕ
actor_text name email time = name ++ codes " <" ++ email ++ codes "> " ++ time_text time

-- the line that is written spells the actor
pub record IsReadBack (name email : List ℕ) (time : Time) : Type 0 where
  pub actor : SpellsActor (actor_text name email time) name email (time_text time)
  pub moment : SpellsTime (time_text time) time
