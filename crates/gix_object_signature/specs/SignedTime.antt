-- The time of signing, as ssh-keygen takes it (gpg-interface.c: `parse_payload_metadata`;
-- ssh-keygen(1): `-Overify-time`, `YYYYMMDDHHMM[SS]`, in coordinated universal time if a `Z` ends
-- it).
use Rattle.std.specs.Prelude.{ℕ, ℤ, pos, ◌≡◌, ◌+◌, ◌*◌, ◌/◌, ◌%◌, ◌<◌, ◌<ℤ◌, ◌+ℤ◌, ◌*ℤ◌, ◌==◌, not, nat_eq, List, ◌++◌, codes, drop, find, length, take, is_some, Option, None, Some, if◌then◌else◌}
use Rattle.std.specs.List.{prefix_len, slice_split, starts_with}
use Rattle.jiff_core.specs.Calendar.{IsCivilDate, days_from_civil}
use Rattle.gix_object_lines.specs.Actor.{SpellsActor}
use Rattle.gix_object_lines.specs.Time.{SpellsTime, two_digits}
use Rattle.gix_object_lines.specs.declared.lines.time.Time.{Time}

-- ---- the line

-- all lines before the first empty one
abbrev pub header_lines : List ℕ → List (List ℕ)
header_lines content =
    take (prefix_len (λ line. not (length line == 0)) (slice_split (λ byte. byte == 10) content))
    (slice_split (λ byte. byte == 10) content)

-- what follows the word of a commit's committer or a tag's tagger
unfoldable pub signer_of : List ℕ → Option (List ℕ)
signer_of line =
    if starts_with nat_eq line (codes "committer ") then Some (drop 10 line)
    else (if starts_with nat_eq line (codes "tagger ") then Some (drop 7 line) else None)

-- the first such line
abbrev pub signer_line : List ℕ → Option (List ℕ)
signer_line content = find (λ line. is_some (signer_of line)) (header_lines content)

-- the line names a person and a time of so many seconds
pub record TellsSeconds (line : List ℕ) (seconds : ℤ) : Type 0 where
  pub signer : List ℕ
  pub signed : signer_of line ≡ Some signer
  pub name : List ℕ
  pub email : List ℕ
  pub text : List ℕ
  pub time : Time
  pub actor : SpellsActor signer name email text
  pub moment : SpellsTime text time
  pub seconds_are : seconds ≡ time.seconds

-- ---- the text

-- a day of the calendar and a time of day, in four digits of a year and two of each other
pub record IsStamp (text : List ℕ) (seconds : ℤ) : Type 0 where
  pub year : ℕ
  pub month : ℕ
  pub day : ℕ
  pub hour : ℕ
  pub minute : ℕ
  pub second : ℕ
  pub date : IsCivilDate (pos year) month day
  pub hour_low : hour < 24
  pub minute_low : minute < 60
  pub second_low : second < 60
  pub moment : seconds
      ≡ days_from_civil (pos year) month day *ℤ pos 86_400 +ℤ pos
      (3600 * hour + 60 * minute + second)
  pub spelled : text
      ≡ two_digits (year / 100)
      ++
      (two_digits (year % 100)
      ++
      (two_digits month
      ++
      (two_digits day
      ++ (two_digits hour ++ (two_digits minute ++ (two_digits second ++ codes "Z"))))))

-- a second after 1970-01-01T00:00:00 and before the year 10000; ssh-keygen takes no other
pub record IsStampable (seconds : ℤ) : Type 0 where
  pub late : pos 0 <ℤ seconds
  pub early : seconds <ℤ pos 253_402_300_800

-- the words that give the time, or none: for no such line, and for zero seconds, which are no time
-- to Git
pub data TimeWord (content : List ℕ) (word : Option (List ℕ)) : Type 0 where
  NoLine : signer_line content ≡ None → word ≡ None → TimeWord content word
  NoSeconds : (line : List ℕ) → signer_line content ≡ Some line → TellsSeconds line (pos 0)
      → word ≡ None → TimeWord content word
  AtTime : (line : List ℕ) → signer_line content ≡ Some line → (seconds : ℤ)
      → TellsSeconds line seconds → IsStampable seconds
      → (text : List ℕ) → IsStamp text seconds → word ≡ Some (codes "-Overify-time=" ++ text)
      → TimeWord content word

-- the line is there, but gives no time, or none that ssh-keygen takes
abbrev pub TellsNoTime : List ℕ → Type 0
TellsNoTime content = (word : Option (List ℕ)) → ¬ TimeWord content word
