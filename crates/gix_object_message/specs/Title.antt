-- The title of a message, its body and its summary (git-commit, "DISCUSSION": the text up to the
-- first blank line is the title, and what follows is the body; git-log, `%s` and `%b`).
use Rattle.std.specs.Prelude.{ℕ, ◌≡◌, ◌≢◌, ◌≤◌, ◌⊎◌, ◌||◌, List, [], ◌∷◌, ◌++◌, Option, Some, None, length, drop, map, if◌then◌else◌}
use Rattle.std.specs.List.{join_with_byte}
use Rattle.gix_object_message.specs.Lines.{lines_of, begins_with}
use Rattle.gix_object_message.specs.White.{trim, trim_end}

-- the end of a line and an empty line
abbrev pub short_break : List ℕ
short_break = 10 ∷ 10 ∷ []

-- the same in lines that end in CR LF
abbrev pub long_break : List ℕ
long_break = 13 ∷ 10 ∷ 13 ∷ 10 ∷ []

-- all before the first break; without one, all
unfoldable pub title_of : List ℕ → List ℕ
title_of [] = []
title_of (byte ∷ text) =
    if begins_with short_break (byte ∷ text) || begins_with long_break (byte ∷ text) then []
    else byte ∷ title_of text

-- all after the first break; without one, nothing
unfoldable pub behind_title : List ℕ → List ℕ
behind_title [] = []
behind_title (byte ∷ text) =
    if begins_with short_break (byte ∷ text) then drop 2 (byte ∷ text)
    else (if begins_with long_break (byte ∷ text) then drop 4 (byte ∷ text) else behind_title text)

-- the text, if it isn't empty
abbrev pub some_text : List ℕ → Option (List ℕ)
some_text [] = None
some_text (byte ∷ text) = Some (byte ∷ text)

abbrev pub body_of : List ℕ → Option (List ℕ)
body_of message = some_text (behind_title message)

-- ---- the same as a relation

abbrev pub IsBreak : List ℕ → Type 0
IsBreak bytes = (bytes ≡ short_break) ⊎ (bytes ≡ long_break)

-- a break is between the two, and none begins before it
pub record IsFirstBreak (message title rest : List ℕ) : Type 0 where
  pub gap : List ℕ
  pub is_break : IsBreak gap
  pub spelled : message ≡ title ++ (gap ++ rest)
  pub first : (front other back : List ℕ) → IsBreak other → message ≡ front ++ (other ++ back)
      → length title ≤ length front

pub record IsAllTitle (message title rest : List ℕ) : Type 0 where
  pub no_break : (front other back : List ℕ) → IsBreak other → message ≢ front ++ (other ++ back)
  pub all : title ≡ message
  pub none : rest ≡ []

abbrev pub PartsMessage : List ℕ → List ℕ → List ℕ → Type 0
PartsMessage message title rest = IsFirstBreak message title rest ⊎ IsAllTitle message title rest

-- ---- in one line

-- the title in one line: without white space at its ends, its lines each without white space at
-- their end, one space between
abbrev pub summary_of : List ℕ → List ℕ
summary_of title = join_with_byte 32 (map trim_end (lines_of (trim title)))
