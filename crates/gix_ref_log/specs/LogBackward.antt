-- Logs that are read from their end.
use Rattle.std.specs.Prelude.{ℕ, ◌≡◌, ◌<◌, ◌≤◌, ⊤, Bool, true, if◌then◌else◌, List, [], ◌∷◌, length, take, reverse, Option, None, Some, Result, Ok, Err}
use Rattle.std.specs.Bool.{MatchBool}
use Rattle.std.specs.List.{slice_split}
use Rattle.gix_object_lines.specs.Counts.{one_more}
use Rattle.gix_ref_file.specs.declared.files.FileError.TheVariants as file
use Rattle.gix_ref_log.specs.LogLine.{LineParts, SpellsLine, IsNoLine, is_feed}
use Rattle.gix_ref_log.specs.LogOwned.{IsLineOf}
use Rattle.gix_ref_log.specs.LogPlace.{IsWindow}
use Rattle.gix_ref_log.specs.declared.line.Line.{Line}
use Rattle.gix_ref_log.specs.declared.iter.error.Error.{Error}
use Rattle.gix_ref_log.specs.declared.iter.error.Error.TheVariants.{Io, Decode, Memory}
use Rattle.gix_ref_log.specs.declared.iter.error.IoError.TheVariants.{Reader, Short, NoBuffer, LineTooLong}
use Rattle.gix_ref_log.specs.declared.iter.decode.LineNumber.TheVariants.{FromEnd}

-- The lines that are left, the next first: those of the log's bytes before `end`, the last of them
-- first, and none at the end. The buffer begins with the last of these bytes.
abbrev pub IsAt : List ℕ → Bool → ℕ → ℕ → List ℕ → List (List ℕ) → Type 0
IsAt log is_done end held buffer left =
    MatchBool is_done (left ≡ [])
    (IsWindow log end held buffer × (left ≡ reverse (slice_split is_feed (take end log))))

-- a buffer of so many bytes has room for the line and one line feed, and for the log's first line
-- alone
abbrev pub Fits : ℕ → List ℕ → List (List ℕ) → Type 0
Fits room line [] = length line ≤ room
Fits room line (next ∷ rest) = length line < room

-- The next of the lines that are left comes, if it fits: as what it says, or as an error with its
-- number from the end if it says nothing. One that doesn't fit, a failed or short reading and
-- refused memory come as an error, and nothing after it.
abbrev pub GivesBack : ℕ → Type 0 → Type 0 → ℕ → List (List ℕ) → Option (Result Line Error)
    → List (List ℕ) → Type 0
GivesBack room may_fail gives_all number left None after = (left ≡ []) × (after ≡ [])
GivesBack room may_fail gives_all number left (Some (Ok line)) after =
    (text : List ℕ) × (left ≡ text ∷ after) × Fits room text after
    × ((parts : LineParts) × SpellsLine text parts × IsLineOf parts line)
GivesBack room may_fail gives_all number left (Some (Err (Decode error))) after =
    (text : List ℕ) × (left ≡ text ∷ after) × Fits room text after × IsNoLine text
    × (error.line ≡ FromEnd number)
GivesBack room may_fail gives_all number left (Some (Err (Io LineTooLong))) after =
    (text : List ℕ) × (rest : List (List ℕ)) × (left ≡ text ∷ rest) × (¬ Fits room text rest)
    × (after ≡ [])
GivesBack room may_fail gives_all number left (Some (Err (Io (Reader file.Failed)))) after =
    may_fail × (after ≡ [])
GivesBack room may_fail gives_all number left (Some (Err (Io (Reader file.Memory)))) after = after ≡ []
GivesBack room may_fail gives_all number left (Some (Err (Io Short))) after =
    (¬ gives_all) × (after ≡ [])
GivesBack room may_fail gives_all number left (Some (Err (Io NoBuffer))) after = ⊥
GivesBack room may_fail gives_all number left (Some (Err Memory)) after = after ≡ []

-- the walk has ended: nothing was left, a reading failed, a line didn't fit or memory was refused
abbrev pub EndsWalk : Option (Result Line Error) → Type 0
EndsWalk None = ⊤
EndsWalk (Some (Ok line)) = ⊥
EndsWalk (Some (Err (Decode error))) = ⊥
EndsWalk (Some (Err (Io error))) = ⊤
EndsWalk (Some (Err Memory)) = ⊤

-- the walk is nearer to its end
abbrev pub IsNearer : ℕ → Bool → ℕ → Type 0
IsNearer end is_done after = MatchBool is_done ⊤ (after < end)

-- where a reader of a log from its end is
pub record Stand : Type 0 where
  pub is_done : Bool
  pub end : ℕ
  pub held : ℕ
  pub buffer : List ℕ
  pub given : ℕ

-- these lines are left there, the next first
abbrev pub StandsAt : List ℕ → Stand → List (List ℕ) → Type 0
StandsAt log stand left = IsAt log stand.is_done stand.end stand.held stand.buffer left

-- What a call of `next` gives. Over readings that give the log's bytes the next of the lines that
-- are left comes, and the reader is then after it.
pub record GivesNext (honest : Type 0) (log : List ℕ) (may_fail gives_all : Type 0)
    (before : Stand) (item : Option (Result Line Error)) (after : Stand) : Type 0 where
  pub told : honest → (left : List (List ℕ)) → StandsAt log before left
      → (rest : List (List ℕ)) × StandsAt log after rest
      × GivesBack (length before.buffer) may_fail gives_all after.given left item rest
  pub room : length after.buffer ≡ length before.buffer
  pub counted : after.given ≡ (if before.is_done then before.given else one_more before.given)
  -- whatever the readings give
  pub nothing : item ≡ None → before.is_done ≡ true
  pub ended : EndsWalk item → after.is_done ≡ true
