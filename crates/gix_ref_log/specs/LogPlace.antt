-- What a buffer holds of a log that is read from its end.
use Rattle.std.specs.Prelude.{ℕ, ◌≡◌, ◌-◌, ◌<◌, ◌≤◌, ◌⊎◌, List, [], ◌∷◌, ◌++◌, length, take, drop}
use Rattle.gix_object_lines.specs.Bytes.{Lacks}

-- the buffer begins with the last `held` of the log's bytes before `end`
pub record IsWindow (log : List ℕ) (end held : ℕ) (buffer : List ℕ) : Type 0 where
  pub inside : end ≤ length log
  pub bytes : take held buffer ≡ drop (end - held) (take end log)

-- From `start` on lies the last line of the log's bytes before `end`: it has no line feed, and one
-- is before it or it is the log's first.
pub record IsLastLine (log : List ℕ) (end held start : ℕ) (buffer : List ℕ) : Type 0 where
  pub window : IsWindow log end held buffer
  pub front : List ℕ
  pub line : List ℕ
  pub cut : take held buffer ≡ front ++ line
  pub sized : length front ≡ start
  pub unbroken : Lacks 10 line
  pub begins : ((before : List ℕ) × (front ≡ before ++ 10 ∷ [])) ⊎ ((front ≡ []) × (held ≡ end))

-- the last bytes before `end` that the buffer has room for have no line feed, and there are more
-- before them
pub record IsTooLong (log : List ℕ) (end room : ℕ) : Type 0 where
  pub inside : end ≤ length log
  pub more : room < end
  pub unbroken : Lacks 10 (drop (end - room) (take end log))
