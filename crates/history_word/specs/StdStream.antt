-- What a stream over a std reader or writer holds.
use Rattle.std.specs.Prelude.{ℕ, Bool}
use Rattle.history_word.specs.declared.stream.Stream.{Stream}

-- the reader or writer
abbrev pub inner_of : {T : Type 0} → Stream T → T
inner_of s = s.inner

-- whether it has failed
abbrev pub is_broken : {T : Type 0} → Stream T → Bool
is_broken s = s.is_broken

-- how many readings were made, as far as a `u64` counts
abbrev pub readings_of : {T : Type 0} → Stream T → ℕ
readings_of s = s.readings
