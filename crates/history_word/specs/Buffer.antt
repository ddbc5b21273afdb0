-- What a buffer holds.
use Rattle.std.specs.Prelude.{ℕ, ◌+◌, ◌-◌, ◌*◌, ◌^◌, List}
use Rattle.history_word.specs.Held.{room, held}
use Rattle.history_word.specs.declared.buffer.Buffer.{Buffer}

-- the bytes that were read and not taken yet
abbrev pub unread : Buffer → List ℕ
unread b = held b.start b.end b.bytes

-- how many readings through it gave a byte; and the last that a `u64` counts, whatever it gave
abbrev pub readings_made : Buffer → ℕ
readings_made b = b.readings

-- a bound on the bytes that can still be taken
abbrev pub work : Buffer → ℕ
work b = (2 ^ 64 - 1 - b.readings) * (room + 1) + (b.end - b.start)
