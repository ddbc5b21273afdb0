-- The lines of a name's log, a reflog ("Logging updates" in git-update-ref(1)).
use Rattle.std.specs.Prelude.{List, [], ◌∷◌, ◌++◌, reverse, if◌then◌else◌}
use Rattle.std.specs.List.{flat_map}
use Rattle.history_model.specs.Bytes.{Bytes, line, has_byte}
use Rattle.history_model.specs.Objects.{hex, actor_text}
use Rattle.history_model.specs.Repository.{LogEntry}

-- the id before, the id after, who moved the name, and after a tab the message
abbrev pub log_line : LogEntry → Bytes
log_line entry =
    line
    (hex entry.before ++ 32 ∷ hex entry.after ++ 32 ∷ actor_text entry.actor ++ 9 ∷ entry.message)

-- A repository has the moves of a name newest first, its log file oldest first.
abbrev pub log_text : List LogEntry → Bytes
log_text moves = flat_map log_line (reverse moves)

-- The text up to its last line feed: a byte stays if a line feed is at it or after it.
abbrev pub whole_lines : Bytes → Bytes
whole_lines [] = []
whole_lines (b ∷ text) = if has_byte 10 (b ∷ text) then b ∷ whole_lines text else []
