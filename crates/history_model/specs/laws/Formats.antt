-- The statements of the laws on the files of names and logs: they are in the formats that
-- gix_ref_format reads, which accepts more spellings.
use Rattle.std.specs.Prelude.{◌≡◌, not, ◌&&◌, ◌∷◌, filter, Some, None, if◌then◌else◌, IsTrue}
use Rattle.gix_hash.specs.Id.{Id}
use Rattle.gix_hash.specs.declared.kind.Kind.{Kind}
use Rattle.gix_ref_name.specs.Targets.{ToObject, ToName}
use Rattle.gix_ref_log.specs.LogLine.{line_text}
use Rattle.gix_ref_format.specs.Lookup.{packed_key, word_names}
use Rattle.gix_ref_format.specs.Loose.{loose_target}
use Rattle.history_model.specs.Bytes.{Bytes, begins, line}
use Rattle.history_model.specs.Forms.{refs_front, is_name, is_private}
use Rattle.history_model.specs.Logs.{log_line}
use Rattle.history_model.specs.Objects.{hex, actor_text}
use Rattle.history_model.specs.NameStates.{Holds, Symbolic, loose_state}
use Rattle.history_model.specs.Repository.{LogEntry}
use Rattle.history_model.specs.Words.{candidates}

-- A loose file that reads as an id or a name has the same target in gix_ref_format.
abbrev pub LooseReadsAlike : Type 0
LooseReadsAlike = (kind : Kind) (text : Bytes)
    → ((id : Id) → loose_state kind text ≡ Holds id → loose_target kind text ≡ Some (ToObject id))
    × ((name : Bytes) → loose_state kind text ≡ Symbolic name
    → loose_target kind text ≡ Some (ToName name))

-- Of the names that a repository may hold, only the private ones have no record.
abbrev pub RecordsAlike : Type 0
RecordsAlike =
    (name : Bytes) → IsTrue (is_name name)
    → packed_key name ≡ (if is_private name then None else Some name)

-- The candidates of a word are the word and the names that complete it, as far as they are below
-- `refs/` and not private.
abbrev pub CandidatesAlike : Type 0
CandidatesAlike =
    (word : Bytes)
    → candidates word
    ≡ filter (λ name. begins refs_front name && not (is_private name))
    (word ∷ word_names word)

-- A log's line has the two ids, who moved the name, and the message.
abbrev pub LinesAlike : Type 0
LinesAlike =
    (entry : LogEntry)
    → log_line entry
    ≡ line (line_text (hex entry.before) (hex entry.after) (actor_text entry.actor) entry.message)
