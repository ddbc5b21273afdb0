-- Lines that own their parts: what is written of them, and what they are copies of.
use Rattle.std.specs.Prelude.{ℕ, ◌≡◌, List, [], ◌∷◌, ◌++◌, Option, None, Some, Result, Ok, Err, IsTrue}
use Rattle.std.specs.Io.KnownBytes.{Appends, Keeps}
use Rattle.gix_hash.specs.Id.{id_of}
use Rattle.gix_hash.specs.Spelling.{hex_text}
use Rattle.gix_hash.specs.Views.{IsHexOfId}
use Rattle.gix_object_lines.specs.Actor.{IsSpellable, TellsTime, actor_text}
use Rattle.gix_object_lines.specs.Bytes.{Lacks}
use Rattle.gix_object_lines.specs.HexLine.{is_id}
use Rattle.gix_object_lines.specs.Time.{SpellsTime, time_text}
use Rattle.gix_hash.specs.Writes.{AppendsFewer}
use Rattle.gix_object_lines.specs.declared.decode.Error.{Error as DecodeError}
use Rattle.gix_object_lines.specs.declared.decode.Error.TheVariants as decode
use Rattle.gix_ref_log.specs.LogLine.{LineParts, SpellsLine, IsNoLine, line_text}
use Rattle.gix_ref_log.specs.declared.line.Line.{Line}
use Rattle.gix_ref_log.specs.declared.line.write.Error.{Error}
use Rattle.gix_ref_log.specs.declared.line.write.Error.TheVariants.{Writer, Unspellable, MessageWithNewlines}

-- the parts of the line that is written
abbrev pub written_parts : Line → LineParts
written_parts line = record {
  before = hex_text (id_of line.previous_oid).digits;
  after = hex_text (id_of line.new_oid).digits;
  name = line.signature.name;
  email = line.signature.email;
  time = time_text line.signature.time;
  message = line.message;
}

-- the line that is written, without the line feed after it
abbrev pub written_text : Line → List ℕ
written_text line =
    line_text (hex_text (id_of line.previous_oid).digits) (hex_text (id_of line.new_oid).digits)
    (actor_text line.signature.name line.signature.email line.signature.time) line.message

abbrev pub IsWritable : Line → Type 0
IsWritable line =
    Lacks 10 line.message
    × IsSpellable line.signature.name line.signature.email line.signature.time

-- All of the line was written; or a beginning of it, since the writer failed; or nothing, since the
-- line has no text.
abbrev pub WritesLogLine : {U : Type 0} → Option (List ℕ) → Option (List ℕ) → Line
    → Result U Error → Type 0
WritesLogLine old new line (Ok _) = IsWritable line × Appends old new (written_text line ++ 10 ∷ [])
WritesLogLine old new line (Err (Writer error)) =
    IsWritable line × AppendsFewer old new (written_text line ++ 10 ∷ [])
WritesLogLine old new line (Err MessageWithNewlines) = (¬ Lacks 10 line.message) × Keeps old new
WritesLogLine old new line (Err Unspellable) =
    (¬ IsSpellable line.signature.name line.signature.email line.signature.time)
    × Lacks 10 line.message × Keeps old new

-- the ids that the digits spell, the time that the text spells, and each other part as it is
pub record IsLineOf (parts : LineParts) (line : Line) : Type 0 where
  pub before : IsHexOfId parts.before (id_of line.previous_oid)
  pub after : IsHexOfId parts.after (id_of line.new_oid)
  pub name : line.signature.name ≡ parts.name
  pub email : line.signature.email ≡ parts.email
  pub time : SpellsTime parts.time line.signature.time
  pub message : line.message ≡ parts.message

-- a copy of the line that the text spells, and none if it spells none
abbrev pub IsCopied : List ℕ → Option Line → Type 0
IsCopied text None = IsNoLine text
IsCopied text (Some line) = (parts : LineParts) × SpellsLine text parts × IsLineOf parts line

-- both ids are spelled by digits of the length of an id
abbrev pub AreIds : LineParts → Type 0
AreIds parts = IsTrue (is_id parts.before) × IsTrue (is_id parts.after)

-- the first that fails: one of the ids is no id's digits, the text is no time, or no memory is left
abbrev pub OwningFault : LineParts → DecodeError → Type 0
OwningFault parts decode.HexDigits = ¬ AreIds parts
OwningFault parts decode.InvalidTime = AreIds parts × ¬ TellsTime parts.time
OwningFault parts decode.Memory = AreIds parts × TellsTime parts.time
OwningFault parts decode.FieldName = ⊥
OwningFault parts decode.LineEnd = ⊥
OwningFault parts decode.InvalidActor = ⊥
