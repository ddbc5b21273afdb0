-- The line of an update is the entry's.
use Rattle.std.proofs.Common.{◌≡◌, pos, true, ◌∷◌, ◌++◌, sym, ◌∙◌, ap, subst, codes, append_assoc}
use Rattle.std.specs.Prelude.{decimal}
use Rattle.bstr.specs.BStr.{bstr_bytes}
use Rattle.gix_object_lines.specs.Actor as port
use Rattle.gix_object_lines.specs.Time.{SpellsTime}
use Rattle.gix_object_lines.specs.declared.lines.actor.ActorRef.{ActorRef}
use Rattle.gix_object_lines.specs.declared.lines.time.Time.{Time}
use Rattle.gix_object_lines.proofs.TimeLemmas.{time_once}
use Rattle.gix_ref_log.specs.LogLine.{line_text}
use Rattle.gix_ref_transaction.specs.LogLines.{IsLogLine}
use Rattle.history_model.specs.Bytes.{Bytes, line}
use Rattle.history_model.specs.Forms.{is_actor}
use Rattle.history_model.specs.Logs.{log_line}
use Rattle.history_model.specs.Objects.{actor_text, hex}
use Rattle.history_model.specs.Repository.{LogEntry}
use Rattle.history_model.proofs.FormatLemmas.{lines_alike}
use Rattle.history_texts.proofs.ActorTexts.{actor_parts, time_spelled}
use Rattle.history_texts.proofs.Offsets.{OffsetTold, offset_told}
use Rattle.history_edits.specs.Bridges.{Commits, LineTold}

module _ (entry : LogEntry) (who : ActorRef) (text : Bytes) (formed : is_actor entry.actor ≡ true) (commits : Commits entry.actor who) (is : IsLogLine entry.before entry.after who entry.message text) where
  told : OffsetTold entry.actor.offset
  told = offset_told entry.actor.offset (actor_parts entry.actor formed).offset

  abbrev time : Time
  time = record { seconds = pos entry.actor.seconds; offset = told.offset }

  time_is : is.time ≡ time
  time_is = time_once (bstr_bytes who.time) is.time time is.told
      (subst (λ t. SpellsTime t time) (sym commits.time) (time_spelled entry.actor told (actor_parts entry.actor formed).seconds))

  actor_is : port.actor_text (bstr_bytes who.name) (bstr_bytes who.email) is.time ≡ actor_text entry.actor
  actor_is = (λ i. port.actor_text (commits.name i) (commits.email i) (time_is i)) ∙ spelled
    where
      spelled : port.actor_text entry.actor.name entry.actor.email time ≡ actor_text entry.actor
      spelled =
          let front : Bytes = entry.actor.name ++ codes " <" ++ entry.actor.email ++ codes "> " in
          ap (λ t. front ++ (decimal entry.actor.seconds ++ 32 ∷ t)) told.spelled ∙ sym (append_assoc front (decimal entry.actor.seconds) (32 ∷ entry.actor.offset))

  is_line : text ≡ log_line entry
  is_line = is.is ∙ ap (λ t. line (line_text (hex entry.before) (hex entry.after) t entry.message)) actor_is ∙ sym (lines_alike entry)

pub line_told : LineTold
line_told entry who text formed commits is = is_line entry who text formed commits is
