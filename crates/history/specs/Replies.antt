-- What replies say.
use Rattle.std.specs.Prelude.{◌≡◌, Bool, true, false, IsTrue}
use Rattle.history_model.specs.Bytes.{Bytes}
use Rattle.history_model.specs.Answers.{Answers}
use Rattle.history_model.specs.Commands.{Command}
use Rattle.history_model.specs.Replies.{reply_text, RefusedFor, Faulted}
use Rattle.history_model.specs.Repository.{Repository}
use Rattle.history.specs.declared.reply.Reply.{Reply}
use Rattle.history.specs.declared.reply.Reply.TheVariants.{Text, Refused, Fault}
use Rattle.history_model.specs.Replies as replies

-- the bytes that a reply is written as
abbrev pub text_of : Reply → Bytes
text_of (Text text) = text.items
text_of (Refused cause) = reply_text (RefusedFor cause)
text_of (Fault fault) = reply_text (Faulted fault)

-- whether a reply is neither a refusal nor a fault
abbrev pub is_answer : replies.Reply → Bool
is_answer (RefusedFor cause) = false
is_answer (Faulted fault) = false
is_answer _ = true

-- what was returned is this reply: its text, if it is neither a refusal nor a fault; the cause; or
-- the fault
abbrev pub Tells : Reply → replies.Reply → Type 0
Tells (Text text) reply = IsTrue (is_answer reply) × (text.items ≡ reply_text reply)
Tells (Refused cause) reply = reply ≡ RefusedFor cause
Tells (Fault fault) reply = reply ≡ Faulted fault

abbrev pub is_fault : Reply → Bool
is_fault (Text text) = false
is_fault (Refused cause) = false
is_fault (Fault fault) = true

-- ---- commands that change files

-- the bytes are the reply to the command, if it is done
abbrev pub TellsDone : Repository → Command → Bytes → Type 0
TellsDone r sent text = (reply : replies.Reply) × Answers r sent reply × (text ≡ reply_text reply)
