-- What a run over a stream of commands writes, on a new repository in memory.
use Rattle.std.specs.Prelude.{◌≡◌, ◌⊎◌, ⊤, Bool, false, List, [], ◌++◌, Option, Some, None, IsTrue}
use Rattle.std.specs.List.{list_all}
use Rattle.history_model.specs.Bytes.{Bytes}
use Rattle.history_model.specs.Repository.{Repository, fresh}
use Rattle.history_model.specs.Commands.{Command}
use Rattle.history_model.specs.Replies.{Reply}
use Rattle.history_model.specs.Runs.{Runs}
use Rattle.history_model.specs.laws.Determined.{TellsFault, have_no_fault, is_sure}
use Rattle.gix_hash.specs.declared.kind.Kind.{Kind}
use Rattle.history_model.specs.declared.End.{End}
use Rattle.history_model.specs.declared.End.TheVariants.{Input}

-- From the repository without names and objects a run acted on the commands at the front of the
-- input, wrote this, and ended so. No call of files in memory fails.
pub record IsAnswered (kind : Kind) (input written : Bytes) (end : End) : Type 0 where
  pub commands : List Command
  pub replies : List Reply
  pub read : Bytes
  pub unread : Bytes
  pub failed : Bool
  pub new : Repository
  pub all : input ≡ read ++ unread
  pub runs : Runs (unread ≡ []) ⊥ (fresh kind) commands replies read written end failed new

-- The plain repository replies to the whole input with this: no reply is a fault, and each command
-- has only one reply.
pub record IsMeant (kind : Kind) (input output : Bytes) : Type 0 where
  pub commands : List Command
  pub replies : List Reply
  pub new : Repository
  pub runs : Runs ⊤ ⊤ (fresh kind) commands replies input output Input false new
  pub no_fault : IsTrue (have_no_fault replies)
  pub sure : IsTrue (list_all is_sure commands)

-- a run over the input wrote the known bytes
abbrev pub Answers : Kind → Bytes → Option Bytes → End → Type 0
Answers kind input None end = ⊥
Answers kind input (Some written) end = IsAnswered kind input written end

-- Whichever run over the input wrote the known bytes: they are this output, or one of its own
-- replies is a fault, or it ended with one.
abbrev pub AreOrTellFault : Kind → Bytes → Option Bytes → End → Bytes → Type 0
AreOrTellFault kind input None end output = ⊥
AreOrTellFault kind input (Some written) end output =
    (run : IsAnswered kind input written end) → (written ≡ output) ⊎ TellsFault run.replies end
