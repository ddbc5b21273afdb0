-- What reading of a repository gives: a fault, what a word means, the reply of a command that
-- changes nothing.
use Rattle.std.specs.Prelude.{◌≡◌, ⊤, ℕ, Some, None, Result, Ok, Err, Vec}
use Rattle.std.specs.declared.alloc.Global.{Global}
use Rattle.history_model.specs.Bytes.{Bytes}
use Rattle.history_model.specs.Replies.{reply_text}
use Rattle.history_model.specs.Causes.{first_cause}
use Rattle.history_model.specs.Answers.{Answers}
use Rattle.history_model.specs.declared.Fault.TheVariants.{Memory, File, IdTaken}
use Rattle.history_files.specs.KeptTrees.{AreOf}
use Rattle.history_files.specs.Laws.{table_of}
use Rattle.history_files.specs.declared.read_trees.ReadTrees.{ReadTrees}
use Rattle.history_repository.specs.Known.{AreMeant}
use Rattle.history_repository.specs.Meanings.{commit_or_cause}
use Rattle.history_repository.specs.Meant.{HasContent}
use Rattle.history_repository.specs.declared.read_objects.ReadObjects.{ReadObjects}
use Rattle.history_repository.specs.declared.stored.MeantCommit.{MeantCommit}
use Rattle.history_repository.specs.declared.stopped.Stopped.{Stopped}
use Rattle.history_repository.specs.declared.stopped.Stopped.TheVariants.{Refused, Fault}
use Rattle.gix_hash.specs.Id.{id_of}
use Rattle.history_model.specs.Repository as plain
use Rattle.history_model.specs.Commands as commands
use Rattle.history_model.specs.Replies as replies

-- ---- faults

-- Why a reading has no result: memory may run out at any time, a call of the files fails only if
-- readings may fail.
abbrev pub IsReadingFault : Type 0 → Stopped → Type 0
IsReadingFault MayFail (Refused cause) = ⊥
IsReadingFault MayFail (Fault Memory) = ⊤
IsReadingFault MayFail (Fault File) = MayFail
IsReadingFault MayFail (Fault IdTaken) = ⊥

-- what is meant, or a fault of reading
abbrev pub GivesMeant : {T : Type 0} → Type 0 → (T → Type 0) → Result T Stopped → Type 0
GivesMeant MayFail IsMeant (Ok value) = IsMeant value
GivesMeant MayFail IsMeant (Err stopped) = IsReadingFault MayFail stopped

-- if what was read before is so, what is meant, and all that was read since is so too; or a fault
-- of reading
abbrev pub ReadsMore : {T : Type 0} → Type 0 → plain.Repository → ReadObjects → ReadObjects
    → (T → Type 0) → Result T Stopped → Type 0
ReadsMore MayFail r before now IsMeant result =
    AreMeant r before → GivesMeant MayFail (λ value. IsMeant value × AreMeant r now) result

-- the trees that were read are as they are stored
abbrev pub AreTrees : plain.Repository → ReadTrees → Type 0
AreTrees r read = AreOf (table_of r) read

-- ---- words

-- the word means this commit, of which no content but its own was read; or it means none, for this
-- cause
abbrev pub ReadsMeant : Type 0 → plain.Repository → Bytes → Result MeantCommit Stopped → Type 0
ReadsMeant MayFail r word (Ok meant) =
    (commit_or_cause r word ≡ Ok (id_of meant.id)) × HasContent r meant
ReadsMeant MayFail r word (Err (Refused cause)) = commit_or_cause r word ≡ Err cause
ReadsMeant MayFail r word (Err (Fault fault)) = IsReadingFault MayFail (Fault fault)

-- ---- commands

-- A command that changes nothing returns its reply, is refused for the first cause that holds, or
-- met a fault.
abbrev pub OnlyAnswers : Type 0 → plain.Repository → commands.Command
    → Result (Vec ℕ Global) Stopped → Type 0
OnlyAnswers MayFail r sent (Ok text) =
    (reply : replies.Reply) × (text.items ≡ reply_text reply) × (first_cause r sent ≡ None)
    × Answers r sent reply
OnlyAnswers MayFail r sent (Err (Refused cause)) = first_cause r sent ≡ Some cause
OnlyAnswers MayFail r sent (Err (Fault fault)) = IsReadingFault MayFail (Fault fault)
