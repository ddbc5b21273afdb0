-- What a `rename` wants of its two names, and how the new one is made.
use Rattle.std.specs.Prelude.{◌≡◌, None, Some, Result, Ok, Err}
use Rattle.gix_hash.specs.Id.{id_of}
use Rattle.gix_hash.specs.declared.object_id.ObjectId.{ObjectId}
use Rattle.history_model.specs.Bytes.{Bytes}
use Rattle.history_model.specs.Causes.{first_cause}
use Rattle.history_model.specs.Commands.{Rename}
use Rattle.history_model.specs.Repository.{id_at}
use Rattle.history_layout.specs.RenameSteps.{rename_entry}
use Rattle.history_texts.specs.Formats.{entry_of}
use Rattle.history_repository.specs.Reads.{IsReadingFault}
use Rattle.history_store.specs.declared.changing.MovedName.{MovedName}
use Rattle.history_repository.specs.declared.stopped.Stopped.{Stopped}
use Rattle.history_repository.specs.declared.stopped.Stopped.TheVariants.{Refused, Fault}
use Rattle.history_model.specs.Repository as plain

-- No cause holds, and the old name holds this id; or it is refused for the first cause that holds,
-- or a fault was met.
abbrev pub TestsRename : Type 0 → plain.Repository → Bytes → Bytes → Result ObjectId Stopped
    → Type 0
TestsRename MayFail r from to (Ok id) =
    (first_cause r (Rename from to) ≡ None) × (id_at r from ≡ Some (id_of id))
TestsRename MayFail r from to (Err (Refused cause)) = first_cause r (Rename from to) ≡ Some cause
TestsRename MayFail r from to (Err (Fault fault)) = IsReadingFault MayFail (Fault fault)

-- the new name is made at what the old one holds, and its log says so
pub record MakesName (r : plain.Repository) (from to : Bytes) (moves : MovedName) : Type 0 where
  pub name : moves.name.items ≡ to
  pub entry : entry_of moves.entry ≡ rename_entry r from to

-- The new name is to be made so if no cause holds; or it is refused for the first that holds, or a
-- fault was met.
abbrev pub PlansRename : Type 0 → plain.Repository → Bytes → Bytes → Result MovedName Stopped → Type 0
PlansRename MayFail r from to (Ok moves) =
    (first_cause r (Rename from to) ≡ None) × MakesName r from to moves
PlansRename MayFail r from to (Err (Refused cause)) = first_cause r (Rename from to) ≡ Some cause
PlansRename MayFail r from to (Err (Fault fault)) = IsReadingFault MayFail (Fault fault)
