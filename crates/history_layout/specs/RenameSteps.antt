-- What a rename moves: the new name to what the old one holds.
use Rattle.std.specs.Prelude.{unwrap_or, codes}
use Rattle.gix_hash.specs.Id.{Id, null_id}
use Rattle.history_model.specs.Bytes.{Bytes}
use Rattle.history_model.specs.Repository.{Repository, LogEntry, id_at}
use Rattle.history_model.specs.Meaning.{history_actor}
use Rattle.history_layout.specs.TreeSteps.{move_entry}

-- what the old name holds
abbrev pub held_id : Repository → Bytes → Id
held_id r from = unwrap_or (id_at r from) (null_id r.kind)

-- the entry of the new name's log
abbrev pub rename_entry : Repository → Bytes → Bytes → LogEntry
rename_entry r from to = move_entry r to (held_id r from) history_actor (codes "rename")
