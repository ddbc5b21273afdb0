-- Rounds, made from the histories of the files and the trace of a run. `Joining.RoundsJoin` says what
-- rounds reply and leave.
use Rattle.gix_ref_file.specs.History.{History}
use Rattle.history_model.specs.Places.{Pair}

-- the two trees as they are now
abbrev pub pair_now : History → History → Pair
pair_now objects names = record { objects = objects.tree; names = names.tree }
