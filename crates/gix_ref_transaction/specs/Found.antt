-- What names point to.
use Rattle.std.specs.Prelude.{Option, Some, None}
use Rattle.gix_ref_name.specs.Targets.{Points}
use Rattle.gix_ref_store.specs.RefStates.{RefState, Stands, Absent, Faulty}

-- none if no reference exists, or none that can be read
abbrev pub points_at : RefState → Option Points
points_at (Stands points peeled) = Some points
points_at Absent = None
points_at (Faulty why) = None
