use Rattle.gix_ref_folder.proofs.Made.{at_place}
use Rattle.gix_ref_folder.proofs.folder.Folder.is_written.Goals as goal

pub returns-in-Some : goal.returns-in-Some
returns-in-Some g c honest same path placed = (rw c.in-Some.is at honest.1) path (at_place _ _ _ _ _ (c.is_place.ensures.0 same) placed)
