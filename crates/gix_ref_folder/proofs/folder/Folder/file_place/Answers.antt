use Rattle.gix_ref_folder.proofs.Made.{at_place}
use Rattle.gix_ref_folder.proofs.Reported.{no_file_outside}
use Rattle.gix_ref_folder.proofs.folder.Folder.file_place.Goals as goal

pub returns-in_default : goal.returns-in_default
returns-in_default g c honest = no_file_outside _ _ _ (g.met.S.System.shown _ _ _ honest.0) (rw c.in_default.is at c.in_ok-place.ensures)

pub returns-then-is_written : goal.returns-then-is_written
returns-then-is_written g c honest =
    let placed = rw c.in-Some.is at c.in_ok-place.ensures in
    (placed, c.is_written.ensures honest c.if-is_written.true _ (at_place _ _ _ _ _ c.as_str.ensures.value placed))
