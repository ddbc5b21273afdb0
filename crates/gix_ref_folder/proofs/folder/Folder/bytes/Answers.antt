use Rattle.std.proofs.Common.{sym}
use Rattle.gix_ref_folder.proofs.Made.{at_place}
use Rattle.gix_ref_folder.proofs.Reported.{no_file_outside}
use Rattle.gix_ref_folder.proofs.folder.Folder.bytes.Goals as goal

pub returns-in-Some : goal.returns-in-Some
returns-in-Some g c honest = c.read.ensures _ _ _ honest.0 (at_place _ _ _ _ _ c.as_str.ensures.value (rw c.in-Some.is at c.in_ok-place.ensures))

pub returns-in-None : goal.returns-in-None
returns-in-None g c honest = sym (no_file_outside _ _ _ (g.met.S.System.shown _ _ _ honest.0) (rw c.in-None.is at c.in_ok-place.ensures))
