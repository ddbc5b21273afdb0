use Rattle.std.proofs.Common.{◌∙◌, sym}
use Rattle.gix_ref_folder.proofs.Made.{at_place}
use Rattle.gix_ref_folder.proofs.Reported.{nothing_outside}
use Rattle.gix_ref_folder.proofs.folder.Folder.kind.Goals as goal

pub returns-in-None : goal.returns-in-None
returns-in-None g c honest =
    nothing_outside _ _ _ (sym c.is_empty.ensures ∙ c.if-is_empty.false) (g.met.S.System.shown _ _ _ honest.0) (rw c.in-None.is at c.in_ok-place.ensures)

pub returns-in-Some : goal.returns-in-Some
returns-in-Some g c honest = c.found.ensures _ _ _ honest.0 (at_place _ _ _ _ _ c.as_str.ensures.value (rw c.in-Some.is at c.in_ok-place.ensures))
