use Rattle.gix_ref_folder.proofs.Made.{at_place}
use Rattle.gix_ref_folder.proofs.folder.Folder.move_file.Goals as goal

pub returns-clause-change : goal.returns-clause-change
returns-clause-change g c from found honest =
    let file = rw c.in_ok-from.was at (found honest) in
    let does = c.rename.ensures.change _ _ _ _ honest.0 (at_place _ _ _ _ _ c.as_str.ensures.value file.0) (at_place _ _ _ _ _ c.as_str-2.ensures.value c.in_ok-to.ensures) file.1 in
    ((does.0, tt), does.1)
