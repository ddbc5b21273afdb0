use Rattle.gix_ref_folder.proofs.Made.{at_place}
use Rattle.gix_ref_folder.proofs.folder.Folder.cut.Goals as goal

pub returns-clause-change : goal.returns-clause-change
returns-clause-change g c honest =
    let does = c.shorten.ensures.change _ _ _ honest.0 (at_place _ _ _ _ _ c.as_str.ensures.value c.in_ok-place.ensures) in
    ((does.0, tt), does.1)
