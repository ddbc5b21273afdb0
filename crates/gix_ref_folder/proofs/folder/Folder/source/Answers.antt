use Rattle.gix_ref_folder.proofs.folder.Folder.source.Goals as goal

pub returns-in-Some : goal.returns-in-Some
returns-in-Some g c honest = rw c.in-Some.is at (c.in_ok-place.ensures honest)
