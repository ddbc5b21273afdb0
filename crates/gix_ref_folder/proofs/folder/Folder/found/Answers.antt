use Rattle.gix_ref_folder.proofs.Reported.{file_place, folder_place}
use Rattle.gix_ref_folder.proofs.folder.Folder.found.Goals as goal

pub returns-in-Ok-File : goal.returns-in-Ok-File
returns-in-Ok-File g c root part path honest place = file_place _ _ (rw c.in-Ok-File.field-0-is at (rw c.in-Ok-File.is at (c.kind.ensures.found root part path honest place)))

pub returns-in-Ok-Folder : goal.returns-in-Ok-Folder
returns-in-Ok-Folder g c root part path honest place = folder_place _ (rw c.in-Ok-Folder.field-0-is at (rw c.in-Ok-Folder.is at (c.kind.ensures.found root part path honest place)))
