use Rattle.gix_ref_folder.proofs.Made.{cause_of}
use Rattle.gix_ref_folder.proofs.folder.FolderFiles.rename.Goals as goal

pub returns-clause-honest : goal.returns-clause-honest
returns-clause-honest g c honest = (c.move_file-moved.ensures.change _ c.source-source.ensures honest).0

pub returns-clause-cause : goal.returns-clause-cause
returns-clause-cause g c honest = cause_of _ _ _ _ _ c.move_file-moved.ensures.failures c.changed.ensures.risen
