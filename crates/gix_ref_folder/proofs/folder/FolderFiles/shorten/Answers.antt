use Rattle.gix_ref_folder.proofs.Made.{cause_of}
use Rattle.gix_ref_folder.proofs.folder.FolderFiles.shorten.Goals as goal

pub returns-clause-honest : goal.returns-clause-honest
returns-clause-honest g c honest = (c.cut-shortened.ensures.change honest).0

pub returns-clause-cause : goal.returns-clause-cause
returns-clause-cause g c honest = cause_of _ _ _ _ _ c.cut-shortened.ensures.failures c.changed.ensures.risen
