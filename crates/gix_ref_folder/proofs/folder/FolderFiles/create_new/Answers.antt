use Rattle.gix_ref_folder.proofs.Made.{cause_of, passed}
use Rattle.gix_ref_folder.proofs.folder.FolderFiles.create_new.Goals as goal

pub returns-clause-honest : goal.returns-clause-honest
returns-clause-honest g c honest = (c.make_new-made.ensures.change honest).0

pub returns-clause-cause : goal.returns-clause-cause
returns-clause-cause g c honest = cause_of _ _ _ _ _ c.make_new-made.ensures.failures c.changed.ensures.risen

pub returns-clause-is_new : goal.returns-clause-is_new
returns-clause-is_new g c honest = passed _ _ _ c.changed.ensures.ok (c.make_new-made.ensures.is_new honest)
