use Rattle.gix_ref_folder.proofs.Made.{passed}
use Rattle.gix_ref_folder.proofs.folder.FolderFiles.kind_of.Goals as goal

pub returns-clause-place : goal.returns-clause-place
returns-clause-place g c honest = passed _ _ _ c.read.ensures.ok (c.kind-found.ensures honest)
