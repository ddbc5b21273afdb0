use Rattle.gix_ref_folder.proofs.Made.{passed}
use Rattle.gix_ref_folder.proofs.folder.FolderFiles.list.Goals as goal

pub returns-clause-names : goal.returns-clause-names
returns-clause-names g c honest = passed _ _ _ c.read.ensures.ok (c.sorted_names-names.ensures honest)
