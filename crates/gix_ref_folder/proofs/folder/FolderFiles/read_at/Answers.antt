use Rattle.gix_ref_folder.proofs.Made.{passed, passed_ok}
use Rattle.gix_ref_folder.proofs.folder.FolderFiles.read_at.Goals as goal

pub returns-clause-count : goal.returns-clause-count
returns-clause-count g c honest = passed _ _ _ c.read.ensures.ok (c.bytes_from-read.ensures.count honest)

pub returns-clause-bytes : goal.returns-clause-bytes
returns-clause-bytes g c honest = passed_ok _ _ _ c.read.ensures.ok (c.bytes_from-read.ensures.bytes honest)
