use Rattle.std.specs.Prelude.{◌≡◌, None, IsTrue}
use Rattle.std.specs.IoError.{error_kind}
use Rattle.gix_ref_file.specs.Tree.{node_at}
use Rattle.gix_ref_folder.specs.Errors.{means_absent}
use Rattle.gix_ref_folder.specs.Systems.{IsFound}
use Rattle.gix_ref_folder.specs.declared.system.Found.TheVariants as found
use Rattle.gix_ref_folder_tests.proofs.Reported.{never_absent, file_found, folder_found, none_found}
use Rattle.gix_ref_folder_tests.proofs.Spots.{nowhere, reads}
use Rattle.gix_ref_folder_tests.proofs.over_files.OverFilesSystem.kind.Goals as goal

pub returns-in_err-part-clause-missing : goal.returns-in_err-part-clause-missing
returns-in_err-part-clause-missing g c root part path honest there = nowhere _ _ _ _ _ _ _ c.in_err-part.ensures.outside honest there

pub returns-in-Ok-File-clause-found : goal.returns-in-Ok-File-clause-found
returns-in-Ok-File-clause-found g c =
    reads g.F.Files.is_honest g.F.Files.history c.args.self.now c.args.place.now c.in_ok-part.part c.in_ok-part.path.now c.files.result.now (λ tree path. IsFound (found.File c.in-Ok-File.len) (node_at tree path))
    c.in_ok-part.ensures.spot c.files.ensures
    (λ honest. file_found _ _ (rw c.in-Ok-File.field-0-is at (rw (rw c.in-Ok-File.is at c.reported.ensures) at (c.kind_of.ensures.place honest))))

pub returns-in-Ok-Folder-clause-found : goal.returns-in-Ok-Folder-clause-found
returns-in-Ok-Folder-clause-found g c =
    reads g.F.Files.is_honest g.F.Files.history c.args.self.now c.args.place.now c.in_ok-part.part c.in_ok-part.path.now c.files.result.now (λ tree path. IsFound found.Folder (node_at tree path))
    c.in_ok-part.ensures.spot c.files.ensures
    (λ honest. folder_found _ (rw c.in-Ok-Folder.field-0-is at (rw (rw c.in-Ok-Folder.is at c.reported.ensures) at (c.kind_of.ensures.place honest))))

pub returns-in-Ok-Absent-clause-missing : goal.returns-in-Ok-Absent-clause-missing
returns-in-Ok-Absent-clause-missing g c =
    reads g.F.Files.is_honest g.F.Files.history c.args.self.now c.args.place.now c.in_ok-part.part c.in_ok-part.path.now c.files.result.now
    (λ tree path. IsTrue (means_absent (error_kind c.new.result)) → node_at tree path ≡ None) c.in_ok-part.ensures.spot c.files.ensures
    (λ honest is. none_found _ (rw c.in-Ok-Absent.field-0-is at (rw (rw c.in-Ok-Absent.is at c.reported.ensures) at (c.kind_of.ensures.place honest))))

pub returns-in-Err-clause-missing : goal.returns-in-Err-clause-missing
returns-in-Err-clause-missing g c root part path honest there is = never_absent c.kind_of.result c.in-Err.error (rw c.in-Err.is at c.reported.ensures) is
