use Rattle.std.specs.Prelude.{IfOk}
use Rattle.gix_ref_folder.specs.Systems.{AreNames}
use Rattle.gix_ref_folder_tests.proofs.Reported.{names_found, error_silent}
use Rattle.gix_ref_folder_tests.proofs.Spots.{nowhere, reads}
use Rattle.gix_ref_folder_tests.proofs.over_files.OverFilesSystem.list.Goals as goal

pub returns-in_err-part-clause-missing : goal.returns-in_err-part-clause-missing
returns-in_err-part-clause-missing g c root part path honest there = nowhere _ _ _ _ _ _ _ c.in_err-part.ensures.outside honest there

pub returns-clause-names : goal.returns-clause-names
returns-clause-names g c =
    reads g.F.Files.is_honest g.F.Files.history c.args.self.now c.args.place.now c.in_ok-part.part c.in_ok-part.path.now c.files.result.now
    (λ tree path. IfOk c.reported.result (λ names. AreNames tree path names.items)) c.in_ok-part.ensures.spot c.files.ensures
    (λ honest. names_found _ _ _ _ c.reported.ensures (c.list.ensures.names honest))

pub returns-clause-missing : goal.returns-clause-missing
returns-clause-missing g c root part path honest there = error_silent _ c.list.result c.reported.result c.reported.ensures
