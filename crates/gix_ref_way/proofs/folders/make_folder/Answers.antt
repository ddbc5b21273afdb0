use Rattle.std.proofs.Common.{sym, subst}
use Rattle.std.specs.Prelude.{IsTrue}
use Rattle.gix_ref_file.specs.Tree.{node_at, is_folder}
use Rattle.gix_ref_file.proofs.Histories.{adds_weaker}
use Rattle.gix_ref_way.specs.Ways.{KeepsFolders}
use Rattle.gix_ref_way.proofs.Stored.{while_made}
use Rattle.gix_ref_way.proofs.Above.{while_one_made}
use Rattle.gix_ref_way.proofs.FoldersKept.{while_folder_made}
use Rattle.gix_ref_way.proofs.FoldersMade.{folder_put, folder_there}
use Rattle.gix_ref_way.proofs.folders.make_folder.Goals as goal

pub returns-in_err-make_folder-in-Ok-Absent-clause-moments : goal.returns-in_err-make_folder-in-Ok-Absent-clause-moments
returns-in_err-make_folder-in-Ok-Absent-clause-moments g c = λ honest. adds_weaker _ _ (c.make_folder.ensures.change honest).moments (λ x left. while_made c.args.folder.now _ x left)

pub returns-in_ok-make_folder-in-Ok-Absent-clause-moments : goal.returns-in_ok-make_folder-in-Ok-Absent-clause-moments
returns-in_ok-make_folder-in-Ok-Absent-clause-moments g c = λ honest. adds_weaker _ _ (c.make_folder.ensures.change honest).moments (λ x left. while_made c.args.folder.now _ x left)

pub returns-in_err-make_folder-in-Ok-Absent-clause-folders : goal.returns-in_err-make_folder-in-Ok-Absent-clause-folders
returns-in_err-make_folder-in-Ok-Absent-clause-folders g c = λ honest. adds_weaker _ _ (c.make_folder.ensures.change honest).moments (λ x left. while_one_made c.args.folder.now _ x left)

pub returns-in_ok-make_folder-in-Ok-Absent-clause-folders : goal.returns-in_ok-make_folder-in-Ok-Absent-clause-folders
returns-in_ok-make_folder-in-Ok-Absent-clause-folders g c = λ honest. adds_weaker _ _ (c.make_folder.ensures.change honest).moments (λ x left. while_one_made c.args.folder.now _ x left)

pub returns-in_err-make_folder-in-Ok-Absent-clause-stay : goal.returns-in_err-make_folder-in-Ok-Absent-clause-stay
returns-in_err-make_folder-in-Ok-Absent-clause-stay g c = λ honest. adds_weaker _ _ (c.make_folder.ensures.change honest).moments (λ x left. while_folder_made c.args.folder.now _ x left)

pub returns-in_ok-make_folder-in-Ok-Absent-clause-stay : goal.returns-in_ok-make_folder-in-Ok-Absent-clause-stay
returns-in_ok-make_folder-in-Ok-Absent-clause-stay g c = λ honest. adds_weaker _ _ (c.make_folder.ensures.change honest).moments (λ x left. while_folder_made c.args.folder.now _ x left)

pub returns-in_ok-make_folder-in-Ok-Absent-clause-kept : goal.returns-in_ok-make_folder-in-Ok-Absent-clause-kept
returns-in_ok-make_folder-in-Ok-Absent-clause-kept g c = λ honest.
    let tree = (g.F.Files.history c.args.files.now).tree in
    subst (KeepsFolders tree) (sym (c.in_ok-make_folder-in-Ok-Absent.ensures.change honest).made) (folder_put tree c.args.folder.now)

pub returns-in_ok-make_folder-in-Ok-Absent-clause-made : goal.returns-in_ok-make_folder-in-Ok-Absent-clause-made
returns-in_ok-make_folder-in-Ok-Absent-clause-made g c = λ honest.
    let tree = (g.F.Files.history c.args.files.now).tree in
    subst (λ t. IsTrue (is_folder (node_at t c.args.folder.now))) (sym (c.in_ok-make_folder-in-Ok-Absent.ensures.change honest).made) (folder_there tree c.args.folder.now)
