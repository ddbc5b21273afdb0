use Rattle.std.proofs.Common.{◌∙◌, sym}
use Rattle.history_recovery.proofs.Recoveries.{file_there, folder_is, none_there}
use Rattle.history_recovery.proofs.clearing.clear_at.Goals as goal

pub returns-in-File-clause-clears : goal.returns-in-File-clause-clears
returns-in-File-clause-clears g c = λ kind tells honest.
    c.remove_leftover.ensures.clears kind (file_there (g.F.Files.history c.args.files.now).tree c.args.path.now _ (sym (c.in_ok-kind_of.ensures.place honest) ∙ c.in-File.is)) tells honest

pub returns-in-File-clause-kept : goal.returns-in-File-clause-kept
returns-in-File-clause-kept g c = λ kind honest tells below.
    c.remove_leftover.ensures.kept kind honest (file_there (g.F.Files.history c.args.files.now).tree c.args.path.now _ (sym (c.in_ok-kind_of.ensures.place honest) ∙ c.in-File.is)) tells

pub returns-in-File-clause-failed : goal.returns-in-File-clause-failed
returns-in-File-clause-failed g c = λ honest failed.
    c.remove_leftover.ensures.failed honest (file_there (g.F.Files.history c.args.files.now).tree c.args.path.now _ (sym (c.in_ok-kind_of.ensures.place honest) ∙ c.in-File.is)) failed

pub returns-in-Folder-clause-kept : goal.returns-in-Folder-clause-kept
returns-in-Folder-clause-kept g c = λ kind honest tells below.
    c.remove_deserted.ensures.kept kind honest (folder_is (g.F.Files.history c.args.files.now).tree c.args.path.now (sym (c.in_ok-kind_of.ensures.place honest) ∙ c.in-Folder.is)) below

pub returns-in-Folder-clause-failed : goal.returns-in-Folder-clause-failed
returns-in-Folder-clause-failed g c = λ honest failed.
    c.remove_deserted.ensures.failed honest (folder_is (g.F.Files.history c.args.files.now).tree c.args.path.now (sym (c.in_ok-kind_of.ensures.place honest) ∙ c.in-Folder.is)) failed

pub returns-in-Absent-clause-kept : goal.returns-in-Absent-clause-kept
returns-in-Absent-clause-kept g c = λ kind honest tells below.
    none_there kind (g.F.Files.history c.args.files.now).tree c.args.path.now (g.met.F.Files.rooted c.args.files.now honest) (sym (c.in_ok-kind_of.ensures.place honest) ∙ c.in-Absent.is)
