use Rattle.std.proofs.Common.{◌∙◌, sym}
use Rattle.history_check_names.proofs.Sizes.{absent_size, file_size, folder_size}
use Rattle.history_check_names.proofs.file.file_len.Goals as goal

pub returns-in-File-clause-found : goal.returns-in-File-clause-found
returns-in-File-clause-found g c = λ honest. file_size (g.F.Files.history c.args.files.now).tree c.args.path.now c.in-File.len (sym (c.in_ok-len.ensures.place honest) ∙ c.in-File.is)

pub returns-in-Folder-clause-found : goal.returns-in-Folder-clause-found
returns-in-Folder-clause-found g c = λ honest. folder_size (g.F.Files.history c.args.files.now).tree c.args.path.now (sym (c.in_ok-len.ensures.place honest) ∙ c.in-Folder.is)

pub returns-in-Absent-clause-found : goal.returns-in-Absent-clause-found
returns-in-Absent-clause-found g c = λ honest. absent_size (g.F.Files.history c.args.files.now).tree c.args.path.now (sym (c.in_ok-len.ensures.place honest) ∙ c.in-Absent.is)
