use Rattle.gix_ref_folder_tests.proofs.over_files.OverFilesSystem.list_root.Goals as goal

pub returns-then-eq : goal.returns-then-eq
returns-then-eq g c root part honest is = c.root_names.ensures root part honest
