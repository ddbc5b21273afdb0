use Rattle.std.proofs.Common.{◌∙◌, sym}
use Rattle.history_files.specs.Laws.{table_of}
use Rattle.history_plans.proofs.GraftPaths.{no_folder_passes}
use Rattle.history_plans.proofs.grafts.test_graft.Goals as goal

pub returns-in-None-clause-tested : goal.returns-in-None-clause-tested
returns-in-None-clause-tested g c = λ r source other h good is stands trees.
    (no_folder_passes g.F.Files.reading_may_fail (table_of r) r.kind c.args.path.now source other c.args.found good is (λ id e. cc (sym c.in-None.is ∙ e)), tt)

pub returns-in-Some-File-clause-tested : goal.returns-in-Some-File-clause-tested
returns-in-Some-File-clause-tested g c = λ r source other h good is stands trees.
    let same = rw c.in-Some-File.is at c.in-Some-File.field-0-is in
    (no_folder_passes g.F.Files.reading_may_fail (table_of r) r.kind c.args.path.now source other c.args.found good is (λ id e. cc (c.in-Some-File.is, same, e)), tt)
