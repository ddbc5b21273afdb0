use Rattle.std.proofs.Common.{◌∙◌, sym}
use Rattle.history_recovery.proofs.Absences.{absent_file}
use Rattle.history_recovery.proofs.packed.Packed.is_absent.Goals as goal

pub returns-then-branch-clause-found : goal.returns-then-branch-clause-found
returns-then-branch-clause-found g c = λ kind honest tells.
    absent_file kind (g.F.Files.history c.args.files.now).tree c.args.name.now (sym c.is_name.ensures ∙ c.if-not-is_name.false) (sym c.if-branch.true ∙ c.in_ok-is_file.ensures.found honest)
