use Rattle.std.proofs.Common.{◌∙◌, sym, ⊎_elim}
use Rattle.std.proofs.lemmas.Result.{on_ok_weaker}
use Rattle.history_model.specs.Places.{unfinished_place}
use Rattle.history_recovery.proofs.Ends.{without_unfinished, none_unfinished, while_unfinished_goes, no_file_there, no_file_in}
use Rattle.history_recovery.proofs.Recoveries.{caused, file_there}
use Rattle.history_recovery.proofs.recovering.remove_unfinished.Goals as goal

pub returns-in-File-clause-recovered : goal.returns-in-File-clause-recovered
returns-in-File-clause-recovered g c = λ honest.
    let old = (g.F.Files.history c.args.objects.now).tree in
    on_ok_weaker c.remove_file.result (λ is. is ∙ without_unfinished old (file_there old unfinished_place _ (sym (c.in_ok-kind_of.ensures.place honest) ∙ c.in-File.is))) (c.remove_file.ensures.change honest).made

pub returns-in-File-clause-alike : goal.returns-in-File-clause-alike
returns-in-File-clause-alike g c = λ honest. while_unfinished_goes (g.F.Files.history c.args.objects.now) (g.F.Files.history c.remove_file.new.self) (c.remove_file.ensures.change honest).moments

pub returns-in-File-clause-failed : goal.returns-in-File-clause-failed
returns-in-File-clause-failed g c = λ honest failed.
    let old = (g.F.Files.history c.args.objects.now).tree in
    caused _ _ _ _ (file_there old unfinished_place _ (sym (c.in_ok-kind_of.ensures.place honest) ∙ c.in-File.is)) (c.remove_file.ensures.cause honest) failed

pub returns-in-Absent-clause-recovered : goal.returns-in-Absent-clause-recovered
returns-in-Absent-clause-recovered g c = λ honest.
    let old = (g.F.Files.history c.args.objects.now).tree in
    let place = sym (c.in_ok-kind_of.ensures.place honest) in
    none_unfinished old (⊎_elim (λ is. no_file_there old unfinished_place (place ∙ is)) (λ is. no_file_in old unfinished_place (place ∙ is)) c.in-Absent.is)
