use Rattle.gix_ref_file.specs.Tree.{node_at}
use Rattle.gix_ref_file.specs.Changes.{is_file_at}
use Rattle.gix_ref_way.proofs.Clearings.{caused}
use Rattle.gix_ref_lock.proofs.Needed.{told_cause, told_quiet, file_there}
use Rattle.gix_ref_file.proofs.Histories.{adds_weaker}
use Rattle.gix_ref_way.proofs.FoldersStay.{while_removed}
use Rattle.gix_ref_lock.proofs.LockLemmas.{on_ok_both}
use Rattle.gix_ref_lock.proofs.FileMoves.{on_told, going, is_gone}
use Rattle.gix_ref_lock.proofs.Kept.{quiet_of}
use Rattle.gix_ref_lock.proofs.steps.remove_file.Goals as goal

pub returns-in-Ok-File-clause-moments : goal.returns-in-Ok-File-clause-moments
returns-in-Ok-File-clause-moments g c = λ honest.
    let old = g.F.Files.history c.args.files.now in
    adds_weaker old (g.F.Files.history c.remove_file.new.self) (c.remove_file.ensures.change honest).moments (going c.args.path.now old.tree)

pub returns-in-Ok-File-clause-gone : goal.returns-in-Ok-File-clause-gone
returns-in-Ok-File-clause-gone g c = λ honest.
    let old = (g.F.Files.history c.args.files.now).tree in
    let new = (g.F.Files.history c.remove_file.new.self).tree in
    let change = c.remove_file.ensures.change honest in
    on_told _ c.outcome_of_call.result c.remove_file.result tt c.outcome_of_call.ensures.done
    (on_ok_both c.remove_file.result (is_gone c.args.path.now old new) change.allowed change.made)

pub returns-in-Ok-File-clause-keeps : goal.returns-in-Ok-File-clause-keeps
returns-in-Ok-File-clause-keeps g c = record {
  honest = c.remove_file.ensures.honest;
  later = c.remove_file.ensures.later;
  quiet = λ quiet. quiet_of c.remove_file.result c.remove_file.ensures.unfailed c.remove_file.ensures.memory (told_quiet _ c.outcome_of_call.result c.remove_file.result c.outcome_of_call.ensures.done c.outcome_of_call.ensures.quiet quiet);
  folders = λ honest.
      let old = g.F.Files.history c.args.files.now in
      adds_weaker old (g.F.Files.history c.remove_file.new.self) (c.remove_file.ensures.change honest).moments (λ x left. while_removed c.args.path.now old.tree x left);
}

pub returns-in-Ok-File-clause-failed : goal.returns-in-Ok-File-clause-failed
returns-in-Ok-File-clause-failed g c = λ honest.
    let old = (g.F.Files.history c.args.files.now).tree in
    let path = c.args.path.now in
    let f = g.F.Files.failures in
    let may = file_there (node_at old path) _ (rw c.in-Ok-File.field-0-is at (c.in-Ok-File.ensures.place honest)) in
    told_cause c.remove_file.result c.outcome_of_call.result c.outcome_of_call.ensures.failed
    (λ failed. caused (is_file_at old path) (f c.args.files.now) (f c.remove_file.new.self) c.remove_file.result may (c.remove_file.ensures.cause honest) failed)
