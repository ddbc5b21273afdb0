use Rattle.std.proofs.Common.{refl, sym, ◌∙◌, ap, subst, option_map}
use Rattle.history_model.specs.Commands.{Files, Index, Show, Names, Past, Log}
use Rattle.history_word.specs.Commands.{IsReceived, is_received_changing}
use Rattle.history_word.proofs.Changing.{received_changes}
use Rattle.history.specs.Acts.{MeetsFailedCall, LeavesRows}
use Rattle.history.specs.Runs.{CountsFailure}
use Rattle.history_repository.specs.Face.{rows_in}
use Rattle.history_repository.specs.Reads.{OnlyAnswers}
use Rattle.history_repository.specs.Stands.{Stands}
use Rattle.history_plans.specs.Halves.{names_tree}
use Rattle.history.proofs.ActLemmas.{read_as, files_read, show_read, names_read, past_read, index_read, log_read, acts_more, changes_some, leaves_rows, meets_changing}
use Rattle.history.proofs.Acted.{acts_reading, idle_later, idle_stops}
use Rattle.history.proofs.Counts.{rows_both, same_both}
use Rattle.history.proofs.PackedRuns.{stopped_packs}
use Rattle.history.proofs.RowsKept.{index_leaves, stopped_leaves}
use Rattle.history_word.specs.declared.reader.Received.TheVariants as received
use Rattle.history.proofs.act.act.Goals as goal

-- ---- what it does

pub returns-in-Files-clause-acts : goal.returns-in-Files-clause-acts
returns-in-Files-clause-acts g c = λ r sent asked.
    let now = c.args.repository.now in
    let read = files_read c.in-Files.word sent (read_as _ _ _ sent c.in-Command.is c.in-Files.is asked.reads) in
    acts_reading g.F.Files now now r sent (Files c.in-Files.word.items) read (λ may. may) refl refl refl asked.serves asked.serves c.list_files.result
    (subst (λ w. OnlyAnswers g.F.Files.reading_may_fail r (Files w) c.list_files.result) c.deref.ensures.value (c.list_files.ensures r asked.serves)) tt

pub returns-in-Show-clause-acts : goal.returns-in-Show-clause-acts
returns-in-Show-clause-acts g c = λ r sent asked.
    let now = c.args.repository.now in
    let read = show_read c.in-Show.command sent (read_as _ _ _ sent c.in-Command.is c.in-Show.is asked.reads) in
    acts_reading g.F.Files now now r sent (Show c.in-Show.command.word.items read.0) read.1 (λ may. may) refl refl refl asked.serves asked.serves c.show.result
    (c.show.ensures r read.0 asked.serves read.2) tt

pub returns-in-Names-clause-acts : goal.returns-in-Names-clause-acts
returns-in-Names-clause-acts g c = λ r sent asked.
    let now = c.args.repository.now in
    let read = names_read c.in-Names.folder sent (read_as _ _ _ sent c.in-Command.is c.in-Names.is asked.reads) in
    acts_reading g.F.Files now now r sent (Names (option_map (λ w. w.items) c.in-Names.folder)) read (λ may. may) refl refl refl asked.serves asked.serves c.list_names.result
    (subst (λ f. OnlyAnswers g.F.Files.reading_may_fail r (Names f) c.list_names.result) c.as_deref.ensures.value (c.list_names.ensures r asked.serves)) tt

pub returns-in-Past-clause-acts : goal.returns-in-Past-clause-acts
returns-in-Past-clause-acts g c = λ r sent asked.
    let now = c.args.repository.now in
    let read = past_read c.in-Past.word sent (read_as _ _ _ sent c.in-Command.is c.in-Past.is asked.reads) in
    acts_reading g.F.Files now now r sent (Past c.in-Past.word.items) read (λ may. may) refl refl refl asked.serves asked.serves c.past.result
    (subst (λ w. OnlyAnswers g.F.Files.reading_may_fail r (Past w) c.past.result) c.deref-in-Past.ensures.value (c.past.ensures r asked.serves)) tt

pub returns-in-Log-clause-acts : goal.returns-in-Log-clause-acts
returns-in-Log-clause-acts g c = λ r sent asked.
    let now = c.args.repository.now in
    let read = log_read c.in-Log.command sent (read_as _ _ _ sent c.in-Command.is c.in-Log.is asked.reads) in
    acts_reading g.F.Files now now r sent (Log read.0) read.1 (λ may. may) refl refl refl asked.serves asked.serves c.log.result
    (c.log.ensures r read.0 asked.serves read.2) tt

pub returns-in-Index-clause-acts : goal.returns-in-Index-clause-acts
returns-in-Index-clause-acts g c = λ r sent asked.
    let read = index_read sent (read_as _ _ _ sent c.in-Command.is c.in-Index.is asked.reads) in
    acts_reading g.F.Files c.args.repository.now c.index.new.repository r sent Index read (λ may. may) refl refl c.index.ensures.kept asked.serves (c.index.ensures.serves r asked.serves) c.index.result
    (c.index.ensures.answers r asked.serves) tt

pub returns-in_default-clause-acts : goal.returns-in_default-clause-acts
returns-in_default-clause-acts g c = λ r sent asked.
    let now = c.args.repository.now in
    record {
      later = idle_later g.F.Files.history g.F.Files.failures now;
      stops = idle_stops g.F.Files.is_honest g.F.Files.history g.F.Files.failures now r sent asked.serves;
      acts = tt;
      leaves = stopped_packs r sent _ (names_tree g.F.Files.history now) (names_tree g.F.Files.history now);
    }

pub returns-in-Files-clause-keeps : goal.returns-in-Files-clause-keeps
returns-in-Files-clause-keeps g c = same_both g.F.Files _ c.args.repository.now

pub returns-in-Show-clause-keeps : goal.returns-in-Show-clause-keeps
returns-in-Show-clause-keeps g c = same_both g.F.Files _ c.args.repository.now

pub returns-in-Names-clause-keeps : goal.returns-in-Names-clause-keeps
returns-in-Names-clause-keeps g c = same_both g.F.Files _ c.args.repository.now

pub returns-in-Past-clause-keeps : goal.returns-in-Past-clause-keeps
returns-in-Past-clause-keeps g c = same_both g.F.Files _ c.args.repository.now

pub returns-in-Log-clause-keeps : goal.returns-in-Log-clause-keeps
returns-in-Log-clause-keeps g c = same_both g.F.Files _ c.args.repository.now

pub returns-in-Index-clause-keeps : goal.returns-in-Index-clause-keeps
returns-in-Index-clause-keeps g c = rows_both g.F.Files _ c.args.repository.now c.index.new.repository c.index.ensures.kept

-- ---- commands that change files

pub returns-in_default-command-clause-reads : goal.returns-in_default-command-clause-reads
returns-in_default-command-clause-reads g c = λ reads.
    let arm = c.in_default-command in
    let changes = changes_some c.in-Command.command arm.not-Index arm.not-Files arm.not-Show arm.not-Names arm.not-Past arm.not-Log in
    absurd (cc (reads, ap is_received_changing c.in-Command.is, changes))

pub returns-in_default-command-clause-unread : goal.returns-in_default-command-clause-unread
returns-in_default-command-clause-unread g c = λ reads.
    let arm = c.in_default-command in
    let changes = changes_some c.in-Command.command arm.not-Index arm.not-Files arm.not-Show arm.not-Names arm.not-Past arm.not-Log in
    absurd (cc (reads, ap is_received_changing c.in-Command.is, changes))

pub returns-in_default-command-clause-acts : goal.returns-in_default-command-clause-acts
returns-in_default-command-clause-acts g c = λ r sent asked.
    let F = g.F.Files in
    let old = c.args.repository.now in
    let new = c.change.new.repository in
    let arm = c.in_default-command in
    let changes = changes_some c.in-Command.command arm.not-Index arm.not-Files arm.not-Show arm.not-Names arm.not-Past arm.not-Log in
    let read = subst (λ x. IsReceived x sent) c.in-Command.is asked.reads in
    let so = sym (received_changes (received.Command c.in-Command.command) sent read) ∙ changes in
    let does = c.change.ensures.acts r sent (record { serves = asked.serves; reads = read; changes = so }) in
    record {
      later = does.later;
      stops = does.stops;
      acts = acts_more (CountsFailure F.failures F.reading_may_fail old new) (MeetsFailedCall F.failures F.reading_may_fail sent old new) (Stands F.is_honest F.history new) r sent c.change.result
          (meets_changing F.failures F.reading_may_fail sent old new so) does.acts;
      leaves = does.leaves;
    }

-- ---- the rows

pub returns-in-Files-clause-rows : goal.returns-in-Files-clause-rows
returns-in-Files-clause-rows g c = λ r sent asked.
    let arm = c.in-Files in
    let read = files_read arm.word sent (read_as _ _ _ sent c.in-Command.is arm.is asked.reads) in
    subst (λ o. LeavesRows r o c.list_files.result (rows_in c.args.repository.now) (rows_in c.args.repository.now)) (sym read) refl

pub returns-in-Show-clause-rows : goal.returns-in-Show-clause-rows
returns-in-Show-clause-rows g c = λ r sent asked.
    let arm = c.in-Show in
    let read = show_read arm.command sent (read_as _ _ _ sent c.in-Command.is arm.is asked.reads) in
    subst (λ o. LeavesRows r o c.show.result (rows_in c.args.repository.now) (rows_in c.args.repository.now)) (sym read.1) refl

pub returns-in-Names-clause-rows : goal.returns-in-Names-clause-rows
returns-in-Names-clause-rows g c = λ r sent asked.
    let arm = c.in-Names in
    let read = names_read arm.folder sent (read_as _ _ _ sent c.in-Command.is arm.is asked.reads) in
    subst (λ o. LeavesRows r o c.list_names.result (rows_in c.args.repository.now) (rows_in c.args.repository.now)) (sym read) refl

pub returns-in-Past-clause-rows : goal.returns-in-Past-clause-rows
returns-in-Past-clause-rows g c = λ r sent asked.
    let arm = c.in-Past in
    let read = past_read arm.word sent (read_as _ _ _ sent c.in-Command.is arm.is asked.reads) in
    subst (λ o. LeavesRows r o c.past.result (rows_in c.args.repository.now) (rows_in c.args.repository.now)) (sym read) refl

pub returns-in-Log-clause-rows : goal.returns-in-Log-clause-rows
returns-in-Log-clause-rows g c = λ r sent asked.
    let arm = c.in-Log in
    let read = log_read arm.command sent (read_as _ _ _ sent c.in-Command.is arm.is asked.reads) in
    subst (λ o. LeavesRows r o c.log.result (rows_in c.args.repository.now) (rows_in c.args.repository.now)) (sym read.1) refl

pub returns-in_default-clause-rows : goal.returns-in_default-clause-rows
returns-in_default-clause-rows g c = λ r sent asked. stopped_leaves r sent _ (rows_in c.args.repository.now)

pub returns-in-Index-clause-rows : goal.returns-in-Index-clause-rows
returns-in-Index-clause-rows g c = λ r sent asked.
    let arm = c.in-Index in
    let read = index_read sent (read_as _ _ _ sent c.in-Command.is arm.is asked.reads) in
    subst (λ o. LeavesRows r o c.index.result (rows_in c.args.repository.now) (rows_in c.index.new.repository)) (sym read)
    (index_leaves r c.index.result c.args.repository.now c.index.new.repository (c.index.ensures.rows r asked.serves) c.index.ensures.refused)

pub returns-in_default-command-clause-rows : goal.returns-in_default-command-clause-rows
returns-in_default-command-clause-rows g c = λ r sent asked.
    let arm = c.in_default-command in
    let changes = changes_some c.in-Command.command arm.not-Index arm.not-Files arm.not-Show arm.not-Names arm.not-Past arm.not-Log in
    let read = subst (λ x. IsReceived x sent) c.in-Command.is asked.reads in
    let so = sym (received_changes (received.Command c.in-Command.command) sent read) ∙ changes in
    leaves_rows r sent c.change.result (rows_in c.args.repository.now) (rows_in c.change.new.repository) so c.change.ensures.rows
