use Rattle.std.proofs.Common.{◌∙◌, sym}
use Rattle.gix_ref_lock.proofs.LockLemmas.{folders_joined}
use Rattle.gix_ref_lock.proofs.LockPaths.{locks_joined}
use Rattle.gix_ref_transaction.specs.Rollback.{AllGone}
use Rattle.gix_ref_transaction.proofs.Counting.{counts_after, is_after, left_or, other_after, worse_done}
use Rattle.gix_ref_transaction.proofs.Givings.{both_risen, both_same}
use Rattle.gix_ref_transaction.proofs.Rollbacks.{all_gone, locks_held, locks_once}
use Rattle.gix_ref_transaction.proofs.transaction.drop_all.Goals as goal

pub returns-clause-moments : goal.returns-clause-moments
returns-clause-moments g c = λ honest.
    locks_joined (g.F.Files.history c.args.files.now) (g.F.Files.history c.drop_records-records.new.files) (g.F.Files.history c.give_back_all-locks.new.files)
    (c.drop_records-records.ensures.moments honest) (c.give_back_all-locks.ensures.locks (c.drop_records-records.ensures.keeps.honest honest))

pub returns-clause-folders : goal.returns-clause-folders
returns-clause-folders g c = λ honest.
    folders_joined (g.F.Files.history c.args.files.now) (g.F.Files.history c.drop_records-records.new.files) (g.F.Files.history c.give_back_all-locks.new.files)
    (c.drop_records-records.ensures.keeps.folders honest) (c.give_back_all-locks.ensures.keeps.folders (c.drop_records-records.ensures.keeps.honest honest))

pub returns-clause-told : goal.returns-clause-told
returns-clause-told g c =
    is_after c.or_worse.result c.args.error c.afterwards.result c.afterwards.ensures

pub returns-clause-counted : goal.returns-clause-counted
returns-clause-counted g c = λ before honest first held once counts.
    let f = g.F.Files.failures in
    let records = c.drop_records-records in
    let locks = c.give_back_all-locks in
    let then = records.ensures.keeps.honest honest in
    let own = locks_held c.args.packed c.args.moves.now (g.F.Files.history c.args.files.now).tree (g.F.Files.history records.new.files).tree (records.ensures.others honest) once held.each in
    counts_after before (f c.args.files.now) (f locks.new.files) c.or_worse.result c.args.error c.afterwards.result c.afterwards.ensures first counts
    (λ none. both_same (f c.args.files.now) (f records.new.files) (f locks.new.files) records.result locks.result records.ensures.keeps.quiet locks.ensures.keeps.quiet (λ is. none (c.or_worse.ensures ∙ is)))
    (λ is. both_risen (f c.args.files.now) (f records.new.files) (f locks.new.files) records.result locks.result records.ensures.keeps.later locks.ensures.keeps.later (records.ensures.failed honest held.packed) (locks.ensures.held (locks_once c.args.packed c.args.moves.now once) then own) (sym c.or_worse.ensures ∙ is))

pub returns-clause-memory : goal.returns-clause-memory
returns-clause-memory g c = λ other.
    let f = g.F.Files.failures in
    let records = c.drop_records-records in
    let locks = c.give_back_all-locks in
    let parts = other_after c.or_worse.result c.args.error c.afterwards.result c.afterwards.ensures other in (
      parts.0,
      both_same (f c.args.files.now) (f records.new.files) (f locks.new.files) records.result locks.result records.ensures.keeps.quiet locks.ensures.keeps.quiet (λ is. parts.1 (c.or_worse.ensures ∙ is)),
    )

pub returns-clause-rolled_back : goal.returns-clause-rolled_back
returns-clause-rolled_back g c = λ honest.
    let history = g.F.Files.history in
    let records = c.drop_records-records in
    let locks = c.give_back_all-locks in
    let old = (history c.args.files.now).tree in
    let mid = (history records.new.files).tree in
    let new = (history locks.new.files).tree in
    left_or (AllGone c.args.moves.now c.args.packed old new) c.or_worse.result c.args.error c.afterwards.result c.afterwards.ensures
    (λ is. let parts = worse_done records.result locks.result (sym c.or_worse.ensures ∙ is) in
    all_gone c.args.moves.now c.args.packed old mid new (records.ensures.gone honest parts.0) (locks.ensures.rolled_back (records.ensures.keeps.honest honest) parts.1))
