use Rattle.gix_ref_file.specs.Changes.{is_file_at}
use Rattle.std.proofs.Common.{◌≡◌, false}
use Rattle.gix_ref_transaction.proofs.Counting.{counts_after, is_after, left_or, other_after}
use Rattle.gix_ref_transaction.proofs.plan.unplanned.Goals as goal

pub returns-clause-told : goal.returns-clause-told
returns-clause-told g c = is_after c.withdraw-outcome.result c.args.error c.afterwards.result c.afterwards.ensures

pub returns-clause-counted : goal.returns-clause-counted
returns-clause-counted g c = λ before honest first held counts.
    let f = g.F.Files.failures in
    counts_after before (f c.args.files.now) (f c.withdraw-outcome.new.files) c.withdraw-outcome.result c.args.error c.afterwards.result c.afterwards.ensures first counts c.withdraw-outcome.ensures.keeps.quiet (c.withdraw-outcome.ensures.held honest held)

pub returns-clause-memory : goal.returns-clause-memory
returns-clause-memory g c = λ other.
    let parts = other_after c.withdraw-outcome.result c.args.error c.afterwards.result c.afterwards.ensures other in
    (parts.0, c.withdraw-outcome.ensures.keeps.quiet parts.1)

pub returns-clause-rolled_back : goal.returns-clause-rolled_back
returns-clause-rolled_back g c = λ honest.
    left_or (is_file_at (g.F.Files.history c.withdraw-outcome.new.files).tree c.args.lock.now.path.items ≡ false) c.withdraw-outcome.result c.args.error c.afterwards.result c.afterwards.ensures (c.withdraw-outcome.ensures.gone honest)
