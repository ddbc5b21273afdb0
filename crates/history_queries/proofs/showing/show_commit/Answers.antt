use Rattle.std.proofs.Common.{None}
use Rattle.history_model.specs.Commands.{Show}
use Rattle.history_queries.proofs.Answered.{reading_fault, handed_on, reads_commit, commit_answered}
use Rattle.history_queries.proofs.showing.show_commit.Goals as goal
use Rattle.gix_hash.specs.Id.{id_of}

pub returns-in_err-commit : goal.returns-in_err-commit
returns-in_err-commit g c = λ r word s reads has.
    let sent = Show word None in
    let read = reads_commit r s.whole.whole word (id_of c.args.meant.now.id) reads in
    handed_on g.F.Files.reading_may_fail r sent c.from_residual.result _ c.from_residual.ensures.1
    (reading_fault g.F.Files.reading_may_fail r sent _ (c.in_err-commit.ensures r read.0 s read.1 has))

pub returns : goal.returns
returns g c = λ r word s reads has.
    let read = reads_commit r s.whole.whole word (id_of c.args.meant.now.id) reads in
    let told = c.in_ok-commit.ensures r read.0 s read.1 has in
    commit_answered r s.whole.whole g.F.Files.reading_may_fail word c.args.meant.now.id read.0 c.in_ok-commit.commit c.in_ok-commit_text.field-0
    reads read.1 told (c.in_ok-commit_text.ensures r.kind told.plain)
