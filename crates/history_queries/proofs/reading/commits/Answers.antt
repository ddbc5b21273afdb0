use Rattle.std.proofs.Common.{sym, subst}
use Rattle.gix_hash.specs.Id.{id_of}
use Rattle.gix_hash.specs.Packed.{object_id_of, object_id_of-id_of}
use Rattle.gix_object_lookup.specs.Table.{Table}
use Rattle.history_model.specs.Answers.{commits_of}
use Rattle.history_walks.specs.Asking.{request_of}
use Rattle.history_walks.specs.ReadCommits.{AreOf, kept_in}
use Rattle.history_walks.proofs.Named.{named_in_order}
use Rattle.history_queries.proofs.CommitsWalked.{are_named, commits_there, memory_told, none_reaches, rowed_there, stopped_there, told_there}
use Rattle.history_repository.proofs.ReadingFaults.{fault_told}
use Rattle.history_repository.proofs.Tables.{holds_known, tables_same}
use Rattle.history_queries.proofs.reading.commits.Goals as goal

pub returns-in_err-read-clause-lists : goal.returns-in_err-read-clause-lists
returns-in_err-read-clause-lists g c = λ r stands known tips hidden.
    fault_told g.F.Files.reading_may_fail _ c.from_residual.result _ c.from_residual.ensures.1 (c.in_err-read.ensures.stopped r stands known tips hidden)

pub returns-in_err-read-clause-rowed : goal.returns-in_err-read-clause-rowed
returns-in_err-read-clause-rowed g c = λ r stands known tips hidden.
    memory_told c.from_residual.result _ c.from_residual.ensures.1 (c.in_err-read.ensures.rowed r stands known tips hidden)

pub returns-clause-lists : goal.returns-clause-lists
returns-clause-lists g c = λ r stands known tips hidden.
    let request = c.args.request in
    let own = c.args.repository.now in
    let store = stands.whole.whole.store in
    let written = stands.whole.written in
    let commits = commits_there _ _ own r stands c.in_ok-rows.rows c.in_ok-rows.ensures in
    let read = c.in_ok-read.ensures.reads r stands known in
    let kept = subst (λ (t : Table). AreOf t (kept_in c.in_ok-read.read)) (sym (tables_same _ _ own r stands)) read in
    record {
      lists = named_in_order id_of object_id_of object_id_of-id_of commits (commits_of r) (are_named r store written) request.order request.tips.items request.hidden.items c.in_ok-ids.ids.items
          (c.in_ok-ids.ensures.lists (holds_known _ _ own r stands, kept) commits (told_there _ _ own r stands c.in_ok-rows.rows c.in_ok-rows.ensures) (none_reaches r store written (request_of request)));
      read = read;
    }

pub returns-in_err-ids-clause-lists : goal.returns-in_err-ids-clause-lists
returns-in_err-ids-clause-lists g c = λ r stands known tips hidden.
    let request = c.args.request in
    let own = c.args.repository.now in
    let kept = subst (λ (t : Table). AreOf t (kept_in c.in_ok-read.read)) (sym (tables_same _ _ own r stands)) (c.in_ok-read.ensures.reads r stands known) in
    stopped_there _ _ own r stands c.in_ok-rows.rows c.in_ok-rows.ensures request.tips.items request.hidden.items tips hidden g.F.Files.reading_may_fail _ c.from_residual-in_err-ids.result c.in_err-ids.field-0.0 c.from_residual-in_err-ids.ensures.1
    (c.in_err-ids.ensures.refused (holds_known _ _ own r stands, kept) _ (told_there _ _ own r stands c.in_ok-rows.rows c.in_ok-rows.ensures))

pub returns-in_err-ids-clause-rowed : goal.returns-in_err-ids-clause-rowed
returns-in_err-ids-clause-rowed g c = λ r stands known tips hidden.
    let request = c.args.request in
    let own = c.args.repository.now in
    let kept = subst (λ (t : Table). AreOf t (kept_in c.in_ok-read.read)) (sym (tables_same _ _ own r stands)) (c.in_ok-read.ensures.reads r stands known) in
    rowed_there _ _ own r stands c.in_ok-rows.rows c.in_ok-rows.ensures request.tips.items request.hidden.items tips hidden g.F.Files.reading_may_fail c.from_residual-in_err-ids.result c.in_err-ids.field-0.0 c.from_residual-in_err-ids.ensures.1
    (c.in_err-ids.ensures.refused (holds_known _ _ own r stands, kept) _ (told_there _ _ own r stands c.in_ok-rows.rows c.in_ok-rows.ensures))
