use Rattle.std.proofs.Common.{◌∙◌, ap, sym, subst, Err, List}
use Rattle.std.proofs.lemmas.Result.{err_from_is_err_and}
use Rattle.gix_hash.specs.declared.object_id.ObjectId.{ObjectId}
use Rattle.gix_traverse_graph.specs.declared.parents.Parents.TheVariants.{All}
use Rattle.history_model.specs.Answers.{rows_of}
use Rattle.history_walks.specs.Rows.{AreTheRows}
use Rattle.history_walks.specs.declared.listing.Order.TheVariants.{Topological}
use Rattle.history_walks.specs.declared.listing.Request.{Request}
use Rattle.history_queries.specs.Indexing.{AreToldOf}
use Rattle.history_queries.specs.Walked.{AllHold, IsFollowed}
use Rattle.history_queries.proofs.AllTold.{all_told, none_hold}
use Rattle.history_repository.proofs.Befores.{gives_stopped}
use Rattle.history_queries.proofs.CommitsWalked.{logged_hold, none_read}
use Rattle.history_queries.proofs.rows.all_rows.Goals as goal

pub returns-in_err-walk-clause-rows : goal.returns-in_err-walk-clause-rows
returns-in_err-walk-clause-rows g c = λ r stands.
    let commits = c.in_ok-stored_commits.ensures r stands in
    let request : Request = record { order = Topological All; tips = c.in_ok-stored_commits.field-0; hidden = c.new.result } in
    let stopped = err_from_is_err_and c.from_residual-in_err-walk.result c.from_residual-in_err-walk.ensures.1 in
    gives_stopped g.F.Files.reading_may_fail (IsFollowed r request) (λ rows. AreTheRows (rows_of r) rows.items) c.commits.result c.from_residual-in_err-walk.result c.in_err-walk.field-0.0 c.in_err-walk.was (stopped.1 ∙ ap Err stopped.2)
    (c.commits.ensures.lists r stands (none_read r c.new-2.result c.new-2.ensures) commits.hold (none_hold r c.new.result.items c.new.ensures.items))

pub returns-in_err-told-clause-rows : goal.returns-in_err-told-clause-rows
returns-in_err-told-clause-rows g c = λ r stands.
    let commits = c.in_ok-stored_commits.ensures r stands in
    let request : Request = record { order = Topological All; tips = c.in_ok-stored_commits.field-0; hidden = c.new.result } in
    let walked = c.in_ok-walk.ensures.lists r stands (none_read r c.new-2.result c.new-2.ensures) commits.hold (none_hold r c.new.result.items c.new.ensures.items) in
    let hold = logged_hold r stands.whole.whole.store stands.whole.written request c.in_ok-walk.walk.ids walked.lists commits.hold in
    let stopped = err_from_is_err_and c.from_residual-in_err-told.result c.from_residual-in_err-told.ensures.1 in
    gives_stopped g.F.Files.reading_may_fail (λ told. AreToldOf r c.deref.result.now told.items) (λ rows. AreTheRows (rows_of r) rows.items) c.told.result c.from_residual-in_err-told.result c.in_err-told.field-0.0 c.in_err-told.was (stopped.1 ∙ ap Err stopped.2)
    (c.told.ensures r stands walked.read (subst (AllHold r) (sym c.deref.ensures.value) hold))

pub returns-clause-rows : goal.returns-clause-rows
returns-clause-rows g c = λ r stands.
    let commits = c.in_ok-stored_commits.ensures r stands in
    let request : Request = record { order = Topological All; tips = c.in_ok-stored_commits.field-0; hidden = c.new.result } in
    let walked = c.in_ok-walk.ensures.lists r stands (none_read r c.new-2.result c.new-2.ensures) commits.hold (none_hold r c.new.result.items c.new.ensures.items) in
    let hold = logged_hold r stands.whole.whole.store stands.whole.written request c.in_ok-walk.walk.ids walked.lists commits.hold in
    let told = c.in_ok-told.ensures r stands walked.read (subst (AllHold r) (sym c.deref.ensures.value) hold) in
    c.in_ok-rows_of.ensures.rows r
    (all_told r stands.whole.whole.store stands.whole.written c.in_ok-stored_commits.field-0.items c.in_ok-walk.walk.ids.items c.in_ok-told.field-0.items commits c.new.result.items c.new.ensures.items walked.lists (subst (λ (ids : List ObjectId). AreToldOf r ids c.in_ok-told.field-0.items) c.deref.ensures.value told))

pub returns-clause-graph : goal.returns-clause-graph
returns-clause-graph g c = λ r stands.
    let commits = c.in_ok-stored_commits.ensures r stands in
    let request : Request = record { order = Topological All; tips = c.in_ok-stored_commits.field-0; hidden = c.new.result } in
    let walked = c.in_ok-walk.ensures.lists r stands (none_read r c.new-2.result c.new-2.ensures) commits.hold (none_hold r c.new.result.items c.new.ensures.items) in
    let hold = logged_hold r stands.whole.whole.store stands.whole.written request c.in_ok-walk.walk.ids walked.lists commits.hold in
    let told = c.in_ok-told.ensures r stands walked.read (subst (AllHold r) (sym c.deref.ensures.value) hold) in
    c.in_ok-rows_of.ensures.graph r
    (all_told r stands.whole.whole.store stands.whole.written c.in_ok-stored_commits.field-0.items c.in_ok-walk.walk.ids.items c.in_ok-told.field-0.items commits c.new.result.items c.new.ensures.items walked.lists (subst (λ (ids : List ObjectId). AreToldOf r ids c.in_ok-told.field-0.items) c.deref.ensures.value told))
