use Rattle.std.proofs.Common.{◌≡◌, ◌∙◌, Err, ap, sym, subst, Option, option_map}
use Rattle.std.proofs.lemmas.Result.{err_from_is_err_and}
use Rattle.gix_hash.specs.Id.{id_of}
use Rattle.gix_hash.specs.declared.object_id.ObjectId.{ObjectId}
use Rattle.gix_object_nodes.specs.Files.{IsEmptyTree}
use Rattle.history_model.specs.Meaning.{files_at}
use Rattle.history_model.specs.Objects.{entry_at, folder_id}
use Rattle.history_files.specs.Edits.{IsSource}
use Rattle.history_files.specs.Laws.{table_of}
use Rattle.history_files.specs.Reading.{entry_of}
use Rattle.history_files.specs.declared.found.Found.{Found}
use Rattle.history_repository.specs.Meant.{peeled_id}
use Rattle.history_repository.proofs.Befores.{gives_stopped, held_commit}
use Rattle.history_repository.proofs.FieldLemmas.{no_length, not_empty}
use Rattle.history_plans.proofs.GraftFound.{gives_as, root_is, root_stands}
use Rattle.history_plans.proofs.SourcesStand.{all_told, found_below_told, none_told}
use Rattle.history_plans.proofs.grafts.found_in.Goals as goal

pub returns-in_err-root-clause-found : goal.returns-in_err-root-clause-found
returns-in_err-root-clause-found g c = λ r h holds has trees.
    let id = peeled_id c.args.commit.now in
    let held = held_commit r h.whole.whole.store id holds in
    let stopped = err_from_is_err_and c.from_residual.result c.from_residual.ensures.1 in
    gives_stopped g.F.Files.reading_may_fail (λ (root : ObjectId). id_of root ≡ folder_id r.kind (held.0).files) (IsSource (table_of r) r.kind c.args.source.now (files_at r id)) c.root_peeled.result c.from_residual.result
    c.in_err-root.field-0.0 c.in_err-root.was (stopped.1 ∙ ap Err stopped.2) (c.root_peeled.ensures r held.0 h held.1 has)

pub returns-then-not-is_empty-clause-found : goal.returns-then-not-is_empty-clause-found
returns-then-not-is_empty-clause-found g c = λ r h holds has trees.
    let id = peeled_id c.args.commit.now in
    let source = c.args.source.now in
    let stands = root_stands r h.whole.whole.store h.whole.written id holds c.in_ok-root.root (λ value at. c.in_ok-root.ensures r value h at has) in
    gives_as g.F.Files.reading_may_fail (λ (found : Option Found). option_map entry_of found ≡ entry_at r.kind (files_at r id) source) (IsSource (table_of r) r.kind source (files_at r id)) c.found_at.result
    (λ found told. found_below_told r h.whole.whole.store h.whole.written id holds source found (not_empty source (sym c.is_empty.ensures ∙ c.if-not-is_empty.true)) told)
    (c.found_at.ensures.found r (files_at r id) h stands trees)

pub returns-then-is_empty_tree-clause-found : goal.returns-then-is_empty_tree-clause-found
returns-then-is_empty_tree-clause-found g c = λ r h holds has trees.
    let id = peeled_id c.args.commit.now in
    let source = c.args.source.now in
    let same = root_is r h.whole.whole.store h.whole.written id holds c.in_ok-root.root (λ value at. c.in_ok-root.ensures r value h at has) in
    none_told r h.whole.whole.store h.whole.written id holds source (no_length source (sym c.is_empty.ensures ∙ c.if-not-is_empty.false)) (subst IsEmptyTree same (c.is_empty_tree.ensures.0 c.if-is_empty_tree.true))

pub returns-clause-found : goal.returns-clause-found
returns-clause-found g c = λ r h holds has trees.
    let id = peeled_id c.args.commit.now in
    let source = c.args.source.now in
    let same = root_is r h.whole.whole.store h.whole.written id holds c.in_ok-root.root (λ value at. c.in_ok-root.ensures r value h at has) in
    all_told r h.whole.whole.store h.whole.written id holds source c.in_ok-root.root (no_length source (sym c.is_empty.ensures ∙ c.if-not-is_empty.false)) same (λ tree. cc (sym c.if-is_empty_tree.false ∙ c.is_empty_tree.ensures.1 tree))
