use Rattle.std.proofs.Common.{◌∙◌, refl, rules, sym}
use Rattle.std.specs.Prelude.{FitsSigned}
use Rattle.std.specs.Int.{w64}
use Rattle.std.proofs.lemmas.Int.{to_z-of_z}
use mir.Val.{to_z, of_z}
use Rattle.gix_hash.specs.Id.{id_of}
use Rattle.history_walks.specs.declared.told.Told.{Told}
use Rattle.history_repository.proofs.Befores.{held_commit}
use Rattle.history_repository.proofs.ReadingFaults.{fault_told}
use Rattle.history_queries.proofs.AllTold.{row_stored, tells_stored}
use Rattle.history_queries.proofs.rows.told_of.Goals as goal

pub returns-in_err-tree : goal.returns-in_err-tree
returns-in_err-tree g c = λ r stands kept holds.
    let held = held_commit r stands.whole.whole.store (id_of c.args.id.now) holds in
    fault_told g.F.Files.reading_may_fail _ c.from_residual-in_err-tree.result _ c.from_residual-in_err-tree.ensures.1 (c.in_err-tree.ensures r held.0 stands kept held.1)

pub returns : goal.returns
returns g c = λ r stands kept holds.
    let held = held_commit r stands.whole.whole.store (id_of c.args.id.now) holds in
    let read = c.in_ok-tree.field-0 in
    let seconds = (c.in_ok-tree.field-0.committer).time.seconds in
    let fits : FitsSigned w64 (c.in_ok-tree.field-0.committer).time.seconds = search rules in
    let told : Told = record { id = c.args.id.now; tree = read.tree; parents = read.parents; time = to_z w64 (of_z w64 seconds) } in
    (refl, tells_stored r c.args.id.now told read held.0 held.1 (c.in_ok-tree.ensures r held.0 stands kept held.1) refl refl refl (to_z-of_z w64 seconds fits))

pub returns-in-Some : goal.returns-in-Some
returns-in-Some g c = λ r stands kept holds.
    let row = c.in-Some.row.now in
    let found = c.in-Some.ensures in
    let fits : FitsSigned w64 row.time = search rules in
    let told : Told = record { id = c.args.id.now; tree = row.tree; parents = c.in_ok-from_slice.field-0; time = to_z w64 (of_z w64 row.time) } in
    (refl, row_stored r row told (stands.rows.told row found.0) (sym found.1) refl (c.in_ok-from_slice.ensures.ok ∙ c.as_slice.ensures) (to_z-of_z w64 row.time fits))
