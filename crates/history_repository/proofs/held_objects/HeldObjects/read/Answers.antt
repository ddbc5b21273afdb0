use Rattle.std.proofs.Common.{ap, refl, sym}
use Rattle.std.specs.Prelude.{Err, is_some}
use Rattle.gix_hash.specs.Id.{id_of}
use Rattle.history_files.specs.Laws.{table_of}
use Rattle.history_model.specs.Objects.{object_kind}
use Rattle.history_repository.proofs.HeldLemmas.{peeled_stored}
use Rattle.history_repository.proofs.ReadingFaults.{fault_told}
use Rattle.history_repository.proofs.StoredValues.{error_told, object_found, object_told, text_stands}
use Rattle.history_repository.specs.HeldObjects.{AreOf}
use Rattle.history_repository.proofs.HeldKept.{held_too, stored_there}
use Rattle.history_repository.proofs.held_objects.HeldObjects.read.Goals as goal

pub returns-in-Some : goal.returns-in-Some
returns-in-Some g c = λ r commit stands peels held.
    held_too g.F.Files.reading_may_fail _ (AreOf (table_of r) c.args.self.now) c.tagged.result held
    (c.tagged.ensures r (id_of c.args.id) commit stands (held c.args.id c.in-Some.object.now (sym c.in-Some.ensures.value)) peels)

pub returns-in_err-read : goal.returns-in_err-read
returns-in_err-read g c = λ r commit stands peels held. error_told _ _ c.from_residual.result c.in_err-read.field-0.0 c.from_residual.ensures.1 (λ same. c.in_err-read.ensures.failed (ap Err same))

pub returns-in_err-object : goal.returns-in_err-object
returns-in_err-object g c = λ r commit stands peels held.
    let stored = peeled_stored r (id_of c.args.id) (ap is_some peels) in
    absurd (object_found r.kind stored.0 (object_kind stored.0) refl _ (text_stands _ _ c.args.repository.now r stands (id_of c.args.id) stored.0 stored.1) c.in_ok-read.field-0 c.in_err-object.ensures.ok_part (c.in_ok-read.ensures.found stands.honest_objects))

pub returns-in_err-commit : goal.returns-in_err-commit
returns-in_err-commit g c = λ r commit stands peels held.
    let stored = peeled_stored r (id_of c.args.id) (ap is_some peels) in
    let is = object_told r.kind stored.0 (object_kind stored.0) refl _ (text_stands _ _ c.args.repository.now r stands (id_of c.args.id) stored.0 stored.1) c.in_ok-read.field-0 c.in_ok-object.object c.in_ok-object.ensures.ok_part (c.in_ok-read.ensures.found stands.honest_objects) in
    fault_told g.F.Files.reading_may_fail _ c.from_residual-in_err-commit.result _ c.from_residual-in_err-commit.ensures.1 (c.in_err-commit.ensures r (id_of c.args.id) commit stands (stored_there r (id_of c.args.id) stored.0 c.in_ok-object.object stored.1 is) peels)

pub returns : goal.returns
returns g c = λ r commit stands peels held.
    let stored = peeled_stored r (id_of c.args.id) (ap is_some peels) in
    let is = object_told r.kind stored.0 (object_kind stored.0) refl _ (text_stands _ _ c.args.repository.now r stands (id_of c.args.id) stored.0 stored.1) c.in_ok-read.field-0 c.in_ok-object.object c.in_ok-object.ensures.ok_part (c.in_ok-read.ensures.found stands.honest_objects) in
    let there = stored_there r (id_of c.args.id) stored.0 c.in_ok-object.object stored.1 is in
    (c.in_ok-commit.ensures r (id_of c.args.id) commit stands there peels, c.in_ok-hold.ensures (table_of r) held there)
