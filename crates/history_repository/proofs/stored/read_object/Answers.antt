use Rattle.std.proofs.Common.{ap, refl}
use Rattle.std.specs.Prelude.{Err}
use Rattle.gix_hash.specs.Id.{id_of}
use Rattle.history_model.specs.Objects.{object_kind}
use Rattle.history_repository.proofs.StoredValues.{error_told, object_found, object_told, text_stands}
use Rattle.history_repository.proofs.stored.read_object.Goals as goal

pub returns-in_err-read : goal.returns-in_err-read
returns-in_err-read g c r value stands at = error_told _ _ c.from_residual.result c.in_err-read.field-0.0 c.from_residual.ensures.1 (λ same. c.in_err-read.ensures.failed (ap Err same))

pub returns-in_err-ok_or : goal.returns-in_err-ok_or
returns-in_err-ok_or g c r value stands at =
    absurd (object_found r.kind value (object_kind value) refl _ (text_stands _ _ c.args.repository.now r stands (id_of c.args.id.now) value at) c.in_ok-read.field-0 c.in_err-ok_or.ensures.ok_part (c.in_ok-read.ensures.found stands.honest_objects))

pub returns : goal.returns
returns g c r value stands at =
    object_told r.kind value (object_kind value) refl _ (text_stands _ _ c.args.repository.now r stands (id_of c.args.id.now) value at) c.in_ok-read.field-0 c.in_ok-ok_or.field-0 c.in_ok-ok_or.ensures.ok_part (c.in_ok-read.ensures.found stands.honest_objects)
