use Rattle.std.proofs.Common.{◌≢◌, ap, rules}
use Rattle.std.specs.Prelude.{Err}
use Rattle.history_repository.proofs.StoredValues.{text_stands, object_told, object_found, error_told}
use Rattle.history_repository.proofs.stored.content.Goals as goal
use Rattle.history_repository.proofs.stored.content.Goals.{in_default-via-in-Some+else-eq, in_default-via-in_default}
use Rattle.gix_hash.specs.Id.{id_of}

pub returns-in_err-object : goal.returns-in_err-object
returns-in_err-object g c r value stands at word = error_told _ _ c.from_residual.result c.in_err-object.field-0.0 c.from_residual.ensures.1 (λ same. c.in_err-object.ensures.failed (ap Err same))

pub returns-in-Some : goal.returns-in-Some
returns-in-Some g c r value stands at word =
    (object_told r.kind value c.args.kind word _ (text_stands _ _ c.args.repository.now r stands (id_of c.args.id.now) value at) c.in_ok-object.field-0 c.in-Some.object c.in-Some.is (c.in_ok-object.ensures.found stands.honest_objects)).1

pub returns-in_default : goal.returns-in_default
returns-in_default g c r value stands at word = elim c.in_default.branch [
  | in_default-via-in-Some+else-eq w ↦
      let same = (object_told r.kind value c.args.kind word _ (text_stands _ _ c.args.repository.now r stands (id_of c.args.id.now) value at) c.in_ok-object.field-0 w.in-Some.object w.in-Some.is (c.in_ok-object.ensures.found stands.honest_objects)).0 in
      let apart : w.in-Some.object.kind ≢ c.args.kind = search rules in
      absurd (apart same)
  | in_default-via-in_default w ↦
      absurd (object_found r.kind value c.args.kind word _ (text_stands _ _ c.args.repository.now r stands (id_of c.args.id.now) value at) c.in_ok-object.field-0 w.in_default.is (c.in_ok-object.ensures.found stands.honest_objects))
]
