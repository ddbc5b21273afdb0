use Rattle.std.proofs.Common.{◌∙◌, ap, Err}
use Rattle.history_model.specs.Places.{file_at, packed_place}
use Rattle.history_store.proofs.ChangeSteps.{opened}
use Rattle.history_store.proofs.names.Names.read_anew.Goals as goal

pub returns-in-Err-clause-failed : goal.returns-in-Err-clause-failed
returns-in-Err-clause-failed g c = λ honest can failed.
    let new = c.read_less.new.self in
    let error = c.in-Err.error in
    let is = opened new.kind (file_at (g.F.Files.history new.store.files).tree packed_place) error can (c.in-Err.ensures.faulty honest) (cc (failed, c.of_opening.ensures)) in
    c.read_less.ensures.failed (c.in-Err.is ∙ ap Err is)
