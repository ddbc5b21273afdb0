use Rattle.std.proofs.Common.{◌∙◌, refl}
use Rattle.gix_hash.specs.Id.{id_of}
use Rattle.history_model.specs.Objects.{StoredCommit}
use Rattle.history_repository.proofs.ReadingFaults.{fault_told}
use Rattle.history_repository.proofs.stored.root_of.Goals as goal

pub returns : goal.returns
returns g c r value stands at =
    c.root_in.ensures r (id_of c.args.id.now) value stands at (c.deref.ensures.value ∙ c.in_ok-content.ensures r (StoredCommit value) stands at refl)

pub returns-in_err-content : goal.returns-in_err-content
returns-in_err-content g c r value stands at =
    fault_told g.F.Files.reading_may_fail _ c.from_residual.result _ c.from_residual.ensures.1 (c.in_err-content.ensures r (StoredCommit value) stands at refl)
