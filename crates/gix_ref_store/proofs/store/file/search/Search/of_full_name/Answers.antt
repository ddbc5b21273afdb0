use Rattle.std.proofs.Common.{◌∙◌, refl}
use Rattle.std.proofs.lemmas.Result.{err_from_is_err_and}
use Rattle.gix_ref_store.specs.Stores.{base_of}
use Rattle.gix_ref_store.specs.Finds.{records_in}
use Rattle.gix_ref_store.proofs.Among.{file_found, file_fault, then_packed}
use Rattle.gix_ref_store.proofs.store.file.search.Search.of_full_name.Goals as goal

pub returns-in_err-target-clause-found : goal.returns-in_err-target-clause-found
returns-in_err-target-clause-found g c = λ honest.
    let p = err_from_is_err_and c.from_residual.result c.from_residual.ensures.1 in
    rw (p.1, p.2)
    (file_fault (base_of c.args.self.now.store.now) (g.F.Files.history c.args.self.now.store.now.files).tree (records_in c.args.self.now.packed) c.as_bytes.result.now c.args.name
    c.in_err-target.field-0.0 (c.as_bytes.ensures ∙ c.as_bstr.ensures.bytes) c.as_bstr.ensures.full (c.in_err-target.ensures.found honest))

pub returns-in-Some-clause-found : goal.returns-in-Some-clause-found
returns-in-Some-clause-found g c = λ honest. (
  refl,
  file_found (base_of c.args.self.now.store.now) (g.F.Files.history c.args.self.now.store.now.files).tree (records_in c.args.self.now.packed) c.as_bytes.result.now c.args.name
      c.in-Some.target (c.as_bytes.ensures ∙ c.as_bstr.ensures.bytes) c.as_bstr.ensures.full (rw c.in-Some.is at (c.in_ok-target.ensures.found honest)),
)

pub returns-in-None-clause-found : goal.returns-in-None-clause-found
returns-in-None-clause-found g c = λ honest.
    then_packed (base_of c.args.self.now.store.now) (g.F.Files.history c.args.self.now.store.now.files).tree (records_in c.args.self.now.packed) c.as_bytes.result.now c.args.name
    c.packed_reference.result (c.as_bytes.ensures ∙ c.as_bstr.ensures.bytes) c.as_bstr.ensures.full (rw c.in-None.is at (c.in_ok-target.ensures.found honest)) c.packed_reference.ensures
