use Rattle.std.proofs.Common.{◌∙◌, sym, subst, refl}
use Rattle.gix_ref_store.specs.Stores.{base_of}
use Rattle.gix_ref_store.specs.Finds.{records_in}
use Rattle.gix_ref_store.specs.Items.{TellsName}
use Rattle.gix_ref_store.specs.declared.store.file.find.Error.TheVariants as find
use Rattle.gix_ref_store.specs.Searches.{reads_in}
use Rattle.gix_ref_store.proofs.Among.{file_found, file_absent, file_fault}
use Rattle.gix_ref_store.proofs.store.file.iter.LooseThenPacked.read.Goals as goal

pub returns-in-Ok-Some-clause-told : goal.returns-in-Ok-Some-clause-told
returns-in-Ok-Some-clause-told g c = λ honest. (
  refl,
  file_found (base_of c.args.self.now.search.store.now) (g.F.Files.history c.args.self.now.search.store.now.files).tree (records_in c.args.self.now.search.packed) c.as_bytes.result.now c.args.name
      c.in-Ok-Some.target (c.as_bytes.ensures ∙ c.as_bstr.ensures.bytes) c.as_bstr.ensures.full (rw c.in-Ok-Some.field-0-is at (rw c.in-Ok-Some.is at (c.target_in_file.ensures.found honest))),
)

pub returns-in-Ok-None-clause-told : goal.returns-in-Ok-None-clause-told
returns-in-Ok-None-clause-told g c = λ honest.
    let tree = (g.F.Files.history c.args.self.now.search.store.now.files).tree in
    let read = reads_in tree c.args.self.now.search c.args.name in
    let absent = file_absent (base_of c.args.self.now.search.store.now) tree (records_in c.args.self.now.search.packed) c.as_bytes.result.now c.args.name (c.as_bytes.ensures ∙ c.as_bstr.ensures.bytes) c.as_bstr.ensures.full (rw c.in-Ok-None.field-0-is at (rw c.in-Ok-None.is at (c.target_in_file.ensures.found honest))) in
    subst (λ r. TellsName c.args.name read r c.recorded.result) (sym absent) (c.recorded.ensures.told read)

pub returns-in-Err-ReferenceCreation-clause-told : goal.returns-in-Err-ReferenceCreation-clause-told
returns-in-Err-ReferenceCreation-clause-told g c = λ honest. (
  refl,
  file_fault (base_of c.args.self.now.search.store.now) (g.F.Files.history c.args.self.now.search.store.now.files).tree (records_in c.args.self.now.search.packed) c.as_bytes.result.now c.args.name
      (find.ReferenceCreation c.in-Err-ReferenceCreation.reason) (c.as_bytes.ensures ∙ c.as_bstr.ensures.bytes) c.as_bstr.ensures.full
      (rw c.in-Err-ReferenceCreation.field-0-is at (rw c.in-Err-ReferenceCreation.is at (c.target_in_file.ensures.found honest))),
)
