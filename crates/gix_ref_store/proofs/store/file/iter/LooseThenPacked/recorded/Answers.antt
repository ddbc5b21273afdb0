use Rattle.gix_ref_store.proofs.ItemLemmas.{told_found}
use Rattle.gix_ref_store.proofs.store.file.iter.LooseThenPacked.recorded.Goals as goal

pub returns-in-Some-clause-told : goal.returns-in-Some-clause-told
returns-in-Some-clause-told g c = λ read. told_found c.args.name read _ c.in-Some.found (rw c.in-Some.is at c.packed_reference.ensures)

pub returns-in-None-clause-told : goal.returns-in-None-clause-told
returns-in-None-clause-told g c = λ read. rw c.in-None.is at c.packed_reference.ensures
