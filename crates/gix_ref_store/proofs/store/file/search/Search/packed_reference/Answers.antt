use Rattle.gix_ref_store.proofs.Among.{none_without, some_records}
use Rattle.gix_ref_store.proofs.store.file.search.Search.packed_reference.Goals as goal

pub returns-in-None : goal.returns-in-None
returns-in-None g c = rw c.in-None.is (none_without c.args.name)

pub returns-in-Some : goal.returns-in-Some
returns-in-Some g c = some_records c.args.self.now.packed c.in-Some.packed c.args.name c.record_of.result c.in-Some.is c.record_of.ensures
