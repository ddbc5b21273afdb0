use Rattle.gix_ref_store.specs.Searches.{reads_in}
use Rattle.gix_ref_store.proofs.store.file.iter.LooseThenPacked.item.Goals as goal

pub returns-in-Missing-clause-told : goal.returns-in-Missing-clause-told
returns-in-Missing-clause-told g c = λ honest.
    rw c.in-Missing.is (c.recorded.ensures.told (reads_in (g.F.Files.history c.args.self.now.search.store.now.files).tree c.args.self.now.search c.args.name))
