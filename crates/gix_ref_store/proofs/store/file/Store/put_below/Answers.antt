use Rattle.std.specs.BTreeMap.{keys}
use Rattle.gix_ref_store.specs.Asks.{is_asked}
use Rattle.gix_ref_store.specs.Walks.{Gathers, GathersBelow}
use Rattle.gix_ref_store.proofs.GatherLemmas.{on_ok, gathers_all}
use Rattle.gix_ref_store.proofs.store.file.Store.put_below.Goals as goal

pub returns-clause-all : goal.returns-clause-all
returns-clause-all g c = λ honest.
    let tree = (g.F.Files.history c.args.self.now.files).tree in
    let folder = c.folder.result.now in
    on_ok c.below.result (GathersBelow tree c.args.base.now (is_asked c.args.asked) folder (keys c.below.new.names)) (Gathers tree c.args.base.now (is_asked c.args.asked) (keys c.below.new.names))
    (gathers_all tree c.args.base.now (is_asked c.args.asked) folder (keys c.below.new.names) c.folder.ensures.all) (c.below.ensures.all honest)
