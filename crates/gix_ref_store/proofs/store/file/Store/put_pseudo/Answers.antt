use Rattle.std.specs.BTreeMap.{keys}
use Rattle.std.proofs.Common.{subst}
use Rattle.gix_ref_store.specs.Listings.{is_pseudo}
use Rattle.gix_ref_store.specs.Stores.{base_of}
use Rattle.gix_ref_store.specs.Walks.{Gathers, GathersPlaces}
use Rattle.gix_ref_store.proofs.GatherLemmas.{on_ok, own_places}
use Rattle.gix_ref_store.proofs.store.file.Store.put_pseudo.Goals as goal

pub returns-clause-all : goal.returns-clause-all
returns-clause-all g c = λ honest.
    let tree = (g.F.Files.history c.args.self.now.files).tree in
    let b = base_of c.args.self.now in
    on_ok c.pseudo.result (Gathers tree c.git_dir.result.now is_pseudo (keys c.pseudo.new.names)) (GathersPlaces b tree is_pseudo (keys c.pseudo.new.names))
    (λ own. own_places b tree (keys c.pseudo.new.names) (subst (λ p. Gathers tree p is_pseudo (keys c.pseudo.new.names)) c.git_dir.ensures own)) (c.pseudo.ensures.all honest)
