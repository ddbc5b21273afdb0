use Rattle.std.proofs.Common.{ap, [], None}
use Rattle.std.specs.BTreeMap.{keys}
use Rattle.std.specs.Map.{keys_of}
use Rattle.gix_ref_store.specs.Listings.{is_pseudo}
use Rattle.gix_ref_store.specs.Stores.{base_of}
use Rattle.gix_ref_store.proofs.ListingLemmas.{is_listing}
use Rattle.gix_ref_store.proofs.NameSets.{knows_none}
use Rattle.gix_ref_store.proofs.ItemLemmas.{of_items, no_record}
use Rattle.gix_ref_store.proofs.store.file.Store.iter_pseudo.Goals as goal

pub returns-clause-listed : goal.returns-clause-listed
returns-clause-listed g c = λ honest.
    let tree = (g.F.Files.history c.args.self.now.files).tree in
    let b = base_of c.args.self.now in
    let names = keys c.put_pseudo.new.names in
    of_items tree is_pseudo c.args.self.now None c.put_pseudo.new.names.entries c.items.result c.items.ensures.store c.items.ensures.packed c.items.ensures.names c.items.ensures.order
    (c.in_ok-put_pseudo.ensures.told honest (knows_none b tree c.new-names.result.entries c.new-names.ensures.empty))
    (is_listing b tree [] is_pseudo (keys c.new-names.result) names c.items.ensures.order (ap keys_of c.new-names.ensures.empty) c.in_ok-put_pseudo.ensures.asked (c.in_ok-put_pseudo.ensures.all honest)
    (λ name so is. absurd (no_record name is)))
