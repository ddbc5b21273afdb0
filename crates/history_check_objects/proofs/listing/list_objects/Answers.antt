use Rattle.std.proofs.Common.{[], List, subst}
use Rattle.gix_hash.specs.declared.object_id.ObjectId.{ObjectId}
use Rattle.history_check_objects.specs.Listing.{Gathers}
use Rattle.history_check_objects.proofs.Listings.{root_listed}
use Rattle.history_check_objects.proofs.listing.list_objects.Goals as goal

pub returns-clause-listed : goal.returns-clause-listed
returns-clause-listed g c = λ honest.
    let tree = (g.F.Files.history c.args.files.now).tree in
    root_listed c.args.kind tree c.gather.new.ids.items (g.met.F.Files.rooted c.args.files.now honest)
    (subst (λ (old : List ObjectId). Gathers c.args.kind tree [] old c.gather.new.ids.items) c.new-ids.ensures.items (c.in_ok-gather.ensures.gathered honest))
