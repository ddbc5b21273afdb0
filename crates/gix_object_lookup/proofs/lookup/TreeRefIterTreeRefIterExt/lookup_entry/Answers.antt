use Rattle.std.proofs.Common.{sym, subst, ◌∷◌, None}
use Rattle.std.specs.Prelude.{option_map}
use Rattle.gix_object_tree.specs.Entry.{own_item}
use Rattle.gix_object_tree.specs.Reading.{place_of}
use Rattle.gix_object_lookup.specs.Path.{FindsFirst, LooksUp}
use Rattle.gix_object_lookup.proofs.Followed.{none_follows, texts}
use Rattle.gix_object_lookup.proofs.lookup.TreeRefIterTreeRefIterExt.lookup_entry.Goals as goal

pub returns-in-None-clause-found : goal.returns-in-None-clause-found
returns-in-None-clause-found g c =
    let honest = g.T.Lookup.is_honest c.args.objects.now in
    let table = g.T.Lookup.table c.args.objects.now in
    let tree = place_of c.args.self.now in
    let cut = c.in-Some.ensures.cases in
    let found = subst (λ o. FindsFirst tree c.in-Some.name.now.now (option_map own_item o)) c.in-None.is c.in_ok-entry.ensures.found in
    let answer : LooksUp honest table tree (texts (c.in-Some.name.now ∷ c.in-Some.rest.now)) None = (None, found, none_follows honest table (texts c.in-Some.rest.now)) in
    subst (λ path. LooksUp honest table tree (texts path) None) (sym cut.0) answer
