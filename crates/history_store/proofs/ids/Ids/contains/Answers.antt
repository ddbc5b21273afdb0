use Rattle.std.proofs.Common.{◌<◌, ◌≤◌, ◌∙◌, sym, ap, subst, length}
use Rattle.std.specs.List.{slice_index_or}
use Rattle.gix_hash.specs.Id.{id_of}
use Rattle.history_store.specs.Ids.{joined}
use Rattle.history_store.proofs.IdLists.{contains_found, no_list, Begins}
use Rattle.history_store.proofs.IdSets.{contains-set_of}
use Rattle.history_store.proofs.ids.Ids.contains.Goals as goal

pub returns-in-Some : goal.returns-in-Some
returns-in-Some c =
    let look = c.in-Some.ensures.lookup in
    let ids = c.args.self.now in
    let byte = c.from.result in
    let begins = subst (Begins (id_of c.args.id.now)) (sym c.from.ensures) c.first_byte.ensures in
    contains_found ids.lists.items ids.in_order c.args.id.now byte begins c.in-Some.list.now
    (subst (λ lists. byte < length lists) c.deref.ensures.value look.3.0)
    (look.1 ∙ ap (λ lists. slice_index_or lists byte c.in-Some.list.now) c.deref.ensures.value)
    c.deref-in-Some.result.now c.deref-in-Some.ensures.value c.binary_search.result c.binary_search.ensures.bound c.binary_search.ensures.position c.is_ok.result c.is_ok.ensures.value

pub returns-in-None : goal.returns-in-None
returns-in-None c =
    let look = c.in-None.ensures.lookup in
    let ids = c.args.self.now in
    let byte = c.from.result in
    let begins = subst (Begins (id_of c.args.id.now)) (sym c.from.ensures) c.first_byte.ensures in
    sym (contains-set_of (joined ids.lists.items) (id_of c.args.id.now)
    ∙ no_list ids.lists.items ids.in_order byte (subst (λ lists. length lists ≤ byte) c.deref.ensures.value look.3) (id_of c.args.id.now) begins)
