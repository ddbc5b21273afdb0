use Rattle.std.proofs.Common.{◌≡◌, ◌<◌, ◌∙◌, sym, ap, subst, length, true, arith, Vec, Global}
use Rattle.gix_hash.specs.declared.object_id.ObjectId.{ObjectId}
use Rattle.history_store.specs.Ids.{is_list_of, set_of}
use Rattle.history_store.proofs.IdLists.{default_beyond, joined_same, list_at, set_list}
use Rattle.history_store.proofs.ids.Ids.make_room.Goals as goal

pub invariant_of-self : goal.invariant_of-self
invariant_of-self c =
    let ids = c.make_lists.new.self in
    let byte = c.from-byte.result in
    let list = c.index_mut.result.now in
    let enough = c.in_ok-make_lists.ensures.enough in
    let within : byte < length ids.lists.items = omega (arith, enough) in
    let same = c.reserve.ensures.items ∙ ap (λ (l : Vec ObjectId Global). l.items) c.index_mut.ensures.value in
    record { in_order = set_list ids.lists.items ids.in_order byte c.reserve.new.self (subst (λ xs. is_list_of byte xs ≡ true) (sym same) (list_at ids.lists.items ids.in_order byte list within)) }

pub returns-clause-ids : goal.returns-clause-ids
returns-clause-ids c =
    let ids = c.make_lists.new.self in
    let byte = c.from-byte.result in
    let list = c.index_mut.result.now in
    let enough = c.in_ok-make_lists.ensures.enough in
    let within : byte < length ids.lists.items = omega (arith, enough) in
    ap set_of (joined_same ids.lists.items byte c.reserve.new.self (λ d. c.reserve.ensures.items ∙ ap (λ (l : Vec ObjectId Global). l.items) (c.index_mut.ensures.value ∙ default_beyond ids.lists.items byte list d within)))
    ∙ c.make_lists.ensures.ids
