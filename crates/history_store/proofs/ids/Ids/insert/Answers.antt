use Rattle.std.proofs.Common.{◌≡◌, ◌<◌, ◌∙◌, refl, rules, sym, ap, subst, true, if◌then◌else◌, is_ok, vec_len, vec_capacity, Vec, Global}
use Rattle.std.specs.List.{insert}
use Rattle.gix_hash.specs.Id.{id_of}
use Rattle.gix_hash.specs.declared.object_id.ObjectId.{ObjectId}
use Rattle.history_store.proofs.IdLists.{listed_again, listed_new, still_lists, whole_told, Begins}
use Rattle.history_store.proofs.ids.Ids.insert.Goals as goal

pub invariant_of-self : goal.invariant_of-self
invariant_of-self c =
    let ids = c.args.self.now in
    let byte = c.from.result in
    let list = c.index_mut-list.result.now in
    let begins : Begins (id_of c.args.id) byte = subst (Begins (id_of c.args.id)) (sym c.from.ensures) c.first_byte.ensures in
    let room = c.requires byte (sym begins) in
    let free : vec_len list < vec_capacity list = subst (λ (l : Vec ObjectId Global). vec_len l < vec_capacity l) (sym c.index_mut-list.ensures.value) (room.free list) in
    let put_in : c.insert-inserted.new.self.items ≡ insert c.deref.result.now c.in-Err.place c.args.id = c.insert-inserted.ensures.items ∙ ap (λ ok. if ok then insert list.items c.in-Err.place c.args.id else list.items) (c.insert-inserted.ensures.succeeds free) ∙ ap (λ xs. insert xs c.in-Err.place c.args.id) (sym c.deref.ensures.value) in
    let whole = whole_told c.args.id c.as_bytes-bytes.result.now c.as_bytes-bytes.ensures in
    record { in_order = still_lists ids.lists.items ids.in_order c.args.id byte begins list room.stands c.index_mut-list.ensures.value c.deref.result.now c.deref.ensures.value c.in-Err.place c.in-Err.ensures.bound c.in-Err.ensures.position c.insert-inserted.new.self put_in whole }

pub returns-in-Err : goal.returns-in-Err
returns-in-Err c =
    let ids = c.args.self.now in
    let byte = c.from.result in
    let list = c.index_mut-list.result.now in
    let begins : Begins (id_of c.args.id) byte = subst (Begins (id_of c.args.id)) (sym c.from.ensures) c.first_byte.ensures in
    let room = c.requires byte (sym begins) in
    let free : vec_len list < vec_capacity list = subst (λ (l : Vec ObjectId Global). vec_len l < vec_capacity l) (sym c.index_mut-list.ensures.value) (room.free list) in
    let put_in : c.insert-inserted.new.self.items ≡ insert c.deref.result.now c.in-Err.place c.args.id = c.insert-inserted.ensures.items ∙ ap (λ ok. if ok then insert list.items c.in-Err.place c.args.id else list.items) (c.insert-inserted.ensures.succeeds free) ∙ ap (λ xs. insert xs c.in-Err.place c.args.id) (sym c.deref.ensures.value) in
    listed_new ids.lists.items ids.in_order c.args.id byte begins list room.stands c.index_mut-list.ensures.value c.deref.result.now c.deref.ensures.value c.in-Err.place c.in-Err.ensures.bound c.in-Err.ensures.position c.insert-inserted.new.self put_in

pub returns-in_default : goal.returns-in_default
returns-in_default c =
    let ids = c.args.self.now in
    let byte = c.from.result in
    let list = c.index_mut-list.result.now in
    let begins : Begins (id_of c.args.id) byte = subst (Begins (id_of c.args.id)) (sym c.from.ensures) c.first_byte.ensures in
    let room = c.requires byte (sym begins) in
    let ok : is_ok c.binary_search.result ≡ true = search rules in
    listed_again ids.lists.items ids.in_order c.args.id byte begins list room.stands c.index_mut-list.ensures.value c.deref.result.now c.deref.ensures.value c.binary_search.result c.binary_search.ensures.bound c.binary_search.ensures.position ok list refl
