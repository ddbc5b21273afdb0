use Rattle.std.proofs.Common.{◌≡◌, ◌<◌, ◌≤◌, ◌∙◌, ap, arith, length, subst, sym, take, true, List}
use Rattle.std.specs.List.{All, slice_index_or}
use Rattle.gix_hash.specs.Id.{id_of}
use Rattle.gix_hash.specs.declared.object_id.ObjectId.{ObjectId}
use Rattle.history_store.specs.Prefixes.{IsHitOfRun}
use Rattle.history_store.proofs.IdLists.{Begins}
use Rattle.history_store.proofs.PrefixLists.{ascends, first_two, has_digits, hit_told, in_order, kinds_told, no_more, none_named, of_byte}
use Rattle.std.proofs.lemmas.Bool.{and_parts}
use Rattle.history_store.proofs.ids.Ids.lookup.Goals as goal

pub returns-in_default-clause-hit : goal.returns-in_default-clause-hit
returns-in_default-clause-hit c =
    let look = c.in_default.ensures.lookup in
    let lists = c.args.self.now.lists.items in
    let byte = c.from-byte.result in
    let prefix = c.args.prefix.now in
    let begins = subst (Begins prefix) (sym c.from-byte.ensures) (c.first_byte.ensures ∙ ap (take 2) c.as_oid.ensures.digits ∙ first_two prefix.digits _ c.requires.enough) in
    λ all. none_named lists c.args.self.now.in_order byte (subst (λ ls. length ls ≤ byte) c.deref.ensures.value look.3) prefix begins c.requires.enough

pub are_of_kind-requires : goal.are_of_kind-requires
are_of_kind-requires c =
    let look = c.in-Some.ensures.lookup in
    let lists = c.args.self.now.lists.items in
    let byte = c.from-byte.result in
    let list = c.in-Some.list.now in
    let within = subst (λ ls. byte < length ls) c.deref.ensures.value look.3.0 in
    let is = look.1 ∙ ap (λ ls. slice_index_or ls byte list) c.deref.ensures.value in
    in_order lists c.args.self.now.in_order byte list within is c.deref-2.result.now c.deref-2.ensures.value

pub returns-then-not-are_of_kind-clause-hit : goal.returns-then-not-are_of_kind-clause-hit
returns-then-not-are_of_kind-clause-hit c =
    let look = c.in-Some.ensures.lookup in
    let lists = c.args.self.now.lists.items in
    let byte = c.from-byte.result in
    let list = c.in-Some.list.now in
    let within = subst (λ ls. byte < length ls) c.deref.ensures.value look.3.0 in
    let is = look.1 ∙ ap (λ ls. slice_index_or ls byte list) c.deref.ensures.value in
    λ all id found.
    let each = kinds_told lists c.args.self.now.in_order byte list within is c.deref-2.result.now c.deref-2.ensures.value c.args.kind all in
    let yes : c.are_of_kind.result ≡ true = c.are_of_kind.ensures.1 each in
    cc (yes, c.if-not-are_of_kind.true)

pub prefix_run-run-requires-clause-ascending : goal.prefix_run-run-requires-clause-ascending
prefix_run-run-requires-clause-ascending c =
    let look = c.in-Some.ensures.lookup in
    let lists = c.args.self.now.lists.items in
    let byte = c.from-byte.result in
    let list = c.in-Some.list.now in
    let within = subst (λ ls. byte < length ls) c.deref.ensures.value look.3.0 in
    let is = look.1 ∙ ap (λ ls. slice_index_or ls byte list) c.deref.ensures.value in
    let order = in_order lists c.args.self.now.in_order byte list within is c.deref-3.result.now c.deref-3.ensures.value in
    let yes : c.are_of_kind.result ≡ true = cc in
    let each = subst (λ (ids : List ObjectId). All (λ id. (id_of id).kind ≡ c.args.kind) ids) (c.deref-2.ensures.value ∙ sym c.deref-3.ensures.value) (c.are_of_kind.ensures.0 yes) in
    ascends c.deref-3.result.now order c.args.kind each

pub prefix_run-run-requires-clause-enough : goal.prefix_run-run-requires-clause-enough
prefix_run-run-requires-clause-enough c =
    let look = c.in-Some.ensures.lookup in
    let lists = c.args.self.now.lists.items in
    let byte = c.from-byte.result in
    let list = c.in-Some.list.now in
    let within = subst (λ ls. byte < length ls) c.deref.ensures.value look.3.0 in
    let is = look.1 ∙ ap (λ ls. slice_index_or ls byte list) c.deref.ensures.value in
    let own = of_byte lists c.args.self.now.in_order byte list within is c.deref-3.result.now c.deref-3.ensures.value in
    let yes : c.are_of_kind.result ≡ true = cc in
    let each = subst (λ (ids : List ObjectId). All (λ id. (id_of id).kind ≡ c.args.kind) ids) (c.deref-2.ensures.value ∙ sym c.deref-3.ensures.value) (c.are_of_kind.ensures.0 yes) in
    has_digits c.deref-3.result.now (and_parts _ _ own).1 c.args.kind byte c.args.prefix.now (and_parts _ _ own).0 c.requires.fits each

pub returns-clause-hit : goal.returns-clause-hit
returns-clause-hit c =
    let look = c.in-Some.ensures.lookup in
    let lists = c.args.self.now.lists.items in
    let byte = c.from-byte.result in
    let list = c.in-Some.list.now in
    let within = subst (λ ls. byte < length ls) c.deref.ensures.value look.3.0 in
    let is = look.1 ∙ ap (λ ls. slice_index_or ls byte list) c.deref.ensures.value in
    let prefix = c.args.prefix.now in
    let begins = subst (Begins prefix) (sym c.from-byte.ensures) (c.first_byte.ensures ∙ ap (take 2) c.as_oid.ensures.digits ∙ first_two prefix.digits _ c.requires.enough) in
    let run = c.prefix_run-run.result in
    λ all. hit_told lists c.args.self.now.in_order byte list within is c.deref-3.result.now c.deref-3.ensures.value prefix begins c.requires.enough
    run.first run.past c.prefix_run-run.ensures.matches c.prefix_run-run.ensures.within.1 c.hit_of.result
    (subst (λ (ids : List ObjectId). IsHitOfRun ids run.first run.past c.hit_of.result) (c.deref-4.ensures.value ∙ sym c.deref-3.ensures.value) c.hit_of.ensures)

pub returns-clause-calls : goal.returns-clause-calls
returns-clause-calls c =
    let look = c.in-Some.ensures.lookup in
    let lists = c.args.self.now.lists.items in
    let byte = c.from-byte.result in
    let list = c.in-Some.list.now in
    let within = subst (λ ls. byte < length ls) c.deref.ensures.value look.3.0 in
    let is = look.1 ∙ ap (λ ls. slice_index_or ls byte list) c.deref.ensures.value in
    let fewer = no_more lists c.args.self.now.in_order byte list within is c.deref-3.result.now c.deref-3.ensures.value in
    λ k lt. c.prefix_run-run.ensures.calls k (omega (arith, fewer, lt))
