use Rattle.std.proofs.Common.{◌∙◌, ◌++◌, ap, sym}
use Rattle.std.proofs.lemmas.List.Elements.{Contains-append_left}
use Rattle.gix_hash.specs.Views.{viewed_id}
use Rattle.gix_object_lookup.specs.Table.{content_or_none}
use Rattle.gix_object_lookup.specs.Table as tables
use Rattle.std.proofs.Common.{option_map}
use Rattle.history_repository.specs.HeldObjects.{ids_of, object_in}
use Rattle.history_repository.proofs.HeldKept.{is_among, held_there, listed_after}
use Rattle.history_repository.proofs.held_objects.HeldStoreFindInto.find_into.Goals as goal

pub returns-in_default-clause-kind : goal.returns-in_default-clause-kind
returns-in_default-clause-kind g c = λ honest. c.find_into.ensures.kind honest.0

pub returns-in_default-clause-content : goal.returns-in_default-clause-content
returns-in_default-clause-content g c = λ honest. c.find_into.ensures.content honest.0

pub returns-in_default-clause-listed : goal.returns-in_default-clause-listed
returns-in_default-clause-listed g c =
    let own = c.args.self.now in
    listed_after (ids_of own.held.now.objects) (g.S.Lookup.ids own.store.now) (viewed_id c.args.id) c.find_into.result c.find_into.ensures.listed

pub returns-clause-kind : goal.returns-clause-kind
returns-clause-kind g c = λ honest.
    let own = c.args.self.now in
    let objects = own.held.now.objects in
    sym (ap (option_map (λ (object : tables.Object). object.kind)) (held_there (g.S.Lookup.table own.store.now) objects honest.1 (viewed_id c.args.id) c.in-Some.object.now (ap (object_in objects) (sym c.from.ensures) ∙ sym c.in-Some.ensures.value)))

pub returns-clause-content : goal.returns-clause-content
returns-clause-content g c = λ honest.
    let own = c.args.self.now in
    let objects = own.held.now.objects in
    c.in_ok-extend_from_slice.ensures.items ∙ ap (λ front. front ++ c.deref.result.now) c.clear.ensures.items ∙ c.deref.ensures.value
    ∙ sym (ap content_or_none (held_there (g.S.Lookup.table own.store.now) objects honest.1 (viewed_id c.args.id) c.in-Some.object.now (ap (object_in objects) (sym c.from.ensures) ∙ sym c.in-Some.ensures.value)))

pub returns-clause-listed : goal.returns-clause-listed
returns-clause-listed g c =
    let own = c.args.self.now in
    let objects = own.held.now.objects in
    λ some. Contains-append_left (ids_of objects) (g.S.Lookup.ids own.store.now) (viewed_id c.args.id)
    (is_among objects (viewed_id c.args.id) c.in-Some.object.now (ap (object_in objects) (sym c.from.ensures) ∙ sym c.in-Some.ensures.value))
