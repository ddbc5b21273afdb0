use Rattle.std.proofs.Common.{◌≡◌, ◌++◌, Contains, IfOk, Option, option_map, subst}
use Rattle.std.specs.Prelude.{IsSome, OnOk}
use Rattle.std.proofs.lemmas.List.Elements.{Contains-append_left, Contains-append_right}
use Rattle.gix_hash.specs.Views.{viewed_id}
use Rattle.gix_object_lines.specs.declared.kind.Kind.{Kind}
use Rattle.gix_object_lookup.specs.Table.{Object, content_or_none}
use Rattle.history_walks.specs.ReadCommits.{ids_of, kept_in}
use Rattle.history_walks.proofs.Kept.{ok_more, same_there}
use Rattle.history_walks.proofs.read_commits.ReadStoreFindInto.find_into.Goals as goal

pub returns-in-Some-clause-kind : goal.returns-in-Some-clause-kind
returns-in-Some-clause-kind g c = λ honest.
    let own = c.args.self.now in
    subst (λ (o : Option Object). IfOk c.find_into.result (λ kind. kind ≡ option_map (λ (object : Object). object.kind) o))
    (same_there (g.S.Lookup.table own.store.now) (kept_in own.read.now) c.from.result (viewed_id c.args.id) _ honest.1 c.from.ensures c.in-Some.ensures) (c.find_into.ensures.kind tt)

pub returns-in-Some-clause-content : goal.returns-in-Some-clause-content
returns-in-Some-clause-content g c = λ honest.
    let own = c.args.self.now in
    subst (λ (o : Option Object). OnOk c.find_into.result (c.find_into.new.buffer.items ≡ content_or_none o))
    (same_there (g.S.Lookup.table own.store.now) (kept_in own.read.now) c.from.result (viewed_id c.args.id) _ honest.1 c.from.ensures c.in-Some.ensures) (c.find_into.ensures.content tt)

pub returns-in-Some-clause-listed : goal.returns-in-Some-clause-listed
returns-in-Some-clause-listed g c =
    let own = c.args.self.now in
    let kept = ids_of own.read.now.contents in
    let stored = g.S.Lookup.ids own.store.now in
    let id = viewed_id c.args.id in
    ok_more c.find_into.result (λ (kind : Option Kind). IsSome kind → Contains kept id) (λ (kind : Option Kind). IsSome kind → Contains (kept ++ stored) id) (λ kind among some. Contains-append_left kept stored id (among some)) c.find_into.ensures.listed

pub returns-in-Some-clause-failed : goal.returns-in-Some-clause-failed
returns-in-Some-clause-failed g c = λ failed. absurd (c.find_into.ensures.failed failed)

pub returns-in-None-clause-kind : goal.returns-in-None-clause-kind
returns-in-None-clause-kind g c = λ honest. c.find_into-in-None.ensures.kind honest.0

pub returns-in-None-clause-content : goal.returns-in-None-clause-content
returns-in-None-clause-content g c = λ honest. c.find_into-in-None.ensures.content honest.0

pub returns-in-None-clause-listed : goal.returns-in-None-clause-listed
returns-in-None-clause-listed g c =
    let own = c.args.self.now in
    let kept = ids_of own.read.now.contents in
    let stored = g.S.Lookup.ids own.store.now in
    let id = viewed_id c.args.id in
    ok_more c.find_into-in-None.result (λ (kind : Option Kind). IsSome kind → Contains stored id) (λ (kind : Option Kind). IsSome kind → Contains (kept ++ stored) id) (λ kind among some. Contains-append_right kept stored id (among some)) c.find_into-in-None.ensures.listed

pub returns-in-None-clause-failed : goal.returns-in-None-clause-failed
returns-in-None-clause-failed g c = c.find_into-in-None.ensures.failed
