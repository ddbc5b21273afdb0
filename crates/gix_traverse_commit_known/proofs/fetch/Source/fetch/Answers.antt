use Rattle.std.proofs.lemmas.Result.{err_from_is_err_and}
use Rattle.std.proofs.Common.{◌≡◌, ◌∙◌, ap, subst, List, ℕ, Option}
use Rattle.gix_hash.specs.Id.{id_of}
use Rattle.gix_hash.specs.declared.kind.Kind as hash
use Rattle.gix_object_commit.specs.Tokens.{Place, place_of, start}
use Rattle.gix_traverse_graph.specs.Rows.{Holds, AllHeld}
use Rattle.gix_traverse_commit_known.specs.Told.{rows_of}
use Rattle.gix_traverse_graph.specs.declared.rows.Row.{Row}
use Rattle.gix_traverse_commit_known.proofs.Told.{object_parents, object_time, parents_unread, read_fault}
use Rattle.std.proofs.Common.{take}
use Rattle.std.specs.Prelude.{Contains}
use Rattle.gix_hash.specs.declared.object_id.ObjectId.{ObjectId}
use Rattle.gix_traverse_graph.specs.Commits.{asked}
use Rattle.gix_traverse_graph.specs.declared.parents.Parents.{Parents}
use Rattle.gix_traverse_graph.specs.declared.parents.Parents.TheVariants.{All, First}
use Rattle.gix_traverse_graph.proofs.Lists.{at_from_contains, at_from_take, contains_from_at}
use Rattle.gix_traverse_commit_known.proofs.fetch.Source.fetch.Goals as goal

begun : (place : Place) (kind known : hash.Kind) (bytes content : List ℕ) → place ≡ start kind bytes → kind ≡ known → bytes ≡ content → place ≡ start known content
begun place kind known bytes content e f h = e ∙ ap (λ (k : hash.Kind). start k bytes) f ∙ ap (start known) h

pub returns-in_err-load-clause-refused : goal.returns-in_err-load-clause-refused
returns-in_err-load-clause-refused g c =
    let p = err_from_is_err_and c.from_residual-in_err-load.result c.from_residual-in_err-load.ensures.1 in
    let fault = read_fault c.args.along (g.F.Lookup.is_honest c.args.self.now.objects) (g.F.Lookup.may_fail c.args.self.now.objects) (rows_of c.args.self.now.rows) (g.F.Lookup.table c.args.self.now.objects) c.args.id.now c.in_err-load.field-0.0 (subst (λ (o : Option (List Row)). Holds (rows_of o) c.args.id.now → ⊥) c.as_ref.ensures.value c.in_default.ensures.none) c.in_err-load.ensures.refused in
    rw (p.1, p.2) fault

pub returns-clause-parents : goal.returns-clause-parents
returns-clause-parents g c = λ honest commits told.
    object_parents (rows_of c.args.self.now.rows) (g.F.Lookup.table c.args.self.now.objects) commits told c.args.id.now c.load.new.buffer.items c.args.along (place_of c.from_bytes-reader.result) c.in_ok-read_parents.field-0.items
    (subst (λ (o : Option (List Row)). Holds (rows_of o) c.args.id.now → ⊥) c.as_ref.ensures.value c.in_default.ensures.none) (c.in_ok-load.ensures.stood honest) (begun (place_of c.from_bytes-reader.result) c.kind.result (id_of c.args.id.now).kind c.as_slice-2.result.now c.load.new.buffer.items c.from_bytes-reader.ensures c.kind.ensures c.as_slice-2.ensures.value) c.in_ok-read_parents.ensures.told

pub returns-clause-time : goal.returns-clause-time
returns-clause-time g c = λ honest commits told.
    object_time (rows_of c.args.self.now.rows) (g.F.Lookup.table c.args.self.now.objects) commits told c.args.id.now c.load.new.buffer.items (place_of c.from_bytes-reader.result) c.seconds.result c.ok.result
    (subst (λ (o : Option (List Row)). Holds (rows_of o) c.args.id.now → ⊥) c.as_ref.ensures.value c.in_default.ensures.none) (c.in_ok-load.ensures.stood honest) (begun (place_of c.from_bytes-reader.result) c.kind.result (id_of c.args.id.now).kind c.as_slice-2.result.now c.load.new.buffer.items c.from_bytes-reader.ensures c.kind.ensures c.as_slice-2.ensures.value) c.seconds.ensures.told c.seconds.ensures.every c.ok.ensures.value

-- the parents that are wanted are parents
asked_in : (along : Parents) (ps : List ObjectId) (x : ObjectId) → Contains (asked along ps) x → Contains ps x
asked_in All ps x c = c
asked_in First ps x c =
    let (k, a) = at_from_contains (take 1 ps) x c in
    contains_from_at ps k x (at_from_take ps 1 k x a).1

pub returns-in-Some-clause-closed : goal.returns-in-Some-clause-closed
returns-in-Some-clause-closed g c = λ held.
    subst (λ (o : Option (List Row)). AllHeld (rows_of o) c.in_ok-from_slice.field-0.items) c.as_ref.ensures.value (λ x k. c.in-Some.ensures.rows.parents c.in-Some.row.now c.in-Some.ensures.found.0 x
    (asked_in c.args.along c.in-Some.row.now.parents.items x (subst (λ (xs : List ObjectId). Contains xs x) (c.in_ok-from_slice.ensures.ok ∙ c.asked_of.ensures ∙ ap (asked c.args.along) c.as_slice.ensures) k)))

pub returns-in_err-read_parents-clause-refused : goal.returns-in_err-read_parents-clause-refused
returns-in_err-read_parents-clause-refused g c =
    let p = err_from_is_err_and c.from_residual-in_err-read_parents.result c.from_residual-in_err-read_parents.ensures.1 in
    let fault = parents_unread c.args.along (g.F.Lookup.is_honest c.args.self.now.objects) (g.F.Lookup.may_fail c.args.self.now.objects) (rows_of c.args.self.now.rows) (g.F.Lookup.table c.args.self.now.objects) c.args.id.now c.load.new.buffer.items (place_of c.from_bytes-reader.result) c.in_err-read_parents.field-0.0
    (subst (λ (o : Option (List Row)). Holds (rows_of o) c.args.id.now → ⊥) c.as_ref.ensures.value c.in_default.ensures.none) c.in_ok-load.ensures.stood (begun (place_of c.from_bytes-reader.result) c.kind.result (id_of c.args.id.now).kind c.as_slice-2.result.now c.load.new.buffer.items c.from_bytes-reader.ensures c.kind.ensures c.as_slice-2.ensures.value) c.in_err-read_parents.ensures.refused in
    rw (p.1, p.2) fault
