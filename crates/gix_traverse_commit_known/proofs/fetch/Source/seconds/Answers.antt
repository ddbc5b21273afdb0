use Rattle.std.proofs.lemmas.Result.{err_from_is_err_and}
use Rattle.std.proofs.Common.{rules, inl, inr, sym, ◌≡◌, ◌∙◌, ap, refl, subst, List, ℕ, Option}
use Rattle.gix_hash.specs.Id.{id_of}
use Rattle.gix_hash.specs.declared.kind.Kind as hash
use Rattle.gix_object_commit.specs.Tokens.{Place, place_of, start}
use Rattle.std.specs.Result.{result_ok}
use Rattle.gix_traverse_graph.specs.Rows.{Holds}
use Rattle.gix_traverse_commit_known.specs.Told.{TellsSeconds, rows_of}
use Rattle.gix_traverse_graph.specs.declared.rows.Row.{Row}
use Rattle.gix_traverse_commit_known.proofs.Told.{object_time}
use Rattle.gix_traverse_commit_known.proofs.Times.{counts_zero, time_fault, zero_unread, time_read}
use Rattle.gix_traverse_commit_known.proofs.fetch.Source.seconds.Goals as goal

begun : (place : Place) (kind known : hash.Kind) (bytes content : List ℕ) → place ≡ start kind bytes → kind ≡ known → bytes ≡ content → place ≡ start known content
begun place kind known bytes content e f h = e ∙ ap (λ (k : hash.Kind). start k bytes) f ∙ ap (start known) h

pub returns-in_err-load-clause-unread : goal.returns-in_err-load-clause-unread
returns-in_err-load-clause-unread g c = λ honest commits told.
    let p = err_from_is_err_and c.from_residual.result c.from_residual.ensures.1 in
    let zero = counts_zero (g.F.Lookup.is_honest c.args.self.now.objects) (g.F.Lookup.may_fail c.args.self.now.objects) (rows_of c.args.self.now.rows) (g.F.Lookup.table c.args.self.now.objects) commits c.args.id.now c.in_err-load.field-0.0 honest told (subst (λ (o : Option (List Row)). Holds (rows_of o) c.args.id.now → ⊥) c.as_ref.ensures.value c.in_default.ensures.none) c.in_err-load.ensures.refused in
    rw (p.1, p.2) zero

pub returns-in_err-load-clause-refused : goal.returns-in_err-load-clause-refused
returns-in_err-load-clause-refused g c =
    let p = err_from_is_err_and c.from_residual.result c.from_residual.ensures.1 in
    let fault = time_fault (g.F.Lookup.is_honest c.args.self.now.objects) (g.F.Lookup.may_fail c.args.self.now.objects) (rows_of c.args.self.now.rows) (g.F.Lookup.table c.args.self.now.objects) c.args.id.now c.in_err-load.field-0.0 (subst (λ (o : Option (List Row)). Holds (rows_of o) c.args.id.now → ⊥) c.as_ref.ensures.value c.in_default.ensures.none) c.in_err-load.ensures.refused in
    rw (p.1, p.2) fault

pub returns-in-Ok-clause-time : goal.returns-in-Ok-clause-time
returns-in-Ok-clause-time g c = λ honest commits told.
    let read = object_time (rows_of c.args.self.now.rows) (g.F.Lookup.table c.args.self.now.objects) commits told c.args.id.now c.load.new.buffer.items (place_of c.from_bytes-reader.result) c.seconds.result (result_ok c.seconds.result)
    (subst (λ (o : Option (List Row)). Holds (rows_of o) c.args.id.now → ⊥) c.as_ref.ensures.value c.in_default.ensures.none) (c.in_ok-load.ensures.stood honest) (begun (place_of c.from_bytes-reader.result) c.kind.result (id_of c.args.id.now).kind c.as_slice.result.now c.load.new.buffer.items c.from_bytes-reader.ensures c.kind.ensures c.as_slice.ensures.value) c.seconds.ensures.told c.seconds.ensures.every refl in
    search rules ∙ time_read c.seconds.result c.in-Ok.seconds (commits c.args.id.now).time c.in-Ok.is read

pub returns-in-Err-clause-unread : goal.returns-in-Err-clause-unread
returns-in-Err-clause-unread g c = λ honest commits told n.
    let read = object_time (rows_of c.args.self.now.rows) (g.F.Lookup.table c.args.self.now.objects) commits told c.args.id.now c.load.new.buffer.items (place_of c.from_bytes-reader.result) c.seconds.result (result_ok c.seconds.result)
    (subst (λ (o : Option (List Row)). Holds (rows_of o) c.args.id.now → ⊥) c.as_ref.ensures.value c.in_default.ensures.none) (c.in_ok-load.ensures.stood honest) (begun (place_of c.from_bytes-reader.result) c.kind.result (id_of c.args.id.now).kind c.as_slice.result.now c.load.new.buffer.items c.from_bytes-reader.ensures c.kind.ensures c.as_slice.ensures.value) c.seconds.ensures.told c.seconds.ensures.every refl in
    inl (sym (zero_unread c.seconds.result c.in-Err.error (commits c.args.id.now).time c.in-Err.is read))

pub returns-in-Ok-clause-told : goal.returns-in-Ok-clause-told
returns-in-Ok-clause-told g c = λ honest.
    let here = begun (place_of c.from_bytes-reader.result) c.kind.result (id_of c.args.id.now).kind c.as_slice.result.now c.load.new.buffer.items c.from_bytes-reader.ensures c.kind.ensures c.as_slice.ensures.value in
    inr (c.load.new.buffer.items, c.in-Ok.seconds, c.in_ok-load.ensures.stood honest, subst (λ (p : Place). TellsSeconds p c.in-Ok.seconds) here c.in-Ok.ensures.told)
