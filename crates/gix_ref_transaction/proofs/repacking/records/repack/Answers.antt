use Rattle.std.proofs.Common.{◌≡◌, ◌≢◌, ◌∙◌, [], ap, refl, sym, subst, arith, inl, rules, map, option_map, List, ℕ}
use Rattle.std.proofs.lemmas.Result.{err_from_is_err_and}
use Rattle.gix_hash.specs.declared.kind.Kind.{Kind}
use Rattle.gix_ref_lock.specs.Locks.{lock_of}
use Rattle.std.specs.List.{list_any}
use Rattle.std.specs.Borrow.{Bor}
use Rattle.gix_ref_format.specs.PackedBuffer.{KeepsFile}
use Rattle.gix_ref_format.specs.PackedKept.{kept}
use Rattle.gix_ref_format.specs.declared.packed.buffer.Buffer.{Buffer}
use Rattle.gix_ref_way.specs.Ways.{file_at}
use Rattle.gix_ref_store.specs.Finds.{records_in}
use Rattle.gix_ref_store.specs.Places.{packed_place}
use Rattle.gix_ref_store.specs.Stores.{base_of}
use Rattle.gix_ref_lock.specs.RecordEdits.{line_in}
use Rattle.gix_ref_lock.specs.declared.packed.RecordEdit.{RecordEdit}
use Rattle.gix_ref_transaction.specs.Calls.{IsUnpacked}
use Rattle.gix_ref_transaction.specs.Modes.{objects_in}
use Rattle.gix_ref_transaction.specs.Repacking.{changes_record}
use Rattle.gix_ref_transaction.proofs.RecordLines.{any_line, changed_records, unchanged_records, some_change}
use Rattle.gix_ref_transaction.specs.Resolving.{PackFault, SomeChangeFault}
use Rattle.gix_ref_transaction.proofs.Unresolved.{unearly}
use Rattle.gix_ref_transaction.proofs.repacking.records.repack.Goals as goal

pub returns-then-not-change_records-clause-repacked : goal.returns-then-not-change_records-clause-repacked
returns-then-not-change_records-clause-repacked g c = λ honest told known.
    let old = (g.F.Files.history c.args.store.now.files).tree in
    let b = base_of c.args.store.now in
    let records = records_in c.args.packed in
    let lines = c.in_ok-lines.lines.items in
    let packs = option_map g.O.Lookup.table (objects_in c.args.packed_refs.now) in
    let none = sym (any_line (changes_record records) lines) ∙ ap (list_any (λ (e : RecordEdit). changes_record records (line_in e))) (sym c.deref.ensures.value) ∙ sym c.change_records.ensures ∙ c.if-not-change_records.true in
    unchanged_records b packs c.args.packed old old c.args.edits.now (map line_in lines) known none (c.in_ok-lines.ensures.said honest told)

pub returns-clause-repacked : goal.returns-clause-repacked
returns-clause-repacked g c = λ honest told known.
    let old = (g.F.Files.history c.args.store.now.files).tree in
    let new = (g.F.Files.history c.written.new.files).tree in
    let b = base_of c.args.store.now in
    let records = records_in c.args.packed in
    let lines = c.in_ok-lines.lines.items in
    let packs = option_map g.O.Lookup.table (objects_in c.args.packed_refs.now) in
    let some = sym (any_line (changes_record records) lines) ∙ ap (list_any (λ (e : RecordEdit). changes_record records (line_in e))) (sym c.deref.ensures.value) ∙ sym c.change_records.ensures ∙ c.if-not-change_records.false in
    let lines_some : lines ≢ [] = λ none. some_change records (map line_in lines) some (ap (map line_in) none) in
    let of_kind : c.options-kind.result.object_hash ≡ b.kind = search rules in
    let here : c.deref-2.result.now ≡ packed_place b = c.deref-2.ensures.value ∙ c.in_ok-place.ensures in
    let lent = option_map (λ (buffer : Bor Buffer). kept buffer.now) c.args.packed in
    let own_known = subst (λ (p : List ℕ). KeepsFile c.options-kind.result.object_hash (file_at old p) lent) (sym here) (subst (λ (k : Kind). KeepsFile k (file_at old (packed_place b)) lent) (sym of_kind) known) in
    changed_records b packs c.options-kind.result.object_hash c.deref-2.result.now c.args.packed old new c.args.edits.now (map line_in lines) c.in_ok-held.held known some of_kind here (c.in_ok-lines.ensures.said honest told) (c.in_ok-held.ensures.held honest lines_some own_known)

pub returns-in_err-lines-clause-resolves : goal.returns-in_err-lines-clause-resolves
returns-in_err-lines-clause-resolves g c = λ honest told.
    let p = err_from_is_err_and c.from_residual.result c.from_residual.ensures.1 in
    rw (p.1, p.2) (c.in_err-lines.ensures.resolves honest told)

pub returns-in_err-held-clause-resolves : goal.returns-in_err-held-clause-resolves
returns-in_err-held-clause-resolves g c = λ honest told.
    let why = PackFault g.F.Files.reading_may_fail g.O.Lookup.may_fail g.O.Lookup.table (objects_in c.args.packed_refs.now) in
    let p = err_from_is_err_and c.from_residual-in_err-held.result c.from_residual-in_err-held.ensures.1 in
    rw (p.1, p.2) (unearly (SomeChangeFault why c.args.edits.now) c.in_err-held.field-0.0 c.in_err-held.ensures.begun)

-- ---- what is kept
pub returns-in_err-lines-clause-keeps : goal.returns-in_err-lines-clause-keeps
returns-in_err-lines-clause-keeps g c = record { honest = λ honest. honest; base = refl; options = refl; later = omega arith; quiet = λ quiet. refl }

pub returns-in_err-place-clause-keeps : goal.returns-in_err-place-clause-keeps
returns-in_err-place-clause-keeps g c = record { honest = λ honest. honest; base = refl; options = refl; later = omega arith; quiet = λ quiet. refl }

pub returns-in_err-held-clause-keeps : goal.returns-in_err-held-clause-keeps
returns-in_err-held-clause-keeps g c =
    let kept = c.in_err-held.ensures.keeps in
    let p = err_from_is_err_and c.from_residual-in_err-held.result c.from_residual-in_err-held.ensures.1 in
    rw (p.1, p.2) (record { honest = kept.honest; base = refl; options = refl; later = kept.later; quiet = kept.quiet })

pub returns-clause-keeps : goal.returns-clause-keeps
returns-clause-keeps g c =
    let kept = c.in_ok-held.ensures.keeps in
    record { honest = kept.honest; base = refl; options = refl; later = kept.later; quiet = λ quiet. kept.quiet tt }

pub returns-clause-held : goal.returns-clause-held
returns-clause-held g c = λ honest. record {
  here = c.in_ok-held.held.lock.beside ∙ ap lock_of (c.in_ok-held.ensures.at ∙ c.deref-2.ensures.value ∙ c.in_ok-place.ensures);
  held = c.in_ok-held.ensures.locked honest;
}

-- ---- records aren't locked
pub returns-in_err-lines-clause-failed : goal.returns-in_err-lines-clause-failed
returns-in_err-lines-clause-failed g c = λ honest.
    let p = err_from_is_err_and c.from_residual.result c.from_residual.ensures.1 in
    rw (p.1, p.2) (record { rolled_back = inl refl; failed = λ place read. inl c.in_err-lines.ensures.early })

pub returns-in_err-place-clause-failed : goal.returns-in_err-place-clause-failed
returns-in_err-place-clause-failed g c = λ honest.
    let p = err_from_is_err_and c.from_residual-in_err-place.result c.from_residual-in_err-place.ensures.1 in
    rw (p.1, p.2) (record { rolled_back = inl refl; failed = λ place read. inl tt })

pub returns-in_err-held-clause-failed : goal.returns-in_err-held-clause-failed
returns-in_err-held-clause-failed g c = λ honest.
    let f = g.F.Files.failures in
    let old = (g.F.Files.history c.args.store.now.files).tree in
    let new = (g.F.Files.history c.written.new.files).tree in
    let b = base_of c.args.store.now in
    let error = c.in_err-held.field-0.0 in
    let of_kind : c.options-kind.result.object_hash ≡ b.kind = search rules in
    let here : c.deref-2.result.now ≡ packed_place b = c.deref-2.ensures.value ∙ c.in_ok-place.ensures in
    let p = err_from_is_err_and c.from_residual-in_err-held.result c.from_residual-in_err-held.ensures.1 in
    rw (p.1, p.2) (subst (λ (q : List ℕ). IsUnpacked b.kind q (f c.args.store.now.files) (f c.written.new.files) g.F.Files.reading_may_fail old new error) here
    (subst (λ (k : Kind). IsUnpacked k c.deref-2.result.now (f c.args.store.now.files) (f c.written.new.files) g.F.Files.reading_may_fail old new error) of_kind (c.in_err-held.ensures.failed honest)))
