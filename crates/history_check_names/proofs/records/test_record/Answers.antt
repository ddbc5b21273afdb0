use Rattle.std.proofs.Common.{◌≡◌, ◌∙◌, Err, ap, false, refl, rules, subst, sym, true}
use Rattle.std.specs.Prelude.{⊤}
use Rattle.std.proofs.lemmas.Result.{err_from_is_err_and}
use Rattle.gix_ref_file.specs.Changes.{is_file_at}
use Rattle.gix_ref_format.specs.Packed.{record_of}
use Rattle.history_model.specs.Forms.{is_private}
use Rattle.history_check_names.specs.Causes.{IsCollision}
use Rattle.history_check_objects.specs.Stored.{facts_in}
use Rattle.history_check_names.proofs.RecordCauses.{collides, private_record, unheld}
use Rattle.history_check_names.proofs.records.test_record.Goals as goal

pub returns-then-is_private-clause-wrong : goal.returns-then-is_private-clause-wrong
returns-then-is_private-clause-wrong g c = λ honest.
    let private : is_private (record_of c.args.entry.now).name ≡ true = search rules in
    private_record c.args.kind (facts_in c.args.stored.now) (g.F.Files.history c.args.files.now).tree c.args.packed.now (c.requires.packed honest) (record_of c.args.entry.now) c.requires.among
    c.in_ok-from_slice.field-0 (c.in_ok-from_slice.ensures.items ∙ c.to_path-name.ensures) private

pub returns-in_err-test_apart-clause-wrong : goal.returns-in_err-test_apart-clause-wrong
returns-in_err-test_apart-clause-wrong g c = λ honest.
    let tree = (g.F.Files.history c.args.files.now).tree in
    let common : is_private (record_of c.args.entry.now).name ≡ false = search rules in
    let p = err_from_is_err_and c.from_residual-in_err-test_apart.result c.from_residual-in_err-test_apart.ensures.1 in
    rw (p.1, p.2) (collides c.args.kind (facts_in c.args.stored.now) tree c.args.packed.now (c.requires.packed honest) (record_of c.args.entry.now) c.requires.among
    g.F.Files.reading_may_fail c.in_err-test_apart.field-0.0 common
    (subst (λ n. IsCollision g.F.Files.reading_may_fail c.args.kind tree n c.in_err-test_apart.field-0.0) c.to_path-name.ensures (c.in_err-test_apart.ensures.collides c.args.kind honest (c.requires.packed honest))))

pub returns-in_err-test_held-clause-wrong : goal.returns-in_err-test_held-clause-wrong
returns-in_err-test_held-clause-wrong g c = λ honest.
    let tree = (g.F.Files.history c.args.files.now).tree in
    let common : is_private (record_of c.args.entry.now).name ≡ false = search rules in
    let bare : is_file_at tree (record_of c.args.entry.now).name ≡ false = ap (is_file_at tree) (sym c.to_path-name.ensures) ∙ sym (c.in_ok-is_file.ensures.found honest) ∙ c.if-not-branch.true in
    let p = err_from_is_err_and c.from_residual-in_err-test_held.result c.from_residual-in_err-test_held.ensures.1 in
    rw (p.1, p.2) (unheld c.args.kind (facts_in c.args.stored.now) tree c.args.packed.now (c.requires.packed honest) (record_of c.args.entry.now) c.requires.among {T = ⊤}
    g.F.Files.reading_may_fail c.args.entry.now.target c.in_ok-from_slice-2.field-0 (Err c.in_err-test_held.field-0.0) common bare (c.in_ok-from_slice-2.ensures.items ∙ c.to_path-name.ensures) refl
    c.in_err-test_held.ensures.unheld)
