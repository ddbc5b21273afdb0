use Rattle.std.proofs.Common.{◌≡◌, ◌∙◌, ◌++◌, ◌∷◌, [], Err, ap, option_map, subst, sym, unwrap_or}
use Rattle.std.proofs.lemmas.Result.{err_from_is_err_and}
use Rattle.gix_ref_file.specs.declared.files.FileError.TheVariants.{Failed}
use Rattle.gix_ref_format.specs.PackedKept.{kept}
use Rattle.history_edits.specs.PackPlans.{AsksToPack}
use Rattle.history_store.specs.Packed.{record_of_name}
use Rattle.history_store.proofs.Beside.{told_error}
use Rattle.history_store.proofs.NamesPacked.{one_asked, one_left}
use Rattle.history_store.proofs.names.Names.add_edit.Goals as goal

pub returns-then-branch-clause-asks : goal.returns-then-branch-clause-asks
returns-then-branch-clause-asks g c = λ honest wanted so_far.
    let tree = (g.F.Files.history c.args.self.now.store.files).tree in
    let records = unwrap_or (option_map kept c.args.self.now.packed) [] in
    one_left tree records wanted c.args.edits.now.items (record_of_name c.args.named.now) so_far (c.in_ok-is_packed.ensures.packed honest c.if-branch.true)

pub returns-clause-asks : goal.returns-clause-asks
returns-clause-asks g c = λ honest wanted so_far.
    let tree = (g.F.Files.history c.args.self.now.store.files).tree in
    let records = unwrap_or (option_map kept c.args.self.now.packed) [] in
    let last = record_of_name c.args.named.now in
    subst (AsksToPack tree records (wanted ++ last ∷ [])) (sym c.in_ok-push.ensures.items)
    (one_asked tree records wanted c.args.edits.now.items last c.in_ok-edit.edit so_far c.in_ok-edit.ensures.asks)

pub returns-in_err-edit-clause-failed : goal.returns-in_err-edit-clause-failed
returns-in_err-edit-clause-failed g c = λ failed.
    let residual = c.from_residual-in_err-edit in
    let error = err_from_is_err_and residual.result residual.ensures.1 in
    let same : c.edit_to_pack.result ≡ Err Failed = c.in_err-edit.was ∙ ap Err (told_error residual.result c.in_err-edit.field-0.0 error.0 error.1 error.2 failed) in
    absurd (c.edit_to_pack.ensures.failed same)
