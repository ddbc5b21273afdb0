use Rattle.std.proofs.Common.{◌≡◌, None, Err, refl, sym, ◌∙◌, ap, subst}
use Rattle.std.specs.Prelude.{option_copied, map}
use Rattle.history_model.specs.Commands.{Names}
use Rattle.history_model.specs.Replies.{NamesAre, reply_text}
use Rattle.history_store.specs.AllNames.{ListsAll}
use Rattle.history_repository.specs.NamesShown.{folder_cause, shown_name, told_name}
use Rattle.history_repository.specs.Face.{names_part}
use Rattle.history_queries.proofs.Answered.{handed_on, reading_fault}
use Rattle.history_repository.proofs.ReadingFaults.{gave_fault}
use Rattle.history_repository.proofs.NameLines.{asked_folder, asked_is, listed_peeled, listing_fault, names_answered, names_cause}
use Rattle.history_queries.proofs.listed.list_names.Goals as goal

pub returns-in_err-test_folder : goal.returns-in_err-test_folder
returns-in_err-test_folder g c = λ r s.
    let folder = option_copied c.args.folder in
    let asked = asked_is c.args.folder _ c.unwrap_or-folder.result c.unwrap_or-folder.ensures refl in
    handed_on g.F.Files.reading_may_fail r (Names folder) c.from_residual.result _ c.from_residual.ensures.1
    (names_cause r folder ∙ ap folder_cause (sym asked) ∙ c.in_err-test_folder.ensures)

pub returns-in_err-names : goal.returns-in_err-names
returns-in_err-names g c = λ r s.
    let folder = option_copied c.args.folder in
    handed_on g.F.Files.reading_may_fail r (Names folder) c.from_residual-in_err-names.result _ c.from_residual-in_err-names.ensures.1
    (listing_fault g.F.Files.reading_may_fail c.in_err-names.field-0.0 (λ failed. c.in_err-names.ensures.failed (ap Err failed)))

pub returns-in_err-shown : goal.returns-in_err-shown
returns-in_err-shown g c = λ r s.
    let MayFail = g.F.Files.reading_may_fail in
    let here = c.args.repository.now in
    let folder = option_copied c.args.folder in
    let asked = asked_is c.args.folder _ c.unwrap_or-folder.result c.unwrap_or-folder.ensures refl in
    let good : folder_cause (asked_folder folder) ≡ None = ap folder_cause (sym asked) ∙ c.in_ok-test_folder.ensures in
    let found = c.in_ok-names.ensures.found s.honest_names s.records in
    let lists = subst (λ f. ListsAll here.names.kind (g.F.Files.history (names_part here)).tree f c.in_ok-names.names.items) asked found in
    let peeled = listed_peeled g.F.Files.is_honest g.F.Files.history here r s here.names.kind s.names_kind folder c.in_ok-names.names.items good lists in
    handed_on MayFail r (Names folder) c.from_residual-in_err-shown.result _ c.from_residual-in_err-shown.ensures.1
    (reading_fault MayFail r (Names folder) c.in_err-shown.field-0.0
    (gave_fault MayFail (λ shown. map shown_name shown.items ≡ map (told_name r) c.in_ok-names.names.items) c.read_shown.result c.in_err-shown.field-0.0 c.in_err-shown.was (c.read_shown.ensures r s peeled)))

pub returns : goal.returns
returns g c = λ r s.
    let here = c.args.repository.now in
    let folder = option_copied c.args.folder in
    let asked = asked_is c.args.folder _ c.unwrap_or-folder.result c.unwrap_or-folder.ensures refl in
    let good : folder_cause (asked_folder folder) ≡ None = ap folder_cause (sym asked) ∙ c.in_ok-test_folder.ensures in
    let found = c.in_ok-names.ensures.found s.honest_names s.records in
    let lists = subst (λ f. ListsAll here.names.kind (g.F.Files.history (names_part here)).tree f c.in_ok-names.names.items) asked found in
    let peeled = listed_peeled g.F.Files.is_honest g.F.Files.history here r s here.names.kind s.names_kind folder c.in_ok-names.names.items good lists in
    let written = c.in_ok-names_text.ensures ∙ (λ i. reply_text (NamesAre (c.deref.ensures.value i) (map shown_name (c.deref-2.ensures.value i)))) in
    names_answered g.F.Files.is_honest g.F.Files.history here r s here.names.kind s.names_kind folder c.in_ok-names.names.items good lists g.F.Files.reading_may_fail
    c.in_ok-shown.shown.items c.in_ok-names_text.field-0 (c.in_ok-shown.ensures r s peeled) written
