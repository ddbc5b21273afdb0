use Rattle.std.proofs.Common.{◌≡◌, not, sym, ◌∙◌, ap, subst}
use Rattle.history_model.specs.FileMap.{is_path}
use Rattle.history_model.specs.Forms.{max_path}
use Rattle.history_word.specs.Fields.{Keeps}
use Rattle.history_repository.proofs.FieldLemmas.{bad_within, bad_beyond}
use Rattle.history_repository.proofs.fields.is_bad_path.Goals as goal

pub returns-in-Whole : goal.returns-in-Whole
returns-in-Whole c = λ bytes keeps.
    let kept = subst (λ f. Keeps max_path f bytes) c.in-Whole.is keeps in
    ap not (c.is_file_path.ensures ∙ ap is_path (c.deref.ensures.value ∙ kept.1)) ∙ sym (bad_within bytes kept.0)

pub returns-in-TooLong : goal.returns-in-TooLong
returns-in-TooLong c = λ bytes keeps.
    let kept = subst (λ f. Keeps max_path f bytes) c.in-TooLong.is keeps in
    sym (bad_beyond bytes kept.0)
