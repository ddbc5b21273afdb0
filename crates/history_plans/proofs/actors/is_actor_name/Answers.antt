use Rattle.std.proofs.Common.{sym, subst, ◌∙◌, ap, not, ◌&&◌}
use Rattle.history_model.specs.Bytes.{is_empty}
use Rattle.history_model.specs.Forms.{max_actor_part}
use Rattle.history_word.specs.Fields.{Keeps}
use Rattle.history_repository.proofs.FieldLemmas.{no_part, never_both}
use Rattle.history_plans.proofs.actors.is_actor_name.Goals as goal

pub returns-in-TooLong : goal.returns-in-TooLong
returns-in-TooLong c = λ name keeps.
    sym (ap (λ good. not (is_empty name) && good) (no_part name (subst (λ f. Keeps max_actor_part f name) c.in-TooLong.is keeps).0) ∙ never_both (not (is_empty name)))
