use Rattle.std.proofs.Common.{sym, subst}
use Rattle.history_model.specs.Forms.{max_actor_part}
use Rattle.history_word.specs.Fields.{Keeps}
use Rattle.history_repository.proofs.FieldLemmas.{no_part}
use Rattle.history_plans.proofs.actors.is_email.Goals as goal

pub returns-in-TooLong : goal.returns-in-TooLong
returns-in-TooLong c = λ email keeps. sym (no_part email (subst (λ f. Keeps max_actor_part f email) c.in-TooLong.is keeps).0)
