use Rattle.std.proofs.Common.{sym, ◌∙◌, ap, subst, Err}
use Rattle.std.specs.Prelude.{ℕ, Ok, Vec}
use Rattle.std.specs.declared.alloc.Global.{Global}
use Rattle.std.proofs.lemmas.Result.{err_from_is_err_and}
use Rattle.gix_hash.specs.Id.{null_id, id_of}
use Rattle.history_model.specs.Forms.{title}
use Rattle.history_model.specs.Meaning.{new_commit}
use Rattle.history_texts.specs.Formats.{actor_of}
use Rattle.history_plans.specs.Plans.{GivesCommitted}
use Rattle.history_plans.proofs.Planned.{before_is, commit_said, commit_told, entry_is, not_made}
use Rattle.history_plans.proofs.planning.make_commit.Goals as goal

pub returns-in_err-title : goal.returns-in_err-title
returns-in_err-title g c = λ r sent serves base root actors message.
    let stopped = err_from_is_err_and c.from_residual.result c.from_residual.ensures.1 in
    subst (GivesCommitted r sent) (sym (stopped.1 ∙ ap Err stopped.2)) tt

pub returns-in_err-log_actor : goal.returns-in_err-log_actor
returns-in_err-log_actor g c = λ r sent serves base root actors message.
    let stopped = err_from_is_err_and c.from_residual-in_err-log_actor.result c.from_residual-in_err-log_actor.ensures.1 in
    subst (GivesCommitted r sent) (sym (stopped.1 ∙ ap Err stopped.2)) tt

pub returns-in_err-object : goal.returns-in_err-object
returns-in_err-object g c = λ r sent serves base root actors message.
    let said = commit_said r sent serves.whole.whole.store c.args.base base c.args.root root c.args.actors actors c.args.message.items message in
    let told = commit_told c.args.repository.now.objects.kind r sent serves.objects_kind c.args.base c.args.root c.args.actors c.args.message.items (Err c.in_err-object.field-0.0) (c.in_err-object.ensures (new_commit r sent)) said in
    let stopped = err_from_is_err_and c.from_residual-in_err-object.result c.from_residual-in_err-object.ensures.1 in
    subst (GivesCommitted r sent) (sym (stopped.1 ∙ ap Err stopped.2)) (not_made r sent c.in_err-object.field-0.0 told)

pub returns : goal.returns
returns g c = λ r sent serves base root actors message.
    let said = commit_said r sent serves.whole.whole.store c.args.base base c.args.root root c.args.actors actors c.args.message.items message in
    let made = commit_told c.args.repository.now.objects.kind r sent serves.objects_kind c.args.base c.args.root c.args.actors c.args.message.items (Ok c.in_ok-object.object) (c.in_ok-object.ensures (new_commit r sent)) said in
    let moves = c.moves_to-moves.ensures in (
      made.0,
      (
        made.1,
        record {
          name = ap (λ (name : Vec ℕ Global). name.items) moves.name ∙ base.name;
          entry = entry_is r sent c.moves_to-moves.result.entry c.in_ok-object.object
              (ap id_of (moves.before ∙ c.unwrap_or-before.ensures) ∙ before_is r sent c.args.base.held c.null.result base.held (c.null.ensures ∙ ap null_id (c.kind.ensures ∙ serves.objects_kind)))
              made.1 moves.after (ap actor_of moves.actor ∙ c.in_ok-log_actor.ensures ∙ actors.committer)
              (ap (λ (message : Vec ℕ Global). message.items) moves.message ∙ c.in_ok-title.ensures.items ∙ c.title.ensures ∙ ap title (c.deref.ensures.value ∙ message));
        },
      ),
    )
