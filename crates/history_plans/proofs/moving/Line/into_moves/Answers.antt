use Rattle.std.proofs.Common.{◌∙◌, ap, option_map, unwrap_or}
use Rattle.std.specs.Prelude.{Vec, ℕ}
use Rattle.std.specs.declared.alloc.Global.{Global}
use Rattle.gix_hash.specs.Id.{id_of, null_id}
use Rattle.history_texts.specs.Formats.{actor_of}
use Rattle.history_repository.specs.Held.{held_id}
use Rattle.history_plans.proofs.LineLemmas.{entry_told}
use Rattle.history_plans.proofs.moving.Line.into_moves.Goals as goal

pub returns : goal.returns
returns c = λ r sent to is kind teller.
    let moves = c.moves_to.ensures in
    record {
      name = ap (λ (name : Vec ℕ Global). name.items) moves.name ∙ is.name;
      entry = entry_told r sent to c.args.self c.null.result c.moves_to.result.entry is (c.null.ensures ∙ ap null_id kind)
          (ap id_of moves.before ∙ c.id_before-before.ensures ∙ ap (λ k. unwrap_or (option_map held_id c.args.self.held) (null_id k)) kind) (moves.after ∙ c.unwrap_or-after.ensures ∙ ap (λ found. unwrap_or found c.null.result) c.id.ensures)
          (ap actor_of moves.actor ∙ c.in_ok-actor.ensures ∙ teller.actor_is)
          (ap (λ (message : Vec ℕ Global). message.items) moves.message ∙ c.in_ok-message.ensures.items ∙ teller.message_is);
    }
