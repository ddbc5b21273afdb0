use Rattle.std.proofs.Common.{sym, subst}
use Rattle.std.specs.Prelude.{IfSome}
use Rattle.history_word.specs.Commands.{IsTo, AreTos}
use Rattle.history_word.proofs.PushLemmas.{pushed_zip}
use Rattle.history_word.proofs.draft.MoveDraft.add_to.Goals as goal

pub returns : goal.returns
returns c = λ sent line d e. record {
  to = pushed_zip IsTo c.take.result c.pushed.result c.args.to sent.to line c.pushed.ensures (subst (λ ts. IfSome ts (λ all. AreTos all.items sent.to)) (sym c.take.ensures.value) d.to) e;
  actor = d.actor;
  message = d.message;
}
