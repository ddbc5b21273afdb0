use Rattle.std.proofs.Common.{sym, subst}
use Rattle.std.specs.Prelude.{IfSome}
use Rattle.history_word.specs.Commands.{IsEdit, AreEdits}
use Rattle.history_word.proofs.PushLemmas.{pushed_zip}
use Rattle.history_word.proofs.draft.CommitDraft.add_edit.Goals as goal

pub returns : goal.returns
returns c = λ sent line d e. record {
  name = d.name;
  expect = d.expect;
  parents = d.parents;
  edits = pushed_zip IsEdit c.take.result c.pushed.result c.args.edit sent.edits line c.pushed.ensures (subst (λ es. IfSome es (λ edits. AreEdits edits.items sent.edits)) (sym c.take.ensures.value) d.edits) e;
  author = d.author;
  committer = d.committer;
  message = d.message;
}
