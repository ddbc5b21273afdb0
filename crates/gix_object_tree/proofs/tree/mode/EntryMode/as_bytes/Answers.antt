use Rattle.std.proofs.Common.{◌∙◌, sym}
use Rattle.gix_object_tree.specs.ModeText.{mode_of}
use Rattle.gix_object_tree.proofs.Octals.{padded_text}
use Rattle.gix_object_tree.proofs.tree.mode.EntryMode.as_bytes.Goals as goal

pub returns-then-self-clause-text : goal.returns-then-self-clause-text
returns-then-self-clause-text c = c.new.ensures ∙ sym (padded_text (mode_of c.args.self.now) c.if-self.true (c.args.self.now.tree_alone c.if-self.true))
