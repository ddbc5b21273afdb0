use Rattle.std.proofs.Common.{sym, subst}
use Rattle.std.specs.Fmt.{WritesOnOk}
use Rattle.gix_object_tree.specs.ModeText.{mode_of}
use Rattle.gix_object_tree.proofs.Octals.{padded_text}
use Rattle.gix_object_tree.proofs.tree.mode_text.EntryModeOctal.fmt.Goals as goal

pub returns-then-self : goal.returns-then-self
returns-then-self g c =
    subst (λ text. WritesOnOk g.W.Write.write_str_gives c.args.f.now c.write_str.result text c.write_str.new.self)
    (sym (padded_text (mode_of c.args.self.now) c.if-self.true (c.args.self.now.tree_alone c.if-self.true))) c.write_str.ensures.writes
