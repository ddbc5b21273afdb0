use Rattle.std.proofs.Common.{◌∙◌, ap}
use Rattle.gix_object_tree.specs.ModeText.{text_before}
use Rattle.gix_object_tree.proofs.Octals.{before_cut, before_none}
use Rattle.gix_object_tree.proofs.tree.mode.EntryMode.from_bytes.Goals as goal

pub returns-in-Some : goal.returns-in-Some
returns-in-Some c =
    let same = ap (text_before 32) c.in-Some.ensures.0 ∙ before_cut 32 c.in-Some.text.now c.in-Some.field-0-1.now c.in-Some.ensures.1 in
    rw same c.read_mode.ensures

pub returns-in-None : goal.returns-in-None
returns-in-None c = let same = before_none 32 c.args.bytes.now c.in-None.ensures in rw same c.read_mode-in-None.ensures
