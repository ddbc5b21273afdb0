use Rattle.std.proofs.Common.{◌+◌, length, refl, take}
use Rattle.history_check_names.proofs.KeptNames.{header_cut, header_whole}
use Rattle.history_check_names.proofs.packed.first_line.Goals as goal

pub returns-in-None : goal.returns-in-None
returns-in-None c = header_whole c.args.text.now c.in-None.ensures

pub returns-in-Some : goal.returns-in-Some
returns-in-Some c = header_cut c.args.text.now c.in-Some.line.now c.in-Some.field-0-1.now (take (length c.in-Some.line.now + 1) c.args.text.now) c.in-Some.ensures.0 c.in-Some.ensures.1 refl
