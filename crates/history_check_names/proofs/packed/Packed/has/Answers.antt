use Rattle.std.proofs.Common.{◌∙◌}
use Rattle.history_check_names.proofs.KeptNames.{found_by_bytes}
use Rattle.history_check_names.proofs.packed.Packed.has.Goals as goal

pub returns : goal.returns
returns c = c.contains.ensures ∙ found_by_bytes c.args.self.now.names.keys c.args.name.now
