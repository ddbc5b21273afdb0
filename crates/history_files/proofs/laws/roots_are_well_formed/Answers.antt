use Rattle.history_files.proofs.InOrder.{root_well_formed}
use Rattle.history_files.proofs.laws.roots_are_well_formed.Goals as goal

pub returns : goal.returns
returns c = λ kind files items fits spelled. root_well_formed kind files fits items spelled
