use Rattle.std.proofs.Common.{◌∙◌, ap, map}
use Rattle.std.specs.Prelude.{option_map}
use Rattle.history_model.specs.Objects.{entry_at}
use Rattle.history_files.specs.Reading.{entry_of}
use Rattle.history_files.proofs.named_trees.read_names.Goals as goal

pub returns-clause-read : goal.returns-clause-read
returns-clause-read g c = λ honest kind files is.
    c.in_ok-by_names.ensures (entry_at kind files) (ap (map (option_map entry_of)) c.as_slice.ensures.value ∙ c.in_ok-found.ensures.found honest kind files is)
