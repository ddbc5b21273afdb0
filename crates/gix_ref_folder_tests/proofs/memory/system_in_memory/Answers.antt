use Rattle.std.proofs.Common.{◌∙◌, ap}
use Rattle.gix_ref_file.specs.Past.{history_of}
use Rattle.gix_ref_folder_tests.proofs.Started.{both_empty, honest_start}
use Rattle.gix_ref_folder_tests.proofs.memory.system_in_memory.Goals as goal

pub returns-clause-honest : goal.returns-clause-honest
returns-clause-honest c part =
    honest_start c.new.result _ c.new.ensures.root
    (both_empty c.new.result (ap history_of c.new.ensures.objects ∙ c.new-objects.ensures.history) (ap history_of c.new.ensures.names ∙ c.new-names.ensures.history))

pub returns-clause-empty : goal.returns-clause-empty
returns-clause-empty c = both_empty c.new.result (ap history_of c.new.ensures.objects ∙ c.new-objects.ensures.history) (ap history_of c.new.ensures.names ∙ c.new-names.ensures.history)
