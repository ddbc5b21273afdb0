use Rattle.std.proofs.Common.{◌∙◌, ap}
use Rattle.std.specs.List.{slice_split}
use Rattle.gix_ref_log.specs.LogLine.{is_feed}
use Rattle.gix_ref_log.proofs.LogSplitLemmas.{split_first, split_none}
use Rattle.gix_ref_log.proofs.iter.lines.first_line.Goals as goal

pub returns-in-Some : goal.returns-in-Some
returns-in-Some c = ap (slice_split is_feed) c.in-Some.ensures.0 ∙ split_first _ _ c.in-Some.ensures.1

pub returns-in-None : goal.returns-in-None
returns-in-None c = split_none _ c.in-None.ensures
