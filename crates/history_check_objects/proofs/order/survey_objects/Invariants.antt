use Rattle.std.proofs.Common.{None}
use Rattle.history_check_objects.specs.Surveyed.{StandsAt, left_of}
use Rattle.history_check_objects.specs.Surveying.{AreListed}
use Rattle.history_check_objects.proofs.order.survey_objects.Given as goal

abbrev pub invariant-survey : goal.invariant-survey
invariant-survey g l = g.F.Files.is_honest l.fn.files → AreListed l.kind (g.F.Files.history l.fn.files).tree l.fn.ids.items
    → StandsAt l.kind (g.F.Files.history l.fn.files).tree l.fn.ids.items l.survey None

abbrev pub decreases-survey : goal.decreases-survey
decreases-survey g l = left_of l.survey
