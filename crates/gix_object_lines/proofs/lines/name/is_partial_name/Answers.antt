use Rattle.std.proofs.lemmas.Bool.Decides.{same_from_decides}
use Rattle.gix_object_lines.proofs.NameTests.{is_partial_name-Decides}
use Rattle.gix_object_lines.proofs.lines.name.is_partial_name.Goals as goal

pub returns-clause-tested : goal.returns-clause-tested
returns-clause-tested c = same_from_decides _ _ c.obeys_rules.ensures (is_partial_name-Decides c.args.name.now)
