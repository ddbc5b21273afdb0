use Rattle.gix_object_lines.proofs.NameTests.{is_partial_name-Decides}
use Rattle.gix_object_tag.proofs.laws.test_is_the_rules.Goals as goal

pub returns : goal.returns
returns c = is_partial_name-Decides c.args.name.now
