use Rattle.gix_object_tag.proofs.BodyTests.{is_whole_body-Decides}
use Rattle.gix_object_tag.proofs.laws.body_test_is_the_rule.Goals as goal

pub returns : goal.returns
returns c = is_whole_body-Decides
