use Rattle.gix_object_commit.proofs.WholeReadings.{is_commit, is_read}
use Rattle.gix_object_commit.proofs.laws.tokens.tokens_end_with_the_message.Goals as goal

pub returns : goal.returns
returns c = (is_read c.args._hash_kind c.args._input.now, is_commit c.args._hash_kind c.args._input.now)
