use Rattle.gix_object_commit.proofs.SignedLaws.{finds_first_header, finds_none}
use Rattle.gix_object_commit.proofs.laws.tokens.first_header.signature_is_the_first_header.Goals as goal

pub returns-clause-signed : goal.returns-clause-signed
returns-clause-signed c = finds_first_header c.args._hash_kind c.args._input.now

pub returns-clause-unsigned : goal.returns-clause-unsigned
returns-clause-unsigned c = finds_none c.args._hash_kind c.args._input.now
