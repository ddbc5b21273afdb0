use Rattle.gix_hash.specs.Kind.{hex_len}
use Rattle.gix_object_commit.proofs.Once.{spells_once}
use Rattle.gix_object_commit.proofs.laws.lines.one_commit.Goals as goal

pub returns : goal.returns
returns c = λ a b s t. spells_once (hex_len c.args._hash_kind) c.args._input.now a b s t
