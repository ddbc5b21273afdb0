use Rattle.std.proofs.Common.{refl, subst}
use Rattle.gix_object_commit.specs.Tokens.{start}
use Rattle.gix_object_commit.specs.Whole.{TellsParts}
use Rattle.gix_object_commit.proofs.ToldParts.{end, parts_read, reads_once}
use Rattle.gix_object_commit.proofs.laws.tokens.tokens_are_the_parts.Goals as goal

pub returns-clause-given : goal.returns-clause-given
returns-clause-given c = λ parts is.
    let read = parts_read c.args._hash_kind c.args._input.now parts is in
    (read.0, end c.args._hash_kind, read.2, refl, read.1)

pub returns-clause-only : goal.returns-clause-only
returns-clause-only c = λ parts tokens there is reads ends.
    let kind = c.args._hash_kind in
    let read = parts_read kind c.args._input.now parts is in
    subst (TellsParts parts) (reads_once (start kind c.args._input.now) (end kind) there read.0 tokens read.2 refl reads ends) read.1
