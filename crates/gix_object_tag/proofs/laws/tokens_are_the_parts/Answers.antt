use Rattle.std.proofs.Common.{subst}
use Rattle.gix_object_tag.specs.Whole.{TellsParts}
use Rattle.gix_object_tag.proofs.ToldParts.{told_parts}
use Rattle.gix_object_tag.proofs.Left.{tag_to}
use Rattle.gix_object_tag.proofs.laws.tokens_are_the_parts.Goals as goal

pub returns : goal.returns
returns c = λ parts tokens there is reads end.
    let told = told_parts c.args.hash_kind c.args.input.now there tokens (tag_to c.args.hash_kind c.args.input.now (parts, is)) reads end in
    subst (λ p. TellsParts p tokens) (c.one_tag.ensures told.0 parts told.1 is) told.2
