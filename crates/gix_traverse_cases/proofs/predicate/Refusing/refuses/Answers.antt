use Rattle.std.proofs.Common.{rules, tests}
use Rattle.std.proofs.lemmas.Iterator.{YieldsList-from_slice}
use Rattle.std.proofs.lemmas.Iterator.Search.{any_from_yields_List}
use Rattle.gix_hash.specs.Id.{id_of}
use Rattle.gix_hash.specs.Order.{id_eq}
use Rattle.gix_hash.specs.Views.{viewed_id}
use Rattle.gix_traverse_cases.proofs.predicate.Refusing.refuses.Goals as goal

pub returns : goal.returns
returns c =
    any_from_yields_List (λ it. id_eq (id_of it) (viewed_id c.args.id)) _ _ c.any.result c.any.ensures.ran
    (YieldsList-from_slice c.args.self.now.refused.items cc)
    (λ x b q k. search (rules, tests))
