use Rattle.std.proofs.Common.{◌∙◌, ap}
use Rattle.gix_hash.specs.Order.{id_eq}
use Rattle.gix_hash.specs.Views.{viewed_id}
use Rattle.case_words.proofs.Listed.{same_test}
use Rattle.gix_traverse_cases.proofs.predicate.is_of.Goals as goal

pub returns : goal.returns
returns c =
    same_test c.eq_oid.result (viewed_id c.as_oid.result) (viewed_id c.args.id) c.eq_oid.ensures.0 c.eq_oid.ensures.1
    ∙ ap (λ x. id_eq x (viewed_id c.args.id)) c.as_oid.ensures
