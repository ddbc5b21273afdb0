use Rattle.std.proofs.Common.{◌∙◌, ap, sym}
use Rattle.gix_hash.specs.Id.{id_of}
use Rattle.gix_hash.specs.Order.{id_eq}
use Rattle.gix_hash.specs.OrderLaws.{id_eq-same, id_eq-itself}
use Rattle.gix_ref_transaction.proofs.asked.are_equal_ids.Goals as goal

pub returns : goal.returns
returns c =
    let a = id_of c.args.first.now in
    let b = id_of c.args.second.now in
    (λ told. id_eq-same a b (sym c.eq.ensures ∙ told), λ same. c.eq.ensures ∙ ap (id_eq a) (sym same) ∙ id_eq-itself a)
