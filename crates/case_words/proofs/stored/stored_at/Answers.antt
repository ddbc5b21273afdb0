use Rattle.std.proofs.Common.{rules, tests}
use Rattle.std.proofs.lemmas.Iterator.{YieldsList-from_slice}
use Rattle.std.proofs.lemmas.Iterator.Search.{find_from_yields_List}
use Rattle.gix_hash.specs.Id.{id_of}
use Rattle.gix_hash.specs.Order.{id_eq}
use Rattle.gix_hash.specs.Views.{viewed_id}
use Rattle.case_words.proofs.stored.stored_at.Goals as goal

pub returns : goal.returns
returns c =
    find_from_yields_List (λ stored. id_eq (id_of stored.id) (viewed_id c.args.id)) _ _ c.find.result c.find.ensures.ran
    (YieldsList-from_slice c.args.objects.now.items cc)
    (λ x b q k. search (rules, tests))
