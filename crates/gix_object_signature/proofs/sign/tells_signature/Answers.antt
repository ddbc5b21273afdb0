use Rattle.std.proofs.Common.{rules, codes, ◌==◌, nat_eq}
use Rattle.std.specs.List.{starts_with}
use Rattle.std.proofs.lemmas.Iterator.Search.{any_from_yields_List}
use Rattle.std.proofs.lemmas.Iterator.Splits.{YieldsList-from_slice_split}
use Rattle.gix_object_signature.proofs.sign.tells_signature.Goals as goal

pub returns : goal.returns
returns c =
    any_from_yields_List (λ line. starts_with nat_eq line (codes "[GNUPG:] SIG_CREATED ")) _ _ c.any.result c.any.ensures.ran
    (YieldsList-from_slice_split _ (λ byte. byte == 10) c.args.status.now c.split.ensures.rest c.split.ensures.done c.split.ensures.closure (λ x b q k. search rules))
    (λ x b q k. search rules)
