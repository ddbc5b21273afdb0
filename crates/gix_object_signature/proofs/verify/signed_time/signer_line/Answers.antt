use Rattle.std.proofs.Common.{rules, refl, ◌==◌, not, length}
use Rattle.std.specs.Prelude.{is_some}
use Rattle.std.proofs.lemmas.Iterator.Search.{find_from_yields_List, YieldsList-from_take_while}
use Rattle.std.proofs.lemmas.Iterator.Splits.{YieldsList-from_slice_split}
use Rattle.gix_object_signature.specs.SignedTime.{signer_of}
use Rattle.gix_object_signature.proofs.verify.signed_time.signer_line.Goals as goal

pub returns : goal.returns
returns c =
    find_from_yields_List (λ line. is_some (signer_of line)) _ _ c.find.result c.find.ensures.ran
    (YieldsList-from_take_while _ (λ line. not (length line == 0))
    (YieldsList-from_slice_split _ (λ byte. byte == 10) c.args.content.now (cc (c.take_while.ensures.source, c.split.ensures.rest)) (cc (c.take_while.ensures.source, c.split.ensures.done)) refl (λ x b q k. search rules))
    refl c.take_while.ensures.done (λ x b q k. search rules))
    (λ x b q k. search rules)
