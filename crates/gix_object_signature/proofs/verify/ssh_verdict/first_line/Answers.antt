use Rattle.std.proofs.Common.{rules, refl, ◌==◌, not, length}
use Rattle.std.proofs.lemmas.Iterator.{YieldsList-from_map_by}
use Rattle.std.proofs.lemmas.Iterator.Search.{find_from_yields_List}
use Rattle.std.proofs.lemmas.Iterator.Splits.{YieldsList-from_slice_split}
use Rattle.gix_object_signature.specs.SshVerdict.{without_space_behind}
use Rattle.gix_object_signature.proofs.verify.ssh_verdict.first_line.Goals as goal

pub returns : goal.returns
returns c =
    find_from_yields_List (λ line. not (length line == 0)) _ _ c.find.result c.find.ensures.ran
    (YieldsList-from_map_by _ (λ line. line.now) without_space_behind
    (YieldsList-from_slice_split _ (λ byte. byte == 10) c.args.output.now (cc (c.map.ensures.source, c.split.ensures.rest)) (cc (c.map.ensures.source, c.split.ensures.done)) refl (λ x b q k. search rules))
    refl (λ x b q k. search rules))
    (λ x b q k. search rules)
