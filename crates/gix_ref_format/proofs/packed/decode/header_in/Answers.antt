use Rattle.std.proofs.Common.{◌≡◌, ◌∙◌, ap, true, rules, codes}
use Rattle.std.specs.Prelude.{◌==◌}
use Rattle.std.specs.List.{slice_split}
use Rattle.gix_object_lines.specs.NameTest.{begins}
use Rattle.gix_object_lines.specs.Bytes.{is_among}
use Rattle.gix_ref_format.specs.Packed.{peeled_by}
use Rattle.gix_ref_format.proofs.PackedLemmas.{header_is, rest_is}
use Rattle.gix_ref_format.proofs.packed.decode.header_in.Goals as goal

pub returns : goal.returns
returns c =
    let front : begins (codes "# pack-refs with:") c.args.text.now ≡ true = search rules in
    let words = rest_is 17 c.args.text.now in
    header_is c.args.text.now c.peeled_in.result c.has_word.result front
    (c.peeled_in.ensures ∙ ap (λ t. peeled_by (slice_split (λ byte. byte == 32) t)) words)
    (c.has_word.ensures ∙ ap (λ t. is_among (slice_split (λ byte. byte == 32) t) (codes "sorted")) words)
