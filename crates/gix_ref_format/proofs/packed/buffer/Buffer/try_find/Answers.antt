use Rattle.std.proofs.Common.{◌≡◌, ◌∙◌, sym, subst, option_map, false}
use Rattle.std.specs.Prelude.{IfOk}
use Rattle.gix_ref_name.specs.Names.{part_of}
use Rattle.gix_ref_format.specs.Lookup.{first_hit, is_complete}
use Rattle.gix_ref_format.specs.Packed.{record_of}
use Rattle.gix_ref_format.specs.PackedKept.{kept}
use Rattle.gix_ref_format.proofs.WordLemmas.{completed}
use Rattle.gix_ref_format.proofs.packed.buffer.Buffer.try_find.Goals as goal

pub returns : goal.returns
returns c =
    let word = c.as_bytes-word.result.now in
    let short : is_complete word ≡ false = sym c.is_complete.ensures ∙ c.if-is_complete.false in
    subst (λ names. IfOk c.reference_of_word.result (λ found. option_map record_of found ≡ first_hit (kept c.args.self.now) names))
    (completed word (part_of c.args.name) (c.as_bytes-word.ensures ∙ c.as_bstr.ensures.bytes) short) c.reference_of_word.ensures
