use Rattle.std.proofs.Common.{◌∙◌, ap, ◌++◌}
use Rattle.std.proofs.lemmas.Bool.Decides.{same_from_decides}
use Rattle.gix_object_lines.proofs.NameTests.{begins-Decides}
use Rattle.gix_ref_name.proofs.FrontLemmas.{with_there, with_added}
use Rattle.gix_ref_name.proofs.front.with_front.Goals as goal

pub returns-then-starts_with : goal.returns-then-starts_with
returns-then-starts_with c =
    let front = c.args.front.now in
    let bytes = c.args.bytes.now in
    let same = same_from_decides _ _ (begins-Decides front bytes) c.starts_with.ensures in
    rw (← (with_there front bytes (same ∙ c.if-starts_with.true))) c.from_slice.ensures

pub returns : goal.returns
returns c =
    let front = c.args.front.now in
    let bytes = c.args.bytes.now in
    let same = same_from_decides _ _ (begins-Decides front bytes) c.starts_with.ensures in
    c.new.ensures ∙ c.in_ok-extend_from_slice.ensures.items ∙ ap (λ t. t ++ bytes) c.in_ok-out.ensures.items
    ∙ with_added front bytes (same ∙ c.if-starts_with.false)
