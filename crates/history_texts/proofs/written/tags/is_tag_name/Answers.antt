use Rattle.std.proofs.Common.{◌∙◌, ap, sym, bytes_eq}
use Rattle.history_texts.proofs.TagLines.{bad_second, bad_third}
use Rattle.history_texts.proofs.written.tags.is_tag_name.Goals as goal

pub returns-then-eq : goal.returns-then-eq
returns-then-eq c = bad_second _ _ _ (ap (bytes_eq c.args.name.now) (sym c.as_slice.ensures) ∙ sym c.eq.ensures ∙ c.if-eq.true)

pub returns-then-starts_with : goal.returns-then-starts_with
returns-then-starts_with c = bad_third _ _ (sym c.starts_with.ensures.value ∙ c.if-starts_with.true)
