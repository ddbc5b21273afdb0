use Rattle.std.proofs.Common.{◌∙◌, ap, sym}
use Rattle.std.specs.Prelude.{codes}
use Rattle.history_texts.specs.Malformed.{is_type_of_other}
use Rattle.history_texts.proofs.TagLines.{line_rest}
use Rattle.history_texts.proofs.written.malformed.is_tag_of_other.Goals as goal

pub returns : goal.returns
returns c = (
  λ is. record { target = c.in-Some.field-0-0.now; in_line = c.in-Some.ensures.0; rest = c.in-Some.rest.now; text_is = c.in-Some.ensures.1; typed = sym c.is_type_of_other.ensures ∙ is },
  λ tag.
      c.is_type_of_other.ensures
      ∙ ap is_type_of_other (line_rest (codes "object ") c.in-Some.field-0-0.now tag.target c.in-Some.rest.now tag.rest c.args.content.now c.in-Some.ensures.0 tag.in_line c.in-Some.ensures.1 tag.text_is)
      ∙ tag.typed,
)
