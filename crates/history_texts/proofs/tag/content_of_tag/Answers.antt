use Rattle.std.proofs.Common.{◌≡◌, ◌++◌, ◌∙◌, ap, refl, Option, None, Some}
use Rattle.gix_object_lines.specs.Writes.{Refusal, cause_of}
use Rattle.gix_object_tag.specs.OwnedText.{own_parts}
use Rattle.gix_object_tag.specs.TagText.{tag_text}
use Rattle.history_texts.proofs.tag.content_of_tag.Goals as goal

none_refused : (refusal : Option Refusal) → cause_of refusal ≡ None → refusal ≡ None
none_refused None none = refl
none_refused (Some refusal) none = cc

pub returns-in-Ok : goal.returns-in-Ok
returns-in-Ok c = (none_refused _ c.in-Ok.ensures.0, c.in-Ok.ensures.1 ∙ ap (λ front. front ++ tag_text (own_parts c.args.tag.now)) c.in_ok-text.ensures.items)
