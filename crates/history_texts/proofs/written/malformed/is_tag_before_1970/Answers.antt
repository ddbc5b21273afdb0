use Rattle.std.proofs.Common.{◌∙◌, ap, subst, sym}
use Rattle.bstr.specs.BStr.{bstr_bytes}
use Rattle.gix_object_lines.specs.Actor.{SpellsActor}
use Rattle.history_texts.specs.Malformed.{is_before}
use Rattle.history_texts.specs.Written.{TagParts, parts_of_tag}
use Rattle.history_texts.proofs.TagLines.{lines_tell}
use Rattle.history_texts.proofs.written.malformed.is_tag_before_1970.Goals as goal

pub returns-in-Ok : goal.returns-in-Ok
returns-in-Ok c = (
  λ is. record {
    parts = parts_of_tag c.in-Some.texts;
    are_lines = c.in-Some.ensures.0;
    text = c.in-Some.ensures.1;
    name = bstr_bytes c.in-Ok.actor.name;
    email = bstr_bytes c.in-Ok.actor.email;
    time = bstr_bytes c.in-Ok.actor.time;
    tagger = c.in-Ok.ensures.read;
    before = ap is_before (sym c.as_bytes.ensures) ∙ sym c.is_before.ensures ∙ is;
  },
  λ tag.
      let same = lines_tell tag.parts (parts_of_tag c.in-Some.texts) tag.are_lines c.in-Some.ensures.0 (sym tag.text ∙ c.in-Some.ensures.1) in
      let told = c.in-Ok.ensures.every tag.name tag.email tag.time (subst (λ (p : TagParts). SpellsActor p.tagger tag.name tag.email tag.time) same tag.tagger) in
      c.is_before.ensures ∙ ap is_before (c.as_bytes.ensures ∙ told.2) ∙ tag.before,
)

pub returns-in-Err : goal.returns-in-Err
returns-in-Err c = (
  λ is. absurd (cc is),
  λ tag.
      let same = lines_tell tag.parts (parts_of_tag c.in-Some.texts) tag.are_lines c.in-Some.ensures.0 (sym tag.text ∙ c.in-Some.ensures.1) in
      absurd (c.in-Err.ensures.every tag.name tag.email tag.time (subst (λ (p : TagParts). SpellsActor p.tagger tag.name tag.email tag.time) same tag.tagger)),
)
