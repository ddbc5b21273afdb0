use Rattle.std.proofs.Common.{◌∙◌, ap, map, subst, sym, [], ◌∷◌, ◌++◌}
use Rattle.gix_hash.specs.Id.{id_of}
use Rattle.gix_object_lines.specs.declared.kind.Kind.TheVariants.{Commit}
use Rattle.history_model.specs.Objects.{TagValue}
use Rattle.history_texts.specs.Written.{AreTagParts, TagParts, naming_of, parts_of_tag, tag_lines}
use Rattle.history_texts.proofs.TagLines.{content_lines, form_of, lines_tell, tag_form, value_lines, value_parts, value_written}
use Rattle.history_texts.proofs.written.tags.named_by_tag.Goals as goal

pub returns-in_default : goal.returns-in_default
returns-in_default c named names =
    c.in_default.ensures (value_parts names.tag) (value_lines c.args.digests names.tag (tag_form c.args.digests names.tag names.form)) (names.text ∙ content_lines names.tag)

pub returns-in_default-parse_lower_hex : goal.returns-in_default-parse_lower_hex
returns-in_default-parse_lower_hex c named names =
    let form = tag_form c.args.digests names.tag names.form in
    let same = lines_tell (parts_of_tag c.in-Some.texts) (value_parts names.tag) c.in-Some.ensures.0 (value_lines c.args.digests names.tag form) (sym c.in-Some.ensures.1 ∙ names.text ∙ content_lines names.tag) in
    c.in_default-parse_lower_hex.ensures names.tag.target form.target (ap (λ (p : TagParts). p.target) same)

pub returns-then-not-branch : goal.returns-then-not-branch
returns-then-not-branch c named names =
    let form = tag_form c.args.digests names.tag names.form in
    let same = lines_tell (parts_of_tag c.in-Some.texts) (value_parts names.tag) c.in-Some.ensures.0 (value_lines c.args.digests names.tag form) (sym c.in-Some.ensures.1 ∙ names.text ∙ content_lines names.tag) in
    absurd (cc (sym c.if-not-branch.true ∙ c.in_ok-are_written.ensures.1 (subst AreTagParts (sym same) (value_written c.args.digests names.tag form))))

pub returns : goal.returns
returns c =
    let texts = c.in-Some.texts in
    let written = c.in_ok-are_written.ensures.0 c.if-not-branch.false in
    let id = id_of c.in-Some-parse_lower_hex.id in
    let tag : TagValue = record { target = id; name = texts.name.now; tagger = written.actor; message = texts.message.now } in
    record {
      tag = tag;
      form = form_of c.args.digests tag (record { target = c.in-Some-parse_lower_hex.ensures.0; name = written.name; tagger = written.actor_is; some = written.some; titled = written.titled });
      text = c.in-Some.ensures.1 ∙ (λ i. tag_lines (record { target = c.in-Some-parse_lower_hex.ensures.1 i; name = texts.name.now; tagger = written.tagger i; message = texts.message.now })) ∙ sym (content_lines tag);
      named_are = ap (map naming_of) (c.in_ok-push.ensures.items ∙ ap (λ items. items ++ record { id = c.in-Some-parse_lower_hex.id; kind = Commit } ∷ []) c.new-named.ensures.items);
    }
