-- An object in written form has no time before 1970, and is no tag of something other than a
-- commit.
use Rattle.std.proofs.Common.{◌≡◌, ◌∙◌, ap, refl, sym, subst, arith, tests, ℕ, true, false, ◌&&◌, ◌||◌, ◌==◌, nat_eq, [], ◌∷◌, ◌++◌}
use Rattle.std.specs.Prelude.{codes, decimal}
use Rattle.std.proofs.lemmas.Bool.{or_parts}
use Rattle.gix_hash.specs.Kind.{hex_len}
use Rattle.gix_object_commit.specs.Commit.{Parts}
use Rattle.gix_object_commit.proofs.Once.{spells_once}
use Rattle.gix_object_lines.specs.Actor.{SpellsActor}
use Rattle.gix_object_lines.specs.declared.kind.Kind.TheVariants as kinds
use Rattle.gix_object_lines.proofs.ActorLemmas.{one_cut}
use Rattle.history_model.specs.Bytes.{Bytes, has_byte}
use Rattle.history_model.specs.Objects.{actor_text}
use Rattle.history_model.proofs.WholeTexts.{decimal_high}
use Rattle.history_texts.specs.Malformed.{BeforeIsMalformed, OfOtherIsMalformed, is_before, is_type_of_other}
use Rattle.history_texts.specs.Written.{TagParts, commit_parts}
use Rattle.history_texts.proofs.ActorTexts.{parts_read, time_words}
use Rattle.history_texts.proofs.CommitNames.{spelled_so}
use Rattle.history_texts.proofs.TagLines.{after_target, content_lines, line_rest, lines_tell, tag_form, value_lines, value_parts}

-- a number in decimal has no minus
since : (n : ℕ) (rest : Bytes) → is_before (decimal n ++ 32 ∷ rest) ≡ false
since n rest = front (decimal n) (decimal_high 45 (omega arith) n)
  where
    other : (d : ℕ) → (d == 45) ≡ false → (nat_eq 45 d && true) ≡ false
    other d none = grind (arith, tests)

    front : (digits : Bytes) → has_byte 45 digits ≡ false → is_before (digits ++ 32 ∷ rest) ≡ false
    front [] none = refl
    front (d ∷ digits) none = other d (or_parts (d == 45) (has_byte 45 digits) none).0

pub before_malformed : BeforeIsMalformed
before_malformed digests kinds.Tree content before = absurd before
before_malformed digests kinds.Blob content before = absurd before
before_malformed digests kinds.Commit content before = λ named names.
    let by = names.names in
    let value = by.value in
    let same : before.parts ≡ commit_parts by.tree value = spells_once (hex_len digests) content before.parts names.parts before.spelled (spelled_so digests content named names) ∙ by.parts_are.told in
    let author = ap (λ (p : Parts). is_before (p.author).time) same ∙ since (value.author).seconds (value.author).offset in
    let committer = ap (λ (p : Parts). is_before (p.committer).time) same ∙ since (value.committer).seconds (value.committer).offset in
    cc (sym before.before ∙ (λ i. author i || committer i))
before_malformed digests kinds.Tag content before = λ named names.
    let tag = names.tag in
    let form = tag_form digests tag names.form in
    let same : before.parts ≡ value_parts tag = lines_tell before.parts (value_parts tag) before.are_lines (value_lines digests tag form) (sym before.text ∙ names.text ∙ content_lines tag) in
    let read = subst (λ (p : TagParts). SpellsActor p.tagger before.name before.email before.time) same before.tagger in
    let own = parts_read (actor_text tag.tagger) tag.tagger form.tagger refl in
    let time = (one_cut (actor_text tag.tagger) before.name before.email before.time (tag.tagger).name (tag.tagger).email (time_words tag.tagger) read.cut own.cut).2 in
    cc (sym before.before ∙ ap is_before time ∙ since (tag.tagger).seconds (tag.tagger).offset)

pub of_other_malformed : OfOtherIsMalformed
of_other_malformed digests content other named names =
    let tag = names.tag in
    let form = tag_form digests tag names.form in
    let lines = value_lines digests tag form in
    let rest = line_rest (codes "object ") other.target (value_parts tag).target other.rest (after_target (value_parts tag)) content other.in_line lines.target other.text_is (names.text ∙ content_lines tag) in
    cc (sym other.typed ∙ ap is_type_of_other rest)
