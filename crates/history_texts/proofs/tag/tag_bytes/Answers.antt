use Rattle.std.proofs.Common.{◌≡◌, ◌∙◌, ap, subst}
use Rattle.std.specs.Prelude.{MatchOption}
use Rattle.gix_hash.specs.Id.{id_of}
use Rattle.history_model.specs.Objects.{Actor}
use Rattle.history_texts.specs.Actors.{HasActorForm}
use Rattle.history_texts.specs.Formats.{own_actor}
use Rattle.history_texts.proofs.TagWrites.{content_is, none_refused}
use Rattle.history_texts.proofs.tag.tag_bytes.Goals as goal

pub returns-in_default : goal.returns-in_default
returns-in_default c = λ kind value says.
    let tag = c.bare_tag-lines.result in
    let bare = c.bare_tag-lines.ensures in
    let tagger = subst (λ (a : Actor). MatchOption tag.tagger ⊥ (λ own. (own_actor own ≡ a) × HasActorForm own)) says.tagger_is bare.tagger in
    let refused = rw c.in_default.is at c.in_ok-text.ensures in
    refused (none_refused kind tag value says.form (ap id_of bare.target ∙ says.target_is) bare.kind (bare.name ∙ says.name_is) tagger bare.message bare.signature)

pub returns : goal.returns
returns c = λ kind value says.
    let tag = c.bare_tag-lines.result in
    let bare = c.bare_tag-lines.ensures in
    let tagger = subst (λ (a : Actor). MatchOption tag.tagger ⊥ (λ own. (own_actor own ≡ a) × HasActorForm own)) says.tagger_is bare.tagger in
    let written = rw c.in-Some.is at c.in_ok-text.ensures in
    c.in_ok-extend_from_slice.ensures.items
    ∙ content_is kind tag value says.form (ap id_of bare.target ∙ says.target_is) bare.kind (bare.name ∙ says.name_is) tagger bare.message bare.signature c.in-Some.text.items c.args.message.now written.1 says.message_is
