use Rattle.std.proofs.Common.{◌∙◌, IsTrue, Some, ap, subst, sym}
use Rattle.std.proofs.lemmas.Option.{same_Some}
use Rattle.history_model.specs.Forms.{is_tag_form}
use Rattle.history_model.specs.Objects.{StoredTag, content_of}
use Rattle.history_repository.proofs.HeldLemmas.{peeled_tag}
use Rattle.history_repository.proofs.HeldKept.{there_stored, untagged}
use Rattle.history_repository.proofs.held_objects.tagged.Goals as goal

pub returns-in_ok-ok_or-in-Tag : goal.returns-in_ok-ok_or-in-Tag
returns-in_ok-ok_or-in-Tag g c = λ r id commit stands there peels.
    let stored = there_stored r id c.args.object.now there in
    let tag = peeled_tag r id stored.0 stored.1 (sym stored.2 ∙ c.in-Tag.is) in
    let form : IsTrue (is_tag_form r.kind tag.0) = (stands.whole.written.values id (StoredTag tag.0) (stored.1 ∙ ap Some tag.1)).0 in
    let read = c.tag_target-commit.ensures.read tag.0 (subst (λ kind. IsTrue (is_tag_form kind tag.0)) (sym (c.kind.ensures ∙ stands.objects_kind)) form) (c.deref.ensures.value ∙ stored.3 ∙ ap (content_of r.kind) tag.1) in
    let target = rw c.in_ok-ok_or-in-Tag.ensures.ok_part at read in
    target ∙ same_Some tag.0.target commit (sym tag.2 ∙ peels)

pub returns-in_err-ok_or-in-Tag : goal.returns-in_err-ok_or-in-Tag
returns-in_err-ok_or-in-Tag g c = λ r id commit stands there peels.
    let stored = there_stored r id c.args.object.now there in
    let tag = peeled_tag r id stored.0 stored.1 (sym stored.2 ∙ c.in-Tag.is) in
    let form : IsTrue (is_tag_form r.kind tag.0) = (stands.whole.written.values id (StoredTag tag.0) (stored.1 ∙ ap Some tag.1)).0 in
    let read = c.tag_target-commit.ensures.read tag.0 (subst (λ kind. IsTrue (is_tag_form kind tag.0)) (sym (c.kind.ensures ∙ stands.objects_kind)) form) (c.deref.ensures.value ∙ stored.3 ∙ ap (content_of r.kind) tag.1) in
    let none = rw c.in_err-ok_or-in-Tag.ensures.ok_part at read in
    absurd none

pub returns-in_default : goal.returns-in_default
returns-in_default g c = λ r id commit stands there peels.
    let stored = there_stored r id c.args.object.now there in
    untagged r id commit stored.0 stored.1 (λ is. c.in_default.not-Tag (stored.2 ∙ is)) peels
