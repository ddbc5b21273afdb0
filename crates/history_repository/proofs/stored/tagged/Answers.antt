use Rattle.std.proofs.Common.{◌∙◌, subst, sym, IsTrue}
use Rattle.history_model.specs.Forms.{is_tag_form}
use Rattle.history_model.specs.Objects.{StoredTag}
use Rattle.history_repository.proofs.stored.tagged.Goals as goal

pub returns : goal.returns
returns g c r id tag stands at spelled =
    let form : IsTrue (is_tag_form r.kind tag) = (stands.whole.written.values id (StoredTag tag) at).0 in
    let read = c.tag_target.ensures.read tag (subst (λ kind. IsTrue (is_tag_form kind tag)) (sym (c.kind.ensures ∙ stands.objects_kind)) form) spelled in
    rw c.in_ok-ok_or.ensures.ok_part at read

pub returns-in_err-ok_or : goal.returns-in_err-ok_or
returns-in_err-ok_or g c r id tag stands at spelled =
    let form : IsTrue (is_tag_form r.kind tag) = (stands.whole.written.values id (StoredTag tag) at).0 in
    let read = c.tag_target.ensures.read tag (subst (λ kind. IsTrue (is_tag_form kind tag)) (sym (c.kind.ensures ∙ stands.objects_kind)) form) spelled in
    let none = rw c.in_err-ok_or.ensures.ok_part at read in
    absurd none
