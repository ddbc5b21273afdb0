use Rattle.std.proofs.Common.{◌≡◌, ◌∙◌, subst, MatchOption, IsTrue}
use Rattle.gix_hash.specs.Id.{id_of}
use Rattle.history_model.specs.Forms.{is_commit_form}
use Rattle.history_model.specs.Objects.{commit_content, folder_id}
use Rattle.history_repository.proofs.StoredValues.{commit_formed}
use Rattle.history_repository.proofs.stored.root_in.Goals as goal

pub returns : goal.returns
returns g c r id value stands at spelled =
    let reads = subst (λ kind. IsTrue (is_commit_form kind value) → c.args.content.now ≡ commit_content kind value → MatchOption c.commit_tree.result ⊥ (λ root. id_of root ≡ folder_id kind value.files))
    (c.kind.ensures ∙ stands.objects_kind) (c.commit_tree.ensures.read value) in
    let read = reads (commit_formed _ _ c.args.repository.now r stands id value at) spelled in
    rw c.in_ok-ok_or.ensures.ok_part at read

pub returns-in_err-ok_or : goal.returns-in_err-ok_or
returns-in_err-ok_or g c r id value stands at spelled =
    let reads = subst (λ kind. IsTrue (is_commit_form kind value) → c.args.content.now ≡ commit_content kind value → MatchOption c.commit_tree.result ⊥ (λ root. id_of root ≡ folder_id kind value.files))
    (c.kind.ensures ∙ stands.objects_kind) (c.commit_tree.ensures.read value) in
    let read = reads (commit_formed _ _ c.args.repository.now r stands id value at) spelled in
    let none = rw c.in_err-ok_or.ensures.ok_part at read in
    absurd none
