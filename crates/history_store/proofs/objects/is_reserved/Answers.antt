use Rattle.std.proofs.Common.{◌≡◌, ◌∙◌, ap, sym, refl, Bool, true, false, not, ◌&&◌, ◌||◌}
use Rattle.std.specs.Fmt.{digits}
use Rattle.gix_hash.specs.Hasher.{id_of_message, empty_tree_text}
use Rattle.gix_hash.specs.Id.{Id, id_of, null_id}
use Rattle.gix_hash.specs.Order.{id_eq}
use Rattle.gix_hash.specs.declared.kind.Kind.{Kind}
use Rattle.history_model.specs.Bytes.{Bytes}
use Rattle.history_model.specs.Objects.{digest, empty_tree_id}
use Rattle.history_texts.specs.ObjectTexts.{is_empty_tree, is_reserved}
use Rattle.gix_object_lines.specs.declared.kind.Kind.{Kind as ObjectKind}
use Rattle.history_store.proofs.objects.is_reserved.Goals as goal

empty_tree : (kind : Kind) → id_of_message kind empty_tree_text ≡ empty_tree_id kind
unfolding digest digits
empty_tree kind = refl

answered : (object : ObjectKind) (content : Bytes) (id : Id) (null empty : Bool) → id_eq id (null_id id.kind) ≡ null → id_eq id (empty_tree_id id.kind) ≡ empty
    → (null || (empty && not (is_empty_tree object content))) ≡ is_reserved id object content
answered object content id null empty is_null is_empty = λ i. sym is_null i || (sym is_empty i && not (is_empty_tree object content))

pub returns-then-eq-2 : goal.returns-then-eq-2
returns-then-eq-2 c =
    let object = c.args.object.now in
    let id = id_of object.id in
    ap not c.is_empty_tree.ensures ∙ ap (λ content. not (is_empty_tree object.kind content)) c.deref.ensures.value
    ∙ answered object.kind object.content.items id false true
    (ap (id_eq id) (sym (c.null.ensures ∙ ap null_id c.kind-digests.ensures)) ∙ sym c.eq.ensures ∙ c.if-eq.false)
    (ap (id_eq id) (sym (c.empty_tree.ensures ∙ ap (λ k. id_of_message k empty_tree_text) c.kind-digests.ensures ∙ empty_tree id.kind)) ∙ sym c.eq-else-eq.ensures ∙ c.if-eq-2.true)

pub returns-else-eq-2 : goal.returns-else-eq-2
returns-else-eq-2 c =
    let object = c.args.object.now in
    let id = id_of object.id in
    c.if-eq-2.false
    ∙ answered object.kind object.content.items id false false
    (ap (id_eq id) (sym (c.null.ensures ∙ ap null_id c.kind-digests.ensures)) ∙ sym c.eq.ensures ∙ c.if-eq.false)
    (ap (id_eq id) (sym (c.empty_tree.ensures ∙ ap (λ k. id_of_message k empty_tree_text) c.kind-digests.ensures ∙ empty_tree id.kind)) ∙ sym c.eq-else-eq.ensures ∙ c.if-eq-2.false)
