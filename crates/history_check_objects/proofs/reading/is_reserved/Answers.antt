use Rattle.std.proofs.Common.{◌≡◌, ◌∙◌, ap, sym, refl, Bool, true, false, not, ◌&&◌, ◌||◌}
use Rattle.std.specs.Fmt.{digits}
use Rattle.gix_hash.specs.Hasher.{id_of_message, empty_tree_text}
use Rattle.gix_hash.specs.Id.{Id, id_of, null_id}
use Rattle.gix_hash.specs.Order.{id_eq}
use Rattle.gix_hash.specs.declared.kind.Kind.{Kind}
use Rattle.gix_object_lines.specs.declared.kind.Kind.{Kind as ObjectKind}
use Rattle.history_model.specs.Bytes.{Bytes}
use Rattle.history_model.specs.Objects.{digest, empty_tree_id}
use Rattle.history_texts.specs.ObjectTexts.{is_empty_tree}
use Rattle.history_check_objects.specs.Reading.{is_reserved_in}
use Rattle.history_check_objects.proofs.reading.is_reserved.Goals as goal

empty_tree : (kind : Kind) → id_of_message kind empty_tree_text ≡ empty_tree_id kind
unfolding digest digits
empty_tree kind = refl

answered : (kind : Kind) (object : ObjectKind) (content : Bytes) (id : Id) (null empty : Bool) → id_eq id (null_id kind) ≡ null → id_eq id (empty_tree_id kind) ≡ empty
    → (null || (empty && not (is_empty_tree object content))) ≡ is_reserved_in kind id object content
answered kind object content id null empty is_null is_empty = λ i. sym is_null i || (sym is_empty i && not (is_empty_tree object content))

pub returns-then-eq-2 : goal.returns-then-eq-2
returns-then-eq-2 c =
    let id = id_of c.args.id.now in
    ap not c.is_empty_tree.ensures
    ∙ answered c.args.kind c.args.object c.args.content.now id false true
    (ap (id_eq id) (sym c.null.ensures) ∙ sym c.eq.ensures ∙ c.if-eq.false)
    (ap (id_eq id) (sym (c.empty_tree.ensures ∙ empty_tree c.args.kind)) ∙ sym c.eq-else-eq.ensures ∙ c.if-eq-2.true)

pub returns-else-eq-2 : goal.returns-else-eq-2
returns-else-eq-2 c =
    let id = id_of c.args.id.now in
    c.if-eq-2.false
    ∙ answered c.args.kind c.args.object c.args.content.now id false false
    (ap (id_eq id) (sym c.null.ensures) ∙ sym c.eq.ensures ∙ c.if-eq.false)
    (ap (id_eq id) (sym (c.empty_tree.ensures ∙ empty_tree c.args.kind)) ∙ sym c.eq-else-eq.ensures ∙ c.if-eq-2.false)
