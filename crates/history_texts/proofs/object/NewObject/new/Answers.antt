use Rattle.std.proofs.Common.{◌≡◌, ◌∙◌, ap, sym}
use Rattle.gix_hash.specs.Id.{Id}
use Rattle.gix_hash.specs.declared.kind.Kind.{Kind}
use Rattle.gix_object_lines.specs.declared.kind.Kind.{Kind as ObjectKind}
use Rattle.history_model.specs.Bytes.{Bytes}
use Rattle.history_model.specs.Objects.{object_text}
use Rattle.history_model.proofs.IdLemmas.{digest_is_id, has_kind}
use Rattle.history_texts.specs.ObjectTexts.{object_id}
use Rattle.history_texts.proofs.object.NewObject.new.Goals as goal

-- an id of a kind of digest is of its own
own_id : (digests : Kind) (kind : ObjectKind) (content : Bytes) (id : Id) → id ≡ object_id digests kind content → id ≡ object_id id.kind kind content
own_id digests kind content id is =
    is ∙ ap (λ k. object_id k kind content) (sym (ap (λ i. i.kind) is ∙ (has_kind digests _ (digest_is_id digests (object_text kind content))).of_kind))

pub invariant_of-result : goal.invariant_of-result
invariant_of-result c = record { named = own_id c.args.digests c.args.kind c.args.content.items _ (c.object_id-id.ensures ∙ ap (object_id c.args.digests c.args.kind) c.deref.ensures.value) }
