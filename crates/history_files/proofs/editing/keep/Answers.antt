use Rattle.std.proofs.Common.{◌≡◌, ◌∙◌, ap, sym, refl, length, ◌++◌}
use Rattle.gix_hash.specs.Hasher.{id_of_message}
use Rattle.gix_hash.specs.Id.{Id, id_of}
use Rattle.gix_hash.specs.declared.kind.Kind.{Kind}
use Rattle.gix_hash.specs.declared.object_id.ObjectId.{ObjectId}
use Rattle.gix_object_lines.specs.Header.{header_text}
use Rattle.gix_object_lines.specs.declared.kind.Kind.TheVariants as objects
use Rattle.history_model.specs.Bytes.{Bytes}
use Rattle.history_model.specs.Objects.{digest, tree_text}
use Rattle.history_files.proofs.Items.{digest_kind}
use Rattle.history_files.proofs.editing.keep.Goals as goal

hashed : (kind : Kind) (id : ObjectId) (content slice : Bytes) → slice ≡ content → id_of id ≡ id_of_message kind (header_text objects.Tree (length slice) ++ slice) → id_of id ≡ digest kind (tree_text content)
unfolding digest
hashed kind id content slice same e = e ∙ ap (λ t. id_of_message kind (header_text objects.Tree (length t) ++ t)) same

own_kind : (kind : Kind) (id : ObjectId) (content : Bytes) → id_of id ≡ digest kind (tree_text content) → id_of id ≡ digest (id_of id).kind (tree_text content)
own_kind kind id content e = e ∙ ap (λ k. digest k (tree_text content)) (sym (ap (λ (i : Id). i.kind) e ∙ digest_kind kind (tree_text content)))

pub invariant_of-push : goal.invariant_of-push
invariant_of-push c = record {
  named = own_kind c.args.kind c.compute_hash-id.result c.in_ok-content.content.items
      (hashed c.args.kind c.compute_hash-id.result c.in_ok-content.content.items c.as_slice.result.now c.as_slice.ensures.value c.compute_hash-id.ensures);
}

pub returns : goal.returns
returns c =
    let id = hashed c.args.kind c.compute_hash-id.result c.in_ok-content.content.items c.as_slice.result.now c.as_slice.ensures.value c.compute_hash-id.ensures in (
      _,
      c.in_ok-push.ensures.items,
      refl,
      record { content = c.in_ok-content.ensures; id = id ∙ ap (λ t. digest c.args.kind (tree_text t)) c.in_ok-content.ensures },
    )
