use Rattle.std.proofs.Common.{◌≡◌, ◌∙◌, ap, List, ℕ, [], ◌++◌, refl}
use Rattle.gix_hash.specs.Hasher.{id_of_message}
use Rattle.gix_hash.specs.declared.kind.Kind.{Kind}
use Rattle.history_model.specs.Objects.{digest}
use Rattle.history_texts.proofs.object.object_id.Goals as goal

is_digest : (kind : Kind) (text : List ℕ) → id_of_message kind text ≡ digest kind text
unfolding digest
is_digest kind text = refl

pub returns : goal.returns
returns c =
    let kind = c.args.kind in
    let fed = c.update-2.ensures kind _ (c.update.ensures kind _ c.hasher-hasher.ensures) in
    c.try_finalize.ensures kind _ fed ∙ ap (λ (header : List ℕ). id_of_message kind (([] ++ header) ++ c.args.content.now)) (c.deref.ensures.0 ∙ c.loose_header-header.ensures) ∙ is_digest kind _
