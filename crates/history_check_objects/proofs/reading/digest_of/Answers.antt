use Rattle.std.proofs.Common.{◌≡◌, ◌∙◌, List, ℕ, refl}
use Rattle.gix_hash.specs.Hasher.{id_of_message}
use Rattle.gix_hash.specs.declared.kind.Kind.{Kind}
use Rattle.history_model.specs.Objects.{digest}
use Rattle.history_check_objects.proofs.reading.digest_of.Goals as goal

is_digest : (kind : Kind) (text : List ℕ) → id_of_message kind text ≡ digest kind text
unfolding digest
is_digest kind text = refl

pub returns : goal.returns
returns c =
    let kind = c.args.kind in
    c.try_finalize.ensures kind _ (c.update.ensures kind _ c.hasher-hasher.ensures) ∙ is_digest kind _
