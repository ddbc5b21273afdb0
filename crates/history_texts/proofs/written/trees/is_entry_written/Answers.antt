use Rattle.std.proofs.Common.{◌≡◌, ◌∙◌, sym, refl, Bool, true, false, not}
use Rattle.std.specs.Prelude.{IsTrue}
use Rattle.std.specs.Fmt.{digits}
use Rattle.gix_hash.specs.Hasher.{id_of_message, empty_tree_text}
use Rattle.gix_hash.specs.declared.kind.Kind.{Kind}
use Rattle.history_model.specs.Objects.{digest, empty_tree_id}
use Rattle.history_texts.proofs.written.trees.is_entry_written.Goals as goal

empty_tree : (kind : Kind) → id_of_message kind empty_tree_text ≡ empty_tree_id kind
unfolding digest digits
empty_tree kind = refl

refuted : (b : Bool) → (IsTrue b → ⊥) → IsTrue (not b)
refuted true h = absurd (h refl)
refuted false h = refl

both_ways : (b : Bool) → IsTrue b → IsTrue (not b) → ⊥
both_ways true h k = cc
both_ways false h k = cc

pub returns-then-is_mode_written : goal.returns-then-is_mode_written
returns-then-is_mode_written c =
    let same = c.as_oid.ensures ∙ c.empty_tree.ensures ∙ empty_tree c.args.digests in (
      λ other. record { mode = c.is_mode_written.ensures.0 c.if-is_mode_written.true; some = λ is. both_ways c.eq_oid.result (c.eq_oid.ensures.1 (is ∙ sym same)) other },
      λ written. refuted c.eq_oid.result (λ is. written.some (c.eq_oid.ensures.0 is ∙ same)),
    )
