-- What the word of an order says of its cutoff.
use Rattle.std.proofs.Common.{◌≡◌, ◌∙◌, ap, sym, subst, pos, false, not, cond, ◌||◌, ◌⊎◌, inl, inr, Some, None, Vec, ℕ, codes}
use Rattle.std.specs.Prelude.{unsigned_abs}
use Rattle.std.specs.declared.alloc.Global.{Global}
use Rattle.gix_object_lines.specs.declared.lines.time.Time.{Time}
use Rattle.history_model.specs.Bytes.{digits_value}
use Rattle.history_model.specs.Forms.{is_seconds}
use Rattle.history_model.specs.declared.Cause.TheVariants.{BadTime}
use Rattle.history_texts.specs.Actors.{IsNoTime, IsTimeOf}
use Rattle.history_word.specs.Commands.{IsOrder}
use Rattle.history_word.specs.declared.command.Order.{Order}
use Rattle.history_word.specs.declared.command.Order.TheVariants.{NewestSince, OldestSince}
use Rattle.history_queries.specs.Logs.{IsSince, since_cause}
use Rattle.history_repository.proofs.SecondsLemmas.{spells_none, spells_some}
use Rattle.history_model.specs.Commands as model

module _ (order : Order) (line : model.Order) (word : Vec ℕ Global) (is : (order ≡ NewestSince word) ⊎ (order ≡ OldestSince word)) (sent : IsOrder order line) where
  -- the cutoff of the line is this word's
  at_word : (since_cause line ≡ cond (not (is_seconds word.items) || false) (Some BadTime) None) × IsSince line (Some (pos (digits_value word.items)))
  at_word = elim is [
    | inl newest ↦ by_newest line (subst (λ o. IsOrder o line) newest sent)
    | inr oldest ↦ by_oldest line (subst (λ o. IsOrder o line) oldest sent)
  ]
    where
      by_newest : (line : model.Order) → IsOrder (NewestSince word) line → (since_cause line ≡ cond (not (is_seconds word.items) || false) (Some BadTime) None) × IsSince line (Some (pos (digits_value word.items)))
      by_newest (model.NewestSince bytes) same = (ap (λ w. cond (not (is_seconds w) || false) (Some BadTime) None) (sym same), ap (λ w. Some (pos (digits_value w))) same)
      by_newest line same = absurd same

      by_oldest : (line : model.Order) → IsOrder (OldestSince word) line → (since_cause line ≡ cond (not (is_seconds word.items) || false) (Some BadTime) None) × IsSince line (Some (pos (digits_value word.items)))
      by_oldest (model.OldestSince bytes) same = (ap (λ w. cond (not (is_seconds w) || false) (Some BadTime) None) (sym same), ap (λ w. Some (pos (digits_value w))) same)
      by_oldest line same = absurd same

  pub bad_cutoff : IsNoTime word.items (codes "+0000") → since_cause line ≡ Some BadTime
  bad_cutoff none = at_word.0 ∙ ap (λ good. cond (not good || false) (Some BadTime) None) (unread none)
    where
      unread : IsNoTime word.items (codes "+0000") → is_seconds word.items ≡ false
      unread (inl none) = spells_none word.items none
      unread (inr e) = let z : ⊥ = cc in absurd z

  pub good_cutoff : (time : Time) → IsTimeOf word.items (codes "+0000") time → (since_cause line ≡ None) × IsSince line (Some time.seconds)
  good_cutoff time told =
      let read = spells_some word.items (unsigned_abs time.seconds) told.seconds_told.limit told.seconds_told.spelled in
      let seconds : time.seconds ≡ pos (digits_value word.items) = told.seconds_told.since ∙ ap pos read.1 in
      (at_word.0 ∙ ap (λ good. cond (not good || false) (Some BadTime) None) read.0, subst (λ s. IsSince line (Some s)) (sym seconds) at_word.1)
