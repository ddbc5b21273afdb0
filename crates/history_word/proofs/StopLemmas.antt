-- One reader after another.
use Rattle.std.proofs.Common.{◌≡◌, ℕ, true, ◌⊎◌, inl, inr, Option, Bool, List, ◌++◌}
use Rattle.history_model.specs.declared.Cause.{Cause}
use Rattle.history_model.specs.declared.Cause.TheVariants.{Truncated}
use Rattle.history_word.specs.declared.buffer.Buffer.{Buffer}
use Rattle.history_word.specs.declared.reader.Stop.{Stop}
use Rattle.history_word.specs.declared.reader.Stop.TheVariants as stop
use Rattle.history_word.specs.Taking.{Took, IsLast}
use Rattle.history_word.specs.Reading.{Stops}
use Rattle.history_word.proofs.TakingLemmas.{came_then}

failed_then : (Failed Last Bad Worse : Type 0) → (Bad → Worse) → (Failed × Bad) ⊎ Last → (Failed × Worse) ⊎ Last
failed_then Failed Last Bad Worse g (inl (f, b)) = inl (f, g b)
failed_then Failed Last Bad Worse g (inr l) = inr l

-- What stops a reader after it took xs.
pub stops_then : {S : Type 0} (left : S → Option (List ℕ)) (has_failed : S → Bool) (readings : S → ℕ) (s : S) (b : Buffer) (t : S) (c : Buffer) (u : S) (d : Buffer) (xs : List ℕ)
    (Bad Worse : List ℕ → Cause → Type 0) → ((ys : List ℕ) (m : Cause) → Bad ys m → Worse (xs ++ ys) m)
    → (stop : Stop) → Took left readings s b t c xs → Stops left has_failed readings t c u d Bad stop → Stops left has_failed readings s b u d Worse stop
stops_then left has_failed readings s b t c u d xs Bad Worse g (stop.Refused m) h k = (xs ++ k.0, came_then left readings s b t c u d xs k.0 h k.1, g k.0 m k.2, k.3)
stops_then left has_failed readings s b t c u d xs Bad Worse g stop.Broken h k = (xs ++ k.0, came_then left readings s b t c u d xs k.0 h k.1, failed_then (has_failed u ≡ true) (IsLast d) (Bad k.0 Truncated) (Worse (xs ++ k.0) Truncated) (g k.0 Truncated) k.2)
