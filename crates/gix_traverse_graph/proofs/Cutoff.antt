-- The test of a cutoff.
use Rattle.std.proofs.Common.{◌≡◌, refl, Some, None, Option, Bool, true, false, T}
use Rattle.std.specs.Prelude.{ℤ, IfSome, ◌≤ℤ◌}
use Rattle.std.specs.Int.Signed.{le_z, le_z_yes}
use Rattle.gix_traverse_graph.specs.Sorting.{in_time}
use Rattle.gix_traverse_graph.proofs.Check.{T_from}

true_from_T : (b : Bool) → T b → b ≡ true
true_from_T true t = refl
true_from_T false t = absurd t

pub le_z_from : (a b : ℤ) → a ≤ℤ b → le_z a b ≡ true
le_z_from a b h = true_from_T (le_z a b) h.le

pub in_time_yes : (s : Option ℤ) (t : ℤ) → in_time s t ≡ true → IfSome s (λ seconds. seconds ≤ℤ t)
in_time_yes None t e = tt
in_time_yes (Some s) t e = le_z_yes (T_from e)

pub in_time_too : (s : Option ℤ) (t : ℤ) → IfSome s (λ seconds. seconds ≤ℤ t) → in_time s t ≡ true
in_time_too None t e = refl
in_time_too (Some s) t e = le_z_from s t e
