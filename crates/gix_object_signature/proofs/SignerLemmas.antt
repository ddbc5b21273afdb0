-- When the time of signing can't be given.
use Rattle.std.proofs.Common.{◌≡◌, ◌⊎◌, inl, inr, ℕ, ℤ, pos, List, refl, subst}
use Rattle.std.specs.Prelude.{Option, Some, Result, Ok, Err}
use Rattle.std.specs.Result.{result_ok}
use Rattle.gix_object_signature.specs.SignedTime.{IsStampable, NoLine, NoSeconds, AtTime, TellsNoTime, TellsSeconds, signer_line}

pub same_line : {A : Type 0} {x y : A} {o : Option A} → o ≡ Some x → o ≡ Some y → x ≡ y
same_line e f = cc

pub no_time : (content line : List ℕ) → signer_line content ≡ Some line
    → ((seconds : ℤ) → TellsSeconds line seconds → ¬ ((seconds ≡ pos 0) ⊎ IsStampable seconds)) → TellsNoTime content
no_time content line is none word (NoLine missing _) = absurd cc
no_time content line is none word (NoSeconds other same told _) = none (pos 0) (subst (λ l. TellsSeconds l (pos 0)) (same_line same is) told) (inl refl)
no_time content line is none word (AtTime other same seconds told stampable text stamp _) = none seconds (subst (λ l. TellsSeconds l seconds) (same_line same is) told) (inr stampable)

pub ok_is : {A E : Type 0} (result : Result A E) (value : A) → result_ok result ≡ Some value → result ≡ Ok value
ok_is (Ok other) value e = cc
ok_is (Err error) value e = absurd cc
