-- What a list holds that was extended.
use Rattle.std.proofs.Common.{◌≡◌, subst, Ok}
use Rattle.std.specs.Prelude.{Result, OnOk}

-- a call that ended well has what `OnOk` promises
pub at_ok : {T E : Type 0} (P : Type 0) (result : Result T E) (value : T) → result ≡ Ok value → OnOk result P → P
at_ok {T} {E} P result value was told = subst (λ (r : Result T E). OnOk r P) was told
