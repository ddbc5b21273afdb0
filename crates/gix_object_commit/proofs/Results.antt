-- What follows from results.
use Rattle.std.proofs.Common.{◌≡◌, false, Ok, Err, Result, List}
use Rattle.std.specs.Prelude.{OnOk, IfOk, if◌then◌else◌}
use Rattle.std.specs.Result.{is_err, is_ok}

pub when_ok : {A E P : Type 0} (r : Result A E) → is_err r ≡ false → OnOk r P → P
when_ok (Ok x) e p = p
when_ok (Err x) e p = absurd cc

-- what a push leaves
pub when_pushed : {A E X : Type 0} (r : Result A E) (new more old : List X) → is_err r ≡ false → new ≡ (if is_ok r then more else old) → new ≡ more
when_pushed (Ok x) new more old e is = is
when_pushed (Err x) new more old e is = absurd cc

pub if_ok_by : {A E : Type 0} {P Q : A → Type 0} (r : Result A E) → ((x : A) → P x → Q x) → IfOk r P → IfOk r Q
if_ok_by (Ok x) f p = f x p
if_ok_by (Err x) f p = tt
