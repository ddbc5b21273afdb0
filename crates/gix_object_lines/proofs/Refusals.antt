-- What a `?` passes on.
use Rattle.std.proofs.Common.{◌≡◌, Bor, List, ℕ, Some, None, Ok, Err, Result, ap, sym, ◌∙◌}
use Rattle.std.specs.Prelude.{MatchResult, OnErr}
use Rattle.std.specs.Result.{result_ok}

-- the text of a result that was tested
pub is_text : {E : Type 0} (r : Result (Bor (List ℕ)) E) (x : Bor (List ℕ)) (w : List ℕ) (U : Type 0) (Q : E → Type 0) → result_ok r ≡ Some x → MatchResult r (λ s. (s.now ≡ w) × U) Q → x.now ≡ w
is_text (Ok s) x w U Q e h = let f : s ≡ x = cc in ap (λ (b : Bor (List ℕ)). b.now) (sym f) ∙ h.0
is_text (Err d) x w U Q e h = absurd cc

pub is_no_text : {A E : Type 0} (r : Result A E) (P : A → Type 0) (U : Type 0) (Q : E → Type 0) → result_ok r ≡ None → MatchResult r P (λ d. (¬ U) × Q d) → U → ⊥
is_no_text (Ok s) P U Q e h u = absurd cc
is_no_text (Err d) P U Q e h u = h.0 u

pub ok_of : {A E : Type 0} (r : Result A E) (x : A) → r ≡ Ok x → result_ok r ≡ Some x
ok_of r x e = ap result_ok e

pub on_err : {A E P : Type 0} (r : Result A E) → P → OnErr r P
on_err (Ok x) p = tt
on_err (Err e) p = p

pub on_err_by : {A E P Q : Type 0} (r : Result A E) → (P → Q) → OnErr r P → OnErr r Q
on_err_by (Ok x) f p = tt
on_err_by (Err e) f p = f p
