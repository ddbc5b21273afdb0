-- Calls joined.
use Rattle.std.proofs.Common.{subst, List, [], ◌∷◌, ◌++◌, Result, Ok, Err, inl, inr}
use Rattle.std.specs.Prelude.{OnOk, IfErr}
use Rattle.gix_traverse_tree.specs.Calls.{Call, Runs}
use Rattle.gix_traverse_tree.specs.Nodes.{MemoryOr}
use Rattle.gix_traverse_tree.specs.declared.error.Error.{Error}

pub runs_more : {S : Type 0} (G : S → Call → S → Type 0) (xs ys : List Call) (a m b : S) → Runs G a xs m → Runs G m ys b → Runs G a (xs ++ ys) b
runs_more G [] ys a m b e h = let P : _ → Type 0 = λ s. Runs G s ys b in subst P e h
runs_more G (x ∷ xs) ys a m b (next, step, later) h = (next, step, runs_more G xs ys next m b later h)

pub on_ok : {A E : Type 0} (r : Result A E) (P Q : Type 0) → (P → Q) → OnOk r P → OnOk r Q
on_ok (Ok x) P Q f h = f h
on_ok (Err e) P Q f h = tt

pub on_err : {A E : Type 0} (r : Result A E) (P Q : E → Type 0) → ((e : E) → P e → Q e) → IfErr r P → IfErr r Q
on_err (Ok x) P Q f h = tt
on_err (Err e) P Q f h = f e h

pub memory_or : (P Q : Error → Type 0) (error : Error) → ((e : Error) → P e → Q e) → MemoryOr P error → MemoryOr Q error
memory_or P Q error f (inl e) = inl e
memory_or P Q error f (inr h) = inr (f error h)
