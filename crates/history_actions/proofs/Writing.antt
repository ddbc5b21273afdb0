-- Writes in a row.
use Rattle.std.proofs.Common.{◌≡◌, ◌∙◌, [], ◌∷◌, ◌++◌, Bool, true, Option, Result, Ok, Err, OnOk, OnErr, IsErr, inl, inr, refl, sym, subst, ap}
use Rattle.std.proofs.KnownBytes.{Appends-trans}
use Rattle.std.proofs.lemmas.List.{append-nil}
use Rattle.std.specs.Io.KnownBytes.{Appends}
use Rattle.gix_hash.specs.Writes.{AppendsFewer}
use Rattle.gix_object_lines.proofs.Fronts.{front_of, front_then}
use Rattle.gix_hash.specs.declared.kind.Kind.{Kind}
use Rattle.history_model.specs.Bytes.{Bytes}
use Rattle.history_model.specs.declared.End.{End}
use Rattle.history_actions.specs.Told.{Took, Writes, failure_text, status, told, values_text}
use Rattle.history_actions.specs.declared.failure.Failure.{Failure}
use Rattle.history_actions.specs.declared.failure.Failure.TheVariants.{NotEmpty, Unopened, File, Memory, Read, Write, Ended}

-- one write, which is all
pub one : {T E : Type 0} (a b : Option Bytes) (f : Bool) (text : Bytes) (r : Result T E)
    → OnOk r (Appends a b text) → OnErr r ((f ≡ true) × AppendsFewer a b text) → Writes a b f text r
one a b f text (Ok x) ok err = ok
one a b f text (Err e) ok err = err

-- what is written after x
pub behind : {T E : Type 0} (a b c : Option Bytes) (f : Bool) (x y text : Bytes) (r : Result T E)
    → text ≡ x ++ y → Appends a b x → Writes b c f y r → Writes a c f text r
behind a b c f x y text (Ok z) whole first then =
    subst (Appends a c) (sym whole) (Appends-trans a b c x y first then)
behind a b c f x y text (Err e) whole first then =
    (then.0, front_then a b c x y [] text (whole ∙ sym (append-nil (x ++ y))) first then.1)

-- a write that stopped, of which more was to come
pub stopped : {T E : Type 0} (a b : Option Bytes) (f : Bool) (x y text : Bytes) (r : Result T E)
    → IsErr r → text ≡ x ++ y → (f ≡ true) × AppendsFewer a b x → Writes a b f text r
stopped a b f x y text (Ok z) is whole then = absurd (cc)
stopped a b f x y text (Err e) is whole then = (then.0, front_of a b x y text whole then.1)

-- the same after a write that didn't stop
pub stopped_behind : {T E : Type 0} (a b c : Option Bytes) (f : Bool) (x y z text : Bytes)
    (r : Result T E) → IsErr r → text ≡ (x ++ y) ++ z → Appends a b x
    → (f ≡ true) × AppendsFewer b c y → Writes a c f text r
stopped_behind a b c f x y z text (Ok w) is whole first then = absurd (cc)
stopped_behind a b c f x y z text (Err e) is whole first then =
    (then.0, front_then a b c x y z text whole first then.1)

pub took : {T E : Type 0} (a b : Option Bytes) (f : Bool) (text : Bytes) (r : Result T E)
    → Writes a b f text r → Took a b f text
took a b f text (Ok x) writes = inl writes
took a b f text (Err e) writes = inr writes

-- ---- texts

pub one_value : (v : Bytes) → values_text (v ∷ []) ≡ (32 ∷ []) ++ v
one_value v = ap (λ (t : Bytes). 32 ∷ t) (append-nil v)

pub two_values : (v w : Bytes) → values_text (v ∷ w ∷ []) ≡ values_text (v ∷ []) ++ values_text (w ∷ [])
two_values v w = ap (λ (t : Bytes). 32 ∷ (t ++ 32 ∷ (w ++ []))) (sym (append-nil v))

-- what isn't the end of a run is reported
pub is_told : {T : Type 0} (kind : Kind) (answer : Result T Failure) (failure : Failure)
    → answer ≡ Err failure → ((end : End) → failure ≡ Ended end → ⊥)
    → told kind answer ≡ failure_text kind failure
is_told {T} kind answer failure is not_ended = ap (told kind) is ∙ its failure not_ended
  where
    its : (f : Failure) → ((end : End) → f ≡ Ended end → ⊥)
        → told {T = T} kind (Err f) ≡ failure_text kind f
    its (NotEmpty path) other = refl
    its (Unopened cause) other = refl
    its File other = refl
    its Memory other = refl
    its Read other = refl
    its Write other = refl
    its (Ended end) other = absurd (other end refl)

pub is_failed : {T : Type 0} (answer : Result T Failure) (failure : Failure) → answer ≡ Err failure
    → 1 ≡ status answer
is_failed answer failure is = sym (ap status is)

pub is_loud : (front note : Bytes) → (front ++ 10 ∷ []) ++ note ≡ [] → ⊥
is_loud [] note same = absurd (cc)
is_loud (x ∷ xs) note same = absurd (cc)
