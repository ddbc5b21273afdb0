-- Which places of files remain when a name is deleted.
use Rattle.std.proofs.Common.{◌≡◌, Bool, true, false, ◌&&◌, ◌||◌, refl, sym, ◌∙◌, ap}
use Rattle.history_model.specs.NameStates.{NameState, Absent, is_absent}

-- a place that isn't the name's or its log's stays one
pub place_left : (a b here log there s t : Bool) → (here ≡ true → s ≡ true) → (log ≡ true → there ≡ true → t ≡ true) → (a || b || here || (log && there)) ≡ true → (a || b || s || (log && t)) ≡ true
place_left true b here log there s t f g k = refl
place_left false true here log there s t f g k = refl
place_left false false true log there s t f g k = ap (λ x. x || (log && t)) (f refl)
place_left false false false true true s t f g k = last s t (g refl refl)
  where
    last : (s t : Bool) → t ≡ true → (s || t) ≡ true
    last true t e = refl
    last false t e = e
place_left false false false true false s t f g k = cc
place_left false false false false there s t f g k = cc

pub second : (a b c d e : Bool) → b ≡ true → (a || b || c || d || e) ≡ true
second true b c d e h = refl
second false true c d e h = refl
second false false c d e h = cc

pub third : (a b c d e : Bool) → c ≡ true → (a || b || c || d || e) ≡ true
third true b c d e h = refl
third false true c d e h = refl
third false false true d e h = refl
third false false false d e h = cc

pub fourth : (a b c d e : Bool) → d ≡ true → (a || b || c || d || e) ≡ true
fourth true b c d e h = refl
fourth false true c d e h = refl
fourth false false true d e h = refl
fourth false false false d e h = ap (λ x. x || e) h

pub not_absent : {A : Type 0} (state : NameState) → state ≡ Absent → is_absent state ≡ false → A
not_absent state e h = absurd (cc (sym (ap is_absent e) ∙ h))
