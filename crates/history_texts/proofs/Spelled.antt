-- Tests of two parts, and texts that are cut at a byte.
use Rattle.std.proofs.Common.{◌≡◌, ◌∙◌, ap, refl, sym, ℕ, Bool, true, false, not, ◌&&◌, ◌||◌, [], ◌∷◌, ◌++◌}
use Rattle.std.specs.Prelude.{◌==◌, IsTrue, IsFalse}
use Rattle.std.proofs.lemmas.Bool.Decides.{Decides-eqb}
use Rattle.history_model.specs.Bytes.{Bytes, has_byte}

pub and_from : (a b : Bool) → IsTrue a → IsTrue b → IsTrue (a && b)
and_from true b p q = q
and_from false b p q = p

pub not_from : (b : Bool) → IsFalse b → IsTrue (not b)
not_from true h = cc
not_from false h = refl

at_itself : (byte : ℕ) → (byte == byte) ≡ true
at_itself byte = (Decides-eqb byte byte).1 refl

later : (a b : Bool) → IsFalse (a || b) → IsFalse b
later true b h = cc
later false b h = h

not_at : (byte x : ℕ) (xs : Bytes) → x ≡ byte → IsFalse (has_byte byte (x ∷ xs)) → ⊥
not_at byte x xs same none = cc (sym none ∙ ap (λ y. (y == byte) || has_byte byte xs) same ∙ ap (λ b. b || has_byte byte xs) (at_itself byte))

pub cut_same : (byte : ℕ) (a b x y : Bytes) → IsFalse (has_byte byte a) → IsFalse (has_byte byte b) → a ++ byte ∷ x ≡ b ++ byte ∷ y → (a ≡ b) × (x ≡ y)
cut_same byte [] [] x y p q is = (refl, cc)
cut_same byte [] (c ∷ b) x y p q is = absurd (not_at byte c b (cc) q)
cut_same byte (c ∷ a) [] x y p q is = absurd (not_at byte c a (cc) p)
cut_same byte (c ∷ a) (d ∷ b) x y p q is =
    let tails : a ++ byte ∷ x ≡ b ++ byte ∷ y = cc in
    let heads : c ≡ d = cc in
    let same = cut_same byte a b x y (later _ _ p) (later _ _ q) tails in
    ((λ i. heads i ∷ same.0 i), same.1)
