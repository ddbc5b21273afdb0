-- Digits packed two to a byte, with zeros after the last.
use Rattle.std.proofs.Common.{◌≡◌, ℕ, zero, suc, ◌+◌, ◌*◌, ◌/◌, ◌-◌, ◌<◌, ◌≤◌, List, [], ◌∷◌, ◌++◌, length, length-append, take, drop, replicate, get_or, refl, ap, ◌∙◌, arith}
use Rattle.std.proofs.lemmas.List.{take_at, drop_at, take-replicate, take_more, length-replicate}
use Rattle.std.proofs.Math.Seq.{take-append-add}
use Rattle.gix_hash.specs.declared.object_id.ObjectId.{ObjectId}
use Rattle.gix_hash.specs.Kind.{hex_len}
use Rattle.gix_hash.specs.Id.{digits_of, id_of}
use Rattle.gix_hash.specs.PackedBeginning.{IsZeroFrom}
use Rattle.gix_hash.proofs.ByteLists.{length-digits_of}

-- the digits of the first k bytes
pub digits_of-take : (k : ℕ) (xs : List ℕ) → digits_of (take k xs) ≡ take (2 * k) (digits_of xs)
digits_of-take zero xs = refl
digits_of-take (suc k) [] = let e : 2 * suc k ≡ suc (suc (2 * k)) = omega arith in rw e refl
digits_of-take (suc k) (x ∷ xs) =
    let e : 2 * suc k ≡ suc (suc (2 * k)) = omega arith in
    rw (e, digits_of-take k xs) refl

-- the digits of zero bytes
pub digits_of-replicate : (k : ℕ) → digits_of (replicate k 0) ≡ replicate (2 * k) 0
digits_of-replicate zero = refl
digits_of-replicate (suc k) =
    let e : 2 * suc k ≡ suc (suc (2 * k)) = omega arith in
    rw (e, digits_of-replicate k) refl

-- the first digit of byte k
pub get_or-digits_of : (k : ℕ) (xs : List ℕ) → get_or (digits_of xs) (2 * k) 0 ≡ get_or xs k 0 / 16
get_or-digits_of zero [] = refl
get_or-digits_of zero (x ∷ xs) = refl
get_or-digits_of (suc k) [] = refl
get_or-digits_of (suc k) (x ∷ xs) =
    let e : 2 * suc k ≡ suc (suc (2 * k)) = omega arith in
    rw (e, get_or-digits_of k xs) refl

-- the digits of the first k bytes, and one more
pub take_odd-digits_of : (k : ℕ) (xs : List ℕ) → k < length xs
    → take (2 * k + 1) (digits_of xs) ≡ digits_of (take k xs) ++ (get_or xs k 0 / 16) ∷ []
take_odd-digits_of k xs h =
    rw (take_more (digits_of xs) (2 * k) 0 (omega (arith, length-digits_of xs)), get_or-digits_of k xs, digits_of-take k xs) refl

-- the front of a list and zeros
pub take-zeros : {X : Type 0} (front : List X) (n m : ℕ) (y : X) → length front ≤ n → n ≤ length front + m
    → take n (front ++ replicate m y) ≡ front ++ replicate (n - length front) y
take-zeros front n m y low high =
    let split : length front + (n - length front) ≡ n = omega arith in
    let over = take-append-add front (replicate m y) (n - length front) in
    rw split at over ∙ ap (λ (rest : List _). front ++ rest) (take-replicate (n - length front) m y (omega arith))

-- a value whose digits are a front and zeros
pub zero_from : (id : ObjectId) (front : List ℕ) → length front ≤ hex_len (id_of id).kind
    → (id_of id).digits ≡ front ++ replicate (hex_len (id_of id).kind - length front) 0
    → IsZeroFrom id (length front) × (take (length front) (id_of id).digits ≡ front)
zero_from id front fits e =
    let n = length front in
    let zeros = replicate {A = ℕ} (hex_len (id_of id).kind - n) 0 in (
      record {
        whole = ap length e ∙ (length-append front zeros ∙ (let len = length-replicate {A = ℕ} (hex_len (id_of id).kind - n) 0 in omega (arith, len)));
        fits = fits;
        zeros = ap (λ (xs : List ℕ). drop n xs) e ∙ drop_at front zeros n refl;
      },
      ap (λ (xs : List ℕ). take n xs) e ∙ take_at front zeros n refl,
    )
