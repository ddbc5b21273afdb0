-- How the code keeps the beginning of an id: digits two to a byte, and zeros after the last. No
-- contract speaks of it.
use Rattle.std.specs.Prelude.{ℕ, ◌≡◌, ◌-◌, ◌≤◌, List, ◌++◌, length, take, drop, replicate}
use Rattle.std.proofs.Common.{ap, ◌∙◌, arith, sym, length-take}
use Rattle.std.proofs.lemmas.List.{take-append-drop}
use Rattle.gix_hash.specs.declared.object_id.ObjectId.{ObjectId}
use Rattle.gix_hash.specs.Kind.{hex_len}
use Rattle.gix_hash.specs.Id.{Id, id_of}
use Rattle.gix_hash.specs.Packed.{packed, object_id_of-id_of}

-- the first n digits of a value
abbrev pub beginning_of : ObjectId → ℕ → Id
beginning_of id n = record { kind = (id_of id).kind; digits = take n (id_of id).digits }

-- the value that is a beginning, with zeros after it
abbrev pub padded_id_of : Id → ObjectId
padded_id_of v = packed v.kind (v.digits ++ replicate (hex_len v.kind - length v.digits) 0)

-- a value is zero from its digit n on
pub record IsZeroFrom (id : ObjectId) (n : ℕ) : Type 0 where
  pub whole : length (id_of id).digits ≡ hex_len (id_of id).kind
  pub fits : n ≤ hex_len (id_of id).kind
  pub zeros : drop n (id_of id).digits ≡ replicate (hex_len (id_of id).kind - n) 0

-- the number of digits of a beginning
pub length-beginning_of : (id : ObjectId) (n : ℕ) → IsZeroFrom id n
    → length (beginning_of id n).digits ≡ n
length-beginning_of id n h =
    let len = length-take n (id_of id).digits in omega (arith, len, h.whole, h.fits)

-- a value that is zero after a beginning is found by it
pub padded_id_of-beginning_of : (id : ObjectId) (n : ℕ) → IsZeroFrom id n
    → padded_id_of (beginning_of id n) ≡ id
padded_id_of-beginning_of id n h =
    let ds = (id_of id).digits in
    let whole : take n ds ++ replicate (hex_len (id_of id).kind - length (take n ds)) 0 ≡ ds =
    ap (λ (k : ℕ). take n ds ++ replicate (hex_len (id_of id).kind - k) 0)
    (length-beginning_of id n h)
    ∙ ap (λ (zeros : List ℕ). take n ds ++ zeros) (sym h.zeros) ∙ take-append-drop n ds in
    ap (λ (digits : List ℕ). packed (id_of id).kind digits) whole ∙ object_id_of-id_of id
