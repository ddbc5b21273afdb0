-- One piece more of a stream.
use Rattle.std.proofs.Common.{◌≡◌, ℕ, zero, suc, ◌*◌, ◌-◌, ◌<◌, List, [], ◌∷◌, ◌++◌, length, length-append, replicate, min, Option, Some, None, Bool, false, refl, ap, sym, ◌∙◌, arith, subst, ◌+◌}
use Rattle.std.specs.Prelude.{Result, Ok, Err, OnErr, IfErr, sum}
use Rattle.std.specs.List.{FoldsTo}
use Rattle.std.specs.Io.KnownBytes.{Consumes}
use Rattle.std.proofs.lemmas.List.{append_assoc}
use Rattle.gix_hash.specs.Pieces.{piece_lengths, ReadsPieces, StopsAfterPieces, bytes_in_pieces, IsPieceCount}
use Rattle.std.proofs.lemmas.List.Sums.{sum_by-cons}

-- one more length
pub piece_lengths-more : (n k : ℕ) → piece_lengths n (suc k) ≡ piece_lengths n k ++ min 65535 (n - 65535 * k) ∷ []
piece_lengths-more n zero = let e : n - 65535 * 0 ≡ n = omega arith in rw e refl
piece_lengths-more n (suc k) =
    let e : n - 65535 - 65535 * k ≡ n - 65535 * suc k = omega arith in
    rw (piece_lengths-more (n - 65535) k, e) refl

-- one more call
pub folds_more : {P A : Type 0} (R : P → A → P → Type 0) (p : P) (xs : List A) (q r : P) (x : A) → FoldsTo R p xs q → R q x r → FoldsTo R p (xs ++ x ∷ []) r
folds_more R p [] q r x e h = (r, subst (λ s. R s x r) (sym e) h, refl)
folds_more R p (y ∷ ys) q r x e h = (e.0, e.1, folds_more R e.0 ys q r x e.2 h)

-- one list of bytes after another
pub consumes_more : (a b c : Option (List ℕ)) (xs ys : List ℕ) → Consumes a b xs → Consumes b c ys → Consumes a c (xs ++ ys)
consumes_more None b c xs ys h g = tt
consumes_more (Some olds) None c xs ys h g = absurd h
consumes_more (Some olds) (Some bs) None xs ys h g = absurd g
consumes_more (Some olds) (Some bs) (Some cs) xs ys h g = h ∙ (ap (λ (z : List ℕ). xs ++ z) g ∙ sym (append_assoc xs ys cs))

-- nothing was taken
pub consumes_none : (a : Option (List ℕ)) → Consumes a a []
consumes_none None = tt
consumes_none (Some olds) = refl

-- one refusal more
pub replicate_more : (k : ℕ) → replicate k false ++ false ∷ [] ≡ replicate (suc k) false
replicate_more zero = refl
replicate_more (suc k) = ap (λ (bs : List Bool). false ∷ bs) (replicate_more k)

-- one piece more
pub pieces_more : {R P I : Type 0} (remaining : R → Option (List ℕ)) (told : P → ℕ → P → Type 0) (answered : I → Bool → I → Type 0)
    (r0 r1 r2 : R) (p0 p1 p2 : P) (i0 i1 i2 : I) (n k len : ℕ) (answer : Bool) (bytes more : List ℕ)
    → ReadsPieces remaining told answered r0 r1 p0 p1 i0 i1 n k (replicate k false) bytes → 65535 * k < n → len ≡ min 65535 (n - 65535 * k)
    → length more ≡ len → Consumes (remaining r1) (remaining r2) more → told p1 len p2 → answered i1 answer i2
    → ReadsPieces remaining told answered r0 r2 p0 p2 i0 i2 n (suc k) (replicate k false ++ answer ∷ []) (bytes ++ more)
pieces_more remaining told answered r0 r1 r2 p0 p1 p2 i0 i1 i2 n k len answer bytes more h begins is count taken progress interrupt =
    let sum = length-append bytes more in
    let old = h.count in
    record {
      count = omega arith;
      read = consumes_more (remaining r0) (remaining r1) (remaining r2) bytes more h.read taken;
      tells = record {
        progressed =
            let lengths : piece_lengths n k ++ len ∷ [] ≡ piece_lengths n (suc k) =
            ap (λ (m : ℕ). piece_lengths n k ++ m ∷ []) is ∙ sym (piece_lengths-more n k) in
            subst (λ (ms : List ℕ). FoldsTo told p0 ms p2) lengths (folds_more told p0 (piece_lengths n k) p1 p2 len h.tells.progressed progress);
        asked = folds_more answered i0 (replicate k false) i1 i2 answer h.tells.asked interrupt;
      };
    }

-- a piece that was not given whole
pub pieces_stop : {R P I : Type 0} (remaining : R → Option (List ℕ)) (told : P → ℕ → P → Type 0) (answered : I → Bool → I → Type 0)
    (r0 r1 r2 : R) (p0 p1 : P) (i0 i1 : I) (n k len : ℕ) (bytes more : List ℕ)
    → ReadsPieces remaining told answered r0 r1 p0 p1 i0 i1 n k (replicate k false) bytes → 65535 * k < n → len ≡ min 65535 (n - 65535 * k)
    → length more < len → Consumes (remaining r1) (remaining r2) more
    → StopsAfterPieces remaining told answered r0 r2 p0 p1 i0 i1 n k (bytes ++ more)
pieces_stop remaining told answered r0 r1 r2 p0 p1 i0 i1 n k len bytes more h begins is few taken =
    let sum = length-append bytes more in
    let old = h.count in
    record {
      whole = omega arith;
      missing = omega arith;
      read = consumes_more (remaining r0) (remaining r1) (remaining r2) bytes more h.read taken;
      tells = h.tells;
    }

-- what holds anyway holds on an error
pub on_err : {T E P : Type 0} (r : Result T E) → P → OnErr r P
on_err (Ok x) h = tt
on_err (Err e) h = h

pub if_err : {T E P : Type 0} (Q : E → Type 0) (r : Result T E) → P → IfErr r (λ e. Q e → P)
if_err Q (Ok x) h = tt
if_err Q (Err e) h = λ q. h

-- the lengths of pieces add up
pub sum-piece_lengths : (n k : ℕ) → sum (piece_lengths n k) ≡ bytes_in_pieces n k
sum-piece_lengths n zero = omega arith
sum-piece_lengths n (suc k) =
    let rest = sum-piece_lengths (n - 65535) k in
    let first : sum (min 65535 n ∷ piece_lengths (n - 65535) k) ≡ min 65535 n + sum (piece_lengths (n - 65535) k) = sum_by-cons (λ (x : ℕ). x) (min 65535 n) (piece_lengths (n - 65535) k) in
    omega arith

-- so all pieces' lengths add up to all bytes
pub sum-all_pieces : (n k : ℕ) → IsPieceCount n k → sum (piece_lengths n k) ≡ n
sum-all_pieces n k h = let e = sum-piece_lengths n k in let all = h.all in omega arith
