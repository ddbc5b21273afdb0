-- The part of a buffer that is held, as it moves.
use Rattle.std.proofs.Common.{◌≡◌, ℕ, ◌+◌, ◌-◌, ◌≤◌, List, [], ◌++◌, length, take, drop, refl, sym, ap, ◌∙◌, arith}
use Rattle.std.proofs.lemmas.List.{length-take, length-drop, drop-drop, take-append-le, length-append, drop-take, drop-append-le, append-nil, take-append-drop}
use Rattle.std.proofs.Math.Seq.{take-append-add}
use Rattle.std.proofs.lemmas.Slice.{between_is, take-put_mid, drop-put_mid}
use Rattle.std.proofs.lemmas.List.Edits.{take-paste}
use Rattle.std.specs.List.{copy_within}
use borrow.Rule.Slice.PartMut.{put_mid, post_of}
use Rattle.history_word.specs.Held.{held}

pub length-held : (start end : ℕ) (bytes : List ℕ) → end ≤ length bytes → length (held start end bytes) ≡ end - start
unfolding held
length-held start end bytes h = omega (arith, length-take (end - start) (drop start bytes), length-drop start bytes)

pub held_none : (at : ℕ) (bytes : List ℕ) → held at at bytes ≡ []
unfolding held
held_none at bytes =
    let e : at - at ≡ 0 = omega arith in
    rw e refl

pub held_skip : (start end n : ℕ) (bytes : List ℕ) → start + n ≤ end → held (start + n) end bytes ≡ drop n (held start end bytes)
unfolding held
held_skip start end n bytes h =
    let e : end - start ≡ n + (end - (start + n)) = omega arith in
    rw (e, drop-take n (end - (start + n)) (drop start bytes), drop-drop n start bytes) refl

pub held_moved : (start end : ℕ) (bytes : List ℕ) → start ≤ end → end ≤ length bytes → held 0 (end - start) (copy_within bytes start end 0) ≡ held start end bytes
unfolding held
held_moved start end bytes h k =
    let e : end - start - 0 ≡ end - start = omega arith in
    let room : end - start ≤ length (drop start bytes) = omega (arith, length-drop start bytes) in
    rw e (ap (λ n. take n (copy_within bytes start end 0)) (sym (omega arith)) ∙ take-paste bytes 0 (drop start bytes) (end - start) (omega arith) room)

pub held_more : (start end n k : ℕ) (bytes given : List ℕ) → start ≤ end → end ≤ length bytes → n ≤ length given → held start (end + n) (put_mid end k bytes given) ≡ held start end bytes ++ take n given
unfolding held
held_more start end n k bytes given o h l =
    let front : List ℕ = drop start (take end bytes) in
    let rest : List ℕ = given ++ post_of end k bytes in
    let cut : drop start (take end bytes ++ rest) ≡ front ++ rest = drop-append-le start (take end bytes) rest (omega (arith, length-take end bytes)) in
    let len : end + n - start ≡ length front + n = omega (arith, length-take end bytes, length-drop start (take end bytes)) in
    let same : take (end - start) (drop start bytes) ≡ front = between_is bytes start end in
    rw (cut, len, same) (take-append-add front rest n ∙ ap (λ xs. front ++ xs) (take-append-le n given (post_of end k bytes) l))

pub held_kept : (start end k : ℕ) (bytes given : List ℕ) → start ≤ end → end ≤ length bytes → held start end (put_mid end k bytes given) ≡ held start end bytes
held_kept start end k bytes given o h =
    ap (λ n. held start n (put_mid end k bytes given)) (omega arith) ∙ held_more start end 0 k bytes given o h (omega arith) ∙ append-nil (held start end bytes)

pub held_le : (start end n : ℕ) (bytes : List ℕ) → start ≤ end → n ≤ length (held start end bytes) → start + n ≤ end
unfolding held
held_le start end n bytes o h = omega (arith, length-take (end - start) (drop start bytes))

-- what is read into a part of the array leaves its length
pub length-filled : (at k : ℕ) (bytes given : List ℕ) → at + k ≤ length bytes → length given ≡ k → length (put_mid at k bytes given) ≡ length bytes
length-filled at k bytes given h e =
    let front = take-put_mid at k bytes given (at + k) (omega arith) (omega arith) in
    let back = drop-put_mid at k bytes given (at + k) (omega arith) (omega arith) e in
    omega (
      arith,
      ap length (take-append-drop (at + k) (put_mid at k bytes given)),
      length-append (take (at + k) (put_mid at k bytes given)) (drop (at + k) (put_mid at k bytes given)),
      ap length front,
      ap length back,
      length-append (take at bytes) given,
      length-take at bytes,
      length-drop (at + k) bytes,
    )
