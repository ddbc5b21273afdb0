use Rattle.std.proofs.Common.{List, ℕ, ◌≡◌, ◌++◌, ◌∙◌, ◌+◌, ◌-◌, length, length-drop, take, drop, ap, sym, subst, arith}
use Rattle.std.proofs.lemmas.List.{take_rest}
use Rattle.std.specs.Io.KnownBytes.{Appends}
use Rattle.std.proofs.KnownBytes.{Appends-trans}
use lib.Seq.{take-add}
use Rattle.gix_hash.proofs.write.write_bytes.Goals as goal

-- a write of a beginning of what is left
more : (bytes : List ℕ) (count written : ℕ) → take count bytes ++ take written (take (length bytes - count) (drop count bytes)) ≡ take (count + written) bytes
more bytes count written = ap (λ (xs : List ℕ). take count bytes ++ take written xs) (take_rest bytes count) ∙ sym (take-add count written bytes)

pub writes-preserved : goal.writes-preserved
writes-preserved g c =
    let bytes = c.args.bytes.now in
    let count = c.writes.count in
    let written = c.in_ok-written.written in
    let within = c.writes.invariant.0 in
    let bound = c.in_ok-written.ensures.bound in
    let same = ap (λ (xs : List ℕ). length xs) (take_rest bytes count) in
    let len = length-drop count bytes in (
      omega arith,
      subst (Appends _ _) (more bytes count written) (Appends-trans _ _ _ _ _ c.writes.invariant.1 c.in_ok-written.ensures.bytes),
    )
