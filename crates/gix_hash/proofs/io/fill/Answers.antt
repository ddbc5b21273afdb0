use Rattle.std.proofs.Common.{◌≡◌, ℕ, ◌+◌, ◌-◌, ◌≤◌, List, ◌++◌, rules, arith, length, length-append, take, slice_range, sym, ap, ◌∙◌, subst, le_refl, drop_at, length-take-le}
use Rattle.std.proofs.lemmas.Slice.{take-put_mid_below}
use Rattle.std.specs.Io.KnownBytes.{Consumes}
use Rattle.std.proofs.KnownBytes.{Consumes-trans, Consumes-kept}
use borrow.Rule.Slice.PartMut.{put_mid, post_of}
use lib.Seq.{take-add, take-append-le}
use Rattle.gix_hash.proofs.PieceLemmas.{on_err}
use Rattle.gix_hash.proofs.io.fill.Goals as goal

-- a front and what follows it
take_split : (a b : ℕ) (old new : List ℕ) → a ≤ b → take a new ≡ take a old → take a old ++ slice_range new a b ≡ take b new
take_split a b old new h front =
    let same : a + (b - a) ≡ b = omega arith in
    ap (λ l. l ++ slice_range new a b) (sym front) ∙ sym (take-add a (b - a) new) ∙ ap (λ n. take n new) same

-- what was read into the rest of a list
slice_range-put_mid : (a k n : ℕ) (xs ys : List ℕ) → a ≤ length xs → n ≤ length ys → slice_range (put_mid a k xs ys) a (a + n) ≡ take n ys
slice_range-put_mid a k n xs ys within fits =
    let same : (a + n) - a ≡ n = omega arith in
    let after = post_of a k xs in
    ap (take ((a + n) - a)) (drop_at (take a xs) (ys ++ after) a (length-take-le a xs within)) ∙ ap (λ m. take m (ys ++ after)) same ∙ take-append-le n ys after fits

pub returns-in_err-count-clause-err : goal.returns-in_err-count-clause-err
returns-in_err-count-clause-err g c =
    let some = c.reads-test.true in
    let front = length-take-le c.reads.filled c.reads.piece c.reads.invariant.0 in
    let len = c.reads.auto.piece in
    on_err c.from_residual.result (
      take c.reads.filled c.reads.piece,
      omega arith,
      Consumes-kept _ _ _ _ c.reads.invariant.1 c.in_err-count.ensures.bytes,
    )

pub returns-in-0-clause-err : goal.returns-in-0-clause-err
returns-in-0-clause-err g c =
    let some = c.reads-test.true in
    let front = length-take-le c.reads.filled c.reads.piece c.reads.invariant.0 in
    let len = c.reads.auto.piece in
    let count = c.in_ok-count.ensures.bound.1 in
    let none = c.in-0.is in
    let sum = length-append (take c.reads.filled c.reads.piece) (take c.in_ok-count.count c.read_some.new.buffer) in (
      take c.reads.filled c.reads.piece ++ take c.in_ok-count.count c.read_some.new.buffer,
      omega arith,
      Consumes-trans _ _ _ _ _ c.reads.invariant.1 c.in_ok-count.ensures.bytes.0,
    )

pub reads-preserved : goal.reads-preserved
reads-preserved g c =
    let from = c.reads.filled in
    let room = length c.reads.piece - from in
    let within = c.reads.invariant.0 in
    let part = slice_range-put_mid from room c.in_ok-count.count c.reads.piece c.read_some.new.buffer within c.in_ok-count.ensures.bound.0 in
    let joined = take_split from (from + c.in_ok-count.count) c.reads.piece (put_mid from room c.reads.piece c.read_some.new.buffer) (omega arith) (take-put_mid_below _ _ _ _ _ (le_refl _) within) in
    (search rules, subst (Consumes _ _) (ap (λ l. take from c.reads.piece ++ l) (sym part) ∙ joined) (Consumes-trans _ _ _ _ _ c.reads.invariant.1 c.in_ok-count.ensures.bytes.0))
