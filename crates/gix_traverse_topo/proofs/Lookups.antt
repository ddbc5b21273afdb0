-- How many objects a walk looks up.
use Rattle.std.proofs.Common.{◌≡◌, ℕ, ◌+◌, ◌-◌, ◌^◌, ◌<◌, ◌≤◌, ◌∙◌, List, length, take, sym, ap, subst, arith}
use Rattle.std.specs.Prelude.{min}
use Rattle.gix_hash.specs.declared.object_id.ObjectId.{ObjectId}
use Rattle.gix_object_lines.specs.Counts.{one_more}
use Rattle.gix_traverse_commit_known.specs.Meeting.{CountsAll}
use Rattle.gix_traverse_graph.specs.Order.{At}
use Rattle.gix_traverse_graph.specs.declared.rows.Row.{Row}
use Rattle.gix_traverse_commit_known.proofs.Meeting.{take_kept}
use Rattle.gix_traverse_topo.proofs.Turns.{take_whole}

-- one was looked up each time that one more was read, as far as the counter goes
pub record IsCountedFrom (first few count many : ℕ) : Type 0 where
  pub more : ℕ
  pub read : many ≡ few + more
  pub counted : (first ≤ 2 ^ 64 - 1) → count ≡ min (first + more) (2 ^ 64 - 1)

pub counted_none : (first few : ℕ) → IsCountedFrom first few first few
counted_none first few = record { more = 0; read = omega arith; counted = λ h. grind arith }

pub counted_more : (first few count many count' many' : ℕ) → IsCountedFrom first few count many → count' ≡ one_more count → many' ≡ many + 1 → IsCountedFrom first few count' many'
counted_more first few count many count' many' w e f = record { more = w.more + 1; read = (let r = w.read in omega arith); counted = λ h. let c = w.counted h in grind arith }

-- the counter didn't come to its end, since what was read is fewer
pub counted_all : (first few count many : ℕ) → IsCountedFrom first few count many → first ≤ few → many < 2 ^ 64 → count + few ≡ first + many
counted_all first few count many w l m = let r = w.read in let c = w.counted (omega arith) in grind arith

-- ---- where some commits have rows

-- if more commits are known after them, those that were counted stay counted
pub counts_start : (rows : List Row) (xs ys : List ObjectId) (k a b : ℕ) → ((j : ℕ) (y : ObjectId) → At xs j y → At ys j y) → k ≡ length xs → CountsAll rows xs a b → CountsAll rows (take k ys) a b
counts_start rows xs ys k a b kept e before =
    let same : take k ys ≡ xs = take_kept xs ys k kept (omega arith) ∙ (ap (λ (n : ℕ). take n xs) e ∙ take_whole xs) in
    subst (λ (zs : List ObjectId). CountsAll rows zs a b) (sym same) before
