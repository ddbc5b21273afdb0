-- Which commits a walk meets, and for which it calls the predicate.
use Rattle.std.specs.Prelude.{◌≡◌, ◌⊎◌, ◌↔◌, ℕ, Bool, true, false, not, List, [], ◌∷◌, Option, None, Some, IsSome, Contains, filter, if◌then◌else◌}
use Rattle.gix_hash.specs.Id.{Id, id_of}
use Rattle.gix_hash.specs.declared.object_id.ObjectId.{ObjectId}
use Rattle.gix_object_lines.specs.Counts.{one_more}
use Rattle.gix_traverse_commit_known.specs.Nodes.{is_hidden, is_met, Node}
use Rattle.gix_traverse_graph.specs.Order.{IsListOf}
use Rattle.gix_traverse_graph.specs.Rows.{Holds}
use Rattle.gix_traverse_graph.specs.declared.rows.Row.{Row}
use Rattle.gix_traverse_graph.specs.declared.sorting.Timing.{Timing}

-- a predicate is called for these commits, one after another
abbrev pub Asks : {P : Type 0} → (P → Id → P → Type 0) → List ObjectId → P → P → Type 0
Asks goes [] before after = after ≡ before
Asks {P} goes (x ∷ xs) before after = (mid : P) × goes before (id_of x) mid × Asks goes xs mid after

-- it is called for each commit of the set once, and for no other
abbrev pub AsksOnce : {P : Type 0} → (P → Id → P → Type 0) → (ObjectId → Type 0) → P → P → Type 0
AsksOnce goes S before after = (xs : List ObjectId) × IsListOf S xs × Asks goes xs before after

-- one of these commits, that is not met and not hidden
abbrev pub IsFresh : List Node → List ObjectId → ObjectId → Type 0
IsFresh nodes xs x = Contains xs x × (is_met nodes x ≡ false) × (is_hidden nodes x ≡ false)

-- met now are those that were, and of these commits each that is not hidden
abbrev pub MarksMet : List Node → List ObjectId → List Node → Type 0
MarksMet nodes xs nodes' =
    (x : ObjectId) → (is_met nodes' x ≡ true) ↔ ((is_met nodes x ≡ true) ⊎ IsFresh nodes xs x)

-- met now are those that were, and all of these commits
abbrev pub MarksAll : List Node → List ObjectId → List Node → Type 0
MarksAll nodes xs nodes' =
    (x : ObjectId) → (is_met nodes' x ≡ true) ↔ ((is_met nodes x ≡ true) ⊎ Contains xs x)

-- the commit alone, if it is not met and not hidden
abbrev pub fresh : List Node → ObjectId → List ObjectId
fresh nodes x = if is_met nodes x then [] else (if is_hidden nodes x then [] else x ∷ [])

-- those that are not met
abbrev pub unmet : List Node → List ObjectId → List ObjectId
unmet nodes xs = filter (λ x. not (is_met nodes x)) xs

-- those that a predicate accepts
abbrev pub accepted : (Id → Bool) → List ObjectId → List ObjectId
accepted accepts xs = filter (λ x. accepts (id_of x)) xs

-- one object was looked up if the commit has no row, and none if it has one
pub record CountsOne (rows : List Row) (id : ObjectId) (before after : ℕ) : Type 0 where
  pub stored : (¬ Holds rows id) → after ≡ one_more before
  pub rowed : Holds rows id → after ≡ before

-- one after the other was looked up, except those that have rows
abbrev pub CountsAll : List Row → List ObjectId → ℕ → ℕ → Type 0
CountsAll rows [] before after = after ≡ before
CountsAll rows (x ∷ xs) before after =
    (mid : ℕ) × CountsOne rows x before mid × CountsAll rows xs mid after

-- by time these were looked up, for their times, and in breadth order none
abbrev pub CountsTimes : Option Timing → List Row → List ObjectId → ℕ → ℕ → Type 0
CountsTimes None rows timed before after = after ≡ before
CountsTimes (Some _) rows timed before after = CountsAll rows timed before after

-- the same of all commits of the set, of each once
pub record CountsTips (timing : Option Timing) (S : ObjectId → Type 0) (rows : List Row)
    (before after : ℕ) : Type 0 where
  pub timed : List ObjectId
  pub each : CountsTimes timing rows timed before after
  pub list : IsSome timing → IsListOf S timed
