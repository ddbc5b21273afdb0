-- The calls that a walk makes on its delegate.
use Rattle.std.specs.Prelude.{ℕ, ◌≡◌, ◌&&◌, Bool, false, List, [], ◌∷◌, if◌then◌else◌}
use Rattle.std.specs.declared.ops.ControlFlow.{ControlFlow}
use Rattle.std.specs.declared.ops.ControlFlow.TheVariants.{Continue, Break}
use Rattle.gix_object_tree.specs.Entry.{Item}
use Rattle.gix_object_tree.specs.Order.{is_tree}

-- what a delegate returns from a visit
abbrev pub Answer : Type 0
Answer = ControlFlow (Unit {0}) Bool

-- a call: two take a queued path, three change the path, and two show an entry, with the answer
pub data Call : Type 0 where
  pop_back : Call
  pop_front : Call
  push_back : List ℕ → Call
  push : List ℕ → Call
  pop : Call
  at_tree : Item → Answer → Call
  at_nontree : Item → Answer → Call

-- the calls, one after another, make this of the delegate
abbrev pub Runs : {S : Type 0} → (S → Call → S → Type 0) → S → List Call → S → Type 0
Runs goes before [] after = after ≡ before
Runs {S} goes before (call ∷ calls) after =
    (next : S) × goes before call next × Runs goes next calls after

-- the entry is shown as what it is
abbrev pub visit_of : Item → Answer → Call
visit_of item answer = if is_tree item then at_tree item answer else at_nontree item answer

-- the entry's name is pushed, and the entry is shown
abbrev pub shown : Item → Answer → List Call
shown item answer = push item.name ∷ visit_of item answer ∷ []

-- whether the walk goes below the entry
abbrev pub descends : Item → Answer → Bool
descends item (Continue below) = is_tree item && below
descends item (Break _) = false
