-- The trees there were, one after another, and how calls add to them.
use Rattle.std.specs.Prelude.{◌≡◌, ◌⊎◌, ℕ, ◌+◌, ◌-◌, ◌≤◌, ◌^◌, min, Bool, false, List, [], ◌∷◌, ◌++◌, length, take, drop, Result, OnOk, IsErrOf, IsTrue}
use Rattle.std.specs.List.{AllByRecursion}
use Rattle.gix_ref_file.specs.declared.files.FileError.{FileError}
use Rattle.gix_ref_file.specs.declared.files.FileError.TheVariants.{Failed}
use Rattle.gix_ref_file.specs.Tree.{Tree}
use Rattle.gix_ref_file.specs.Changes.{Change, allows, after, MayLeave}

-- the current tree, and the earlier ones, the oldest first
pub record History : Type 0 where
  pub past : List Tree
  pub tree : Tree

-- all trees there were, the oldest first
abbrev pub trees : History → List Tree
trees history = history.past ++ history.tree ∷ []

-- a moment is the number of earlier trees
abbrev pub moment : History → ℕ
moment history = length history.past

-- the trees from one moment to another
abbrev pub stood_between : History → ℕ → ℕ → List Tree
stood_between history from to = drop from (take (to + 1) (trees history))

-- trees that have P came after those of old, and no others
pub record Adds (P : Tree → Type 0) (old new : History) : Type 0 where
  pub during : List Tree
  pub added : trees new ≡ trees old ++ during
  pub all : AllByRecursion P during

-- what a call does that is to make this change: at Ok it is made, and each tree on the way is one
-- that the change may leave
pub record Makes {T : Type 0} (change : Change) (old new : History)
    (result : Result T FileError) : Type 0 where
  pub allowed : OnOk result (IsTrue (allows old.tree change))
  pub made : OnOk result (new.tree ≡ after change old.tree)
  pub moments : Adds (MayLeave change old.tree) old new

-- a count rose, or is at its last value
abbrev pub HasRisen : ℕ → ℕ → Type 0
HasRisen before now = min (before + 1) (2 ^ 64 - 1) ≤ now

-- `Failed` is returned only if a failure was counted, or the tree doesn't allow the change
abbrev pub HasCause : {T : Type 0} → Bool → ℕ → ℕ → Result T FileError → Type 0
HasCause allowed before now result = IsErrOf result Failed → HasRisen before now ⊎ (allowed ≡ false)

-- one tree came after those of old
pub record Steps (old new : History) (tree : Tree) : Type 0 where
  pub made : new.tree ≡ tree
  pub kept : new.past ≡ old.past ++ old.tree ∷ []
