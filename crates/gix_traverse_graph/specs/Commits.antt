use Rattle.std.specs.Prelude.{List, Option, Bool, ℤ, ◌≤ℤ◌, Contains, IfSome, IsTrue, take, ⊤}
use Rattle.gix_traverse_graph.specs.declared.parents.Parents.{Parents}
use Rattle.gix_traverse_graph.specs.declared.parents.Parents.TheVariants.{All, First}

-- a commit: its parents in their order, and its committer's seconds
pub record Commit (I : Type 0) : Type 0 where
  pub parents : List I
  pub time : ℤ

-- the commit of each id
abbrev pub Commits : Type 0 → Type 0
Commits I = I → Commit I

-- all of some parents, or the first
abbrev pub asked : {I : Type 0} → Parents → List I → List I
asked All parents = parents
asked First parents = take 1 parents

-- the parents that a walk goes along
abbrev pub asked_parents : {I : Type 0} → Parents → Commits I → I → List I
asked_parents All g x = (g x).parents
asked_parents First g x = take 1 (g x).parents

-- reached from the tips along these parents, so that each commit on the way passes
pub data Reached {I : Type 0} (along : I → List I) (passes : I → Type 0) (tips : List I) : I
    → Type 0 where
  tip : {x : I} → Contains tips x → passes x → Reached along passes tips x
  parent : {x y : I} → Reached along passes tips x → Contains (along x) y → passes y
      → Reached along passes tips y

-- what a walk is asked_parents for
pub record WalkRequest (I : Type 0) : Type 0 where
  pub tips : List I
  pub hidden : List I
  pub parents : Parents
  pub since : Option ℤ
  pub accepts : I → Bool

-- accepted, and no older than the cutoff, if there is one
abbrev pub Passes : {I : Type 0} → Commits I → WalkRequest I → I → Type 0
Passes g q x = IsTrue (q.accepts x) × IfSome q.since (λ seconds. seconds ≤ℤ (g x).time)

-- reached from the hidden commits, by all parents and at any time
abbrev pub Hides : {I : Type 0} → Commits I → WalkRequest I → I → Type 0
Hides g q x = Reached (λ y. (g y).parents) (λ _. ⊤) q.hidden x

-- the set that a walk lists
abbrev pub Listed : {I : Type 0} → Commits I → WalkRequest I → I → Type 0
Listed g q x = Reached (asked_parents q.parents g) (Passes g q) q.tips x × (¬ Hides g q x)
