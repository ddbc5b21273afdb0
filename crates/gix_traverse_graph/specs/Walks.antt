-- The lists that a walk may give, in each order.
use Rattle.std.specs.Prelude.{List, ◌≡◌, filter, true}
use Rattle.gix_traverse_graph.specs.Commits.{Commits, WalkRequest, asked_parents, Listed}
use Rattle.gix_traverse_graph.specs.Order.{IsBreadthFirst, IsByNewest, IsByOldest, IsByDate, IsTopological}

abbrev pub InBreadth : {I : Type 0} → Commits I → WalkRequest I → List I → Type 0
InBreadth g q out = IsBreadthFirst (asked_parents q.parents g) q.tips (Listed g q) out

abbrev pub ByNewest : {I : Type 0} → Commits I → WalkRequest I → List I → Type 0
ByNewest g q out = IsByNewest (asked_parents q.parents g) q.tips (λ x. (g x).time) (Listed g q) out

abbrev pub ByOldest : {I : Type 0} → Commits I → WalkRequest I → List I → Type 0
ByOldest g q out = IsByOldest (asked_parents q.parents g) q.tips (λ x. (g x).time) (Listed g q) out

-- the whole set, before a predicate filters it
abbrev pub FinishedByDate : {I : Type 0} → Commits I → WalkRequest I → List I → Type 0
FinishedByDate g q out = IsByDate (asked_parents q.parents g) (λ x. (g x).time) (Listed g q) out

abbrev pub FinishedTopologically : {I : Type 0} → Commits I → WalkRequest I → List I → Type 0
FinishedTopologically g q out =
    IsTopological (asked_parents q.parents g) q.tips (λ x. (g x).time) (Listed g q) out

-- the same walk, whose predicate stops it nowhere
abbrev pub unfiltered : {I : Type 0} → WalkRequest I → WalkRequest I
unfiltered q = record q { accepts = λ _. true }

-- in the walks by date and in topological order the predicate only filters what is finished
abbrev pub InDate : {I : Type 0} → Commits I → WalkRequest I → List I → Type 0
InDate {I} g q out =
    (finished : List I) × FinishedByDate g (unfiltered q) finished
    × (out ≡ filter q.accepts finished)

abbrev pub InTopological : {I : Type 0} → Commits I → WalkRequest I → List I → Type 0
InTopological {I} g q out =
    (finished : List I) × FinishedTopologically g (unfiltered q) finished
    × (out ≡ filter q.accepts finished)

-- the list is that of the walk in one of the five orders
pub data InSomeOrder {I : Type 0} (g : Commits I) (q : WalkRequest I) (out : List I) : Type 0 where
  breadth : InBreadth g q out → InSomeOrder g q out
  newest : ByNewest g q out → InSomeOrder g q out
  oldest : ByOldest g q out → InSomeOrder g q out
  date : InDate g q out → InSomeOrder g q out
  topological : InTopological g q out → InSomeOrder g q out
