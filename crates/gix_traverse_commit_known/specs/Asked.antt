-- What a walk is to list, and for which commits the predicate was called.
use Rattle.std.specs.Prelude.{◌≡◌, ◌⊎◌, Bool, true, false, List, Option, None, Contains, not, ◌&&◌}
use Rattle.gix_hash.specs.Id.{Id, id_of}
use Rattle.gix_hash.specs.declared.object_id.ObjectId.{ObjectId}
use Rattle.gix_traverse_graph.specs.Commits.{Commits, WalkRequest}
use Rattle.gix_traverse_commit_known.specs.Meeting.{accepted}
use Rattle.gix_traverse_commit_known.specs.Nodes.{is_met, Node, is_asked}
use Rattle.gix_traverse_graph.specs.Rows.{Holds}
use Rattle.gix_traverse_graph.specs.Sorting.{IsNextIn, timing_of, InOrder, cutoff_in}
use Rattle.gix_traverse_graph.specs.declared.parents.Parents.{Parents}
use Rattle.gix_traverse_graph.specs.declared.rows.Row.{Row}
use Rattle.gix_traverse_graph.specs.declared.sorting.Sorting.{Sorting}
use Rattle.gix_traverse_graph.specs.declared.sorting.Timing.{Timing}
use Rattle.gix_traverse_commit_known.specs.Painting.{IsUnpainted}

-- what a walk is to list
pub record Asked : Type 0 where
  pub tips : List ObjectId
  pub hidden : List ObjectId
  pub parents : Parents
  pub sorting : Sorting
  pub accepts : Id → Bool

-- the order by time, if it goes by time
abbrev pub timing : Asked → Option Timing
timing a = timing_of a.parents a.sorting

-- the same in the words of all walks
abbrev pub request_in : Option Timing → Asked → WalkRequest ObjectId
request_in t a =
    record {
      tips =
          a.tips;
      hidden =
          a.hidden;
      parents = a.parents;
      since = cutoff_in t;
      accepts = λ x. a.accepts (id_of x);
    }

-- the list is what the walk is to list
abbrev pub Answers : Commits ObjectId → Asked → List ObjectId → Type 0
Answers g a listed = InOrder (timing a) g (request_in (timing a) a) listed

-- it goes in breadth order, or over a store whose lookups don't fail
abbrev pub IsSure : Type 0 → Asked → Type 0
IsSure may_fail a = (timing a ≡ None) ⊎ (¬ may_fail)

-- the tips that are refused are marked, and of the others only what is refused; nothing is painted
pub record AreRefused (accepts : Id → Bool) (tips : List ObjectId)
    (nodes : List Node) : Type 0 where
  pub refused : (x : ObjectId) → is_met nodes x ≡ true → accepts (id_of x) ≡ false
  pub accepted : (x : ObjectId) → Contains tips x → is_met nodes x ≡ false
      → accepts (id_of x) ≡ true
  pub unpainted : IsUnpainted nodes

-- the same, if the predicate was called for these tips
pub record AreAsked (accepts : Id → Bool) (tips : List ObjectId) (nodes : List Node) : Type 0 where
  pub refused : (x : ObjectId) → is_met nodes x ≡ true → accepts (id_of x) ≡ false
  pub accepted : (x : ObjectId) → Contains tips x → is_met nodes x ≡ false
      → accepts (id_of x) ≡ true
  pub asked : (x : ObjectId) → is_asked nodes x ≡ true → is_met nodes x ≡ false
      → accepts (id_of x) ≡ true
  pub unpainted : IsUnpainted nodes

-- the walk goes to no commit that the predicate refuses, and of those that weren't met to each that
-- it accepts
pub record AcceptsAs (accepts : Id → Bool) (nodes : List Node) (a : Asked) : Type 0 where
  pub given : (x : ObjectId) → a.accepts (id_of x) ≡ true → accepts (id_of x) ≡ true
  pub unmet : (x : ObjectId) → is_met nodes x ≡ false → accepts (id_of x) ≡ a.accepts (id_of x)

-- the commit has a row, or is among these ids
abbrev pub IsKnown : List Row → List Id → ObjectId → Type 0
IsKnown rows ids x = Holds rows x ⊎ Contains ids (id_of x)

-- accepted, and not hidden
abbrev pub keep_of : (ObjectId → Bool) → (Id → Bool) → ObjectId → Bool
keep_of hides accepts x = not (hides x) && accepts (id_of x)

-- its turn is next
abbrev pub IsTurn : Commits ObjectId → Asked → List ObjectId → ObjectId → Type 0
IsTurn g a listed id = IsNextIn (timing a) g (request_in (timing a) a) listed id
