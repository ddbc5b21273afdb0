-- The errors of walks, in the words of a list of commits.
use Rattle.std.proofs.Common.{◌≡◌, ap, sym, subst, List, inl, inr, Option, Some, None, option_map, take}
use Rattle.std.specs.Prelude.{Contains}
use Rattle.gix_hash.specs.Id.{id_of}
use Rattle.gix_hash.specs.declared.object_id.ObjectId.{ObjectId}
use Rattle.gix_object_lookup.specs.Table.{Table, kind_at}
use Rattle.gix_object_lookup.specs.declared.find.Error.TheVariants as lookup
use Rattle.gix_object_lookup.specs.declared.find.existing_iter.Error as existing_iter
use Rattle.gix_object_lookup.specs.declared.find.existing_iter.Error.TheVariants as iter_case
use Rattle.gix_object_lines.specs.declared.decode.Error as decode
use Rattle.gix_object_lines.specs.declared.kind.Kind.TheVariants as kinds
use Rattle.gix_traverse_graph.specs.Commits.{Commits, Reached, tip, parent, asked_parents}
use Rattle.gix_traverse_commit_known.specs.Fetching.{FindFault, ReadFault, TimeFault}
use Rattle.gix_traverse_commit_known.specs.Asked.{IsTurn, Asked, timing, request_in}
use Rattle.gix_traverse_commit_known.specs.Faults.{SimpleFault, TipFault}
use Rattle.gix_traverse_commit_known.specs.Painting.{ReachedFrom}
use Rattle.gix_traverse_graph.specs.Rows.{Holds}
use Rattle.gix_traverse_graph.specs.Sorting.{IsNextIn}
use Rattle.gix_traverse_commit_known.specs.Told.{AreTold}
use Rattle.gix_traverse_commit_known.specs.declared.fetch.FetchError.TheVariants as fetch
use Rattle.gix_traverse_graph.specs.declared.parents.Parents.{Parents}
use Rattle.gix_traverse_graph.specs.declared.parents.Parents.TheVariants.{All, First}
use Rattle.gix_traverse_graph.specs.declared.rows.Row.{Row}
use Rattle.gix_traverse_commit_known.specs.declared.faults.Error as simple
use Rattle.gix_traverse_commit_known.specs.declared.faults.Error.TheVariants as walked
use Rattle.gix_traverse_commit_known.specs.declared.faults.HiddenGraphError.TheVariants as hidden_fault
use Rattle.gix_traverse_graph.specs.declared.sorting.Timing.{Timing}
use Rattle.gix_traverse_graph.proofs.Lists.{at_from_contains, at_from_take, contains_from_at}
use Rattle.gix_traverse_topo.specs.Faults.{IsFaultOf, IsBuildFault}
use Rattle.gix_traverse_topo.specs.declared.error.Error as topo
use Rattle.gix_traverse_topo.specs.declared.error.Error.TheVariants as sorted
use Rattle.history_walks.specs.Faults.{IsMet, absent, lines, time, WalkFault, as_found, as_sorted, as_walked}
use Rattle.history_walks.specs.declared.error.WalkError.{WalkError}
use Rattle.history_walks.specs.declared.error.WalkError.TheVariants.{Broken}

-- ---- what a walk comes to

in_all : (along : Parents) (g : Commits ObjectId) (x y : ObjectId) → Contains (asked_parents along g x) y → Contains (g x).parents y
in_all All g x y c = c
in_all First g x y c =
    let (k, a) = at_from_contains (take 1 (g x).parents) y c in
    contains_from_at (g x).parents k y (at_from_take (g x).parents 1 k y a).1

pub reached_by_all : (along : Parents) (g : Commits ObjectId) (P : ObjectId → Type 0) (tips : List ObjectId) {x : ObjectId} → Reached (asked_parents along g) P tips x → ReachedFrom g tips x
reached_by_all along g P tips (tip c p) = tip c tt
reached_by_all along g P tips (parent {x = x} {y = y} r c p) = parent (reached_by_all along g P tips r) (in_all along g x y c) tt

turn_met : (g : Commits ObjectId) (a : Asked) (listed : List ObjectId) (x : ObjectId) → IsTurn g a listed x → IsMet g a.tips a.hidden x
turn_met g a listed x turn = go (timing a) turn
  where
    go : (t : Option Timing) → IsNextIn t g (request_in t a) listed x → IsMet g a.tips a.hidden x
    go None next = inl (reached_by_all a.parents g _ a.tips next.member.0)
    go (Some t) next = inl (reached_by_all a.parents g _ a.tips next.member.0)

-- ---- why a commit isn't read

module _ (honest may_fail : Type 0) (is : honest) (rows : List Row) (table : Table) (g : Commits ObjectId) (tips hidden : List ObjectId) (x : ObjectId) (met : IsMet g tips hidden x) where
  abbrev Fault : WalkError → Type 0
  Fault error = WalkFault may_fail rows table g tips hidden error

  unfound : (error : existing_iter.Error) → (¬ Holds rows x) → FindFault honest may_fail table x error → Fault (as_found error)
  unfound (iter_case.Find lookup.Memory) unheld f = absurd f
  unfound (iter_case.Find lookup.Failed) unheld f = (f, (x, met, unheld))
  unfound (iter_case.NotFound oid) unheld f = (x, met, unheld, absent (λ content stands. let none : table (id_of x) ≡ None = f.1 is in cc))
  unfound (iter_case.ObjectKind oid actual expected) unheld f =
      (x, met, unheld, absent (λ content stands. f.2 (let there : kind_at table (id_of x) ≡ Some actual = f.3 is in let kind : kind_at table (id_of x) ≡ Some kinds.Commit = ap (option_map (λ object. object.kind)) stands in cc)))

  unread_front : (along : Parents) (error : decode.Error) → ReadFault along honest may_fail rows table x (fetch.ObjectDecode error) → Fault Broken
  unread_front along error f =
      let (content, stands, (ids, there, after, front, gives, none)) = f.1 is in
      (x, met, f.0, lines content error stands (ids, there, after, front, gives, λ e. let z : ⊥ = cc in absurd z))

  untimed : (error : decode.Error) → TimeFault honest may_fail rows table x (fetch.ObjectDecode error) → Fault Broken
  untimed error f =
      let (content, stands, none) = f.1 is in
      (x, met, f.0, time content error stands none)

-- ---- why a walk ends early

module _ (honest may_fail : Type 0) (is : honest) (rows : List Row) (table : Table) (g : Commits ObjectId) (told : AreTold rows table g) where
  pub walk_fault : (a : Asked) (listed : List ObjectId) (error : simple.Error) → SimpleFault (IsTurn g a listed) a.parents honest may_fail rows table a.hidden error → WalkFault may_fail rows table g a.tips a.hidden (as_walked error)
  walk_fault a listed (walked.Find error) (x, turn, f) = unfound honest may_fail is rows table g a.tips a.hidden x (turn_met g a listed x turn) error f.0 f.1
  walk_fault a listed (walked.ObjectDecode error) (x, turn, f) = unread_front honest may_fail is rows table g a.tips a.hidden x (turn_met g a listed x turn) a.parents error f
  walk_fault a listed (walked.HiddenGraph (hidden_fault.Find error)) (x, f, reached) = unfound honest may_fail is rows table g a.tips a.hidden x (inr (reached is g told)) error f.0 f.1
  walk_fault a listed (walked.HiddenGraph (hidden_fault.ObjectDecode error)) (x, f, reached) = unread_front honest may_fail is rows table g a.tips a.hidden x (inr (reached is g told)) All error f
  walk_fault a listed walked.Memory f = tt

  -- a tip's time isn't read
  pub tip_fault : (wanted : ObjectId → Type 0) (tips hidden : List ObjectId) (error : simple.Error) → TipFault honest may_fail rows table tips wanted error → WalkFault may_fail rows table g tips hidden (as_walked error)
  tip_fault wanted tips hidden (walked.Find error) f = unfound honest may_fail is rows table g tips hidden f.id (inl (tip (contains_from_at tips f.place f.id f.at) tt)) error f.cause.0 f.cause.1
  tip_fault wanted tips hidden (walked.ObjectDecode error) f = untimed honest may_fail is rows table g tips hidden f.id (inl (tip (contains_from_at tips f.place f.id f.at) tt)) error f.cause
  tip_fault wanted tips hidden (walked.HiddenGraph error) f = absurd f
  tip_fault wanted tips hidden walked.Memory f = tt

  -- a commit of a walk in which each comes after its children
  pub sorted_fault : (tips hidden : List ObjectId) (x : ObjectId) (error : topo.Error) → IsMet g tips hidden x → IsFaultOf honest may_fail rows table x error → WalkFault may_fail rows table g tips hidden (as_sorted error)
  sorted_fault tips hidden x sorted.MissingIndegreeUnexpected met f = absurd f
  sorted_fault tips hidden x sorted.MissingStateUnexpected met f = absurd f
  sorted_fault tips hidden x (sorted.ObjectDecode error) met f = unread_front honest may_fail is rows table g tips hidden x met All error f
  sorted_fault tips hidden x (sorted.Find error) met f = unfound honest may_fail is rows table g tips hidden x met error f.0 f.1
  sorted_fault tips hidden x sorted.Memory met f = tt

  pub build_fault : (tips hidden : List ObjectId) (error : topo.Error) → IsBuildFault honest may_fail rows table hidden error → WalkFault may_fail rows table g tips hidden (as_sorted error)
  build_fault tips hidden error (inl same) = subst (λ e. WalkFault may_fail rows table g tips hidden (as_sorted e)) (sym same) tt
  build_fault tips hidden error (inr stops) = sorted_fault tips hidden stops.id error (inr (stops.reached is g told)) stops.cause
