-- A walk over commits that are kept, if all that it meets is kept.
use Rattle.std.proofs.Common.{◌≡◌, ◌∙◌, ap, refl, sym, subst, arith, cond, Bool, true, false, ℕ, List, [], ◌∷◌, inl, inr, Some, None, Option, option_map, Vec}
use Rattle.std.specs.Prelude.{◌⊎◌, IfSome, ℤ, pos, ◌≤ℤ◌}
use Rattle.std.specs.declared.alloc.Global.{Global}
use Rattle.std.proofs.lemmas.List.Elements.{Contains-append_cases, Contains-append_right, Contains-push_cases}
use Rattle.gix_hash.specs.Id.{id_of}
use Rattle.gix_hash.specs.declared.object_id.ObjectId.{ObjectId}
use Rattle.gix_object_lookup.specs.Table.{Object, Table}
use Rattle.gix_object_lines.specs.declared.kind.Kind.TheVariants as kinds
use Rattle.gix_traverse_graph.specs.Commits.{Commit, Commits, Listed, Passes, WalkRequest}
use Rattle.gix_traverse_graph.specs.Order.{At, IsListOf}
use Rattle.gix_traverse_graph.specs.Numbered.{same_id}
use Rattle.gix_traverse_commit_known.specs.Painting.{ReachedFrom}
use Rattle.gix_traverse_graph.specs.RowCommits.{row_of}
use Rattle.gix_traverse_graph.specs.Rows.{Holds}
use Rattle.gix_traverse_commit_known.specs.Asked.{Answers, Asked, request_in, timing}
use Rattle.gix_traverse_graph.specs.Sorting.{InOrder, InTimeOrder}
use Rattle.gix_traverse_commit_known.specs.Told.{AreTold, IsNoCommit, TellsCommit}
use Rattle.gix_traverse_graph.specs.declared.parents.Parents.TheVariants.{All}
use Rattle.gix_traverse_graph.specs.declared.rows.Row.{Row}
use Rattle.gix_traverse_graph.specs.declared.sorting.CommitTimeOrder.{CommitTimeOrder}
use Rattle.gix_traverse_graph.specs.declared.sorting.CommitTimeOrder.TheVariants.{NewestFirst, OldestFirst}
use Rattle.gix_traverse_graph.specs.declared.sorting.Sorting.{Sorting}
use Rattle.gix_traverse_graph.specs.declared.sorting.Timing.{Timing}
use Rattle.gix_traverse_graph.proofs.Ids.{same_from_test, test_from_same}
use Rattle.gix_traverse_graph.proofs.Lists.{contains_from_at}
use Rattle.history_walks.specs.Faults.{IsMet, IsUnread, WalkFault, absent, lines, time}
use Rattle.history_walks.specs.ReadCommits.{AreKept, Contents, commit_object, table_of}
use Rattle.history_walks.specs.Simply.{asked}
use Rattle.history_walks.specs.declared.error.WalkError.{WalkError}
use Rattle.history_walks.specs.declared.error.WalkError.TheVariants.{Failed, Broken, Memory}
use Rattle.history_walks.proofs.Faulty.{reached_by_all}
use Rattle.history_walks.proofs.Kept.{in_nil, reached_as}

-- ---- the rows and the commits that are kept say their times; the others are of time 0

abbrev kept_time : Option Object → ℤ → ℤ
kept_time None seconds = pos 0
kept_time (Some object) seconds = seconds

abbrev make : List ObjectId → ℤ → Commit ObjectId
make parents seconds = record { parents = parents; time = seconds }

abbrev time_for : Option Row → Option Object → ℤ → ℤ
time_for (Some row) object seconds = seconds
time_for None object seconds = kept_time object seconds

abbrev pub alone : List Row → Contents → Commits ObjectId → Commits ObjectId
alone rows contents g x = make (g x).parents (time_for (row_of rows x) (table_of contents (id_of x)) (g x).time)

time_there : (o : Option Object) (seconds : ℤ) (object : Object) → o ≡ Some object → kept_time o seconds ≡ seconds
time_there None seconds object there = let z : ⊥ = cc in absurd z
time_there (Some kept) seconds object there = refl

time_for_there : (row : Option Row) (o : Option Object) (seconds : ℤ) (object : Object) → o ≡ Some object → time_for row o seconds ≡ seconds
time_for_there (Some row) o seconds object there = refl
time_for_there None o seconds object there = time_there o seconds object there

-- a commit has a row, or none is found
row_found : (rows : List Row) (x : ObjectId) → Holds rows x ⊎ (row_of rows x ≡ None)
row_found [] x = inr refl
row_found (row ∷ rows) x = go (row_found rows x) (same_id x row.id) refl
  where
    go : Holds rows x ⊎ (row_of rows x ≡ None) → (same : Bool) → same_id x row.id ≡ same → Holds (row ∷ rows) x ⊎ (row_of (row ∷ rows) x ≡ None)
    go rest true is = inl (row, (0, omega arith, refl), sym (same_from_test x row.id is))
    go rest false is = elim rest [
      | inl held ↦ inl (held.0, Contains-append_right (row ∷ []) rows held.0 held.1, held.2)
      | inr none ↦ inr (ap (λ same. cond same (Some row) (row_of rows x)) is ∙ none)
    ]

row_there : (rows : List Row) (x : ObjectId) → Holds rows x → (row : Row) × (row_of rows x ≡ Some row)
row_there [] x held = absurd (in_nil held.0 held.1)
row_there (row ∷ rows) x held = go (λ later. row_there rows x later) (same_id x row.id) refl
  where
    go : (Holds rows x → (found : Row) × (row_of rows x ≡ Some found)) → (same : Bool) → same_id x row.id ≡ same → (found : Row) × (row_of (row ∷ rows) x ≡ Some found)
    go rest true is = (row, ap (λ same. cond same (Some row) (row_of rows x)) is)
    go rest false is = elim (Contains-append_cases (row ∷ []) rows held.0 held.1) [
      | inl one ↦ elim (Contains-push_cases [] row held.0 one) [
        | inl none ↦ absurd (in_nil held.0 none)
        | inr same ↦ let z : true ≡ false = sym (test_from_same x row.id (sym held.2 ∙ ap (λ (r : Row). r.id) (sym same))) ∙ is in let w : ⊥ = cc in absurd w
      ]
      | inr later ↦ let there = rest (held.0, later, held.2) in (there.0, ap (λ same. cond same (Some row) (row_of rows x)) is ∙ there.1)
    ]

no_time : (o : Option (Vec ℕ Global)) (seconds : ℤ) → ((content : List ℕ) → option_map commit_object o ≡ Some (record { kind = kinds.Commit; content = content }) → ⊥) → kept_time (option_map commit_object o) seconds ≡ pos 0
no_time None seconds lacks = refl
no_time (Some content) seconds lacks = absurd (lacks content.items refl)

module _ (rows : List Row) (contents : Contents) (table : Table) (g : Commits ObjectId) (tips hidden : List ObjectId) (kept : AreKept rows table (table_of contents) (IsMet g tips hidden)) where
  same_commit : (x : ObjectId) (object : Object) → table_of contents (id_of x) ≡ Some object → alone rows contents g x ≡ g x
  same_commit x object there = ap (make (g x).parents) (time_for_there (row_of rows x) (table_of contents (id_of x)) (g x).time object there)

  -- one that has a row stays as it is
  rowed_commit : (x : ObjectId) → Holds rows x → alone rows contents g x ≡ g x
  rowed_commit x held = ap (λ row. make (g x).parents (time_for row (table_of contents (id_of x)) (g x).time)) (row_there rows x held).1

  pub told_alone : AreTold rows table g → AreTold rows (table_of contents) (alone rows contents g)
  told_alone told = record {
    rowed = λ row c. rowed_commit row.id (row, c, refl) ∙ told.rowed row c;
    stored = λ x content none there. subst (TellsCommit (id_of x).kind content) (sym (same_commit x _ there)) (told.stored x content none (kept.stand x content there));
    missing = λ x none lacks. untimed x none (row_found rows x) lacks;
  }
    where
      untimed : (x : ObjectId) → (¬ Holds rows x) → Holds rows x ⊎ (row_of rows x ≡ None) → IsNoCommit (table_of contents) (id_of x) → (alone rows contents g x).time ≡ pos 0
      untimed x none (inl held) lacks = absurd (none held)
      untimed x none (inr unfound) lacks = ap (λ row. time_for row (table_of contents (id_of x)) (g x).time) unfound ∙ no_time _ (g x).time lacks

  -- ---- what it meets is of its own time

  same_time : (x : ObjectId) → ReachedFrom g tips x → (alone rows contents g x).time ≡ (g x).time
  same_time x met = elim (row_found rows x) [
    | inl held ↦ ap (λ (commit : Commit ObjectId). commit.time) (rowed_commit x held)
    | inr unfound ↦ ap (λ row. time_for row (table_of contents (id_of x)) (g x).time) unfound ∙ unrowed unfound
  ]
    where
      unrowed : row_of rows x ≡ None → kept_time (table_of contents (id_of x)) (g x).time ≡ (g x).time
      unrowed unfound =
          let there = kept.each x (inl met) (λ held. let found = row_there rows x held in let z : Some found.0 ≡ None = sym found.1 ∙ unfound in let w : ⊥ = cc in absurd w) in
          time_there (table_of contents (id_of x)) (g x).time _ there.1

  module _ (sorting : Sorting) where
    abbrev Asks : Asked
    Asks = asked tips hidden All sorting

    module _ (t : Option Timing) where
      abbrev Request : WalkRequest ObjectId
      Request = request_in t Asks

      listed_then : (x : ObjectId) → Listed (alone rows contents g) Request x → Listed g Request x
      listed_then x (r, free) = (
        (reached_as (λ y. (g y).parents) (Passes (alone rows contents g) Request) (Passes g Request) tips tips (λ y c. c)
            (λ y met p. (p.0, subst (λ seconds. IfSome Request.since (λ since. since ≤ℤ seconds)) (same_time y met) p.1)) r).0,
        free,
      )

      listed_alone : (x : ObjectId) → Listed g Request x → Listed (alone rows contents g) Request x
      listed_alone x (r, free) = (
        (reached_as (λ y. (g y).parents) (Passes g Request) (Passes (alone rows contents g) Request) tips tips (λ y c. c)
            (λ y met p. (p.0, subst (λ seconds. IfSome Request.since (λ since. since ≤ℤ seconds)) (sym (same_time y met)) p.1)) r).0,
        free,
      )

      module _ (out : List ObjectId) (list : IsListOf (Listed (alone rows contents g) Request) out) where
        list_then : IsListOf (Listed g Request) out
        list_then = record {
          each = λ x. (λ c. listed_then x ((list.each x).0 c), λ s. (list.each x).1 (listed_alone x s));
          once = list.once;
        }

        time_at : (k : ℕ) (x : ObjectId) → At out k x → (alone rows contents g x).time ≡ (g x).time
        time_at k x at = same_time x (reached_by_all All (alone rows contents g) _ tips ((list.each x).0 (contains_from_at out k x at)).0)

      by_time : (order : CommitTimeOrder) (out : List ObjectId) → InTimeOrder order (alone rows contents g) Request out → InTimeOrder order g Request out
      by_time NewestFirst out chosen = record {
        list = list_then out chosen.list;
        fit = chosen.fit;
        chosen = λ k l x y before ax ay fits.
            subst (λ seconds. seconds ≤ℤ (g x).time) (time_at out chosen.list l y ay)
            (subst (λ seconds. (alone rows contents g y).time ≤ℤ seconds) (time_at out chosen.list k x ax) (chosen.chosen k l x y before ax ay fits));
      }
      by_time OldestFirst out chosen = record {
        list = list_then out chosen.list;
        fit = chosen.fit;
        chosen = λ k l x y before ax ay fits.
            subst (λ seconds. seconds ≤ℤ (g y).time) (time_at out chosen.list k x ax)
            (subst (λ seconds. (alone rows contents g x).time ≤ℤ seconds) (time_at out chosen.list l y ay) (chosen.chosen k l x y before ax ay fits));
      }

    pub answers_then : (out : List ObjectId) → Answers (alone rows contents g) Asks out → Answers g Asks out
    answers_then out answers = go (timing Asks) answers
      where
        go : (t : Option Timing) → InOrder t (alone rows contents g) (request_in t Asks) out → InOrder t g (request_in t Asks) out
        go None breadth = record {
          list = list_then None out breadth.list;
          keyed = breadth.keyed;
          ascending = breadth.ascending;
        }
        go (Some timing) chosen = by_time (Some timing) timing.order out chosen

  -- ---- why it ends early

  unread_then : (x : ObjectId) → IsMet g tips hidden x → (¬ Holds rows x) → IsUnread (table_of contents) x → IsUnread table x
  unread_then x met unheld (absent none) = let there = kept.each x met unheld in absurd (none there.0 there.1)
  unread_then x met unheld (lines content error there lacks) = lines content error (kept.stand x content there) lacks
  unread_then x met unheld (time content error there lacks) = time content error (kept.stand x content there) lacks

  pub fault_then : (may_fail : Type 0) (error : WalkError) → WalkFault ⊥ rows (table_of contents) (alone rows contents g) tips hidden error → WalkFault may_fail rows table g tips hidden error
  fault_then may_fail Failed f = absurd f.0
  fault_then may_fail Broken (x, met, unheld, unread) = (x, met, unheld, unread_then x met unheld unread)
  fault_then may_fail Memory f = tt
