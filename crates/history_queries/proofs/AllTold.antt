-- The descriptions of all commits, in an order in which each comes before its parents.
use Rattle.std.proofs.Common.{◌≡◌, ◌∙◌, ◌<◌, ◌+◌, ap, refl, sym, subst, arith, ℕ, zero, suc, Bool, true, false, ◌||◌, List, [], ◌∷◌, ◌++◌, length, map, filter, take, get_or, inl, inr, pos, Option, Some, None, is_some, option_and_then, option_map, unwrap_or}
use Rattle.std.specs.Borrow.{Bor}
use Rattle.std.specs.Prelude.{◌⊎◌, ⊤, Contains, IfSome, IsSome}
use Rattle.std.specs.FinMap.{contains_key, get}
use Rattle.std.proofs.lemmas.List.{append_assoc, map-append, take_more}
use Rattle.std.proofs.lemmas.List.Elements.{Contains-append_left, Contains-push, Contains-push_cases}
use Rattle.gix_hash.specs.Id.{Id, id_of}
use Rattle.gix_hash.specs.Order.{id_eq}
use Rattle.gix_hash.specs.Packed.{object_id_of, object_id_of-id_of}
use Rattle.gix_hash.specs.declared.object_id.ObjectId.{ObjectId}
use Rattle.gix_traverse_graph.specs.Commits.{Commits, Listed, Reached, WalkRequest, tip, parent}
use Rattle.gix_traverse_graph.specs.Order.{At}
use Rattle.gix_traverse_graph.specs.Walks.{topological}
use Rattle.gix_traverse_graph.specs.declared.parents.Parents.TheVariants.{All}
use Rattle.gix_traverse_graph.specs.declared.rows.Row.{Row}
use Rattle.gix_traverse_graph.proofs.Listing.{has_listed}
use Rattle.gix_traverse_graph.proofs.Lists.{at_append, at_from_contains, at_from_take, contains_from_at}
use Rattle.history_model.specs.Answers.{commits_of, parents_at}
use Rattle.history_model.specs.Forms.{IsWritten}
use Rattle.history_model.specs.Objects.{Actor, CommitValue, Value, StoredCommit}
use Rattle.history_model.specs.Repository.{Repository, HoldsCommit, IsWholeStore, as_commit, commit_at}
use Rattle.history_model.proofs.IdLemmas.{id_itself, one_id}
use Rattle.history_model.proofs.WholeGrowth.{holds_value}
use Rattle.history_model.proofs.WholeLists.{clash}
use Rattle.history_walks.specs.Telling.{AreAllTold, AreInOrder, IsTold, TellsStored}
use Rattle.history_walks.specs.declared.told.Told.{Told}
use Rattle.history_walks.proofs.Counted.{same_object}
use Rattle.history_texts.specs.Commits.{SaysCommit}
use Rattle.history_texts.specs.IdLists.{is_one_of}
use Rattle.gix_object_commit.specs.declared.commit.owned.Commit.{Commit}
use Rattle.history_walks.specs.Asking.{IsInOrder, walk_from}
use Rattle.history_walks.specs.declared.listing.Order.TheVariants.{Topological}
use Rattle.history_walks.proofs.Named.{contains_map}
use Rattle.gix_ref_file.specs.History.{History}
use Rattle.gix_traverse_commit_known.specs.Told.{rows_of as graph_rows}
use Rattle.history_repository.specs.Face.{rows_in}
use Rattle.history_repository.specs.KeptRows.{TellsRow}
use Rattle.history_repository.specs.Stands.{Stands}
use Rattle.history_repository.specs.declared.repository.Repository as own
use Rattle.history_queries.specs.Indexing.{AreTheCommits, AreToldOf}
use Rattle.history_queries.specs.Walked.{AllHold}
use Rattle.history_queries.proofs.CommitsWalked.{held_parent}

-- a row describes its commit as it is stored
pub row_stored : (r : Repository) (row : Row) (told : Told) → TellsRow r.kind r.objects row → told.id ≡ row.id → told.tree ≡ row.tree → told.parents.items ≡ row.parents.items → told.time ≡ row.time → TellsStored r told
row_stored r row told is same tree_is parents_are time_is = record {
  commit = is.commit;
  stored = ap (λ x. commit_at r (id_of x)) same ∙ ap (option_and_then as_commit) is.stored;
  tree = ap id_of tree_is ∙ is.tree;
  parents = ap (map id_of) parents_are ∙ is.parents;
  time = time_is ∙ is.time;
}

-- no tips reach none
none_reached : (g : Commits Id) {y : Id} → Reached (λ z. (g z).parents) (λ _. ⊤) [] y → ⊥
none_reached g (tip c p) = omega (arith, c.1)
none_reached g (parent reached c p) = none_reached g reached

keep_all : {I : Type 0} (xs : List I) → filter (λ _. true) xs ≡ xs
keep_all [] = refl
keep_all (x ∷ xs) = ap (λ ys. x ∷ ys) (keep_all xs)

map_both : {X Y Z : Type 0} (f : Y → Z) (g : X → Y) (xs : List X) → map f (map g xs) ≡ map (λ x. f (g x)) xs
map_both f g [] = refl
map_both f g (x ∷ xs) = λ i. f (g x) ∷ map_both f g xs i

told_at : (told : List Told) (k : ℕ) (t : Told) → At told k t → At (map (λ (x : Told). id_of x.id) told) k (id_of t.id)
told_at [] k t a = let z : ⊥ = cc in absurd z
told_at (x ∷ told) zero t a = let same : x ≡ t = cc in ap (λ (y : Told). Some (id_of y.id)) same
told_at (x ∷ told) (suc k) t a = told_at told k t a

at_told : (told : List Told) (k : ℕ) (id : Id) → At (map (λ (x : Told). id_of x.id) told) k id → (t : Told) × At told k t × (id_of t.id ≡ id)
at_told [] k id a = let z : ⊥ = cc in absurd z
at_told (x ∷ told) zero id a = (x, refl, cc)
at_told (x ∷ told) (suc k) id a = at_told told k id a

-- what comes after a place
behind_at : {X : Type 0} (before : List X) (x : X) (behind : List X) (j : ℕ) (y : X) → At (before ++ x ∷ behind) j y → length before < j → Contains behind y
behind_at [] x behind zero y a less = absurd (omega (arith, less))
behind_at [] x behind (suc j) y a less = contains_from_at behind j y a
behind_at (z ∷ before) x behind zero y a less = absurd (omega (arith, less))
behind_at (z ∷ before) x behind (suc j) y a less = behind_at before x behind j y a (omega (arith, less))

place_behind : {X : Type 0} (before : List X) (x : X) (behind : List X) (y : X) → Contains behind y → (j : ℕ) × At (before ++ x ∷ behind) j y × (length before < j)
place_behind [] x behind y c = let (k, a) = at_from_contains behind y c in (suc k, a, omega arith)
place_behind (z ∷ before) x behind y c = let (j, a, less) = place_behind before x behind y c in (suc j, a, omega (arith, less))

module _ (r : Repository) (store : IsWholeStore r) (written : IsWritten r) (tips ids : List ObjectId) (told : List Told) (commits : AreTheCommits r tips)
    (logged : IsInOrder (Topological All) (commits_of r) (walk_from (Topological All) (map id_of tips) []) (map id_of ids)) (are : AreToldOf r ids told) where
  abbrev out : List Id
  out = map (λ (t : Told). id_of t.id) told

  out_is : map id_of ids ≡ out
  out_is = ap (map id_of) (sym are.same) ∙ map_both id_of (λ (t : Told). t.id) told

  abbrev asked : WalkRequest Id
  asked = walk_from (Topological All) (map id_of tips) []

  finished_is : logged.0 ≡ out
  finished_is = sym (keep_all logged.0) ∙ sym logged.2 ∙ out_is

  listed : (id : Id) → HoldsCommit r id → Listed (commits_of r) asked id
  listed id holds =
      let (x, among, same) = commits.every id holds in
      (tip (subst (λ i. Contains (map id_of tips) i) same (contains_map id_of object_id_of object_id_of-id_of tips x among)) (refl, tt), λ reached. none_reached (commits_of r) reached)

  placed : (id : Id) → HoldsCommit r id → (k : ℕ) × (t : Told) × At told k t × (id_of t.id ≡ id)
  placed id holds =
      let among = (has_listed (commits_of r) asked (map id_of ids) (λ y. refl) (topological logged) id).1 (listed id holds) in
      let (k, a) = at_from_contains out id (subst (λ (xs : List Id). Contains xs id) out_is among) in
      let (t, b, same) = at_told told k id a in
      (k, t, b, same)

  once : (j k : ℕ) (s t : Told) → At told j s → At told k t → s.id ≡ t.id → j ≡ k
  once j k s t a b same =
      (logged.1).list.once j k (id_of t.id) (subst (λ (xs : List Id). At xs j (id_of t.id)) (sym finished_is) (subst (λ id. At out j (id_of id)) same (told_at told j s a)))
      (subst (λ (xs : List Id). At xs k (id_of t.id)) (sym finished_is) (told_at told k t b))

  -- a parent comes after its child
  behind : (k j : ℕ) (t s : Told) → At told k t → At told j s → Contains (parents_at r (id_of t.id)) (id_of s.id) → k < j
  behind k j t s a b named =
      let ready = (logged.1).fit j (id_of s.id) (subst (λ (xs : List Id). At xs j (id_of s.id)) (sym finished_is) (told_at told j s b)) in
      let is = (are.stored t (contains_from_at told k t a)) in
      let before = ready (id_of t.id) (listed (id_of t.id) (subst IsSome (sym is.stored) refl)) named in
      let (i, c) = at_from_contains (take j logged.0) (id_of t.id) before in
      let (less, d) = at_from_take logged.0 j i (id_of t.id) c in
      let same = (logged.1).list.once i k (id_of t.id) d (subst (λ (xs : List Id). At xs k (id_of t.id)) (sym finished_is) (told_at told k t a)) in
      omega (arith, less, same)

  parents_told : (t : Told) → Contains told t → parents_at r (id_of t.id) ≡ map id_of t.parents.items
  parents_told t c = let is = are.stored t c in ap (λ found. unwrap_or (option_map (λ (commit : CommitValue). commit.parents) found) []) is.stored ∙ sym is.parents

  in_order : (before rest : List Told) → told ≡ before ++ rest → AreInOrder rest
  in_order before [] split = tt
  in_order before (t ∷ rest) split = (parents, twice, in_order (before ++ t ∷ []) rest (split ∙ sym (append_assoc before (t ∷ []) rest)))
    where
      here : At told (length before) t
      here = subst (λ (xs : List Told). At xs (length before) t) (sym split) (at_append before t rest)

      parents : (p : ObjectId) → Contains t.parents.items p → IsTold rest p
      parents p c =
          let named : Contains (parents_at r (id_of t.id)) (id_of p) =
          subst (λ (xs : List Id). Contains xs (id_of p)) (sym (parents_told t (contains_from_at told (length before) t here))) (contains_map id_of object_id_of object_id_of-id_of t.parents.items p c) in
          let (j, s, a, same) = placed (id_of p) (held_parent r store written (id_of t.id) (id_of p) named) in
          let later = behind (length before) j t s here a (subst (λ id. Contains (parents_at r (id_of t.id)) id) (sym same) named) in
          (s, behind_at before t rest j s (subst (λ (xs : List Told). At xs j s) split a) later, same_object s.id p same)

      twice : IsTold rest t.id → ⊥
      twice (s, c, same) =
          let (j, a, less) = place_behind before t rest s c in
          let e = once j (length before) s t (subst (λ (xs : List Told). At xs j s) (sym split) a) here same in
          omega (arith, e, less)

  whole_told : AreAllTold r told
  whole_told = record {
    stored = are.stored;
    every = λ id holds. let (k, t, a, same) = placed id holds in (t, contains_from_at told k t a, same);
    order = in_order [] told refl;
  }

-- the same, if no commit is hidden
pub all_told : (r : Repository) (store : IsWholeStore r) (written : IsWritten r) (tips ids : List ObjectId) (told : List Told) → AreTheCommits r tips → (hidden : List ObjectId) → hidden ≡ []
    → IsInOrder (Topological All) (commits_of r) (walk_from (Topological All) (map id_of tips) (map id_of hidden)) (map id_of ids) → AreToldOf r ids told → AreAllTold r told
all_told r store written tips ids told commits hidden none logged are =
    whole_told r store written tips ids told commits (subst (λ (xs : List ObjectId). IsInOrder (Topological All) (commits_of r) (walk_from (Topological All) (map id_of tips) (map id_of xs)) (map id_of ids)) none logged) are

pub none_hold : (r : Repository) (ids : List ObjectId) → ids ≡ [] → AllHold r ids
none_hold r ids none = subst (AllHold r) (sym none) (λ x c. absurd (omega (arith, c.1)))

-- ---- one more that is read

pub tells_stored : (r : Repository) (id : ObjectId) (told : Told) (commit : Commit) (value : CommitValue) → get r.objects (id_of id) ≡ Some (StoredCommit value) → SaysCommit r.kind commit value → told.id ≡ id → told.tree ≡ commit.tree
    → told.parents.items ≡ commit.parents.items → told.time ≡ (commit.committer).time.seconds → TellsStored r told
tells_stored r id told commit value at says same tree_is parents_are time_is = record {
  commit = value;
  stored = ap (λ x. commit_at r (id_of x)) same ∙ ap (option_and_then as_commit) at;
  tree = ap id_of tree_is ∙ says.tree;
  parents = ap (map id_of) parents_are ∙ says.parents;
  time = time_is ∙ seconds_are;
}
  where
    seconds_are : (commit.committer).time.seconds ≡ pos (value.committer).seconds
    seconds_are = ((says.plain).committer).plain_time.since ∙ ap (λ (a : Actor). pos a.seconds) says.committer

-- ---- the ids of commits

-- some of the commits were listed, and the rest is to come
pub record AreSoFar (r : Repository) (commits rest : List ObjectId) : Type 0 where
  pub hold : AllHold r commits
  pub every : (id : Id) → HoldsCommit r id → ((x : ObjectId) × Contains commits x × (id_of x ≡ id)) ⊎ (is_one_of rest id ≡ true)
  pub rest_hold : (id : Id) → is_one_of rest id ≡ true → HoldsCommit r id

pub none_so_far : (r : Repository) (rest : List ObjectId) → ((id : Id) → is_some (commit_at r id) ≡ is_one_of rest id) → AreSoFar r [] rest
none_so_far r rest known = record {
  hold = λ x c. absurd (omega (arith, c.1));
  every = λ id holds. inr (sym (known id) ∙ holds);
  rest_hold = λ id is. known id ∙ is;
}

first_is : (x : ObjectId) (more : List ObjectId) → is_one_of (x ∷ more) (id_of x) ≡ true
first_is x more = ap (λ b. b || is_one_of more (id_of x)) (id_itself (id_of x))

later_is : (x : ObjectId) (more : List ObjectId) (id : Id) → is_one_of more id ≡ true → is_one_of (x ∷ more) id ≡ true
later_is x more id is = go (id_eq id (id_of x)) is
  where
    go : (b : Bool) → is_one_of more id ≡ true → (b || is_one_of more id) ≡ true
    go true is = refl
    go false is = is

first_or_later : (x : ObjectId) (more : List ObjectId) (id : Id) → is_one_of (x ∷ more) id ≡ true → (id ≡ id_of x) ⊎ (is_one_of more id ≡ true)
first_or_later x more id is = go (id_eq id (id_of x)) refl is
  where
    go : (b : Bool) → id_eq id (id_of x) ≡ b → (b || is_one_of more id) ≡ true → (id ≡ id_of x) ⊎ (is_one_of more id ≡ true)
    go true same is = inl (one_id id (id_of x) same)
    go false other is = inr is

module _ (r : Repository) (commits rest : List ObjectId) (so_far : AreSoFar r commits rest) (x : ObjectId) (more : List ObjectId) (first : rest ≡ x ∷ more) where
  next_holds : HoldsCommit r (id_of x)
  next_holds = so_far.rest_hold (id_of x) (subst (λ ids. is_one_of ids (id_of x) ≡ true) (sym first) (first_is x more))

  hold_later : (id : Id) → is_one_of more id ≡ true → HoldsCommit r id
  hold_later id is = so_far.rest_hold id (subst (λ ids. is_one_of ids id ≡ true) (sym first) (later_is x more id is))

  split_then : (id : Id) → HoldsCommit r id → ((y : ObjectId) × Contains commits y × (id_of y ≡ id)) ⊎ ((id ≡ id_of x) ⊎ (is_one_of more id ≡ true))
  split_then id holds = elim (so_far.every id holds) [
    | inl there ↦ inl there
    | inr is ↦ inr (first_or_later x more id (subst (λ ids. is_one_of ids id ≡ true) first is))
  ]

  pub one_listed : (longer : List ObjectId) → longer ≡ commits ++ x ∷ [] → AreSoFar r longer more
  one_listed longer grown = subst (λ ids. AreSoFar r ids more) (sym grown) (record { hold = hold_then; every = every_then; rest_hold = hold_later })
    where
      hold_then : AllHold r (commits ++ x ∷ [])
      hold_then y c = elim (Contains-push_cases commits x y c) [
        | inl earlier ↦ so_far.hold y earlier
        | inr same ↦ subst (λ z. HoldsCommit r (id_of z)) same next_holds
      ]

      every_then : (id : Id) → HoldsCommit r id → ((y : ObjectId) × Contains (commits ++ x ∷ []) y × (id_of y ≡ id)) ⊎ (is_one_of more id ≡ true)
      every_then id there = elim (split_then id there) [
        | inl (y, c, same) ↦ inl (y, Contains-append_left commits (x ∷ []) y c, same)
        | inr (inl same) ↦ inl (x, Contains-push commits x, sym same)
        | inr (inr is) ↦ inr is
      ]

pub all_so_far : (r : Repository) (commits rest : List ObjectId) → AreSoFar r commits rest → rest ≡ [] → AreTheCommits r commits
all_so_far r commits rest so_far none = record { hold = so_far.hold; every = every }
  where
    every : (id : Id) → HoldsCommit r id → (x : ObjectId) × Contains commits x × (id_of x ≡ id)
    every id holds = elim (so_far.every id holds) [
      | inl found ↦ found
      | inr is ↦ clash is (ap (λ ids. is_one_of ids id) none)
    ]

-- ---- commits described one after another

pub told_added : (r : Repository) (ids : List ObjectId) (k : ℕ) (d : ObjectId) → k < length ids → (some more : List Told) (told : Told) → AreToldOf r (take k ids) some → more ≡ some ++ told ∷ [] → told.id ≡ get_or ids k d → TellsStored r told
    → AreToldOf r (take (k + 1) ids) more
told_added r ids k d less some more told so_far grown named stored = subst (AreToldOf r (take (k + 1) ids)) (sym grown) (record { same = same_then; stored = stored_then })
  where
    same_then : map (λ (t : Told). t.id) (some ++ told ∷ []) ≡ take (k + 1) ids
    same_then = map-append (λ (t : Told). t.id) some (told ∷ []) ∙ (λ j. so_far.same j ++ named j ∷ []) ∙ sym (take_more ids k d less)

    stored_then : (t : Told) → Contains (some ++ told ∷ []) t → TellsStored r t
    stored_then t c = elim (Contains-push_cases some told t c) [
      | inl earlier ↦ so_far.stored t earlier
      | inr same ↦ subst (TellsStored r) same stored
    ]
