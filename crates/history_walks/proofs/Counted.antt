-- The commits that are described are those that are stored, and those of them that are counted have
-- rows.
use Rattle.std.proofs.Common.{◌≡◌, ◌∙◌, ◌≤◌, ◌+◌, ◌||◌, ℕ, zero, suc, ap, refl, sym, subst, arith, Bool, true, false, List, [], ◌∷◌, length, map, inl, inr, Option, Some, None, option_and_then, option_to_list}
use Rattle.std.specs.Prelude.{Contains, nat_le}
use Rattle.std.specs.List.{list_any}
use Rattle.std.specs.FinMap.{entries, get, keys, len, len-entries}
use Rattle.std.proofs.lemmas.Bool.Decides.{leb_tells}
use Rattle.std.proofs.lemmas.List.{length-map}
use Rattle.gix_hash.specs.Id.{Id, id_of}
use Rattle.gix_hash.specs.Packed.{object_id_of, object_id_of-id_of}
use Rattle.gix_hash.specs.declared.object_id.ObjectId.{ObjectId}
use Rattle.gix_traverse_graph.specs.Rows.{generation_limit}
use Rattle.history_model.specs.Answers.{counted, generation, is_counted}
use Rattle.history_model.specs.Objects.{CommitValue, Value, by_id}
use Rattle.history_model.specs.Repository.{Repository, HoldsCommit, as_commit, commit_at}
use Rattle.history_model.proofs.WholeLists.{In, clash, in_map, of_map}
use Rattle.history_walks.specs.Telling.{AreAllTold, AreInOrder, IsTold, TellsStored}
use Rattle.history_walks.specs.declared.told.Told.{Told}
use Rattle.history_walks.proofs.Members.{AreApart, contains_from_in, filter_apart, in_filter, in_from_contains, in_keys, keys_apart, no_longer, of_filter}

pub same_object : (a b : ObjectId) → id_of a ≡ id_of b → a ≡ b
same_object a b same = sym (object_id_of-id_of a) ∙ ap object_id_of same ∙ object_id_of-id_of b

-- ---- none is described twice

abbrev pub ids_told : List Told → List Id
ids_told commits = map (λ (told : Told). id_of told.id) commits

pub told_apart : (commits : List Told) → AreInOrder commits → AreApart (ids_told commits)
told_apart [] order = tt
told_apart (told ∷ behind) order = (twice, told_apart behind order.2)
  where
    twice : In (id_of told.id) (ids_told behind) → ⊥
    twice i =
        let (other, among, same) = of_map (λ (t : Told). id_of t.id) (id_of told.id) behind i in
        order.1 (other, contains_from_in behind other among, sym (same_object told.id other.id same))

-- ---- whether a commit is counted

-- what is stored as a commit is stored
stands_so : (r : Repository) (id : Id) (commit : CommitValue) → commit_at r id ≡ Some commit → (value : Value) × (get r.objects id ≡ Some value)
stands_so r id commit at = go (get r.objects id) refl at
  where
    go : (found : Option Value) → get r.objects id ≡ found → option_and_then as_commit found ≡ Some commit → (value : Value) × (get r.objects id ≡ Some value)
    go None e is = let z : ⊥ = cc in absurd z
    go (Some value) e is = (value, e)

or_none : (b : Bool) → (b || false) ≡ b
or_none true = refl
or_none false = refl

counts : (r : Repository) (id : Id) (commit : CommitValue) → commit_at r id ≡ Some commit → is_counted r id ≡ nat_le (generation r id) generation_limit
counts r id commit at = ap (λ found. list_any (λ (c : CommitValue). nat_le (generation r id) generation_limit) (option_to_list found)) at ∙ or_none (nat_le (generation r id) generation_limit)

pub is_within : (r : Repository) (id : Id) (commit : CommitValue) → commit_at r id ≡ Some commit → generation r id ≤ generation_limit → is_counted r id ≡ true
is_within r id commit at within = elim (leb_tells (generation r id) generation_limit) [
  | inl below ↦ counts r id commit at ∙ below.0
  | inr above ↦ absurd (omega (arith, within, above.1))
]

pub counts_within : (r : Repository) (id : Id) (commit : CommitValue) → commit_at r id ≡ Some commit → is_counted r id ≡ true → generation r id ≤ generation_limit
counts_within r id commit at is = elim (leb_tells (generation r id) generation_limit) [
  | inl below ↦ below.1
  | inr above ↦ clash is (counts r id commit at ∙ above.0)
]

pub counted_holds : (r : Repository) (id : Id) → is_counted r id ≡ true → HoldsCommit r id
counted_holds r id is = go (commit_at r id) refl is
  where
    go : (found : Option CommitValue) → commit_at r id ≡ found → list_any (λ (c : CommitValue). nat_le (generation r id) generation_limit) (option_to_list found) ≡ true → HoldsCommit r id
    go None e h = let z : ⊥ = cc in absurd z
    go (Some commit) e h = subst (λ (x : Option CommitValue). Rattle.std.specs.Prelude.IsSome x) (sym e) refl

-- ---- all that is described is stored

module _ (r : Repository) (commits : List Told) (all : AreAllTold r commits) where
  pub stored_in : (told : Told) → In told commits → TellsStored r told
  stored_in told i = all.stored told (contains_from_in commits told i)

  told_keys : (id : Id) → In id (ids_told commits) → In id (keys r.objects)
  told_keys id i =
      let (told, among, same) = of_map (λ (t : Told). id_of t.id) id commits i in
      let is = stored_in told among in
      let there = stands_so r (id_of told.id) is.commit is.stored in
      subst (λ x. In x (keys r.objects)) (sym same) (in_keys r.objects (id_of told.id) there.0 there.1)

  pub fewer : length commits ≤ len r.objects
  fewer =
      let most = no_longer (ids_told commits) (keys r.objects) (told_apart commits all.order) told_keys in
      let as_told : length (ids_told commits) ≡ length commits = length-map commits (λ (t : Told). id_of t.id) in
      let as_keys : length (keys r.objects) ≡ length (entries r.objects) = length-map (entries r.objects) (λ (e : Id × Value). e.0) in
      let as_len : len r.objects ≡ length (entries r.objects) = len-entries r.objects in
      omega (arith, most, as_told, as_keys, as_len)

  -- a described commit that is counted is a counted key
  pub in_counted : (told : Told) → In told commits → generation r (id_of told.id) ≤ generation_limit → In (id_of told.id) (counted r)
  in_counted told i within =
      let is = stored_in told i in
      in_filter (is_counted r) (keys r.objects) (id_of told.id) (told_keys (id_of told.id) (in_map (λ (t : Told). id_of t.id) told commits i)) (is_within r (id_of told.id) is.commit is.stored within)

  -- a counted key is described
  pub counted_told : (id : Id) → In id (counted r) → (told : Told) × In told commits × (id_of told.id ≡ id) × (generation r (id_of told.id) ≤ generation_limit)
  counted_told id i =
      let is = of_filter (is_counted r) (keys r.objects) id i in
      let (told, among, same) = all.every id (counted_holds r id is) in
      let stored = all.stored told among in
      (told, in_from_contains commits told among, same, counts_within r (id_of told.id) stored.commit stored.stored (ap (is_counted r) same ∙ is))

pub counted_apart : (r : Repository) → AreApart (counted r)
counted_apart r = filter_apart (is_counted r) (keys r.objects) (keys_apart r.objects)
