-- Commits that are read one after another, and kept.
use Rattle.std.proofs.Common.{◌≡◌, ◌∙◌, ap, refl, sym, subst, arith, Bool, true, false, List, [], ◌∷◌, ◌++◌, ℕ, inl, inr, Some, None, option_map, cond, Vec}
use Rattle.std.specs.Prelude.{Contains, IfOk, Result, Ok, Err, map, ⊤}
use Rattle.std.specs.BTreeMap.{Updates, get, get_by, is_at}
use Rattle.std.specs.Map.{keys_of, lookup}
use Rattle.std.specs.Ordering.{is_eq}
use Rattle.std.specs.declared.alloc.Global.{Global}
use Rattle.std.specs.declared.cmp.Ordering.{Ordering}
use Rattle.std.proofs.lemmas.List.Elements.{Contains-append_cases, Contains-append_left, Contains-append_right, Contains-push_cases}
use Rattle.gix_hash.specs.Id.{Id, id_of}
use Rattle.gix_hash.specs.Order.{id_cmp}
use Rattle.gix_hash.specs.OrderLaws.{id_eq-same, id_tied}
use Rattle.gix_hash.specs.declared.object_id.ObjectId.{ObjectId}
use Rattle.gix_object_lookup.specs.Existing.{Stands}
use Rattle.gix_object_lookup.specs.Table.{Table}
use Rattle.gix_object_lines.specs.declared.kind.Kind.TheVariants as kinds
use Rattle.gix_traverse_graph.specs.Commits.{Commits, Listed, Reached, asked_parents, tip, parent}
use Rattle.gix_traverse_commit_known.specs.Painting.{ReachedFrom}
use Rattle.gix_traverse_graph.specs.Rows.{Holds}
use Rattle.gix_traverse_commit_known.specs.Asked.{Answers, request_in}
use Rattle.gix_traverse_graph.specs.declared.parents.Parents.{Parents}
use Rattle.gix_traverse_graph.specs.declared.parents.Parents.TheVariants.{All, First}
use Rattle.gix_traverse_graph.specs.declared.rows.Row.{Row}
use Rattle.gix_traverse_graph.specs.declared.sorting.Sorting.TheVariants.{BreadthFirst}
use Rattle.gix_traverse_graph.proofs.Lists.{at_from_contains, none_at_nil}
use Rattle.history_walks.specs.Faults.{IsMet, IsMetAlong, WalkFault}
use Rattle.history_walks.specs.ReadCommits.{AreKept, AreOf, Contents, commit_object, ids_of, table_of}
use Rattle.history_walks.specs.Simply.{asked}
use Rattle.history_walks.specs.declared.error.WalkError.{WalkError}
use Rattle.history_walks.specs.declared.error.WalkError.TheVariants.{Failed, Broken, Memory}

abbrev pub by_id : ObjectId → ObjectId → Ordering
by_id x y = id_cmp (id_of x) (id_of y)

pub in_nil : {X : Type 0} (x : X) → Contains [] x → ⊥
in_nil x c = let (k, a) = at_from_contains [] x c in none_at_nil k x a

-- ids that the order ties are one
tied_same : (a b : Id) → is_eq (id_cmp a b) ≡ true → a ≡ b
tied_same a b tied = id_eq-same a b (id_tied a b ∙ tied)

-- ---- what is found is kept

found_among : (id : Id) (entries : List (ObjectId × Vec ℕ Global)) (content : Vec ℕ Global) → lookup (is_at (λ key. id_cmp id (id_of key))) entries ≡ Some content → Contains (map id_of (keys_of entries)) id
found_among id [] content found = let z : ⊥ = cc in absurd z
found_among id (e ∷ es) content found = go (λ there. found_among id es content there) (is_eq (id_cmp id (id_of e.0))) refl
  where
    go : (lookup (is_at (λ key. id_cmp id (id_of key))) es ≡ Some content → Contains (map id_of (keys_of es)) id) → (tied : Bool) → is_eq (id_cmp id (id_of e.0)) ≡ tied → Contains (id_of e.0 ∷ map id_of (keys_of es)) id
    go later true tied = subst (λ x. Contains (id_of e.0 ∷ map id_of (keys_of es)) x) (sym (tied_same id (id_of e.0) tied)) (0, omega arith, refl)
    go later false tied =
        Contains-append_right (id_of e.0 ∷ []) (map id_of (keys_of es)) id
        (later (sym (ap (λ b. cond b (Some e.1) (lookup (is_at (λ key. id_cmp id (id_of key))) es)) tied) ∙ found))

pub is_among : (contents : Contents) (id : Id) (content : Vec ℕ Global) → get_by (λ key. id_cmp id (id_of key)) contents ≡ Some content → Contains (ids_of contents) id
is_among contents id content found = found_among id contents.entries content found

-- one that is kept is in the table as it is kept
pub same_there : (table kept : Table) (x : ObjectId) (id : Id) (content : List ℕ) → AreOf table kept → id_of x ≡ id → Stands kept (id_of x) kinds.Commit content → kept id ≡ table id
same_there table kept x id content are named there = ap kept (sym named) ∙ there ∙ sym (are x content there) ∙ ap table named

pub ok_more : {T E : Type 0} (result : Result T E) (P Q : T → Type 0) → ((value : T) → P value → Q value) → IfOk result P → IfOk result Q
ok_more (Ok value) P Q more is = more value is
ok_more (Err error) P Q more is = tt

-- ---- one more is kept

-- one that has a row needn't be
pub none_more : (rows : List Row) (table kept : Table) (ids : List ObjectId) (id : ObjectId) → Holds rows id → AreKept rows table kept (Contains ids) → AreKept rows table kept (Contains (ids ++ id ∷ []))
none_more rows table kept ids id held all = record {
  stand = all.stand;
  each = λ x c unheld. elim (Contains-push_cases ids id x c) [
    | inl earlier ↦ all.each x earlier unheld
    | inr same ↦ absurd (unheld (subst (λ y. Holds rows y) same held))
  ];
}

module _ (rows : List Row) (table : Table) (old new : Contents) (ids : List ObjectId) (id : ObjectId) (content : Vec ℕ Global) (put : Updates by_id old new id (Some content)) where
  after : (x : ObjectId) (tied : Bool) → is_eq (by_id id x) ≡ tied → table_of new (id_of x) ≡ option_map commit_object (cond tied (Some content) (get by_id old x))
  after x tied is = ap (option_map commit_object) (put.0 x ∙ ap (λ b. cond b (Some content) (get by_id old x)) is)

  pub one_kept : Stands table (id_of id) kinds.Commit content.items → AreKept rows table (table_of old) (Contains ids) → AreKept rows table (table_of new) (Contains (ids ++ id ∷ []))
  one_kept stands kept = record {
    stand = λ x bytes there. standing x bytes there (is_eq (by_id id x)) refl;
    each = λ x c unheld. elim (Contains-push_cases ids id x c) [
      | inl earlier ↦ still x (kept.each x earlier unheld) (is_eq (by_id id x)) refl
      | inr same ↦ subst (λ y. (bytes : List ℕ) × Stands (table_of new) (id_of y) kinds.Commit bytes) same (content.items, ap (option_map commit_object) put.1)
    ];
  }
    where
      standing : (x : ObjectId) (bytes : List ℕ) → Stands (table_of new) (id_of x) kinds.Commit bytes → (tied : Bool) → is_eq (by_id id x) ≡ tied → Stands table (id_of x) kinds.Commit bytes
      standing x bytes there true is = ap table (sym (tied_same (id_of id) (id_of x) is)) ∙ stands ∙ sym (after x true is) ∙ there
      standing x bytes there false is = kept.stand x bytes (sym (after x false is) ∙ there)

      still : (x : ObjectId) → (bytes : List ℕ) × Stands (table_of old) (id_of x) kinds.Commit bytes → (tied : Bool) → is_eq (by_id id x) ≡ tied → (bytes : List ℕ) × Stands (table_of new) (id_of x) kinds.Commit bytes
      still x there true is = (content.items, after x true is)
      still x there false is = (there.0, after x false is ∙ there.1)

-- ---- a walk in breadth order from the tips and the hidden ones has all that they reach

-- from more tips, past what passes otherwise; and past all
pub reached_as : (along : ObjectId → List ObjectId) (P Q : ObjectId → Type 0) (tips more : List ObjectId) → ((x : ObjectId) → Contains tips x → Contains more x) → ((x : ObjectId) → Reached along (λ _. ⊤) tips x → P x → Q x) → {x : ObjectId}
    → Reached along P tips x → Reached along Q more x × Reached along (λ _. ⊤) tips x
reached_as along P Q tips more wider passes (tip {x = x} c p) = (tip (wider x c) (passes x (tip c tt) p), tip c tt)
reached_as along P Q tips more wider passes (parent {x = x} {y = y} r c p) =
    let before = reached_as along P Q tips more wider passes r in
    let met : Reached along (λ _. ⊤) tips y = parent before.1 c tt in
    (parent before.0 c (passes y met p), met)

none_reached : (g : Commits ObjectId) {x : ObjectId} → ReachedFrom g [] x → ⊥
none_reached g (tip {x = x} c p) = in_nil x c
none_reached g (parent r c p) = none_reached g r

module _ (g : Commits ObjectId) (tips hidden : List ObjectId) where
  met_by_one : {x : ObjectId} → ReachedFrom g (tips ++ hidden) x → IsMet g tips hidden x
  met_by_one (tip {x = x} c p) = elim (Contains-append_cases tips hidden x c) [ inl a ↦ inl (tip a tt) | inr b ↦ inr (tip b tt) ]
  met_by_one (parent r c p) = elim (met_by_one r) [ inl a ↦ inl (parent a c tt) | inr b ↦ inr (parent b c tt) ]

  met_of_both : {x : ObjectId} → IsMet g (tips ++ hidden) [] x → IsMet g tips hidden x
  met_of_both (inl met) = met_by_one met
  met_of_both (inr met) = absurd (none_reached g met)

  pub fault_of_met : (may_fail : Type 0) (rows : List Row) (table : Table) (error : WalkError) → WalkFault may_fail rows table g (tips ++ hidden) [] error → WalkFault may_fail rows table g tips hidden error
  fault_of_met may_fail rows table Failed (f, (x, met, unheld)) = (f, (x, met_of_both met, unheld))
  fault_of_met may_fail rows table Broken (x, met, unheld, unread) = (x, met_of_both met, unheld, unread)
  fault_of_met may_fail rows table Memory f = tt

  module _ (parents : Parents) where
    comes : (x : ObjectId) → IsMetAlong parents g tips hidden x → Listed g (request_in None (asked (tips ++ hidden) [] parents BreadthFirst)) x
    comes x (inl r) = ((reached_as (asked_parents parents g) (λ _. ⊤) _ tips (tips ++ hidden) (λ y c. Contains-append_left tips hidden y c) (λ y _ _. (refl, tt)) r).0, λ h. none_reached g h)
    comes x (inr r) = ((reached_as (asked_parents parents g) (λ _. ⊤) _ hidden (tips ++ hidden) (λ y c. Contains-append_right tips hidden y c) (λ y _ _. (refl, tt)) r).0, λ h. none_reached g h)

    listed_by : (ids : List ObjectId) → Answers g (asked (tips ++ hidden) [] parents BreadthFirst) ids → (x : ObjectId) → Listed g (request_in None (asked (tips ++ hidden) [] parents BreadthFirst)) x → Contains ids x
    listed_by ids answers x l = by_parents parents answers l
      where
        by_parents : (parents : Parents) → Answers g (asked (tips ++ hidden) [] parents BreadthFirst) ids → Listed g (request_in None (asked (tips ++ hidden) [] parents BreadthFirst)) x → Contains ids x
        by_parents All answers l = (answers.list.each x).1 l
        by_parents First answers l = (answers.list.each x).1 l

    pub met_kept : (rows : List Row) (table kept : Table) → (ids : List ObjectId) × Answers g (asked (tips ++ hidden) [] parents BreadthFirst) ids × AreKept rows table kept (Contains ids) → AreKept rows table kept (IsMetAlong parents g tips hidden)
    met_kept rows table kept (ids, answers, all) = record {
      stand = all.stand;
      each = λ x met unheld. all.each x (listed_by ids answers x (comes x met)) unheld;
    }

pub kept_same : (g : Commits ObjectId) (lent tips lent_hidden hidden : List ObjectId) (rows : List Row) (table kept : Table) → lent ≡ tips → lent_hidden ≡ hidden → AreKept rows table kept (IsMet g lent lent_hidden) → AreKept rows table kept (IsMet g tips hidden)
kept_same g lent tips lent_hidden hidden rows table kept same same_hidden all =
    subst (λ (xs : List ObjectId). AreKept rows table kept (IsMet g xs hidden)) same (subst (λ (xs : List ObjectId). AreKept rows table kept (IsMet g lent xs)) same_hidden all)

-- one more that is the table's
pub one_more_of : (table : Table) (old new : Contents) (id : ObjectId) (content : Vec ℕ Global) → Updates by_id old new id (Some content) → Stands table (id_of id) kinds.Commit content.items → AreOf table (table_of old) → AreOf table (table_of new)
one_more_of table old new id content put stands are =
    (one_kept [] table old new [] id content put stands (record { stand = are; each = λ x c unheld. absurd (in_nil x c) })).stand
