-- Painting: a list of painted commits, each once.
use Rattle.std.proofs.Common.{◌≡◌, ℕ, suc, get_or, ◌+◌, ◌-◌, ◌<◌, ◌≤◌, zero, List, [], ◌∷◌, ◌++◌, length, map, take, refl, sym, ◌∙◌, ap, subst, arith, Bool, true, false, cond, length-append, inl, inr, ◌||◌}
use Rattle.std.specs.Prelude.{Contains, IsTrue}
use Rattle.std.specs.List.{list_any}
use Rattle.std.proofs.lemmas.List.Folds.{list_any-append}
use Rattle.std.proofs.lemmas.Map.Made.{length-le_from_is_member}
use Rattle.std.proofs.lemmas.Option.{slice_get-get_or}
use Rattle.gix_hash.specs.declared.object_id.ObjectId.{ObjectId}
use Rattle.gix_hash.specs.Id.{Id, id_of}
use Rattle.gix_hash.specs.OrderLaws.{equivalence}
use Rattle.gix_hash.specs.Packed.{object_id_of, object_id_of-id_of}
use Rattle.gix_traverse_graph.specs.Commits.{Commits, Reached, tip, parent}
use Rattle.gix_traverse_commit_known.specs.Keeping.{KeptAll}
use Rattle.gix_traverse_commit_known.specs.Nodes.{is_hidden, Node}
use Rattle.gix_traverse_graph.specs.Numbered.{same_id}
use Rattle.gix_traverse_graph.specs.Order.{At}
use Rattle.gix_traverse_commit_known.specs.Painting.{IsPainted, PaintFault, Paints, ReachedFrom, every}
use Rattle.gix_traverse_graph.specs.Rows.{AllHeld, Holds}
use Rattle.gix_object_lookup.specs.Table.{Table}
use Rattle.gix_traverse_commit_known.specs.Fetching.{FetchFault}
use Rattle.gix_traverse_commit_known.specs.Asked.{IsKnown}
use Rattle.gix_traverse_commit_known.specs.Told.{AreTold}
use Rattle.gix_traverse_commit_known.specs.declared.fetch.FetchError.{FetchError}
use Rattle.gix_traverse_commit_known.specs.declared.fetch.FetchError.TheVariants as fault
use Rattle.gix_traverse_graph.specs.declared.rows.Row.{Row}
use Rattle.gix_traverse_graph.proofs.Frontier.{read_all}
use Rattle.gix_traverse_graph.proofs.Ids.{test_from_same, same_id_apart}
use Rattle.gix_traverse_commit_known.proofs.Keeping.{Meets, Queues}
use Rattle.gix_traverse_graph.proofs.Lists.{at_one, at_from_contains, contains_from_at, at_push, at_from_push, at_from_take, three}
use Rattle.gix_traverse_graph.proofs.Slow.{any_from_contains, contains_from_any}
use Rattle.gix_traverse_graph.proofs.Walked.{distinct_from_once}

abbrev pub Pushes : Bool → List ObjectId → List ObjectId → ObjectId → Type 0
Pushes painted xs xs' y = xs' ≡ cond painted xs (xs ++ y ∷ [])

-- one more is painted
pub painted_one : (nodes nodes' : List Node) (xs xs' : List ObjectId) (y : ObjectId) → IsPainted nodes xs → Meets (is_hidden nodes) (is_hidden nodes') y → Pushes (is_hidden nodes y) xs xs' y → IsPainted nodes' xs'
painted_one nodes nodes' xs xs' y w new e = go (is_hidden nodes y) refl
  where
    more : (x : ObjectId) → is_hidden nodes x ≡ true → is_hidden nodes' x ≡ true
    more x h = new x ∙ both (same_id y x)
      where
        both : (b : Bool) → cond b true (is_hidden nodes x) ≡ true
        both true = refl
        both false = h

    go : (b : Bool) → is_hidden nodes y ≡ b → IsPainted nodes' xs'
    go true f = let same : xs ≡ xs' = sym (rw f at e) in subst (IsPainted nodes') same (record { marked = λ x c. more x (w.marked x c); once = w.once })
    go false f = let same : xs ++ y ∷ [] ≡ xs' = sym (rw f at e) in subst (IsPainted nodes') same (record { marked = marked; once = once })
      where
        here : is_hidden nodes' y ≡ true
        here = new y ∙ ap (λ (b : Bool). cond b true (is_hidden nodes y)) (test_from_same y y refl)

        marked : (x : ObjectId) → Contains (xs ++ y ∷ []) x → is_hidden nodes' x ≡ true
        marked x c = let (k, a) = at_from_contains (xs ++ y ∷ []) x c in elim (at_from_push xs y k x a) [
          | inl before ↦ more x (w.marked x (contains_from_at xs k x before))
          | inr (i, s) ↦ subst (λ (z : ObjectId). is_hidden nodes' z ≡ true) (sym s) here
        ]

        fresh : (k : ℕ) (x : ObjectId) → At xs k x → x ≡ y → ⊥
        fresh k x a s = let h : is_hidden nodes y ≡ true = subst (λ (z : ObjectId). is_hidden nodes z ≡ true) s (w.marked x (contains_from_at xs k x a)) in let z : ⊥ = cc in z

        once : (j k : ℕ) (x : ObjectId) → At (xs ++ y ∷ []) j x → At (xs ++ y ∷ []) k x → j ≡ k
        once j k x a b = elim (at_from_push xs y j x a) [
          | inl h ↦ elim (at_from_push xs y k x b) [ inl i ↦ w.once j k x h i | inr s ↦ absurd (fresh j x h s.1) ]
          | inr d ↦ elim (at_from_push xs y k x b) [ inl i ↦ absurd (fresh k x i d.1) | inr s ↦ d.0 ∙ sym s.0 ]
        ]

-- what was there stays
pub pushes_keep : (b : Bool) (xs xs' : List ObjectId) (y : ObjectId) → Pushes b xs xs' y → (k : ℕ) (x : ObjectId) → At xs k x → At xs' k x
pushes_keep true xs xs' y e k x a = subst (λ (zs : List ObjectId). At zs k x) (sym e) a
pushes_keep false xs xs' y e k x a = subst (λ (zs : List ObjectId). At zs k x) (sym e) (at_push xs y k x a)

pub pushes_held : (rows : List Row) (b : Bool) (xs xs' : List ObjectId) (y : ObjectId) → Pushes b xs xs' y → AllHeld rows xs → Holds rows y → AllHeld rows xs'
pushes_held rows true xs xs' y e all h = subst (AllHeld rows) (sym e) all
pushes_held rows false xs xs' y e all h = subst (AllHeld rows) (sym e) (λ x c. let (k, a) = at_from_contains (xs ++ y ∷ []) x c in elim (at_from_push xs y k x a) [
  | inl before ↦ all x (contains_from_at xs k x before)
  | inr s ↦ subst (Holds rows) (sym s.1) h
])

pub queues_held : (rows : List Row) (met kept : Bool) (xs xs' : List ObjectId) (y : ObjectId) → Queues met kept xs xs' y → AllHeld rows xs → Holds rows y → AllHeld rows xs'
queues_held rows true kept xs xs' y e all h = subst (AllHeld rows) (sym e) all
queues_held rows false true xs xs' y e all h = pushes_held rows false xs xs' y e all h
queues_held rows false false xs xs' y e all h = subst (AllHeld rows) (sym e) all

-- as a walk that keeps all
pub pushes_queues : (b : Bool) (xs xs' : List ObjectId) (y : ObjectId) → Pushes b xs xs' y → xs' ≡ cond b xs (cond true (xs ++ y ∷ []) xs)
pushes_queues true xs xs' y e = e
pushes_queues false xs xs' y e = e

-- all is painted if all places are read
pub painted_all : (g : Commits ObjectId) (hidden : List ObjectId) (nodes : List Node) (xs : List ObjectId) (p : ℕ) → KeptAll (λ y. (g y).parents) hidden every (is_hidden nodes) xs p → length xs ≤ p → Paints g hidden nodes
painted_all g hidden nodes xs p w l = go (omega (arith, w.kept.read.within))
  where
    go : p ≡ length xs → Paints g hidden nodes
    go e =
        let v : KeptAll (λ y. (g y).parents) hidden every (is_hidden nodes) xs (length xs) = subst (λ (n : ℕ). KeptAll (λ y. (g y).parents) hidden every (is_hidden nodes) xs n) e w in
        let b = read_all (λ y. (g y).parents) hidden (λ q. IsTrue (every q)) xs v.count v.kept.read v.all (ReachedFrom g hidden) to from in
        λ x. (
          (λ h. (b.list.each x).0 (v.kept.known.met x h refl)),
          (λ r. v.kept.known.listed x ((b.list.each x).1 r)),
        )
      where
        to : (x : ObjectId) → ReachedFrom g hidden x → Reached (λ y. (g y).parents) (λ q. IsTrue (every q)) hidden x
        to x (tip t k) = tip t refl
        to x (parent {x = c} r n k) = parent (to c r) n refl

        from : (x : ObjectId) → Reached (λ y. (g y).parents) (λ q. IsTrue (every q)) hidden x → ReachedFrom g hidden x
        from x (tip t k) = tip t tt
        from x (parent {x = c} r n k) = parent (from c r) n tt

-- a painted commit is reached
pub painted_reached : (g : Commits ObjectId) (hidden : List ObjectId) (nodes : List Node) (xs : List ObjectId) (p k : ℕ) (x : ObjectId) → KeptAll (λ y. (g y).parents) hidden every (is_hidden nodes) xs p → At xs k x → ReachedFrom g hidden x
painted_reached g hidden nodes xs p k x w a = from x (w.kept.read.reached k x a)
  where
    from : (x : ObjectId) → Reached (λ y. (g y).parents) (λ q. IsTrue (every q)) hidden x → ReachedFrom g hidden x
    from x (tip t k) = tip t tt
    from x (parent {x = c} r n k) = parent (from c r) n tt

-- ---- no more are known than there are rows and objects

module _ (rows : List Row) (ids : List Id) where
  all_ids : List ObjectId
  all_ids = map (λ (r : Row). r.id) rows ++ map object_id_of ids

  length-map_any : {A B : Type 0} (f : A → B) (xs : List A) → length (map f xs) ≡ length xs
  length-map_any f [] = refl
  length-map_any f (x ∷ xs) = let e = length-map_any f xs in omega arith

  in_map : {A : Type 0} (f : A → ObjectId) (xs : List A) (k : ℕ) (x : A) → At xs k x → At (map f xs) k (f x)
  in_map f [] k x a = let z : ⊥ = cc in absurd z
  in_map f (y ∷ xs) zero x a = let same : y ≡ x = cc in cc
  in_map f (y ∷ xs) (suc k) x a = in_map f xs k x a

  or_right : (a b : Bool) → b ≡ true → (a || b) ≡ true
  or_right true b e = refl
  or_right false b e = e

  or_left : (a b : Bool) → a ≡ true → (a || b) ≡ true
  or_left a b e = rw e refl

  among : (q : ObjectId) → IsKnown rows ids q → list_any (same_id q) all_ids ≡ true
  unfolding all_ids
  among q h = list_any-append (same_id q) (map (λ (r : Row). r.id) rows) (map object_id_of ids) ∙ elim h [
    | inl (row, c, e) ↦ (let (k, a) = at_from_contains rows row c in
        let b : At (map (λ (r : Row). r.id) rows) k q = subst (λ (x : ObjectId). At (map (λ (r : Row). r.id) rows) k x) e (in_map (λ (r : Row). r.id) rows k row a) in
        or_left (list_any (same_id q) (map (λ (r : Row). r.id) rows)) (list_any (same_id q) (map object_id_of ids)) (any_from_contains same_id same_id_apart (map (λ (r : Row). r.id) rows) q (contains_from_at (map (λ (r : Row). r.id) rows) k q b)))
    | inr c ↦ (let (k, a) = at_from_contains ids (id_of q) c in
        let b : At (map object_id_of ids) k q = subst (λ (x : ObjectId). At (map object_id_of ids) k x) (object_id_of-id_of q) (in_map object_id_of ids k (id_of q) a) in
        or_right (list_any (same_id q) (map (λ (r : Row). r.id) rows)) (list_any (same_id q) (map object_id_of ids)) (any_from_contains same_id same_id_apart (map object_id_of ids) q (contains_from_at (map object_id_of ids) k q b)))
  ]

  pub known_fit : (xs : List ObjectId) → ((j k : ℕ) (x : ObjectId) → At xs j x → At xs k x → j ≡ k) → ((x : ObjectId) → Contains xs x → IsKnown rows ids x) → length xs ≤ length rows + length ids
  unfolding all_ids
  known_fit xs once known =
      let fits : length xs ≤ length all_ids = length-le_from_is_member (equivalence {K = ObjectId} id_of) xs all_ids (distinct_from_once xs once) (λ q e. among q (known q (contains_from_any same_id same_id_apart xs q e))) in
      omega (arith, length-append (map (λ (r : Row). r.id) rows) (map object_id_of ids), length-map_any (λ (r : Row). r.id) rows, length-map_any object_id_of ids)

  -- what is known of a list's first places
  pub known_next : (xs : List ObjectId) (p : ℕ) (y : ObjectId) → ((k : ℕ) (x : ObjectId) → k < p → At xs k x → IsKnown rows ids x) → At xs p y → IsKnown rows ids y → (k : ℕ) (x : ObjectId) → k < p + 1 → At xs k x → IsKnown rows ids x
  known_next xs p y before a h k x l b = elim (three k p) [
    | inl below ↦ before k x below b
    | inr (inl e) ↦ subst (IsKnown rows ids) (at_one xs p y x a (subst (λ (i : ℕ). At xs i x) e b)) h
    | inr (inr above) ↦ absurd (omega arith)
  ]

  -- the places that are read are no more
  pub read_fit : (xs : List ObjectId) (p : ℕ) → ((j k : ℕ) (x : ObjectId) → At xs j x → At xs k x → j ≡ k) → ((k : ℕ) (x : ObjectId) → k < p → At xs k x → IsKnown rows ids x) → p ≤ length xs → p ≤ length rows + length ids
  read_fit xs p once known l =
      let fits = known_fit (take p xs) (λ j k x a b. once j k x (at_from_take xs p j x a).1 (at_from_take xs p k x b).1)
      (λ x c. let (k, a) = at_from_contains (take p xs) x c in let r = at_from_take xs p k x a in known k x r.0 r.1) in
      omega (arith, length-take_all xs p l)
    where
      length-take_all : (xs : List ObjectId) (p : ℕ) → p ≤ length xs → length (take p xs) ≡ p
      length-take_all [] zero l = refl
      length-take_all [] (suc p) l = absurd (omega arith)
      length-take_all (x ∷ xs) zero l = refl
      length-take_all (x ∷ xs) (suc p) l = let r = length-take_all xs p (omega arith) in omega arith

-- ---- a painting goes on

pub from_longer : (xs ys : List ObjectId) (k : ℕ) (x : ObjectId) → k < length xs → ((j : ℕ) (y : ObjectId) → At xs j y → At ys j y) → At ys k x → At xs k x
from_longer xs ys k x l more a =
    let here = slice_get-get_or xs k x l in
    let same : get_or xs k x ≡ x = at_one ys k (get_or xs k x) x (more k (get_or xs k x) here) a in
    subst (λ (z : ObjectId). At xs k z) same here

pub known_longer : (rows : List Row) (ids : List Id) (xs ys : List ObjectId) (p : ℕ) (y : ObjectId) → p < length xs → ((j : ℕ) (z : ObjectId) → At xs j z → At ys j z) → ((k : ℕ) (x : ObjectId) → k < p → At xs k x → IsKnown rows ids x) → At xs p y → IsKnown rows ids y → (k : ℕ) (x : ObjectId) → k < p + 1 → At ys k x → IsKnown rows ids x
known_longer rows ids xs ys p y l more before a h = known_next rows ids ys p y (λ k x lt b. before k x lt (from_longer xs ys k x (omega arith) more b)) (more p y a) h

pub paint_fault : (honest may_fail : Type 0) (rows : List Row) (table : Table) (hidden : List ObjectId) (id : ObjectId) (error : FetchError) → FetchFault honest may_fail rows table id error → (honest → (g : Commits ObjectId) → AreTold rows table g → ReachedFrom g hidden id) → PaintFault honest may_fail rows table hidden error
paint_fault honest may_fail rows table hidden id (fault.Find error) f r = (id, f, r)
paint_fault honest may_fail rows table hidden id (fault.ObjectDecode error) f r = (id, f, r)
paint_fault honest may_fail rows table hidden id fault.Memory f r = tt

pub shorter : (n a b : ℕ) → b ≤ n → b ≡ a + 1 → n - b < n - a
shorter n a b l e = omega arith
