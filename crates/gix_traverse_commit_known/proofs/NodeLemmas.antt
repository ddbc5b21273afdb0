-- Nodes and their numbers.
use Rattle.std.proofs.Common.{◌≡◌, ℕ, zero, suc, ◌+◌, add-one, take, List, [], ◌∷◌, ◌++◌, length, refl, sym, ◌∙◌, ap, subst, arith, Some, None, Option, Bool, true, false, cond, set}
use Rattle.std.specs.Prelude.{Contains, find}
use Rattle.std.specs.List.{list_any}
use Rattle.gix_hash.specs.declared.object_id.ObjectId.{ObjectId}
use Rattle.gix_traverse_graph.specs.Order.{At}
use Rattle.gix_traverse_graph.specs.Numbered.{same_id}
use Rattle.gix_traverse_commit_known.specs.Nodes.{AreNumbered, Node, has, ids_of, is_hidden, flags_in, flags_of, no_flags, nodes_in}
use Rattle.gix_traverse_commit_known.specs.declared.nodes.WalkFlags.{WalkFlags}
use Rattle.gix_traverse_graph.proofs.Ids.{same_from_test, same_id_apart, test_from_same}
use Rattle.gix_traverse_graph.proofs.Lists.{at_from_contains, at_one, contains_from_at, none_at_nil, once_push}
use Rattle.gix_traverse_commit_known.proofs.Simply.{take_push}
use Rattle.gix_traverse_graph.proofs.Slow.{any_from_contains, contains_from_any}
use Rattle.gix_traverse_commit_known.specs.declared.nodes.TheConstants.WalkFlags.{UNINTERESTING}

abbrev pub node : ObjectId → WalkFlags → Node
node id flags = record { id = id; flags = flags }

pub not_among : (ids : List ObjectId) (n : ℕ) (x : ObjectId) → list_any (same_id x) ids ≡ false → At ids n x → ⊥
not_among ids n x e a = let t = any_from_contains same_id same_id_apart ids x (contains_from_at ids n x a) in let z : ⊥ = cc in z

pub find_passes : {I : Type 0} (p : I → Bool) (xs : List I) (y : I) → find p xs ≡ Some y → p y ≡ true
find_passes p [] y e = let z : ⊥ = cc in absurd z
find_passes {I} p (x ∷ xs) y e = go (p x) refl (find_passes p xs y)
  where
    go : (b : Bool) → p x ≡ b → (find p xs ≡ Some y → p y ≡ true) → p y ≡ true
    go true f r = let g : Some x ≡ Some y = rw f at e in let same : x ≡ y = cc in ap p (sym same) ∙ f
    go false f r = let g : find p xs ≡ Some y = rw f at e in r g

-- no flag is set
pub unmarked : (m : WalkFlags) → m.0 ≡ 0 → m ≡ no_flags
unmarked m e = ap (λ (n : ℕ). record { 0 = n }) e

-- ---- finding

-- the first that passes, if only one can
pub find_one : (p : Node → Bool) (xs : List Node) (x : Node) (k : ℕ) → At xs k x → p x ≡ true → ((y : Node) (j : ℕ) → At xs j y → p y ≡ true → y ≡ x) → find p xs ≡ Some x
find_one p [] x k a h only = absurd (none_at_nil k x a)
find_one p (w ∷ xs) x k a h only = here (p w) refl k a (λ j b. find_one p xs x j b h (λ s i c. only s (suc i) c))
  where
    here : (b : Bool) → p w ≡ b → (k : ℕ) → At (w ∷ xs) k x → ((j : ℕ) → At xs j x → find p xs ≡ Some x) → find p (w ∷ xs) ≡ Some x
    here true e k a next = rw e (ap Some (only w 0 refl e))
    here false e zero a next =
        let same : w ≡ x = cc in
        let f : p w ≡ true = subst (λ (r : Node). p r ≡ true) (sym same) h in
        let z : ⊥ = cc in absurd z
    here false e (suc k) a next = rw e (next k a)

pub find_none : (p : Node → Bool) (xs : List Node) → ((y : Node) (j : ℕ) → At xs j y → p y ≡ true → ⊥) → find p xs ≡ None
find_none p [] h = refl
find_none p (w ∷ xs) h = go (p w) refl (find_none p xs (λ y j a t. h y (suc j) a t))
  where
    go : (b : Bool) → p w ≡ b → find p xs ≡ None → find p (w ∷ xs) ≡ None
    go true e next = absurd (h w 0 refl e)
    go false e next = rw e next

-- a node is where its id and its flags are
pub at_nodes : (ids : List ObjectId) (ms : List WalkFlags) (k : ℕ) (x : ObjectId) (m : WalkFlags) → At ids k x → At ms k m → At (nodes_in ids ms) k (node x m)
at_nodes [] ms k x m a b = absurd (none_at_nil k x a)
at_nodes (i ∷ ids) [] k x m a b = absurd (none_at_nil k m b)
at_nodes (i ∷ ids) (n ∷ ms) zero x m a b = let e : i ≡ x = cc in let f : n ≡ m = cc in ap (λ (z : ObjectId). Some (node z n)) e ∙ ap (λ (z : WalkFlags). Some (node x z)) f
at_nodes (i ∷ ids) (n ∷ ms) (suc k) x m a b = at_nodes ids ms k x m a b

pub id_from_node : (ids : List ObjectId) (ms : List WalkFlags) (k : ℕ) (r : Node) → At (nodes_in ids ms) k r → At ids k r.id
id_from_node [] ms k r a = absurd (none_at_nil k r a)
id_from_node (i ∷ ids) [] k r a = absurd (none_at_nil k r a)
id_from_node (i ∷ ids) (n ∷ ms) zero r a = let e : node i n ≡ r = cc in ap (λ (z : Node). Some z.id) e
id_from_node (i ∷ ids) (n ∷ ms) (suc k) r a = id_from_node ids ms k r a

-- the flags of a commit are at its number
pub flags_at : (ids : List ObjectId) (ms : List WalkFlags) → AreNumbered ids ms → (k : ℕ) (x : ObjectId) (m : WalkFlags) → At ids k x → At ms k m → flags_of (nodes_in ids ms) x ≡ m
flags_at ids ms w k x m a b = ap flags_in (find_one (λ (r : Node). same_id x r.id) (nodes_in ids ms) (node x m) k here (test_from_same x x refl) only)
  where
    here : At (nodes_in ids ms) k (node x m)
    here = at_nodes ids ms k x m a b

    only : (y : Node) (j : ℕ) → At (nodes_in ids ms) j y → same_id x y.id ≡ true → y ≡ node x m
    only y j c t =
        let there : At ids j x = subst (λ (z : ObjectId). At ids j z) (sym (same_from_test x y.id t)) (id_from_node ids ms j y c) in
        let e : j ≡ k = w.once j k x there a in
        at_one (nodes_in ids ms) k y (node x m) (subst (λ (i : ℕ). At (nodes_in ids ms) i y) e c) here

pub flags_none : (ids : List ObjectId) (ms : List WalkFlags) (x : ObjectId) → ((n : ℕ) → At ids n x → ⊥) → flags_of (nodes_in ids ms) x ≡ no_flags
flags_none ids ms x none = ap flags_in (find_none (λ (r : Node). same_id x r.id) (nodes_in ids ms) (λ y j a t. none j (subst (λ (z : ObjectId). At ids j z) (sym (same_from_test x y.id t)) (id_from_node ids ms j y a))))

-- ---- flags are written

length_set : (ms : List WalkFlags) (k : ℕ) (m : WalkFlags) → length (set ms k m) ≡ length ms
length_set [] k m = refl
length_set (n ∷ ms) zero m = refl
length_set (n ∷ ms) (suc k) m = ap suc (length_set ms k m)

at_set : (ms : List WalkFlags) (k : ℕ) (n m : WalkFlags) → At ms k n → At (set ms k m) k m
at_set [] k n m a = absurd (none_at_nil k n a)
at_set (w ∷ ms) zero n m a = refl
at_set (w ∷ ms) (suc k) n m a = at_set ms k n m a

pub numbered_set : (ids : List ObjectId) (ms : List WalkFlags) → AreNumbered ids ms → (k : ℕ) (m : WalkFlags) → AreNumbered ids (set ms k m)
numbered_set ids ms w k m = record { once = w.once; as_many = length_set ms k m ∙ w.as_many }

flags_other : (ids : List ObjectId) (ms : List WalkFlags) (k : ℕ) (x q : ObjectId) (m : WalkFlags) → At ids k x → same_id q x ≡ false → flags_of (nodes_in ids (set ms k m)) q ≡ flags_of (nodes_in ids ms) q
flags_other [] ms k x q m a f = refl
flags_other (i ∷ ids) [] k x q m a f = refl
flags_other (i ∷ ids) (n ∷ ms) zero x q m a f =
    let e : i ≡ x = cc in
    go (same_id q i) (subst (λ (z : ObjectId). same_id q z ≡ false) (sym e) f)
  where
    go : (b : Bool) → b ≡ false → flags_in (cond b (Some (node i m)) (find (λ (r : Node). same_id q r.id) (nodes_in ids ms))) ≡ flags_in (cond b (Some (node i n)) (find (λ (r : Node). same_id q r.id) (nodes_in ids ms)))
    go false g = refl
    go true g = let z : ⊥ = cc in absurd z
flags_other (i ∷ ids) (n ∷ ms) (suc k) x q m a f = go (same_id q i) (flags_other ids ms k x q m a f)
  where
    go : (b : Bool) → flags_of (nodes_in ids (set ms k m)) q ≡ flags_of (nodes_in ids ms) q → flags_in (cond b (Some (node i n)) (find (λ (r : Node). same_id q r.id) (nodes_in ids (set ms k m)))) ≡ flags_in (cond b (Some (node i n)) (find (λ (r : Node). same_id q r.id) (nodes_in ids ms)))
    go true e = refl
    go false e = e

pub flags_set : (ids : List ObjectId) (ms : List WalkFlags) → AreNumbered ids ms → (k : ℕ) (x : ObjectId) (n m : WalkFlags) → At ids k x → At ms k n → (q : ObjectId) → flags_of (nodes_in ids (set ms k m)) q ≡ cond (same_id x q) m (flags_of (nodes_in ids ms) q)
flags_set ids ms w k x n m a b q = go (same_id x q) refl
  where
    other : same_id x q ≡ false → (b : Bool) → same_id q x ≡ b → same_id q x ≡ false
    other f false g = g
    other f true g = let h = test_from_same x q (sym (same_from_test q x g)) in let z : ⊥ = cc in absurd z

    go : (b : Bool) → same_id x q ≡ b → flags_of (nodes_in ids (set ms k m)) q ≡ cond b m (flags_of (nodes_in ids ms) q)
    go true t = flags_at ids (set ms k m) (numbered_set ids ms w k m) k q m (subst (λ (z : ObjectId). At ids k z) (same_from_test x q t) a) (at_set ms k n m b)
    go false t = flags_other ids ms k x q m a (other t (same_id q x) refl)

-- ---- one more node

length_push : {A : Type 0} (xs : List A) (x : A) → length (xs ++ x ∷ []) ≡ suc (length xs)
length_push [] x = refl
length_push (y ∷ xs) x = ap suc (length_push xs x)

pub numbered_push : (ids : List ObjectId) (ms : List WalkFlags) (x : ObjectId) (m : WalkFlags) → AreNumbered ids ms → ((n : ℕ) → At ids n x → ⊥) → AreNumbered (ids ++ x ∷ []) (ms ++ m ∷ [])
numbered_push ids ms x m w none = record {
  once = once_push ids x w.once (λ c. let (n, a) = at_from_contains ids x c in none n a);
  as_many = length_push ms m ∙ ap suc w.as_many ∙ sym (length_push ids x);
}

pub flags_push : (ids : List ObjectId) (ms : List WalkFlags) (x : ObjectId) (m : WalkFlags) → length ms ≡ length ids → ((n : ℕ) → At ids n x → ⊥) → (q : ObjectId) → flags_of (nodes_in (ids ++ x ∷ []) (ms ++ m ∷ [])) q ≡ cond (same_id x q) m (flags_of (nodes_in ids ms) q)
flags_push [] [] x m e none q = go (same_id q x) refl (same_id x q) refl
  where
    go : (b : Bool) → same_id q x ≡ b → (d : Bool) → same_id x q ≡ d → flags_in (cond b (Some (node x m)) None) ≡ cond d m no_flags
    go true f true g = refl
    go false f false g = refl
    go true f false g = let h = test_from_same x q (sym (same_from_test q x f)) in let z : ⊥ = cc in absurd z
    go false f true g = let h = test_from_same q x (sym (same_from_test x q g)) in let z : ⊥ = cc in absurd z
flags_push [] (n ∷ ms) x m e none q = let z : ⊥ = cc in absurd z
flags_push (i ∷ ids) [] x m e none q = let z : ⊥ = cc in absurd z
flags_push (i ∷ ids) (n ∷ ms) x m e none q = go (same_id q i) refl (flags_push ids ms x m (let f : suc (length ms) ≡ suc (length ids) = e in omega arith) (λ k a. none (suc k) a) q)
  where
    tail : Option Node
    tail = find (λ (r : Node). same_id q r.id) (nodes_in ids ms)

    tail' : Option Node
    tail' = find (λ (r : Node). same_id q r.id) (nodes_in (ids ++ x ∷ []) (ms ++ m ∷ []))

    not_x : same_id q i ≡ true → (d : Bool) → same_id x q ≡ d → n ≡ cond d m n
    not_x f false g = refl
    not_x f true g =
        let same : i ≡ x = sym (same_from_test q i f) ∙ sym (same_from_test x q g) in
        absurd (none 0 (ap Some same))

    go : (b : Bool) → same_id q i ≡ b → flags_in tail' ≡ cond (same_id x q) m (flags_in tail) → flags_in (cond b (Some (node i n)) tail') ≡ cond (same_id x q) m (flags_in (cond b (Some (node i n)) tail))
    go true f h = not_x f (same_id x q) refl
    go false f h = h

-- one more id, that wasn't there
pub keys_push : (ids ids' : List ObjectId) (x : ObjectId) → ids' ≡ cond (list_any (same_id x) ids) ids (ids ++ x ∷ []) → ((n : ℕ) → At ids n x → ⊥) → ids' ≡ ids ++ x ∷ []
keys_push ids ids' x e none = go (list_any (same_id x) ids) refl
  where
    go : (b : Bool) → list_any (same_id x) ids ≡ b → ids' ≡ ids ++ x ∷ []
    go false f = rw f at e
    go true f = let (n, a) = at_from_contains ids x (contains_from_any same_id same_id_apart ids x f) in absurd (none n a)

-- of a list so many are taken, and then the next
pub taken_more : (ids xs xs' : List ObjectId) (x : ObjectId) → xs ≡ take (length xs) ids → At ids (length xs) x → xs' ≡ xs ++ x ∷ [] → xs' ≡ take (length xs') ids
taken_more ids xs xs' x e a new =
    let more : length xs' ≡ length xs + 1 = ap length new ∙ length_push xs x ∙ sym (add-one (length xs)) in
    new ∙ ap (λ (zs : List ObjectId). zs ++ x ∷ []) e ∙ sym (take_push ids (length xs) x a) ∙ ap (λ (n : ℕ). take n ids) (sym more)

-- the ids of nodes are those that they were made of
pub ids_again : (ids : List ObjectId) (ms : List WalkFlags) → length ms ≡ length ids → ids ≡ ids_of (nodes_in ids ms)
ids_again [] ms e = refl
ids_again (i ∷ ids) [] e = let z : ⊥ = cc in absurd z
ids_again (i ∷ ids) (n ∷ ms) e = ap (λ (xs : List ObjectId). i ∷ xs) (ids_again ids ms (let f : suc (length ms) ≡ suc (length ids) = e in omega arith))

-- what is hidden has a node
pub hidden_among : (nodes : List Node) (q : ObjectId) → is_hidden nodes q ≡ true → Contains (ids_of nodes) q
hidden_among [] q h = let z : ⊥ = cc in absurd z
hidden_among (n ∷ nodes) q h = go (same_id q n.id) refl h (hidden_among nodes q)
  where
    go : (b : Bool) → same_id q n.id ≡ b → has (flags_in (cond b (Some n) (find (λ (r : Node). same_id q r.id) nodes))) UNINTERESTING ≡ true → (is_hidden nodes q ≡ true → Contains (ids_of nodes) q) → Contains (n.id ∷ ids_of nodes) q
    go true f g next = contains_from_at (n.id ∷ ids_of nodes) 0 q (ap Some (sym (same_from_test q n.id f)))
    go false f g next =
        let (k, a) = at_from_contains (ids_of nodes) q (next g) in
        contains_from_at (n.id ∷ ids_of nodes) (suc k) q a

-- if a commit has a node, no id is added
pub stays : (ids : List ObjectId) (n : ℕ) (x : ObjectId) → At ids n x → ids ≡ cond (list_any (same_id x) ids) ids (ids ++ x ∷ [])
stays ids n x a = sym (ap (λ b. cond b ids (ids ++ x ∷ [])) (any_from_contains same_id same_id_apart ids x (contains_from_at ids n x a)))
