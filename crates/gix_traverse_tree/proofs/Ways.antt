-- The way up from a queued tree.
use Rattle.std.proofs.Common.{◌≡◌, ◌∙◌, sym, ap, subst, ℕ, zero, suc, ◌+◌, ◌<◌, ◌≤◌, Bool, true, false, List, [], ◌∷◌, ◌++◌, length, Option, Some, None, slice_get, map, refl, arith}
use Rattle.std.specs.Prelude.{IfSome, Contains, ◌||◌}
use Rattle.std.specs.List.{list_any, AllByRecursion}
use Rattle.std.proofs.lemmas.Option.{slice_get-get_or}
use Rattle.std.proofs.lemmas.Map.Keys.{IsDistinct-cons}
use Rattle.std.proofs.lemmas.Map.Made.{length-le_from_is_member}
use Rattle.gix_hash.specs.Id.{Id, id_of}
use Rattle.gix_hash.specs.Order.{id_eq}
use Rattle.gix_hash.specs.OrderLaws.{id_equivalence, id_eq-itself, id_eq-same}
use Rattle.gix_hash.specs.declared.object_id.ObjectId.{ObjectId}
use Rattle.gix_traverse_tree.specs.Breadth.{Tree, under}
use Rattle.gix_traverse_tree.specs.Nodes.{IsLinked, IsWayUp, StandsAt, StandFrom, node_under, IsUnderSome, AreUnderSome}
use Rattle.gix_traverse_tree.specs.Trees.{is_among}
use Rattle.gix_traverse_tree.specs.declared.breadthfirst.Node.{Node}

pub way_step : (nodes : List Node) (n : ℕ) (node : Node) (ids : List Id) → slice_get nodes n ≡ Some node → IsWayUp nodes (Some n) ids → (rest : List Id) × (ids ≡ id_of node.id ∷ rest) × IsWayUp nodes node.above rest
way_step nodes n node [] at e = let z : ⊥ = cc in absurd z
way_step nodes n node (id ∷ ids) at (m, other, e, there, is, more) =
    let same : other ≡ node = cc in
    (ids, ap (λ (x : Id). x ∷ ids) (sym is ∙ ap (λ (w : Node). id_of w.id) same), subst (λ (w : Node). IsWayUp nodes w.above ids) same more)

pub at_more : {A : Type 0} (xs ys : List A) (k : ℕ) (x : A) → slice_get xs k ≡ Some x → slice_get (xs ++ ys) k ≡ Some x
at_more [] ys k x a = let z : ⊥ = cc in absurd z
at_more (w ∷ xs) ys zero x a = a
at_more (w ∷ xs) ys (suc k) x a = at_more xs ys k x a

pub at_length : {A : Type 0} (xs : List A) (y : A) (ys : List A) → slice_get (xs ++ y ∷ ys) (length xs) ≡ Some y
at_length [] y ys = refl
at_length (x ∷ xs) y ys = at_length xs y ys

pub way_more : (nodes more : List Node) (link : Option ℕ) (ids : List Id) → IsWayUp nodes link ids → IsWayUp (nodes ++ more) link ids
way_more nodes more link [] e = e
way_more nodes more link (id ∷ ids) (n, node, e, at, is, up) = (n, node, e, at_more nodes more n node at, is, way_more nodes more node.above ids up)

pub stands_more : (nodes more : List Node) (n : ℕ) (tree : Tree) → StandsAt nodes n tree → StandsAt (nodes ++ more) n tree
stands_more nodes more n tree (node, at, is, up) = (node, at_more nodes more n node at, is, way_more nodes more node.above tree.above up)

pub stand_more : (nodes more : List Node) (n : ℕ) (trees : List Tree) → StandFrom nodes n trees → StandFrom (nodes ++ more) n trees
stand_more nodes more n [] s = tt
stand_more nodes more n (t ∷ ts) s = (stands_more nodes more n t s.0, stand_more nodes more (suc n) ts s.1)

pub stand_append : (nodes : List Node) (n : ℕ) (xs ys : List Tree) → StandFrom nodes n xs → StandFrom nodes (n + length xs) ys → StandFrom nodes n (xs ++ ys)
stand_append nodes n [] ys a b = let e : n + 0 ≡ n = omega arith in subst (λ (k : ℕ). StandFrom nodes k ys) e b
stand_append nodes n (x ∷ xs) ys a b =
    let e : n + suc (length xs) ≡ suc n + length xs = omega arith in
    (a.0, stand_append nodes (suc n) xs ys a.1 (subst (λ (k : ℕ). StandFrom nodes k ys) e b))

append_assoc_one : {A : Type 0} (xs : List A) (y : A) (ys : List A) → (xs ++ y ∷ []) ++ ys ≡ xs ++ y ∷ ys
append_assoc_one [] y ys = refl
append_assoc_one (x ∷ xs) y ys = ap (λ (zs : List _). x ∷ zs) (append_assoc_one xs y ys)

length_one : {A : Type 0} (xs : List A) (y : A) → length (xs ++ y ∷ []) ≡ suc (length xs)
length_one [] y = refl
length_one (x ∷ xs) y = ap suc (length_one xs y)

-- trees put after the others are where these ended, under the tree
pub stand_added : (nodes : List Node) (number : ℕ) (tree : Tree) (added : List ObjectId) → IsWayUp nodes (Some number) (tree.id ∷ tree.above) → StandFrom (nodes ++ map (node_under (Some number)) added) (length nodes) (map (under tree) (map id_of added))
stand_added nodes number tree [] way = tt
stand_added nodes number tree (x ∷ added) way =
    let node = node_under (Some number) x in
    let later = stand_added (nodes ++ node ∷ []) number tree added (way_more nodes (node ∷ []) (Some number) (tree.id ∷ tree.above) way) in
    let e = append_assoc_one nodes node (map (node_under (Some number)) added) in
    let moved = subst (λ (ns : List Node). StandFrom ns (length (nodes ++ node ∷ [])) (map (under tree) (map id_of added))) e later in (
      (node, at_length nodes node (map (node_under (Some number)) added), refl, way_more nodes (node ∷ map (node_under (Some number)) added) (Some number) (tree.id ∷ tree.above) way),
      subst (λ (k : ℕ). StandFrom (nodes ++ node ∷ map (node_under (Some number)) added) k (map (under tree) (map id_of added))) (length_one nodes node) moved,
    )

-- without a tree above
pub stand_first : (nodes : List Node) (added : List ObjectId) (tree_of : Id → Tree) → ((id : Id) → ((tree_of id).id ≡ id) × ((tree_of id).above ≡ [])) → StandFrom (nodes ++ map (node_under None) added) (length nodes) (map tree_of (map id_of added))
stand_first nodes [] tree_of h = tt
stand_first nodes (x ∷ added) tree_of h =
    let node = node_under None x in
    let later = stand_first (nodes ++ node ∷ []) added tree_of h in
    let e = append_assoc_one nodes node (map (node_under None) added) in
    let moved = subst (λ (ns : List Node). StandFrom ns (length (nodes ++ node ∷ [])) (map tree_of (map id_of added))) e later in
    let all = nodes ++ node ∷ map (node_under None) added in (
      (node, at_length nodes node (map (node_under None) added), sym (h (id_of x)).0, subst (λ (ids : List Id). IsWayUp all None ids) (sym (h (id_of x)).1) refl),
      subst (λ (k : ℕ). StandFrom all k (map tree_of (map id_of added))) (length_one nodes node) moved,
    )

at_cases : {A : Type 0} (xs ys : List A) (k : ℕ) (y : A) (P : A → Type 0) → slice_get (xs ++ ys) k ≡ Some y → (slice_get xs k ≡ Some y → P y) → ((j : ℕ) → k ≡ length xs + j → slice_get ys j ≡ Some y → P y) → P y
at_cases [] ys k y P a left right = right k (omega arith) a
at_cases (x ∷ xs) ys zero y P a left right = left a
at_cases (x ∷ xs) ys (suc k) y P a left right = at_cases xs ys k y P a left (λ j e b. right j (omega (arith, e)) b)

at_map : {A B : Type 0} (f : A → B) (xs : List A) (k : ℕ) (y : B) → slice_get (map f xs) k ≡ Some y → (x : A) × (f x ≡ y)
at_map f [] k y a = let z : ⊥ = cc in absurd z
at_map f (x ∷ xs) zero y a = (x, cc)
at_map f (x ∷ xs) (suc k) y a = at_map f xs k y a

pub linked_more : (nodes : List Node) (above : Option ℕ) (added : List ObjectId) → IsLinked nodes → IfSome above (λ m. m < length nodes) → IsLinked (nodes ++ map (node_under above) added)
linked_more nodes above added linked within n node at =
    at_cases nodes (map (node_under above) added) n node (λ (w : Node). IfSome w.above (λ m. m < n)) at
    (λ a. linked n node a)
    (λ j e a.
    let (x, is) = at_map (node_under above) added j node a in
    subst (λ (w : Node). IfSome w.above (λ m. m < n)) is (below above within j e))
  where
    below : (o : Option ℕ) → IfSome o (λ m. m < length nodes) → (j : ℕ) → n ≡ length nodes + j → IfSome o (λ m. m < n)
    below None h j e = tt
    below (Some m) h j e = omega (arith, h, e)

-- ---- how deep a tree lies

pub none_equal : (id : Id) (ids : List Id) → is_among id ids ≡ false → AllByRecursion (λ y. id_eq id y ≡ false) ids
none_equal id [] e = tt
none_equal id (x ∷ ids) e = cut (none_equal id ids) (id_eq id x) refl
  where
    cut : (is_among id ids ≡ false → AllByRecursion (λ y. id_eq id y ≡ false) ids) → (b : Bool) → id_eq id x ≡ b → AllByRecursion (λ y. id_eq id y ≡ false) (x ∷ ids)
    cut later true f = let g : (true || list_any (id_eq id) ids) ≡ false = ap (λ (b : Bool). b || list_any (id_eq id) ids) (sym f) ∙ e in let z : ⊥ = cc in absurd z
    cut later false f = (f, later (let g : (false || list_any (id_eq id) ids) ≡ false = ap (λ (b : Bool). b || list_any (id_eq id) ids) (sym f) ∙ e in g))

-- one more id of the store's
pub stored_more : (ids : List Id) (id : Id) (above : List Id) → is_among id ids ≡ true → ((x : Id) → is_among x above ≡ true → is_among x ids ≡ true) → (x : Id) → is_among x (id ∷ above) ≡ true → is_among x ids ≡ true
stored_more ids id above stored all x e = split (id_eq x id) refl
  where
    split : (b : Bool) → id_eq x id ≡ b → is_among x ids ≡ true
    split true f = subst (λ (y : Id). is_among y ids ≡ true) (sym (id_eq-same x id f)) stored
    split false f = all x (let g : (false || list_any (id_eq x) above) ≡ true = ap (λ (b : Bool). b || list_any (id_eq x) above) (sym f) ∙ e in g)

pub under_more : (ids : List Id) (depth : ℕ) (tree : Tree) (id : Id) → is_among tree.id tree.above ≡ false → is_among tree.id ids ≡ true → IsUnderSome ids depth tree → IsUnderSome ids (suc depth) (under tree id)
under_more ids depth tree id alone stored is = record {
  deep = ap suc is.deep;
  distinct = IsDistinct-cons id_eq tree.id tree.above (none_equal tree.id tree.above alone) is.distinct;
  stored = stored_more ids tree.id tree.above stored is.stored;
}

pub all_under : (ids : List Id) (depth : ℕ) (tree : Tree) (below : List Id) → is_among tree.id tree.above ≡ false → is_among tree.id ids ≡ true → IsUnderSome ids depth tree → AreUnderSome ids (suc depth) (map (under tree) below)
all_under ids depth tree [] alone stored is = tt
all_under ids depth tree (x ∷ below) alone stored is = (under_more ids depth tree x alone stored is, all_under ids depth tree below alone stored is)

pub under_append : (ids : List Id) (depth : ℕ) (xs ys : List Tree) → AreUnderSome ids depth xs → AreUnderSome ids depth ys → AreUnderSome ids depth (xs ++ ys)
under_append ids depth [] ys a b = b
under_append ids depth (x ∷ xs) ys a b = (a.0, under_append ids depth xs ys a.1 b)

pub deep_within : (ids : List Id) (depth : ℕ) (tree : Tree) → IsUnderSome ids depth tree → depth ≤ length ids
deep_within ids depth tree is =
    let e = length-le_from_is_member id_equivalence tree.above ids is.distinct is.stored in
    omega (arith, e, is.deep)

or_true : (b : Bool) → (b || true) ≡ true
or_true true = refl
or_true false = refl

among_at : (ids : List Id) (k : ℕ) (id : Id) → slice_get ids k ≡ Some id → is_among id ids ≡ true
among_at [] k id a = let z : ⊥ = cc in absurd z
among_at (x ∷ ids) zero id a = let e : x ≡ id = cc in rw e (rw (id_eq-itself id) refl)
among_at (x ∷ ids) (suc k) id a = let r = among_at ids k id a in rw r (or_true (id_eq id x))

pub among_from_contains : (ids : List Id) (id : Id) → Contains ids id → is_among id ids ≡ true
among_from_contains ids id (k, l, e) = among_at ids k id (slice_get-get_or ids k id l ∙ ap Some e)

pub some_below : (o : Option ℕ) (n k : ℕ) → IfSome o (λ m. m < n) → n ≤ k → IfSome o (λ m. m < k)
some_below None n k h l = tt
some_below (Some m) n k h l = omega arith

-- the node at a tree's number has its id and its way up
pub stand_is : (nodes : List Node) (n : ℕ) (node : Node) (tree : Tree) → slice_get nodes n ≡ Some node → StandsAt nodes n tree → (id_of node.id ≡ tree.id) × IsWayUp nodes node.above tree.above
stand_is nodes n node tree at (other, there, is, way) =
    let same : other ≡ node = cc in
    subst (λ (w : Node). (id_of w.id ≡ tree.id) × IsWayUp nodes w.above tree.above) same (is, way)

pub among_first : (id other : Id) (ids : List Id) → id_eq id other ≡ true → is_among id (other ∷ ids) ≡ true
among_first id other ids e = ap (λ (b : Bool). b || list_any (id_eq id) ids) e

pub among_later : (id other : Id) (ids : List Id) → id_eq id other ≡ false → is_among id (other ∷ ids) ≡ is_among id ids
among_later id other ids e = ap (λ (b : Bool). b || list_any (id_eq id) ids) e
