-- What a change of one commit's count leaves.
use Rattle.std.proofs.Common.{◌≡◌, ℕ, zero, suc, ◌+◌, ◌-◌, ◌<◌, ◌≤◌, inl, inr, List, [], ◌∷◌, ◌++◌, length, take, drop, refl, sym, ◌∙◌, ap, subst, arith, Some, None, slice_get, Option, Bool, true, false, get_or, set, Result, Ok, Err, length-append}
use Rattle.std.specs.Prelude.{Contains, IsPermutation, OnOk, IfSome, is_some, SomeIff}
use Rattle.std.specs.Option.{option_copied}
use Rattle.std.specs.Borrow.{Bor}
use Rattle.std.proofs.lemmas.Bool.Decides.{nat_tests}
use Rattle.gix_traverse_topo.specs.declared.known.Number.{Number}
use Rattle.std.specs.BinaryHeap.{heap_items, IsHeap}
use Rattle.std.specs.declared.collections.BinaryHeap.{BinaryHeap}
use Rattle.std.proofs.Common.{Global, ltb, eqb, ◌^◌}
use Rattle.std.proofs.lemmas.Bool.{ltb-true}
use Rattle.std.proofs.lemmas.List.Elements.{Contains-push_cases, Contains-append_left, Contains-push}
use Rattle.std.proofs.lemmas.List.Sorted.{IsPermutation-to_front, IsPermutation-trans, length_permutation}
use Rattle.std.proofs.lemmas.Option.{slice_get_within, slice_get-get_or}
use Rattle.gix_hash.specs.declared.object_id.ObjectId.{ObjectId}
use Rattle.gix_traverse_graph.specs.Order.{At}
use Rattle.gix_traverse_graph.proofs.Lists.{at_from_contains, contains_from_at, none_at_nil, at_from_push, three}
use Rattle.gix_traverse_commit_known.specs.declared.nodes.WalkFlags.{WalkFlags}
use Rattle.gix_traverse_topo.specs.Nodes.{all_facts, counts}
use Rattle.gix_traverse_topo.specs.Standing.{CountsOff, counted, freed}
use Rattle.gix_traverse_topo.specs.Turns.{total}
use Rattle.gix_traverse_topo.specs.Waiting.{waiting, Joined, Popped, IsFree, pending_cmp}
use Rattle.gix_traverse_topo.specs.declared.known.Node.{Node}
use Rattle.gix_traverse_topo.specs.declared.known.Facts.{Facts}
use Rattle.gix_traverse_topo.specs.declared.ready.Pending.{Pending}
use Rattle.gix_traverse_topo.specs.declared.ready.Ready.{Ready}
use Rattle.gix_traverse_topo.specs.declared.ready.Ready.TheVariants.{ByDate, Topological}
use Rattle.gix_traverse_topo.proofs.Counting.{at_set_away, at_set_here, at_set_other, total_set}
use Rattle.gix_traverse_topo.proofs.Meeting.{at_map, from_map, length_map}

-- a changed count leaves what was read
pub set_facts : (nodes : List Node) (n k : ℕ) (node : Node) → node ≡ get_or nodes n node → all_facts (set nodes n (record { facts = node.facts; names = k; flags = node.flags })) ≡ all_facts nodes
set_facts [] n k node e = refl
set_facts (x ∷ xs) zero k node e = ap (λ (v : Node). v.facts ∷ all_facts xs) e
set_facts (x ∷ xs) (suc n) k node e = ap (λ (zs : List Facts). x.facts ∷ zs) (set_facts xs n k node e)

pub set_counts : (nodes : List Node) (n k : ℕ) (r : Facts) (f : WalkFlags) → counts (set nodes n (record { facts = r; names = k; flags = f })) ≡ set (counts nodes) n k
set_counts [] n k r f = refl
set_counts (x ∷ xs) zero k r f = refl
set_counts (x ∷ xs) (suc n) k r f = ap (λ (zs : List ℕ). x.names ∷ zs) (set_counts xs n k r f)

-- changed facts leave the counts
pub same_counts : (nodes : List Node) (n : ℕ) (r : Facts) (node : Node) → node ≡ get_or nodes n node → counts (set nodes n (record { facts = r; names = node.names; flags = node.flags })) ≡ counts nodes
same_counts [] n r node e = refl
same_counts (x ∷ xs) zero r node e = ap (λ (v : Node). v.names ∷ counts xs) e
same_counts (x ∷ xs) (suc n) r node e = ap (λ (zs : List ℕ). x.names ∷ zs) (same_counts xs n r node e)

pub other_facts : (nodes : List Node) (n : ℕ) (v : Node) (k : ℕ) (r : Facts) → (k ≡ n → ⊥) → At (all_facts (set nodes n v)) k r → At (all_facts nodes) k r
other_facts nodes n v k r d a =
    let (node, b, e) = from_map (λ (x : Node). x.facts) (set nodes n v) k r a in
    subst (λ (z : Facts). At (all_facts nodes) k z) e (at_map (λ (x : Node). x.facts) nodes k node (at_set_other nodes n k v node d b))

pub all_facts_put : (nodes : List Node) (n : ℕ) (v : Node) (k : ℕ) (r : Facts) → (k ≡ n → ⊥) → At (all_facts nodes) k r → At (all_facts (set nodes n v)) k r
all_facts_put nodes n v k r d a =
    let (node, b, e) = from_map (λ (x : Node). x.facts) nodes k r a in
    subst (λ (z : Facts). At (all_facts (set nodes n v)) k z) e (at_map (λ (x : Node). x.facts) (set nodes n v) k node (at_set_away nodes n k v node d b))

pub facts_put : (nodes : List Node) (n : ℕ) (v : Node) → n < length nodes → At (all_facts (set nodes n v)) n v.facts
facts_put nodes n v l = at_map (λ (x : Node). x.facts) (set nodes n v) n v (at_set_here nodes n v l)

pub node_at : (nodes : List Node) (n : ℕ) (node : Node) → n < length nodes → node ≡ get_or nodes n node → At nodes n node
node_at nodes n node l e = slice_get-get_or nodes n node l ∙ ap Some (sym e)

pub facts_at : (nodes : List Node) (n : ℕ) (node : Node) → n < length nodes → node ≡ get_or nodes n node → At (all_facts nodes) n node.facts
facts_at nodes n node l e = at_map (λ (x : Node). x.facts) nodes n node (node_at nodes n node l e)

pub count_at : (nodes : List Node) (n : ℕ) (node : Node) → n < length nodes → node ≡ get_or nodes n node → At (counts nodes) n node.names
count_at nodes n node l e = at_map (λ (x : Node). x.names) nodes n node (node_at nodes n node l e)

pub within_true : (n : ℕ) (xs : List Node) → true ≡ ltb n (length xs) → n < length xs
within_true n xs e = ltb-true n (length xs) (sym e)

-- ---- what waits

pub joined_pushed : {T E : Type 0} (r : Result T E) (ready : Ready) (p : Pending) (heap heap' : BinaryHeap Pending Global) → ready ≡ ByDate heap → OnOk r (IsPermutation (p ∷ heap_items heap) (heap_items heap')) → OnOk r (IsHeap pending_cmp (heap_items heap) → IsHeap pending_cmp (heap_items heap')) → OnOk r (Joined ready (p ∷ []) (ByDate heap'))
joined_pushed (Ok v) ready p heap heap' e h k = subst (λ (q : Ready). Joined q (p ∷ []) (ByDate heap')) (sym e) (IsPermutation-trans (heap_items heap ++ p ∷ []) (p ∷ heap_items heap) (heap_items heap') (IsPermutation-to_front (heap_items heap) p) h, k)
joined_pushed (Err v) ready p heap heap' e h k = tt

pub joined_length : (a b : Ready) (p : Pending) → Joined a (p ∷ []) b → length (waiting b) ≡ length (waiting a) + 1
joined_length (ByDate a) (ByDate b) p (h, k) = length_permutation (heap_items a ++ p ∷ []) (heap_items b) h ∙ length-append (heap_items a) (p ∷ [])
joined_length (Topological a) (Topological b) p e = ap length e ∙ length-append a.items (p ∷ [])
joined_length (ByDate a) (Topological b) p h = absurd h
joined_length (Topological a) (ByDate b) p h = absurd h

pub popped_length : (a b : Ready) (p : Pending) → Popped a p b → length (waiting a) ≡ length (waiting b) + 1
popped_length (ByDate a) (ByDate b) p (h, k) = let e = length_permutation (heap_items a) (p ∷ heap_items b) h in omega arith
popped_length (Topological a) (Topological b) p e = ap length e ∙ length-append b.items (p ∷ [])
popped_length (ByDate a) (Topological b) p h = absurd h
popped_length (Topological a) (ByDate b) p h = absurd h

-- ---- rows of names

pub whole : (zs : List ObjectId) (n : ℕ) → length zs ≤ n → take n zs ≡ zs
whole [] zero l = refl
whole [] (suc n) l = refl
whole (y ∷ zs) zero l = absurd (omega arith)
whole (y ∷ zs) (suc n) l = ap (λ (ys : List ObjectId). y ∷ ys) (whole zs n (omega arith))

pub past_end : {I : Type 0} (xs : List I) (n : ℕ) → slice_get xs n ≡ None → length xs ≤ n
past_end [] n e = omega arith
past_end (x ∷ xs) zero e = let z : ⊥ = cc in absurd z
past_end (x ∷ xs) (suc n) e = let r = past_end xs n e in omega arith

-- ---- those that wait at first

pub record FreeTo (low high : ℕ) (told : List Facts) (cs : List ℕ) (first : List Pending) : Type 0 where
  pub each : (pending : Pending) → Contains first pending → (low ≤ pending.number.0) × (pending.number.0 < high) × At cs pending.number.0 0 × ((facts : Facts) × At told pending.number.0 facts × (pending.time ≡ facts.time))
  pub every : (n : ℕ) (facts : Facts) → low ≤ n → n < high → At cs n 0 → At told n facts → (pending : Pending) × Contains first pending × (pending.number.0 ≡ n)
  pub ascending : (k l : ℕ) (p q : Pending) → k < l → At first k p → At first l q → p.number.0 < q.number.0

module _ (low : ℕ) (told : List Facts) (cs : List ℕ) where
  pub free_none : (high : ℕ) → high ≤ low → (first : List Pending) → first ≡ [] → FreeTo low high told cs first
  free_none high l first e = subst (λ (zs : List Pending). FreeTo low high told cs zs) (sym e) (record {
    each = λ p c. let (k, a) = at_from_contains [] p c in absurd (none_at_nil k p a);
    every = λ n r m lt a b. absurd (omega arith);
    ascending = λ k l p q lt a b. absurd (none_at_nil k p a);
  })

  pub free_skip : (high : ℕ) (first : List Pending) → FreeTo low high told cs first → (low ≤ high → At cs high 0 → ⊥) → FreeTo low (high + 1) told cs first
  free_skip high first f none = record {
    each = λ p c. let (l, m, a, r) = f.each p c in (l, omega arith, a, r);
    every = λ n r l lt a b. elim (three n high) [
      | inl m ↦ f.every n r l m a b
      | inr (inl e) ↦ absurd (none (subst (λ (k : ℕ). low ≤ k) e l) (subst (λ (k : ℕ). At cs k 0) e a))
      | inr (inr g) ↦ absurd (omega arith)
    ];
    ascending = f.ascending;
  }

  pub free_push : (high : ℕ) (first : List Pending) (p : Pending) (facts : Facts) → FreeTo low high told cs first → low ≤ high → p.number.0 ≡ high → At cs high 0 → At told high facts → p.time ≡ facts.time → FreeTo low (high + 1) told cs (first ++ p ∷ [])
  free_push high first p facts f l e a b t = record {
    each = λ q c. elim (Contains-push_cases first p q c) [
      | inl d ↦ (let (l', m, a', r) = f.each q d in (l', omega arith, a', r))
      | inr g ↦ subst (λ (v : Pending). (low ≤ v.number.0) × (v.number.0 < high + 1) × At cs v.number.0 0 × ((r : Facts) × At told v.number.0 r × (v.time ≡ r.time))) g
          (omega arith, omega arith, subst (λ (k : ℕ). At cs k 0) (sym e) a, (facts, subst (λ (k : ℕ). At told k facts) (sym e) b, t))
    ];
    every = λ n r m lt c d. elim (three n high) [
      | inl k ↦ (let (q, i, j) = f.every n r m k c d in (q, Contains-append_left first (p ∷ []) q i, j))
      | inr (inl g) ↦ (p, Contains-push first p, e ∙ sym g)
      | inr (inr g) ↦ absurd (omega arith)
    ];
    ascending = λ k m v w lt c d. elim (at_from_push first p m w d) [
      | inl i ↦ elim (at_from_push first p k v c) [ inl j ↦ f.ascending k m v w lt j i | inr j ↦ absurd (let n = slice_get_within first m w i in omega (arith, j.0)) ]
      | inr i ↦ elim (at_from_push first p k v c) [ inl j ↦ (let (l', b', a', r) = f.each v (contains_from_at first k v j) in let g : w.number.0 ≡ high = ap (λ (z : Pending). z.number.0) i.1 ∙ e in omega arith) | inr j ↦ absurd (omega (arith, i.0, j.0)) ]
    ];
  }

  pub free_all : (high : ℕ) (first : List Pending) → FreeTo low high told cs first → length told ≤ high → IsFree low told cs first
  free_all high first f l = record {
    each = λ p c. let (m, lt, a, r) = f.each p c in (m, a, r);
    every = λ n r m a b. let w = slice_get_within told n r b in f.every n r m (omega arith) a b;
    ascending = f.ascending;
  }

-- ---- what a call found

pub le_self : (n : ℕ) → n ≤ n
le_self n = omega arith

pub index_smaller : (a : ℕ) → a + 1 < 2 ^ 64 → 2 ^ 64 - (a + 1) < 2 ^ 64 - a
index_smaller a l = omega arith

pub at_within : {A : Type 0} (xs : List A) (n : ℕ) → n < length xs → (x : A) × At xs n x
at_within [] n l = absurd (omega arith)
at_within (x ∷ xs) zero l = (x, refl)
at_within (x ∷ xs) (suc n) l = at_within xs n (omega arith)

-- the node that a look-up by number gave
pub got : (items zs : List Node) (n : ℕ) (o : Option (Bor Node)) (b : Bor Node) → zs ≡ items → o ≡ Some b → is_some o ≡ ltb n (length zs) → IfSome o (λ x. x.now ≡ get_or zs n x.now) → (n < length items) × (b.now ≡ get_or items n b.now)
got items zs n o b e f l m =
    let l' : true ≡ ltb n (length zs) = subst (λ (p : Option (Bor Node)). is_some p ≡ ltb n (length zs)) f l in
    let m' : b.now ≡ get_or zs n b.now = subst (λ (p : Option (Bor Node)). IfSome p (λ x. x.now ≡ get_or zs n x.now)) f m in
    (subst (λ (ys : List Node). n < length ys) e (within_true n zs l'), subst (λ (ys : List Node). b.now ≡ get_or ys n b.now) e m')

-- no node has the number that a look-up didn't find
pub missing : (items zs : List Node) (n : ℕ) (o : Option (Bor Node)) → zs ≡ items → o ≡ None → is_some o ≡ ltb n (length zs) → length items ≤ n
missing items zs n o e f l = subst (λ (ys : List Node). length ys ≤ n) e (no_less n (length zs) (sym l ∙ ap (λ (p : Option (Bor Node)). is_some p) f))
  where
    no_less : (j k : ℕ) → ltb j k ≡ false → k ≤ j
    no_less j k e = grind (arith, nat_tests)

pub some_value : (o : Option ℕ) (v w : ℕ) (P : Type 0) → o ≡ Some v → SomeIff o P w → P × (v ≡ w)
some_value o v w P e s = subst (λ (p : Option ℕ). SomeIff p P w) e s

pub copied : (o : Option (Bor ObjectId)) (b : Bor ObjectId) (s : Option ObjectId) → o ≡ Some b → option_copied o ≡ s → s ≡ Some b.now
copied o b s e f = sym f ∙ ap option_copied e

-- ---- a name is counted off

pub off_freed : (low : ℕ) (keys : List ObjectId) (told told' : List Facts) (cs cs' : List ℕ) (ready ready' : Ready) (id : ObjectId) (number : Number) (count : ℕ) (last : Bool) (o : Option Pending) (pending : Pending) → last ≡ true → low ≤ number.0 → At keys number.0 id → At cs number.0 (count + 1) → cs' ≡ set cs number.0 count → last ≡ eqb count 0 → told' ≡ told → o ≡ Some pending → IfSome o (λ p. (p.number ≡ number) × ((r : Facts) × At told' number.0 r × (p.time ≡ r.time))) → Joined ready (pending ∷ []) ready' → CountsOff low keys told cs ready id cs' ready'
off_freed low keys told told' cs cs' ready ready' id number count last o pending t l a b e f s g p j =
    let z : count ≡ 0 = eqb_zero count (sym f ∙ t) in
    let found : (pending.number ≡ number) × ((r : Facts) × At told' number.0 r × (pending.time ≡ r.time)) = subst (λ (q : Option Pending). IfSome q (λ p. (p.number ≡ number) × ((r : Facts) × At told' number.0 r × (p.time ≡ r.time)))) g p in
    let (r, c, d) = found.1 in
    freed {n = number.0} {pending = pending} {facts = r} l a (subst (λ (k : ℕ). At cs number.0 (k + 1)) z b) (e ∙ ap (set cs number.0) z) (ap (λ (n : Number). n.0) found.0) (subst (λ (zs : List Facts). At zs number.0 r) s c) d j
  where
    eqb_zero : (k : ℕ) → eqb k 0 ≡ true → k ≡ 0
    eqb_zero k e = grind (arith, nat_tests)

pub off_counted : (low : ℕ) (keys : List ObjectId) (told : List Facts) (cs cs' : List ℕ) (ready : Ready) (id : ObjectId) (number : Number) (count : ℕ) (last : Bool) → last ≡ false → low ≤ number.0 → At keys number.0 id → At cs number.0 (count + 1) → cs' ≡ set cs number.0 count → last ≡ eqb count 0 → CountsOff low keys told cs ready id cs' ready
off_counted low keys told cs cs' ready id number count last t l a b e f =
    counted {n = number.0} {count = count} l a b (λ z. let g : eqb 0 0 ≡ false = ap (λ (k : ℕ). eqb k 0) (sym z) ∙ sym f ∙ t in let w : ⊥ = cc in w) e refl

set_falls : (low : ℕ) (cs : List ℕ) (n count : ℕ) → low ≤ n → At cs n (count + 1) → total (λ c. c) (drop low (set cs n count)) + 1 ≡ total (λ c. c) (drop low cs)
set_falls zero cs n count l a = total_set cs n count a
set_falls (suc low) [] n count l a = absurd (none_at_nil n (count + 1) a)
set_falls (suc low) (c ∷ cs) zero count l a = absurd (omega arith)
set_falls (suc low) (c ∷ cs) (suc n) count l a = set_falls low cs n count (omega arith) a

pub off_falls : (low : ℕ) (cs cs' : List ℕ) (n count : ℕ) → low ≤ n → At cs n (count + 1) → cs' ≡ set cs n count → total (λ c. c) (drop low cs') + 1 ≡ total (λ c. c) (drop low cs)
off_falls low cs cs' n count l a e = ap (λ (zs : List ℕ). total (λ c. c) (drop low zs) + 1) e ∙ set_falls low cs n count l a

pub many_counts : (a b : List Node) → all_facts a ≡ all_facts b → length (counts a) ≡ length b
many_counts a b e = length_map (λ (v : Node). v.names) a ∙ sym (length_map (λ (v : Node). v.facts) a) ∙ ap length e ∙ length_map (λ (v : Node). v.facts) b
