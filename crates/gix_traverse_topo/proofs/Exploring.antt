-- What a walk knows before its first commit comes.
use Rattle.std.proofs.Common.{◌≡◌, ℕ, ◌<◌, ◌≤◌, inl, inr, List, [], length, refl, sym, ◌∙◌, ap, subst, arith, Some, None}
use Rattle.std.specs.Prelude.{Contains, ◌↔◌, IfSome}
use Rattle.std.proofs.lemmas.Option.{slice_get_within}
use Rattle.gix_hash.specs.declared.object_id.ObjectId.{ObjectId}
use Rattle.gix_object_lookup.specs.Table.{Table}
use Rattle.gix_traverse_graph.specs.Commits.{Commits, asked_parents, Reached, tip, parent}
use Rattle.gix_traverse_graph.specs.Numbered.{same_id}
use Rattle.gix_traverse_graph.specs.Order.{At}
use Rattle.gix_traverse_commit_known.specs.Painting.{ReachedFrom}
use Rattle.gix_traverse_graph.specs.Standing.{NotIn}
use Rattle.gix_traverse_graph.specs.declared.parents.Parents.{Parents}
use Rattle.gix_traverse_graph.specs.declared.parents.Parents.TheVariants.{All}
use Rattle.gix_traverse_graph.specs.declared.rows.Row.{Row}
use Rattle.gix_traverse_graph.proofs.Lists.{at_from_contains, contains_from_at, none_at_nil, three}
use Rattle.gix_traverse_topo.specs.Exploring.{IsPainted, Numbers, IsExplored}
use Rattle.gix_traverse_topo.specs.Faults.{StopsAtEnds, IsFaultOf}
use Rattle.gix_traverse_topo.specs.Nodes.{all_facts, counts, EachCount, IsOnce, AreFacts, ParentsFrom, hidden_in}
use Rattle.gix_traverse_topo.specs.Standing.{as_read}
use Rattle.gix_traverse_topo.specs.Turns.{names_of}
use Rattle.gix_traverse_topo.specs.Walking.{Walking}
use Rattle.gix_traverse_topo.specs.declared.error.Error.{Error}
use Rattle.gix_traverse_topo.specs.declared.known.Known.{Known}
use Rattle.gix_traverse_topo.specs.declared.known.Node.{Node}
use Rattle.gix_traverse_topo.specs.declared.known.Facts.{Facts}
use Rattle.gix_traverse_topo.proofs.Found.{fault_in, parents_so, reached_read}
use Rattle.gix_traverse_topo.proofs.Meeting.{length_map, at_back}
use Rattle.gix_traverse_topo.proofs.Updates.{at_within}
use Rattle.gix_traverse_topo.proofs.Walking.{walks_all}

-- without wanted parents, the parents
module _ (honest may_fail : Type 0) (rows : List Row) (table : Table) (ends : List ObjectId) (keys : List ObjectId) (nodes : List Node) (high : ℕ) (w : Walking honest may_fail rows table All ends [] [] high keys nodes) (full : length keys ≤ high) where
  none_twice : IsOnce {I = ObjectId} []
  none_twice j k x a b = absurd (none_at_nil j x a)

  one_by_one : (h : Commits ObjectId) → ParentsFrom 0 h keys (all_facts nodes) → (x : ObjectId) → Contains keys x ↔ ReachedFrom h ends x
  one_by_one h t x =
      let walks = (walks_all honest may_fail rows table All ends [] [] high keys nodes w full refl none_twice h t).0 in
      let each = walks.breadth.list.each x in (
        (λ c. plain h (each.0 (subst (λ (zs : List ObjectId). Contains zs x) walks.keys_are c))),
        (λ r. subst (λ (zs : List ObjectId). Contains zs x) (sym walks.keys_are) (each.1 (passing h r))),
      )
    where
      plain : (h : Commits ObjectId) {y : ObjectId} → Reached (asked_parents All h) (NotIn []) ends y → ReachedFrom h ends y
      plain h (tip t p) = tip t tt
      plain h (parent r n p) = parent (plain h r) n tt

      none : (y : ObjectId) → NotIn [] y
      none y c = let (k, a) = at_from_contains [] y c in none_at_nil k y a

      passing : (h : Commits ObjectId) {y : ObjectId} → ReachedFrom h ends y → Reached (asked_parents All h) (NotIn []) ends y
      passing h (tip {x = y} t p) = tip t (none y)
      passing h (parent {y = y} r n p) = parent (passing h r) n (none y)

  once : IsOnce keys
  once = w.once none_twice

  pub as_many : length nodes ≡ length keys
  as_many = w.many refl

  read : (n : ℕ) (x : ObjectId) (facts : Facts) → At keys n x → At (all_facts nodes) n facts → AreFacts honest may_fail rows table x facts
  read n x facts a b = w.read n x facts (omega arith) (let m = slice_get_within keys n x a in omega arith) a b

  -- all that the ends reach is read
  pub painted : (known : Known) → known.ids.keys ≡ keys → all_facts known.nodes.items ≡ all_facts nodes → hidden_in known.nodes.items ≡ length keys → ((n : ℕ) (facts : Facts) → At (all_facts nodes) n facts → facts.fault ≡ None) → IsPainted honest may_fail rows table ends known
  painted known e f l no_fault = record {
    once = subst (λ (ks : List ObjectId). IsOnce ks) (sym e) once;
    all_read = sym (length_map (λ (v : Node). v.facts) known.nodes.items) ∙ ap length f ∙ length_map (λ (v : Node). v.facts) nodes ∙ as_many ∙ sym (ap length e);
    all_hidden = l ∙ sym (ap length e);
    read = λ n x facts a b. read n x facts (key e n x a) (told f n facts b);
    no_fault = λ n facts b. no_fault n facts (told f n facts b);
    hides = λ h t x. subst (λ (ks : List ObjectId). Contains ks x ↔ ReachedFrom h ends x) (sym e) (one_by_one h (λ n y r m a b. t n y r m (subst (λ (ks : List ObjectId). At ks n y) (sym e) a) (subst (λ (rs : List Facts). At rs n r) (sym f) b)) x);
  }
    where
      key : known.ids.keys ≡ keys → (n : ℕ) (x : ObjectId) → At known.ids.keys n x → At keys n x
      key e n x a = subst (λ (ks : List ObjectId). At ks n x) e a

      told : all_facts known.nodes.items ≡ all_facts nodes → (n : ℕ) (r : Facts) → At (all_facts known.nodes.items) n r → At (all_facts nodes) n r
      told f n r b = subst (λ (rs : List Facts). At rs n r) f b

  -- a commit that isn't read is one that the ends reach
  pub stops : (n : ℕ) (facts : Facts) (error : Error) → At (all_facts nodes) n facts → facts.fault ≡ Some error → StopsAtEnds honest may_fail rows table ends error
  stops n facts error b e =
      let long = length_map (λ (v : Node). v.facts) nodes in
      let (x, a) = at_within keys n (omega (arith, slice_get_within (all_facts nodes) n facts b, as_many)) in
      record {
        id = x;
        cause = subst (λ o. IfSome o (IsFaultOf honest may_fail rows table x)) e (read n x facts a b).cause;
        reached = λ yes g are.
            reached_read (fault_in keys (all_facts nodes)) g ends ((one_by_one (as_read (fault_in keys (all_facts nodes)) g) (parents_so honest may_fail rows table keys (all_facts nodes) once read yes g are) x).0 (contains_from_at keys n x a));
      }

-- ---- after it what the tips reach

module _ (honest may_fail : Type 0) (rows : List Row) (table : Table) (tips ends : List ObjectId) (parents : Parents) (old mid : Known) (high : ℕ) (p : IsPainted honest may_fail rows table ends old) (w : Walking honest may_fail rows table parents tips old.ids.keys old.nodes.items high mid.ids.keys mid.nodes.items) (full : length mid.ids.keys ≤ high) (hidden : hidden_in mid.nodes.items ≡ hidden_in old.nodes.items) where
  forward : (n : ℕ) (r : Facts) → At (all_facts old.nodes.items) n r → At (all_facts mid.nodes.items) n r
  forward n r b = w.told_kept n r (let l = slice_get_within (all_facts old.nodes.items) n r b in omega (arith, length_map (λ (v : Node). v.facts) old.nodes.items)) b

  back : (n : ℕ) (r : Facts) → n < length old.nodes.items → At (all_facts mid.nodes.items) n r → At (all_facts old.nodes.items) n r
  back n r l b = at_back (all_facts old.nodes.items) (all_facts mid.nodes.items) forward n r (omega (arith, length_map (λ (v : Node). v.facts) old.nodes.items)) b

  mid_once : IsOnce mid.ids.keys
  mid_once = w.once p.once

  below : (n : ℕ) (x : ObjectId) → At mid.ids.keys n x → n < high
  below n x a = let l = slice_get_within mid.ids.keys n x a in omega (arith, full)

  mid_read : (n : ℕ) (x : ObjectId) (facts : Facts) → At mid.ids.keys n x → At (all_facts mid.nodes.items) n facts → AreFacts honest may_fail rows table x facts
  mid_read n x facts a b = elim (three n (length old.nodes.items)) [
    | inl lt ↦ p.read n x facts (at_back old.ids.keys mid.ids.keys w.keys_kept n x (omega (arith, p.all_read)) a) (back n facts lt b)
    | inr (inl e) ↦ w.read n x facts (omega arith) (below n x a) a b
    | inr (inr gt) ↦ w.read n x facts (omega arith) (below n x a) a b
  ]

  mid_hidden : hidden_in mid.nodes.items ≡ length old.ids.keys
  mid_hidden = hidden ∙ p.all_hidden

  pub explored : IsExplored honest may_fail rows table tips ends parents mid
  explored = record {
    once = mid_once;
    all_read = w.many p.all_read;
    read = mid_read;
    no_fault = λ n facts l b. p.no_fault n facts (back n facts (omega (arith, l, mid_hidden, p.all_read)) b);
    numbers = numbers_of;
  }
    where
      numbers_of : (h : Commits ObjectId) → ParentsFrom 0 h mid.ids.keys (all_facts mid.nodes.items) → Numbers h tips ends parents mid
      numbers_of h t =
          let (walks, counted) = walks_all honest may_fail rows table parents tips old.ids.keys old.nodes.items high mid.ids.keys mid.nodes.items w full p.all_read p.once h (λ n x r l a b. t n x r (omega arith) a b) in
          record {
            hs = old.ids.keys;
            xs = walks.xs;
            keys_are = walks.keys_are;
            hidden_are = mid_hidden;
            hides = p.hides h (λ n x r l a b. t n x r l (w.keys_kept n x a) (forward n r b));
            breadth = walks.breadth;
            counted = subst (λ (lo : ℕ). EachCount lo mid.ids.keys (counts mid.nodes.items) (λ y c. c ≡ names_of same_id (asked_parents parents h) y walks.xs)) (sym mid_hidden) counted;
          }
