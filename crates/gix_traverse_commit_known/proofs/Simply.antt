-- The state of a walk over rows and objects.
use Rattle.std.proofs.Common.{◌≡◌, ℕ, suc, ◌+◌, ◌<◌, ◌∙◌, ◌⊎◌, zero, sym, ap, refl, subst, arith, inl, inr, List, [], ◌∷◌, ◌++◌, length, length-append, take, Bool, true, false, cond, add-one, None, Option}
use Rattle.std.specs.Prelude.{Contains, IsTrue, not, ◌&&◌, ◌↔◌}
use Rattle.gix_hash.specs.Id.{Id, id_of}
use Rattle.gix_hash.specs.declared.object_id.ObjectId.{ObjectId}
use Rattle.gix_traverse_graph.specs.Commits.{Commits, asked_parents, Reached, tip, parent, Passes, Listed}
use Rattle.gix_traverse_commit_known.specs.Keeping.{Kept, KeptAll}
use Rattle.gix_traverse_commit_known.specs.Nodes.{has, is_hidden, is_met, flags_of, Node}
use Rattle.gix_traverse_graph.specs.Numbered.{same_id}
use Rattle.gix_traverse_graph.specs.Order.{At}
use Rattle.gix_traverse_commit_known.specs.Painting.{ReachedFrom}
use Rattle.gix_traverse_graph.specs.Rows.{AllHeld, Holds}
use Rattle.gix_traverse_commit_known.specs.Asked.{AcceptsAs, Answers, Asked, AreAsked, IsKnown, keep_of, request_in, timing, IsTurn}
use Rattle.gix_object_lookup.specs.Table.{Table}
use Rattle.gix_traverse_commit_known.specs.Faults.{SimpleFault, StopsFetch}
use Rattle.gix_traverse_graph.specs.declared.parents.Parents.{Parents}
use Rattle.gix_traverse_commit_known.specs.declared.faults.Error.{Error}
use Rattle.gix_traverse_commit_known.specs.declared.faults.Error.TheVariants as fault
use Rattle.gix_traverse_commit_known.specs.declared.faults.HiddenGraphError.TheVariants as hidden_fault
use Rattle.gix_traverse_graph.specs.Sorting.{InOrder, IsNextIn}
use Rattle.gix_traverse_graph.specs.declared.sorting.Timing.{Timing}
use Rattle.gix_traverse_commit_known.specs.declared.nodes.WalkFlags.{WalkFlags}
use Rattle.gix_traverse_graph.specs.declared.rows.Row.{Row}
use Rattle.gix_traverse_graph.proofs.Ids.{same_from_test, test_from_same}
use Rattle.gix_traverse_commit_known.proofs.Keeping.{kept_end}
use Rattle.gix_traverse_graph.proofs.Lists.{at_from_contains, contains_from_at, at_from_push, none_at_nil}
use Rattle.gix_traverse_graph.proofs.Listing.{listed_reached, reached_more}
use Rattle.gix_traverse_commit_known.proofs.Painting.{known_fit}
use Rattle.gix_traverse_graph.proofs.Turn.{at_first, next_first}
use Rattle.std.proofs.lemmas.Bool.{and_from, and_parts}
use Rattle.gix_traverse_graph.proofs.Check.{not_from}
use Rattle.gix_traverse_commit_known.specs.declared.nodes.TheConstants.WalkFlags.{ASKED, SEEN, UNINTERESTING}

-- ---- the predicate is called for tips

pub in_push : {I : Type 0} (xs : List I) (y x : I) → Contains (xs ++ y ∷ []) x → Contains xs x ⊎ (x ≡ y)
in_push xs y x c = let (k, a) = at_from_contains (xs ++ y ∷ []) x c in elim (at_from_push xs y k x a) [ inl h ↦ inl (contains_from_at xs k x h) | inr e ↦ inr e.1 ]

pub take_push : {I : Type 0} (xs : List I) (i : ℕ) (x : I) → At xs i x → take (i + 1) xs ≡ take i xs ++ x ∷ []
take_push {I} xs i x a = rw add-one (go xs i a)
  where
    go : (xs : List I) (i : ℕ) → At xs i x → take (suc i) xs ≡ take i xs ++ x ∷ []
    go [] i a = absurd (none_at_nil i x a)
    go (y ∷ ys) zero a = let same : y ≡ x = cc in ap (λ (z : I). z ∷ []) same
    go (y ∷ ys) (suc i) a = ap (λ (zs : List I). y ∷ zs) (go ys i a)

pub asked_now : (accepts : Id → Bool) (tips : List ObjectId) (nodes nodes' : List Node) (it : ObjectId) (answer : Bool) (flags : WalkFlags) → AreAsked accepts tips nodes → answer ≡ accepts (id_of it) → has flags ASKED ≡ true → has flags SEEN ≡ not answer → has flags UNINTERESTING ≡ is_hidden nodes it → ((q : ObjectId) → flags_of nodes' q ≡ cond (same_id it q) flags (flags_of nodes q)) → AreAsked accepts (tips ++ it ∷ []) nodes'
asked_now accepts tips nodes nodes' it answer flags w told asked met hidden new = record {
  refused = λ x m. elim (which x) [
    | inl (e, f) ↦ (let a : not answer ≡ true = sym met ∙ sym (ap (λ (k : WalkFlags). has k SEEN) f) ∙ m in subst (λ (z : ObjectId). accepts (id_of z) ≡ false) e (sym told ∙ not_true answer a))
    | inr f ↦ w.refused x (sym (ap (λ (k : WalkFlags). has k SEEN) f) ∙ m)
  ];
  accepted = λ x c m. elim (which x) [
    | inl (e, f) ↦ here x e f m
    | inr f ↦ elim (in_push tips it x c) [
      | inl d ↦ w.accepted x d (sym (ap (λ (k : WalkFlags). has k SEEN) f) ∙ m)
      | inr e ↦ elim (one x (sym e)) [ inl g ↦ here x g.0 g.1 m | inr z ↦ absurd z ]
    ]
  ];
  asked = λ x s m. elim (which x) [
    | inl (e, f) ↦ here x e f m
    | inr f ↦ w.asked x (sym (ap (λ (k : WalkFlags). has k ASKED) f) ∙ s) (sym (ap (λ (k : WalkFlags). has k SEEN) f) ∙ m)
  ];
  unpainted = λ x. elim (which x) [
    | inl (e, f) ↦ ap (λ (k : WalkFlags). has k UNINTERESTING) f ∙ hidden ∙ w.unpainted it
    | inr f ↦ ap (λ (k : WalkFlags). has k UNINTERESTING) f ∙ w.unpainted x
  ];
}
  where
    which : (x : ObjectId) → ((it ≡ x) × (flags_of nodes' x ≡ flags)) ⊎ (flags_of nodes' x ≡ flags_of nodes x)
    which x = go (same_id it x) refl
      where
        go : (b : Bool) → same_id it x ≡ b → ((it ≡ x) × (flags_of nodes' x ≡ flags)) ⊎ (flags_of nodes' x ≡ flags_of nodes x)
        go true t = inl (same_from_test it x t, new x ∙ ap (λ (b : Bool). cond b flags (flags_of nodes x)) t)
        go false t = inr (new x ∙ ap (λ (b : Bool). cond b flags (flags_of nodes x)) t)

    one : (x : ObjectId) → it ≡ x → ((it ≡ x) × (flags_of nodes' x ≡ flags)) ⊎ ⊥
    one x e = inl (e, new x ∙ ap (λ (b : Bool). cond b flags (flags_of nodes x)) (test_from_same it x e))

    not_true : (b : Bool) → not b ≡ true → b ≡ false
    not_true false e = refl
    not_true true e = let z : ⊥ = cc in absurd z

    not_false : (b : Bool) → not b ≡ false → b ≡ true
    not_false true e = refl
    not_false false e = let z : ⊥ = cc in absurd z

    here : (x : ObjectId) → it ≡ x → flags_of nodes' x ≡ flags → is_met nodes' x ≡ false → accepts (id_of x) ≡ true
    here x e f m = subst (λ (z : ObjectId). accepts (id_of z) ≡ true) e (sym told ∙ not_false answer (sym met ∙ sym (ap (λ (k : WalkFlags). has k SEEN) f) ∙ m))

-- the same predicate, and none that was met is unmet
pub accepts_more : (f f' : Id → Bool) (nodes nodes' : List Node) (a : Asked) → f' ≡ f → ((x : ObjectId) → is_met nodes x ≡ true → is_met nodes' x ≡ true) → AcceptsAs f nodes a → AcceptsAs f' nodes' a
accepts_more f f' nodes nodes' a e grown w = record {
  given = λ x k. ap (λ (h : Id → Bool). h (id_of x)) e ∙ w.given x k;
  unmet = λ x n. ap (λ (h : Id → Bool). h (id_of x)) e ∙ w.unmet x (before x (is_met nodes x) refl n);
}
  where
    before : (x : ObjectId) (b : Bool) → is_met nodes x ≡ b → is_met nodes' x ≡ false → is_met nodes x ≡ false
    before x false h n = h
    before x true h n = let m = grown x h in let z : ⊥ = cc in absurd z

-- ---- flags of one commit

module _ (nodes nodes' : List Node) (id : ObjectId) (flags : WalkFlags) (new : (q : ObjectId) → flags_of nodes' q ≡ cond (same_id id q) flags (flags_of nodes q)) where
  pub met_same : has flags SEEN ≡ is_met nodes id → (q : ObjectId) → is_met nodes' q ≡ is_met nodes q
  met_same e q = ap (λ (k : WalkFlags). has k SEEN) (new q) ∙ go (same_id id q) refl
    where
      go : (b : Bool) → same_id id q ≡ b → has (cond b flags (flags_of nodes q)) SEEN ≡ is_met nodes q
      go true t = e ∙ ap (is_met nodes) (same_from_test id q t)
      go false t = refl

  pub hidden_same : has flags UNINTERESTING ≡ is_hidden nodes id → (q : ObjectId) → is_hidden nodes' q ≡ is_hidden nodes q
  hidden_same e q = ap (λ (k : WalkFlags). has k UNINTERESTING) (new q) ∙ go (same_id id q) refl
    where
      go : (b : Bool) → same_id id q ≡ b → has (cond b flags (flags_of nodes q)) UNINTERESTING ≡ is_hidden nodes q
      go true t = e ∙ ap (is_hidden nodes) (same_from_test id q t)
      go false t = refl

  -- a flag is taken away
  pub taken_off : (mark : WalkFlags → Bool) → mark flags ≡ false → (q : ObjectId) → mark (flags_of nodes' q) ≡ true → (mark (flags_of nodes q) ≡ true) × (id ≡ q → ⊥)
  taken_off mark e q h = go (same_id id q) refl (sym (ap mark (new q)) ∙ h)
    where
      go : (b : Bool) → same_id id q ≡ b → mark (cond b flags (flags_of nodes q)) ≡ true → (mark (flags_of nodes q) ≡ true) × (id ≡ q → ⊥)
      go true t k = let z : ⊥ = cc in absurd z
      go false t k = (k, λ s. let u = test_from_same id q s in let z : ⊥ = cc in z)

  pub unmet_from : (q : ObjectId) → is_met nodes' q ≡ false → (id ≡ q) ⊎ (is_met nodes q ≡ false)
  unmet_from q h = go (same_id id q) refl (sym (ap (λ (k : WalkFlags). has k SEEN) (new q)) ∙ h)
    where
      go : (b : Bool) → same_id id q ≡ b → has (cond b flags (flags_of nodes q)) SEEN ≡ false → (id ≡ q) ⊎ (is_met nodes q ≡ false)
      go true t k = inl (same_from_test id q t)
      go false t k = inr k

-- ---- the listed set

pub from_not : (a : Bool) → not a ≡ true → a ≡ true → ⊥
from_not true e f = let z : ⊥ = cc in z
from_not false e f = let z : ⊥ = cc in z

module _ (g : Commits ObjectId) (a : Asked) (hides : ObjectId → Bool) (painted : (x : ObjectId) → (hides x ≡ true) ↔ ReachedFrom g a.hidden x) where
  pub to_kept : (x : ObjectId) → Listed g (request_in None a) x → Reached (asked_parents a.parents g) (λ q. IsTrue (keep_of hides a.accepts q)) a.tips x
  to_kept x l = reached_more (asked_parents a.parents g) (Listed g (request_in None a)) (λ q. IsTrue (keep_of hides a.accepts q)) a.tips keeps (listed_reached g (request_in None a) l.0 l.1)
    where
      passes : {y : ObjectId} → Reached (asked_parents a.parents g) (Passes g (request_in None a)) a.tips y → a.accepts (id_of y) ≡ true
      passes (tip t p) = p.0
      passes (parent r n p) = p.0

      keeps : (y : ObjectId) → Listed g (request_in None a) y → keep_of hides a.accepts y ≡ true
      keeps y k = and_from (not (hides y)) (a.accepts (id_of y)) (not_from (hides y) (λ h. k.1 ((painted y).0 h))) (passes k.0)

  pub from_kept : (x : ObjectId) → Reached (asked_parents a.parents g) (λ q. IsTrue (keep_of hides a.accepts q)) a.tips x → Listed g (request_in None a) x
  from_kept x r = (reached_more (asked_parents a.parents g) (λ q. IsTrue (keep_of hides a.accepts q)) (Passes g (request_in None a)) a.tips (λ y k. ((and_parts (not (hides y)) (a.accepts (id_of y)) k).1, tt)) r, λ h. from_not (hides x) (and_parts (not (hides x)) (a.accepts (id_of x)) (kept r)).0 ((painted x).1 h))
    where
      kept : {y : ObjectId} → Reached (asked_parents a.parents g) (λ q. IsTrue (keep_of hides a.accepts q)) a.tips y → keep_of hides a.accepts y ≡ true
      kept (tip t k) = k
      kept (parent r n k) = k

  pub kept_breadth : (has : ObjectId → Bool) (listed queue : List ObjectId) → KeptAll (asked_parents a.parents g) a.tips (keep_of hides a.accepts) has (listed ++ queue) (length listed) → queue ≡ [] → timing a ≡ None → Answers g a listed
  kept_breadth has listed queue w e b = subst (λ (t : Option Timing). InOrder t g (request_in t a) listed) (sym b) (kept_end (asked_parents a.parents g) a.tips (keep_of hides a.accepts) has listed queue w e (Listed g (request_in None a)) to_kept from_kept)

  -- the first of the queue comes next
  pub kept_turn : (has : ObjectId → Bool) (listed queue queue' : List ObjectId) (id : ObjectId) → KeptAll (asked_parents a.parents g) a.tips (keep_of hides a.accepts) has (listed ++ queue) (length listed) → queue ≡ id ∷ queue' → timing a ≡ None → IsTurn g a listed id
  kept_turn has listed queue queue' id w e b = subst (λ (t : Option Timing). IsNextIn t g (request_in t a) listed id) (sym b) (
      next_first (asked_parents a.parents g) a.tips (λ q. IsTrue (keep_of hides a.accepts q)) listed queue w.count w.kept.read w.all (Listed g (request_in None a)) keeps id queue' e
      (from_kept id (w.kept.read.reached (length listed) id (at_first listed queue queue' id e))))
    where
      kept : {y : ObjectId} → Reached (asked_parents a.parents g) (λ q. IsTrue (keep_of hides a.accepts q)) a.tips y → keep_of hides a.accepts y ≡ true
      kept (tip t k) = k
      kept (parent r n k) = k

      keeps : (y : ObjectId) → Listed g (request_in None a) y → keep_of hides a.accepts y ≡ true
      keeps y l = kept (to_kept y l)

-- ---- what is known

pub known_push : (rows : List Row) (ids : List Id) (listed : List ObjectId) (id : ObjectId) → ((x : ObjectId) → Contains listed x → IsKnown rows ids x) → IsKnown rows ids id → (x : ObjectId) → Contains (listed ++ id ∷ []) x → IsKnown rows ids x
known_push rows ids listed id all h x c = elim (in_push listed id x c) [ inl d ↦ all x d | inr e ↦ subst (IsKnown rows ids) (sym e) h ]

-- fewer were given before than are known
pub fewer_known : (rows : List Row) (ids : List Id) (along : ObjectId → List ObjectId) (tips : List ObjectId) (keep has : ObjectId → Bool) (listed queue : List ObjectId) (id : ObjectId) (p m : ℕ) → Kept along tips keep has ((listed ++ id ∷ []) ++ queue) p m → ((x : ObjectId) → Contains (listed ++ id ∷ []) x → IsKnown rows ids x) → length listed < length rows + length ids
fewer_known rows ids along tips keep has listed queue id p m w known =
    let fits = known_fit rows ids (listed ++ id ∷ []) (λ j k x a b. w.read.once j k x (before (listed ++ id ∷ []) queue j x a) (before (listed ++ id ∷ []) queue k x b)) known in
    omega (arith, length-append listed (id ∷ []))
  where
    before : (xs ys : List ObjectId) (k : ℕ) (x : ObjectId) → At xs k x → At (xs ++ ys) k x
    before [] ys k x b = absurd (none_at_nil k x b)
    before (y ∷ xs) ys zero x b = b
    before (y ∷ xs) ys (suc k) x b = before xs ys k x b

-- what is queued first has a row, and the others
pub held_first : (rows : List Row) (queue queue' : List ObjectId) (id : ObjectId) → queue ≡ id ∷ queue' → AllHeld rows queue → Holds rows id × AllHeld rows queue'
held_first rows queue queue' id e all =
    let f : AllHeld rows (id ∷ queue') = subst (AllHeld rows) e all in
    (f id (contains_from_at (id ∷ queue') 0 id refl), λ x c. let (k, b) = at_from_contains queue' x c in f x (contains_from_at (id ∷ queue') (suc k) x b))

-- ---- faults

pub fault_more : (P Q : ObjectId → Type 0) (along : Parents) (honest may_fail : Type 0) (rows : List Row) (table : Table) (hidden : List ObjectId) (error : Error) → ((x : ObjectId) → P x → Q x) → SimpleFault P along honest may_fail rows table hidden error → SimpleFault Q along honest may_fail rows table hidden error
fault_more P Q along honest may_fail rows table hidden (fault.Find error) f (id, t, h) = (id, f id t, h)
fault_more P Q along honest may_fail rows table hidden (fault.ObjectDecode error) f (id, t, h) = (id, f id t, h)
fault_more P Q along honest may_fail rows table hidden (fault.HiddenGraph (hidden_fault.Find error)) f h = h
fault_more P Q along honest may_fail rows table hidden (fault.HiddenGraph (hidden_fault.ObjectDecode error)) f h = h
fault_more P Q along honest may_fail rows table hidden fault.Memory f h = tt

pub fetch_fault : (P : ObjectId → Type 0) (along : Parents) (honest may_fail : Type 0) (rows : List Row) (table : Table) (hidden : List ObjectId) (id : ObjectId) (error : Error) → P id → StopsFetch along honest may_fail rows table id error → SimpleFault P along honest may_fail rows table hidden error
fetch_fault P along honest may_fail rows table hidden id (fault.Find error) p h = (id, p, h)
fetch_fault P along honest may_fail rows table hidden id (fault.ObjectDecode error) p h = (id, p, h)
fetch_fault P along honest may_fail rows table hidden id (fault.HiddenGraph error) p h = absurd h
fetch_fault P along honest may_fail rows table hidden id fault.Memory p h = tt

-- ---- tips are kept if they are accepted and not hidden

pub kept_tip : (hides : ObjectId → Bool) (accepts : Id → Bool) (x : ObjectId) → accepts (id_of x) ≡ true → keep_of hides accepts x ≡ not (hides x)
kept_tip hides accepts x e = go (not (hides x)) (accepts (id_of x)) e
  where
    go : (a b : Bool) → b ≡ true → (a && b) ≡ a
    go true b e = e
    go false b e = refl

pub refused_tip : (hides : ObjectId → Bool) (accepts : Id → Bool) (x : ObjectId) → accepts (id_of x) ≡ false → keep_of hides accepts x ≡ true → ⊥
refused_tip hides accepts x e k = let a = (and_parts (not (hides x)) (accepts (id_of x)) k).1 in let z : ⊥ = cc in z
