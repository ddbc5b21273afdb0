-- Which faults were found, and commits as far as they were read.
use Rattle.std.proofs.Common.{◌≡◌, ℕ, zero, suc, List, [], ◌∷◌, refl, sym, ◌∙◌, ap, subst, arith, Some, None, Option, Bool, true, false, cond}
use Rattle.std.specs.Prelude.{Contains, IfSome, IsSome}
use Rattle.gix_hash.specs.declared.object_id.ObjectId.{ObjectId}
use Rattle.gix_object_lookup.specs.Table.{Table}
use Rattle.gix_traverse_graph.specs.Commits.{Commit, Commits, tip, parent}
use Rattle.gix_traverse_graph.specs.Numbered.{same_id}
use Rattle.gix_traverse_graph.specs.Order.{At}
use Rattle.gix_traverse_commit_known.specs.Painting.{ReachedFrom}
use Rattle.gix_traverse_commit_known.specs.Told.{AreTold}
use Rattle.gix_traverse_graph.specs.declared.rows.Row.{Row}
use Rattle.gix_traverse_graph.proofs.Ids.{same_id_apart, same_from_test}
use Rattle.gix_traverse_graph.proofs.Lists.{at_from_contains, none_at_nil}
use Rattle.gix_traverse_topo.specs.Faults.{IsFaultOf}
use Rattle.gix_traverse_topo.specs.Nodes.{IsOnce, AreFacts, Tells, ParentsFrom}
use Rattle.gix_traverse_topo.specs.Standing.{as_read, read_so}
use Rattle.gix_traverse_topo.specs.declared.error.Error.{Error}
use Rattle.gix_traverse_topo.specs.declared.known.Facts.{Facts}

pub read_is : (faults : ObjectId → Option Error) (g : Commits ObjectId) (x : ObjectId) → faults x ≡ None → as_read faults g x ≡ g x
read_is faults g x e = ap (λ (o : Option Error). read_so o (g x)) e

-- one that has a parent was read
pub edges_read : (faults : ObjectId → Option Error) (g : Commits ObjectId) (x y : ObjectId) → Contains (as_read faults g x).parents y → as_read faults g x ≡ g x
edges_read faults g x y c = go (faults x) c
  where
    go : (o : Option Error) → Contains (read_so o (g x)).parents y → read_so o (g x) ≡ g x
    go None c = refl
    go (Some e) c = let (k, a) = at_from_contains [] y c in absurd (none_at_nil k y a)

-- what is reached as far as commits were read is reached
pub reached_read : (faults : ObjectId → Option Error) (g : Commits ObjectId) (ends : List ObjectId) {x : ObjectId} → ReachedFrom (as_read faults g) ends x → ReachedFrom g ends x
reached_read faults g ends (tip t p) = tip t tt
reached_read faults g ends (parent {x = c} {y = y} r n p) = parent (reached_read faults g ends r) (subst (λ (v : Commit ObjectId). Contains v.parents y) (edges_read faults g c y n) n) tt

-- what is known of each by its facts
abbrev pub pick_in : {A : Type 0} → (Facts → A) → A → List ObjectId → List Facts → ObjectId → A
pick_in f none [] told x = none
pick_in f none (k ∷ ks) [] x = none
pick_in f none (k ∷ ks) (r ∷ rs) x = cond (same_id x k) (f r) (pick_in f none ks rs x)

pub once_tail : (k : ObjectId) (ks : List ObjectId) → IsOnce (k ∷ ks) → IsOnce ks
once_tail k ks once i j y a b = let e = once (suc i) (suc j) y a b in omega arith

pub pick_at : {A : Type 0} (f : Facts → A) (none : A) (keys : List ObjectId) (told : List Facts) (n : ℕ) (x : ObjectId) (facts : Facts) → IsOnce keys → At keys n x → At told n facts → pick_in f none keys told x ≡ f facts
pick_at f none [] told n x facts once a b = absurd (none_at_nil n x a)
pick_at f none (k ∷ ks) [] n x facts once a b = absurd (none_at_nil n facts b)
pick_at f none (k ∷ ks) (r ∷ rs) zero x facts once a b =
    let e : k ≡ x = cc in
    let g : r ≡ facts = cc in
    let t : same_id x k ≡ true = ap (same_id x) e ∙ same_id_apart.itself x in
    rw t (ap f g)
pick_at {A} f none (k ∷ ks) (r ∷ rs) (suc n) x facts once a b = go (same_id x k) refl (pick_at f none ks rs n x facts (once_tail k ks once) a b)
  where
    go : (t : Bool) → same_id x k ≡ t → pick_in f none ks rs x ≡ f facts → pick_in f none (k ∷ ks) (r ∷ rs) x ≡ f facts
    go true e h = let here : At (k ∷ ks) 0 x = ap Some (sym (same_from_test x k e)) in let z = once 0 (suc n) x here a in absurd (omega arith)
    go false e h = rw e h

-- the fault with which each commit was read
abbrev pub fault_in : List ObjectId → List Facts → ObjectId → Option Error
fault_in keys told x = pick_in (λ (r : Facts). r.fault) None keys told x

pub fault_at : (keys : List ObjectId) (told : List Facts) (n : ℕ) (x : ObjectId) (facts : Facts) → IsOnce keys → At keys n x → At told n facts → fault_in keys told x ≡ facts.fault
fault_at keys told n x facts once a b = pick_at (λ (r : Facts). r.fault) None keys told n x facts once a b

pub fault_from : (keys : List ObjectId) (told : List Facts) (x : ObjectId) (error : Error) → fault_in keys told x ≡ Some error → (n : ℕ) × (facts : Facts) × At keys n x × At told n facts × (facts.fault ≡ Some error)
fault_from [] told x error e = let z : ⊥ = cc in absurd z
fault_from (k ∷ ks) [] x error e = let z : ⊥ = cc in absurd z
fault_from (k ∷ ks) (r ∷ rs) x error e = go (same_id x k) refl (λ g. fault_from ks rs x error g)
  where
    go : (t : Bool) → same_id x k ≡ t → (fault_in ks rs x ≡ Some error → (n : ℕ) × (facts : Facts) × At ks n x × At rs n facts × (facts.fault ≡ Some error)) → (n : ℕ) × (facts : Facts) × At (k ∷ ks) n x × At (r ∷ rs) n facts × (facts.fault ≡ Some error)
    go true f rest = (0, r, ap Some (sym (same_from_test x k f)), refl, (let g : r.fault ≡ Some error = rw f at e in g))
    go false f rest = let g : fault_in ks rs x ≡ Some error = rw f at e in let (n, facts, a, b, h) = rest g in (suc n, facts, a, b, h)

module _ (honest may_fail : Type 0) (rows : List Row) (table : Table) (keys : List ObjectId) (told : List Facts) (once : IsOnce keys) (read : (n : ℕ) (x : ObjectId) (facts : Facts) → At keys n x → At told n facts → AreFacts honest may_fail rows table x facts) where
  pub causes : (x : ObjectId) → IfSome (fault_in keys told x) (IsFaultOf honest may_fail rows table x)
  causes x = go (fault_in keys told x) refl
    where
      go : (o : Option Error) → fault_in keys told x ≡ o → IfSome o (IsFaultOf honest may_fail rows table x)
      go None e = tt
      go (Some error) e = let (n, facts, a, b, f) = fault_from keys told x error e in subst (λ (o : Option Error). IfSome o (IsFaultOf honest may_fail rows table x)) f (read n x facts a b).cause

  module _ (yes : honest) (g : Commits ObjectId) (are : AreTold rows table g) where
    pub tells_so : (n : ℕ) (x : ObjectId) (facts : Facts) → At keys n x → At told n facts → Tells rows (as_read (fault_in keys told) g) x facts
    tells_so n x facts a b = go facts.fault refl
      where
        found : fault_in keys told x ≡ facts.fault
        found = fault_at keys told n x facts once a b

        go : (o : Option Error) → facts.fault ≡ o → Tells rows (as_read (fault_in keys told) g) x facts
        go None e =
            let same : as_read (fault_in keys told) g x ≡ g x = read_is (fault_in keys told) g x (found ∙ e) in
            let t = (read n x facts a b).told yes g are e in
            record {
              parents = t.parents ∙ ap (λ (v : Commit ObjectId). v.parents) (sym same);
              time = t.time ∙ ap (λ (v : Commit ObjectId). v.time) (sym same);
              generation = t.generation;
            }
        go (Some error) e =
            let same : as_read (fault_in keys told) g x ≡ read_so (Some error) (g x) = ap (λ (o : Option Error). read_so o (g x)) (found ∙ e) in
            let (ps, t, gen) = (read n x facts a b).blank (subst (λ (o : Option Error). IsSome o) (sym e) refl) in
            record {
              parents = ps ∙ ap (λ (v : Commit ObjectId). v.parents) (sym same);
              time = t ∙ ap (λ (v : Commit ObjectId). v.time) (sym same);
              generation = gen;
            }

    pub parents_so : ParentsFrom 0 (as_read (fault_in keys told) g) keys told
    parents_so n x facts l a b = (tells_so n x facts a b).parents
