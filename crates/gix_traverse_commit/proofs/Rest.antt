-- What is left of a walk that begins anew.
use Rattle.std.proofs.Common.{◌≡◌, ◌∙◌, ◌+◌, sym, refl, subst, inl, inr, List, [], ◌++◌, length, Bool, true, false, Option}
use Rattle.std.specs.Prelude.{Contains, IsTrue, not, ◌&&◌}
use Rattle.std.proofs.lemmas.List.Elements.{Contains-append_cases, Contains-append_right}
use Rattle.gix_hash.specs.Id.{Id, id_of}
use Rattle.gix_hash.specs.declared.object_id.ObjectId.{ObjectId}
use Rattle.gix_traverse_graph.specs.Commits.{Commits, Reached, tip, parent}
use Rattle.gix_traverse_commit_known.specs.Keeping.{KeptAll}
use Rattle.gix_traverse_commit_known.specs.Nodes.{is_met}
use Rattle.gix_traverse_commit_known.specs.Asked.{Asked, AcceptsAs, keep_of}
use Rattle.gix_traverse_commit.specs.Simply.{GainsNone, IsMade, IsRest, IsTurned, IsUnderWay, IsUnderWayTo, queued_in, times_queued}
use Rattle.gix_traverse_commit.specs.Giving.{InRows}
use Rattle.gix_traverse_commit_known.specs.Ending.{NoneGains, times_in, times_waiting}
use Rattle.gix_traverse_commit_known.specs.Timely.{AllRowed}
use Rattle.gix_traverse_commit_known.specs.Told.{rows_of}
use Rattle.gix_traverse_commit_known.proofs.Ending.{gains_none}
use Rattle.gix_traverse_graph.specs.Rows.{AllHeld}
use Rattle.gix_traverse_graph.specs.declared.rows.Row.{Row}
use Rattle.gix_traverse_graph.specs.Sorting.{in_time}
use Rattle.gix_traverse_commit_known.specs.Known.{KnownCommits, turns_of, waited_of}
use Rattle.gix_traverse_commit.specs.declared.simple.Simple.{Simple}
use Rattle.gix_traverse_graph.proofs.Lists.{at_from_contains}
use Rattle.gix_traverse_commit_known.proofs.KnownLemmas.{none_waited, waited_waits}
use Rattle.gix_traverse_commit_known.proofs.Timely.{in_nil}
use Rattle.std.proofs.lemmas.Bool.{and_parts}

-- what is queued in breadth order is accepted
kept_accepted : (along : ObjectId → List ObjectId) (tips : List ObjectId) (hides : ObjectId → Bool) (accepts : Id → Bool) (has : ObjectId → Bool) (listed queue : List ObjectId) → KeptAll along tips (keep_of hides accepts) has (listed ++ queue) (length listed) → (x : ObjectId) → Contains queue x → accepts (id_of x) ≡ true
kept_accepted along tips hides accepts has listed queue w x c =
    let (k, a) = at_from_contains (listed ++ queue) x (Contains-append_right listed queue x c) in
    (and_parts (not (hides x)) (accepts (id_of x)) (kept (w.kept.read.reached k x a))).1
  where
    kept : {y : ObjectId} → Reached along (λ q. IsTrue (keep_of hides accepts q)) tips y → keep_of hides accepts y ≡ true
    kept (tip t k) = k
    kept (parent r n k) = k

module _ {F P : Type 0} (accepts : P → Id → Bool) (walk : Simple F P) where
  queued_accepted : (ids : List Id) (g : Commits ObjectId) (a : Asked) (listed : List ObjectId) → IsUnderWay accepts ids g a listed walk → (x : ObjectId) → Contains (queued_in walk) x → a.accepts (id_of x) ≡ true
  queued_accepted ids g a listed u x c = elim u [
    | inl w ↦ elim (Contains-append_cases walk.known.queue (waited_of walk.known) x c) [
      | inl d ↦ kept_accepted _ a.tips w.hides a.accepts (is_met walk.known.nodes) listed walk.known.queue w.walked x d
      | inr d ↦ absurd (in_nil x (subst (λ (zs : List ObjectId). Contains zs x) (none_waited walk.known w.none_waits) d))
    ]
    | inr w ↦ elim (Contains-append_cases walk.known.queue (waited_of walk.known) x c) [
      | inl d ↦ absurd (in_nil x (subst (λ (zs : List ObjectId). Contains zs x) w.empty d))
      | inr d ↦ (let kept = (w.met.some x (waited_waits walk.known x d)).0 in (and_parts (a.accepts (id_of x)) (in_time w.by_time.since (g x).time) (and_parts (not (w.hides x)) (a.accepts (id_of x) && in_time w.by_time.since (g x).time) kept).1).0)
    ]
  ]

  begun_under : (ids : List Id) (g : Commits ObjectId) (a : Asked) (listed : List ObjectId) → IsUnderWay accepts ids g a listed walk → walk.begun ≡ true
  begun_under ids g a listed u = elim u [ inl w ↦ w.begun | inr w ↦ w.begun ]

  pub begun_to : (rest : Asked) → IsUnderWayTo accepts rest walk → walk.begun ≡ true
  begun_to rest u = begun_under u.ids u.g u.a u.listed u.under_way

  hidden_under : (ids : List Id) (g : Commits ObjectId) (a : Asked) (listed : List ObjectId) → IsUnderWay accepts ids g a listed walk → walk.hidden.items ≡ a.hidden
  hidden_under ids g a listed u = elim u [ inl w ↦ w.hidden_same | inr w ↦ w.hidden_same ]

  parents_under : (ids : List Id) (g : Commits ObjectId) (a : Asked) (listed : List ObjectId) → IsUnderWay accepts ids g a listed walk → walk.parents ≡ a.parents
  parents_under ids g a listed u = elim u [ inl w ↦ w.parents | inr w ↦ w.parents ]

  sorting_under : (ids : List Id) (g : Commits ObjectId) (a : Asked) (listed : List ObjectId) → IsUnderWay accepts ids g a listed walk → walk.sorting ≡ a.sorting
  sorting_under ids g a listed u = elim u [ inl w ↦ w.sorting | inr w ↦ w.sorting ]

  accepts_under : (ids : List Id) (g : Commits ObjectId) (a : Asked) (listed : List ObjectId) → IsUnderWay accepts ids g a listed walk → AcceptsAs (accepts walk.predicate) walk.known.nodes a
  accepts_under ids g a listed u = elim u [ inl w ↦ w.accepts_as | inr w ↦ w.accepts_as ]

both_true : (p q : Bool) → (p ≡ true → q ≡ true) → (q ≡ true → p ≡ true) → p ≡ q
both_true true q f b = sym (f refl)
both_true false true f b = b refl
both_true false false f b = refl

refused_rest : {F P : Type 0} (a rest : Asked) (walk : Simple F P) → IsRest a rest walk → (x : ObjectId) → is_met walk.known.nodes x ≡ true → (Contains rest.tips x → ⊥) → rest.accepts (id_of x) ≡ false
refused_rest a rest walk left x m out = go (rest.accepts (id_of x)) refl
  where
    go : (b : Bool) → rest.accepts (id_of x) ≡ b → rest.accepts (id_of x) ≡ false
    go false e = e
    go true e = absurd (elim ((left.accepts x).0 e).1 [ inl c ↦ out c | inr n ↦ n m ])

-- what is left is before the walk once its own tips are gone
pub rest_turned : {F P : Type 0} (accepts : P → Id → Bool) (rest : Asked) (walk walk' : Simple F P) → IsUnderWayTo accepts rest walk → walk'.tips.items ≡ [] → walk'.begun ≡ false → IsTurned accepts rest (record walk { tips = walk'.tips; begun = walk'.begun })
rest_turned accepts rest walk walk' u none f =
    let way = u.under_way in
    let left = u.left in
    let acc = accepts_under accepts walk u.ids u.g u.a u.listed way in
    record {
      begun = f;
      no_tips = none;
      queued = sym left.tips;
      goes_on = λ q w. u.goes_on (record { begun = begun_to accepts walk rest u; empty = q; none_waits = w });
      hidden = hidden_under accepts walk u.ids u.g u.a u.listed way ∙ sym left.hidden;
      parents = parents_under accepts walk u.ids u.g u.a u.listed way ∙ sym left.parents;
      sorting = sorting_under accepts walk u.ids u.g u.a u.listed way ∙ sym left.sorting;
      accepts_as = record {
        given = λ x k. acc.given x ((left.accepts x).0 k).0;
        unmet = λ x n. acc.unmet x n ∙ both_true (u.a.accepts (id_of x)) (rest.accepts (id_of x)) (λ k. (left.accepts x).1 (k, inr (λ m. let z : ⊥ = cc in z))) (λ k. ((left.accepts x).0 k).0);
      };
      accepted = λ x c. (left.accepts x).1 (queued_accepted accepts walk u.ids u.g u.a u.listed way x (subst (λ (zs : List ObjectId). Contains zs x) left.tips c), inl c);
      refused = refused_rest u.a rest walk left;
    }

pub made_order : {F P : Type 0} (accepts : P → Id → Bool) (a : Asked) (walk : Simple F P) → IsMade accepts a walk → (walk.parents ≡ a.parents) × (walk.sorting ≡ a.sorting)
made_order accepts a walk m = elim m [ inl n ↦ (n.parents, n.sorting) | inr t ↦ (t.parents, t.sorting) ]

-- no commit may come more often while the same is known
pub known_gains : {F P : Type 0} (before after : Simple F P) → after.known ≡ before.known → GainsNone before after
known_gains before after e = subst (λ (k : KnownCommits). NoneGains before.known.nodes (times_queued before) k.nodes (λ id. times_in k.queue id + times_waiting (turns_of k) id)) (sym e) (gains_none before.known.nodes (times_queued before))

-- the same rows are read
pub in_rows : {F P : Type 0} (rows : Option (List Row)) (walk : Simple F P) → walk.source.rows ≡ rows → AllHeld (rows_of rows) walk.tips.items → AllHeld (rows_of rows) walk.hidden.items → AllHeld (rows_of rows) walk.known.queue → AllRowed (rows_of rows) (turns_of walk.known) → InRows walk
in_rows rows walk e tips hidden queue waits = record {
  tips = subst (λ (o : Option (List Row)). AllHeld (rows_of o) walk.tips.items) (sym e) tips;
  hidden = subst (λ (o : Option (List Row)). AllHeld (rows_of o) walk.hidden.items) (sym e) hidden;
  queue = subst (λ (o : Option (List Row)). AllHeld (rows_of o) walk.known.queue) (sym e) queue;
  waiting_rows = subst (λ (o : Option (List Row)). AllRowed (rows_of o) (turns_of walk.known)) (sym e) waits;
}
