-- A walk gives one commit after another, up to its end.
use Rattle.std.proofs.Common.{◌≡◌, ℕ, ◌<◌, ◌≤◌, ◌⊎◌, inl, inr, List, [], ◌∷◌, ◌++◌, length, drop, refl, sym, ◌∙◌, ap, subst, arith, Some, None, Option, Bool, true, false, append-nil}
use Rattle.std.specs.Prelude.{Contains, ⊤, filter, ◌↔◌, IfOk, IfErr, OnOk, Result, Ok, Err}
use Rattle.std.proofs.lemmas.Option.{slice_get_within}
use Rattle.std.proofs.lemmas.List.Elements.{Contains-append_left, Contains-push, Contains-push_cases}
use Rattle.gix_hash.specs.declared.object_id.ObjectId.{ObjectId}
use Rattle.gix_traverse_graph.specs.Commits.{Commit, Commits, asked, asked_parents, Reached, tip, parent, Passes, Hides, Listed}
use Rattle.gix_traverse_commit_known.specs.Fetching.{HasRowsGeneration}
use Rattle.gix_traverse_graph.specs.Numbered.{same_id}
use Rattle.gix_traverse_graph.specs.Order.{At, IsReady, IsChosen}
use Rattle.gix_traverse_graph.specs.declared.info.Info.{Info}
use Rattle.gix_traverse_graph.specs.declared.parents.Parents.{Parents}
use Rattle.gix_traverse_graph.specs.declared.rows.Row.{Row}
use Rattle.gix_traverse_graph.proofs.Ids.{same_id_apart}
use Rattle.gix_traverse_graph.proofs.Lists.{at_one, at_from_contains, none_at_nil}
use Rattle.gix_traverse_graph.proofs.Listing.{asked_parent, listed_reached, listed_from_reached}
use Rattle.gix_traverse_topo.specs.Nodes.{all_facts, counts, Tells, IsOnce, hidden_in}
use Rattle.gix_traverse_topo.specs.Standing.{id_at, ids_of, Comes, Gives, GoesOff, RowOff, Standing, Steps, IsInfo, IsNext, Stands, as_read, IsTurn, IsTurnOf, topo_request, all_accepted, Answers, NoneReachesItself, weight}
use Rattle.gix_traverse_topo.specs.Turns.{total}
use Rattle.gix_traverse_topo.specs.Waiting.{waiting, Popped}
use Rattle.gix_traverse_topo.specs.declared.error.Error.{Error}
use Rattle.gix_traverse_topo.specs.declared.error.Error.TheVariants.{Memory}
use Rattle.gix_traverse_topo.specs.declared.init.Sorting.{Sorting}
use Rattle.gix_traverse_topo.specs.declared.init.Sorting.TheVariants.{DateOrder, TopoOrder}
use Rattle.gix_traverse_topo.specs.declared.known.Known.{Known}
use Rattle.gix_traverse_topo.specs.declared.known.Node.{Node}
use Rattle.gix_traverse_topo.specs.declared.known.Facts.{Facts}
use Rattle.gix_traverse_topo.specs.declared.ready.Pending.{Pending}
use Rattle.gix_traverse_topo.specs.declared.ready.Ready.{Ready}
use Rattle.gix_traverse_topo.proofs.Counting.{at_id, number_in}
use Rattle.gix_traverse_topo.proofs.Ends.{all_given}
use Rattle.gix_traverse_topo.proofs.Found.{read_is, edges_read}
use Rattle.gix_traverse_topo.proofs.Meeting.{asked_same, length_map}
use Rattle.gix_traverse_topo.proofs.Moved.{date_moved, topological_moved}
use Rattle.gix_traverse_topo.proofs.Stepping as stepping
use Rattle.gix_traverse_topo.proofs.Turns as turns
use Rattle.gix_traverse_topo.proofs.Updates.{at_within, popped_length}

pub popped_none : (a b : Ready) (p : Pending) → Popped a p b → waiting a ≡ [] → ⊥
popped_none a b p h e = let (k, at) = at_from_contains [] p (subst (λ (zs : List Pending). Contains zs p) e (stepping.popped_in a b p h)) in none_at_nil k p at

pub turn_falls : (known known' : Known) (a b c : Ready) (p : Pending) → Popped a p b → weight known' c ≤ weight known b → weight known' c < weight known a
turn_falls known known' a b c p h l = let e = popped_length a b p h in omega arith

-- ---- one turn

module _ (sorting : Sorting) (rows : List Row) (h : Commits ObjectId) (tips : List ObjectId) (parents : Parents) (hs xs finished : List ObjectId) (known : Known) (ready : Ready) (st : Standing sorting rows h tips parents hs xs finished known ready) (p : Pending) (ready' : Ready) (popped : Popped ready p ready') where
  -- what was read of the commit whose turn it is
  told_of : (x : ObjectId) (facts : Facts) → At known.ids.keys p.number.0 x → At (all_facts known.nodes.items) p.number.0 facts → Tells rows h x facts
  told_of x facts here at =
      let low = (stepping.x_of sorting rows h tips parents hs xs finished known ready st p ready' popped).1 in
      let top = stepping.top sorting rows h tips parents hs xs finished known ready st p ready' popped x here in
      st.tells p.number.0 x facts low here at top.1

  row_of : (x : ObjectId) (facts : Facts) → At known.ids.keys p.number.0 x → At (all_facts known.nodes.items) p.number.0 facts → asked parents facts.parents.items ≡ asked_parents parents h x
  row_of x facts here at = ap (asked parents) (told_of x facts here at).parents ∙ sym (asked_same parents h x)

  pub steps : (new : Known) (ready'' : Ready) (info : Info) → new.ids ≡ known.ids → hidden_in new.nodes.items ≡ hidden_in known.nodes.items → Gives p.number.0 parents known ready' new ready'' info → Steps sorting rows h tips parents hs xs finished known ready new ready'' info
  steps new ready'' info same_ids same_hidden gives =
      let x : ObjectId = info.id in
      let tells = told_of x gives.facts gives.id gives.at in
      let e = row_of x gives.facts gives.id gives.at in
      let once = stepping.xs_once sorting rows h tips parents hs xs finished known ready st p ready' popped x gives.id in
      let goes = stepping.goes_off sorting rows h tips parents hs xs finished known ready st p ready' popped x gives.id (asked parents gives.facts.parents.items) e in
      let (m, long, off) = gives.off (asked_parents parents h) h finished hs xs goes once in
      let top = stepping.top sorting rows h tips parents hs xs finished known ready st p ready' popped x gives.id in
      record {
        standing = stepping.step sorting rows h tips parents hs xs finished known ready st p ready' popped x gives.id (asked parents gives.facts.parents.items) m new ready'' e long off same_ids same_hidden gives.as_many gives.others;
        is_info = record {
          parents = gives.parents ∙ tells.parents;
          time = gives.time ∙ ap Some tells.time;
          generation = subst (λ (o : Option ℕ). HasRowsGeneration rows info.id o) (sym gives.generation) tells.generation;
        };
        number = p.number.0;
        facts = gives.facts;
        new_one = top.1;
        behind = (stepping.x_of sorting rows h tips parents hs xs finished known ready st p ready' popped).1;
        id = gives.id;
        at = gives.at;
        read = gives.read;
        others = gives.others;
      }

  pub turn_of : (error : Error) → ((way : ObjectId → List ObjectId) (h : Commits ObjectId) (before hs xs : List ObjectId) (facts : Facts) → At (all_facts known.nodes.items) p.number.0 facts → GoesOff way h before (asked parents facts.parents.items) hs xs known → IsOnce xs → (error ≡ Memory) ⊎ (facts.fault ≡ Some error)) → (error ≡ Memory) ⊎ ((x : ObjectId) × (n : ℕ) × (facts : Facts) × At known.ids.keys n x × At (all_facts known.nodes.items) n facts × (facts.fault ≡ Some error) × IsNext sorting h tips parents (Contains xs) finished x)
  turn_of error refused =
      let (x, low, here, timed) = stepping.x_of sorting rows h tips parents hs xs finished known ready st p ready' popped in
      let within : p.number.0 < length (all_facts known.nodes.items) = omega (arith, slice_get_within known.ids.keys p.number.0 x here, st.all_read, length_map (λ (v : Node). v.facts) known.nodes.items) in
      let (facts, at) = at_within (all_facts known.nodes.items) p.number.0 within in
      let e = row_of x facts here at in
      let once = stepping.xs_once sorting rows h tips parents hs xs finished known ready st p ready' popped x here in
      let goes = stepping.goes_off sorting rows h tips parents hs xs finished known ready st p ready' popped x here (asked parents facts.parents.items) e in
      elim (refused (asked_parents parents h) h finished hs xs facts at goes once) [
        | inl m ↦ inl m
        | inr f ↦ inr (x, p.number.0, facts, here, at, f, next x here)
      ]
    where
      next : (x : ObjectId) → At known.ids.keys p.number.0 x → IsNext sorting h tips parents (Contains xs) finished x
      next x here =
          let top = stepping.top sorting rows h tips parents hs xs finished known ready st p ready' popped x here in
          let x_is : id_at known.ids.keys p.number.0 ≡ x = stepping.x_is sorting rows h tips parents hs xs finished known ready st p ready' popped x here in
          let bag = stepping.bag sorting rows h tips parents hs xs finished known ready st p ready' popped x here in
          record {
            listed = top.0;
            new = top.1;
            ready = top.2;
            first = λ y s n r d.
                let rest = turns.left same_id same_id_apart (asked_parents parents h) (Contains xs) (Comes sorting (asked_parents parents h) tips (λ z. (h z).time)) finished (ids_of known.ids.keys (waiting ready)) (ids_of known.ids.keys (waiting ready')) x st.waits bag y (st.waits.all y s n r) d in
                subst (λ (z : ObjectId). Comes sorting (asked_parents parents h) tips (λ v. (h v).time) finished z y) x_is (stepping.popped_first (asked_parents parents h) tips (λ v. (h v).time) known.ids.keys finished sorting ready ready' p popped st.ranks timed_all y rest);
          }
        where
          timed_all : (q : Pending) → Contains (waiting ready) q → q.time ≡ (h (id_at known.ids.keys q.number.0)).time
          timed_all q c = let (y, l, a, t) = st.numbered q c in t ∙ ap (λ (z : ObjectId). (h z).time) (sym (at_id known.ids.keys q.number.0 y a))

-- ---- what was given

pub filter_push : (p : ObjectId → Bool) (xs : List ObjectId) (y : ObjectId) → filter p (xs ++ y ∷ []) ≡ filter p xs ++ filter p (y ∷ [])
filter_push p [] y = refl
filter_push p (x ∷ xs) y = go (p x) refl (filter_push p xs y)
  where
    go : (b : Bool) → p x ≡ b → filter p (xs ++ y ∷ []) ≡ filter p xs ++ filter p (y ∷ []) → filter p ((x ∷ xs) ++ y ∷ []) ≡ filter p (x ∷ xs) ++ filter p (y ∷ [])
    go true e r = rw e (ap (λ (zs : List ObjectId). x ∷ zs) r)
    go false e r = rw e r

pub filter_yes : (p : ObjectId → Bool) (y : ObjectId) → p y ≡ true → filter p (y ∷ []) ≡ y ∷ []
filter_yes p y e = rw e refl

pub filter_no : (p : ObjectId → Bool) (y : ObjectId) → p y ≡ false → filter p (y ∷ []) ≡ []
filter_no p y e = rw e refl

module _ (sorting : Sorting) (rows : List Row) (faults : ObjectId → Option Error) (g : Commits ObjectId) (tips ends : List ObjectId) (parents : Parents) (accepts : ObjectId → Bool) where
  pub stands_step : (given : List ObjectId) (old new : Known) (ready ready' : Ready) (info : Info) → new.ids ≡ old.ids → (sd : Stands sorting rows faults g tips ends parents accepts given old ready) → Steps sorting rows (as_read faults g) tips parents sd.hs sd.xs sd.finished old ready new ready' info → Stands sorting rows faults g tips ends parents accepts (given ++ filter accepts (info.id ∷ [])) new ready' × IsInfo rows g info
  stands_step given old new ready ready' info same_ids sd s = (
    record {
      hs = sd.hs;
      xs = sd.xs;
      finished = sd.finished ++ info.id ∷ [];
      standing = s.standing;
      lists = sd.lists;
      hides = sd.hides;
      faulty = λ n x facts l a b out. sd.faulty n x facts (subst (λ (k : ℕ). k ≤ n) hidden_same l) (back n x a) (s.others n facts (λ e. out (subst (λ (z : ObjectId). Contains (sd.finished ++ info.id ∷ []) z) (at_one old.ids.keys s.number info.id x s.id (subst (λ (k : ℕ). At old.ids.keys k x) e (back n x a))) (Contains-push sd.finished info.id))) b) (λ c. out (more x c));
      finished_read = λ x c. elim (Contains-push_cases sd.finished info.id x c) [ inl d ↦ sd.finished_read x d | inr e ↦ subst (λ (z : ObjectId). faults z ≡ None) e unfaulted ];
      given_are = ap (λ (zs : List ObjectId). zs ++ filter accepts (info.id ∷ [])) sd.given_are ∙ sym (filter_push accepts sd.finished info.id);
    },
    record {
      parents = s.is_info.parents ∙ ap (λ (v : Commit ObjectId). v.parents) same;
      time = s.is_info.time ∙ ap (λ (v : Commit ObjectId). Some v.time) same;
      generation = s.is_info.generation;
    },
  )
    where
      back : (n : ℕ) (x : ObjectId) → At new.ids.keys n x → At old.ids.keys n x
      back n x a = subst (λ (zs : List ObjectId). At zs n x) (ap (λ i. i.keys) same_ids) a

      hidden_same : hidden_in new.nodes.items ≡ hidden_in old.nodes.items
      hidden_same = s.standing.hidden_are ∙ sym sd.standing.hidden_are

      more : (x : ObjectId) → Contains sd.finished x → Contains (sd.finished ++ info.id ∷ []) x
      more x c = Contains-append_left sd.finished (info.id ∷ []) x c

      unfaulted : faults info.id ≡ None
      unfaulted = sym (sd.faulty s.number info.id s.facts s.behind s.id s.at s.new_one) ∙ s.read

      same : as_read faults g info.id ≡ g info.id
      same = read_is faults g info.id unfaulted

  -- ---- the end

  module _ (h : Commits ObjectId) (xs : List ObjectId) (lists : (x : ObjectId) → Contains xs x ↔ Listed h (topo_request tips ends parents all_accepted) x) (hides : (x : ObjectId) → Hides h (topo_request tips ends parents all_accepted) x ↔ Hides g (topo_request tips ends parents all_accepted) x) where
    conv : ((x y : ObjectId) → Contains xs x → Contains (h x).parents y → h x ≡ g x) → (x : ObjectId) → Contains xs x → {y : ObjectId} → Reached (asked_parents parents h) (Contains xs) (asked_parents parents h x) y → Reached (λ z. (g z).parents) (λ _. ⊤) (g x).parents y
    conv edges x s (tip {x = y} t k) = let n = asked_parent h parents x y t in tip (subst (λ (v : Commit ObjectId). Contains v.parents y) (edges x y s n) n) tt
    conv edges x s (parent {x = c} {y = y} r n k) = let m = asked_parent h parents c y n in parent (conv edges x s r) (subst (λ (v : Commit ObjectId). Contains v.parents y) (edges c y (member r) m) m) tt
      where
        member : {z : ObjectId} → Reached (asked_parents parents h) (Contains xs) (asked_parents parents h x) z → Contains xs z
        member (tip t k) = k
        member (parent r n k) = k

    -- what is reached as far as commits were read is reached
    pub to_g : ((x y : ObjectId) → Contains xs x → Contains (h x).parents y → h x ≡ g x) → {x : ObjectId} → Reached (asked_parents parents h) (Listed h (topo_request tips ends parents all_accepted)) tips x → Reached (asked_parents parents g) (Passes g (topo_request tips ends parents all_accepted)) tips x
    to_g edges (tip t l) = tip t (refl, tt)
    to_g edges (parent {x = c} {y = y} r n l) =
        let s = (lists c).1 (listed_from_reached h (topo_request tips ends parents all_accepted) r) in
        let e = edges c y s (asked_parent h parents c y n) in
        let way : asked_parents parents h c ≡ asked_parents parents g c = asked_same parents h c ∙ ap (λ (v : Commit ObjectId). asked parents v.parents) e ∙ sym (asked_same parents g c) in
        parent (to_g edges r) (subst (λ (zs : List ObjectId). Contains zs y) way n) (refl, tt)

    pub in_walk : ((x y : ObjectId) → Contains xs x → Contains (h x).parents y → h x ≡ g x) → (x : ObjectId) → Contains xs x → Listed g (topo_request tips ends parents all_accepted) x
    in_walk edges x c = let l = (lists x).0 c in (to_g edges (listed_reached h (topo_request tips ends parents all_accepted) l.0 l.1), λ k. l.1 ((hides x).1 k))

    module _ (edges : (x y : ObjectId) → Contains xs x → Contains (h x).parents y → h x ≡ g x) (agree : (x : ObjectId) → Contains xs x → h x ≡ g x) where
      pub ways_agree : (x : ObjectId) → Contains xs x → asked_parents parents h x ≡ asked_parents parents g x
      ways_agree x s = asked_same parents h x ∙ ap (λ (v : Commit ObjectId). asked parents v.parents) (agree x s) ∙ sym (asked_same parents g x)

      to_h : {x : ObjectId} → Reached (asked_parents parents g) (Listed g (topo_request tips ends parents all_accepted)) tips x → Reached (asked_parents parents h) (Passes h (topo_request tips ends parents all_accepted)) tips x
      to_h (tip t l) = tip t (refl, tt)
      to_h (parent {x = c} {y = y} r n l) =
          let before = to_h r in
          let clear = (listed_from_reached g (topo_request tips ends parents all_accepted) r).1 in
          let s = (lists c).1 (before, λ k. clear ((hides c).0 k)) in
          parent before (subst (λ (zs : List ObjectId). Contains zs y) (sym (ways_agree c s)) n) (refl, tt)

      pub same_set : (x : ObjectId) → Contains xs x ↔ Listed g (topo_request tips ends parents all_accepted) x
      same_set x = (
        in_walk edges x,
        λ l. (lists x).1 (to_h (listed_reached g (topo_request tips ends parents all_accepted) l.0 l.1), λ k. l.1 ((hides x).0 k)),
      )

  pub answers : (given : List ObjectId) (known : Known) (ready : Ready) → Stands sorting rows faults g tips ends parents accepts given known ready → waiting ready ≡ [] → NoneReachesItself g (topo_request tips ends parents all_accepted) → Answers sorting g (topo_request tips ends parents accepts) given
  answers given known ready sd empty acyclic = go sorting chosen
    where
      none_waits : (x : ObjectId) → Contains (ids_of known.ids.keys (waiting ready)) x → ⊥
      none_waits x c = let (k, a) = at_from_contains [] x (subst (λ (zs : List Pending). Contains (ids_of known.ids.keys zs) x) empty c) in none_at_nil k x a

      edges : (x y : ObjectId) → Contains sd.xs x → Contains (as_read faults g x).parents y → as_read faults g x ≡ g x
      edges x y s n = edges_read faults g x y n

      cyclic : (x : ObjectId) → Contains sd.xs x → Reached (asked_parents parents (as_read faults g)) (Contains sd.xs) (asked_parents parents (as_read faults g) x) x → ⊥
      cyclic x s r = acyclic x (in_walk (as_read faults g) sd.xs sd.lists sd.hides edges x s) (conv (as_read faults g) sd.xs sd.lists sd.hides edges x s r)

      every : (x : ObjectId) → Contains sd.xs x → Contains sd.finished x
      every = all_given same_id same_id_apart (asked_parents parents (as_read faults g)) sd.xs sd.finished cyclic (λ x s n r. none_waits x (sd.standing.waits.all x s n r))

      agree : (x : ObjectId) → Contains sd.xs x → as_read faults g x ≡ g x
      agree x s = read_is faults g x (sd.finished_read x (every x s))

      chosen : IsChosen (Contains sd.xs) (IsReady (asked_parents parents (as_read faults g)) (Contains sd.xs)) (Comes sorting (asked_parents parents (as_read faults g)) tips (λ x. (as_read faults g x).time)) sd.finished
      chosen = turns.waits_end same_id same_id_apart (asked_parents parents (as_read faults g)) (Contains sd.xs) (Comes sorting (asked_parents parents (as_read faults g)) tips (λ x. (as_read faults g x).time)) sd.finished (ids_of known.ids.keys (waiting ready)) sd.standing.waits every

      go : (s : Sorting) → IsChosen (Contains sd.xs) (IsReady (asked_parents parents (as_read faults g)) (Contains sd.xs)) (Comes s (asked_parents parents (as_read faults g)) tips (λ x. (as_read faults g x).time)) sd.finished → Answers s g (topo_request tips ends parents accepts) given
      go DateOrder c = (sd.finished, date_moved (asked_parents parents (as_read faults g)) (asked_parents parents g) (Contains sd.xs) (Listed g (topo_request tips ends parents all_accepted)) (same_set (as_read faults g) sd.xs sd.lists sd.hides edges agree) (ways_agree (as_read faults g) sd.xs sd.lists sd.hides edges agree) (λ x. (as_read faults g x).time) (λ x. (g x).time) (λ x s. ap (λ (v : Commit ObjectId). v.time) (agree x s)) sd.finished c, sd.given_are)
      go TopoOrder c = (sd.finished, topological_moved (asked_parents parents (as_read faults g)) (asked_parents parents g) (Contains sd.xs) (Listed g (topo_request tips ends parents all_accepted)) (same_set (as_read faults g) sd.xs sd.lists sd.hides edges agree) (ways_agree (as_read faults g) sd.xs sd.lists sd.hides edges agree) (λ x. (as_read faults g x).time) (λ x. (g x).time) (λ x s. ap (λ (v : Commit ObjectId). v.time) (agree x s)) tips sd.finished c, sd.given_are)

-- ---- what a call gave

pub gives_of : (r : Result Info Error) (n : ℕ) (along : Parents) (old mid new : Known) (ready ready' : Ready) → mid.ids ≡ old.ids → all_facts mid.nodes.items ≡ all_facts old.nodes.items → counts new.nodes.items ≡ counts mid.nodes.items → length new.nodes.items ≡ length old.nodes.items → ((facts : Facts) → At (all_facts old.nodes.items) n facts → facts.fault ≡ None) → ((k : ℕ) (facts : Facts) → (k ≡ n → ⊥) → At (all_facts new.nodes.items) k facts → At (all_facts mid.nodes.items) k facts)
    → ((way : ObjectId → List ObjectId) (h : Commits ObjectId) (before hs xs : List ObjectId) (facts : Facts) → At (all_facts old.nodes.items) n facts → GoesOff way h before (asked along facts.parents.items) hs xs old → IsOnce xs → (m : ℕ) × (length (asked along facts.parents.items) ≤ m) × RowOff (hidden_in old.nodes.items) old.ids.keys way h before (asked along facts.parents.items) xs ready m (counts mid.nodes.items) ready')
    → IfOk r (λ info. At mid.ids.keys n info.id × ((facts : Facts) × At (all_facts mid.nodes.items) n facts × (info.parent_ids.items ≡ facts.parents.items) × (info.generation ≡ facts.generation) × (info.commit_time ≡ Some facts.time)))
    → IfOk r (Gives n along old ready new ready')
gives_of (Ok info) n along old mid new ready ready' ids told same_counts many unfaulted others off (id, (facts, at, ps, generation, time)) =
    let at' : At (all_facts old.nodes.items) n facts = subst (λ (zs : List Facts). At zs n facts) told at in
    record {
      facts = facts;
      at = at';
      read = unfaulted facts at';
      id = subst (λ (zs : List ObjectId). At zs n info.id) (ap (λ i. i.keys) ids) id;
      parents = ps;
      generation = generation;
      time = time;
      off = λ way h before hs xs goes once.
          let (m, l, r) = off way h before hs xs facts at' goes once in
          (m, l, subst (λ (cs : List ℕ). RowOff (hidden_in old.nodes.items) old.ids.keys way h before (asked along facts.parents.items) xs ready m cs ready') (sym same_counts) r);
      others = λ k other d a. subst (λ (zs : List Facts). At zs k other) told (others k other d a);
      as_many = many;
    }
gives_of (Err e) n along old mid new ready ready' ids told same_counts many unfaulted others off taken = tt

pub take_refused : (r : Result Info Error) (n : ℕ) (along : Parents) (old mid : Known) → mid.ids ≡ old.ids → all_facts mid.nodes.items ≡ all_facts old.nodes.items → IfErr r (λ _. (length (all_facts mid.nodes.items) ≤ n) ⊎ (length mid.ids.keys ≤ n)) → IfErr r (λ error. (way : ObjectId → List ObjectId) (h : Commits ObjectId) (before hs xs : List ObjectId) (facts : Facts) → At (all_facts old.nodes.items) n facts → GoesOff way h before (asked along facts.parents.items) hs xs old → IsOnce xs → (error ≡ Memory) ⊎ (facts.fault ≡ Some error))
take_refused (Ok info) n along old mid ids told refused = tt
take_refused (Err e) n along old mid ids told refused = λ way h before hs xs facts at goes once.
    let within = slice_get_within (all_facts old.nodes.items) n facts at in
    let same = ap length told in
    let keys = ap (λ i. length i.keys) ids in
    let long = length_map (λ (v : Node). v.facts) old.nodes.items in
    let all = goes.all_read in
    absurd (elim refused [ inl l ↦ omega arith | inr l ↦ omega arith ])

pub take_falls : (r : Result Info Error) (old mid new : Known) (ready ready' : Ready) → hidden_in new.nodes.items ≡ hidden_in mid.nodes.items → counts new.nodes.items ≡ counts mid.nodes.items → weight mid ready' ≤ weight old ready → OnOk r (weight new ready' ≤ weight old ready)
take_falls (Ok info) old mid new ready ready' h e l =
    let f : total (λ (c : ℕ). c) (drop (hidden_in new.nodes.items) (counts new.nodes.items)) ≡ total (λ (c : ℕ). c) (drop (hidden_in mid.nodes.items) (counts mid.nodes.items)) = ap (λ (low : ℕ). total (λ (c : ℕ). c) (drop low (counts new.nodes.items))) h ∙ ap (λ (cs : List ℕ). total (λ (c : ℕ). c) (drop (hidden_in mid.nodes.items) cs)) e in
    omega arith
take_falls (Err x) old mid new ready ready' h e l = tt

module _ (sorting : Sorting) (rows : List Row) (faults : ObjectId → Option Error) (g : Commits ObjectId) (tips ends : List ObjectId) (parents parents' : Parents) (same_parents : parents' ≡ parents) (accepts : ObjectId → Bool) (given : List ObjectId) (old new : Known) (ready ready' : Ready) (info : Info) (same_ids : new.ids ≡ old.ids) (sd : Stands sorting rows faults g tips ends parents accepts given old ready) (stood : (s : Sorting) (rs : List Row) (h : Commits ObjectId) (ts hs xs finished : List ObjectId) → Standing s rs h ts parents' hs xs finished old ready → Steps s rs h ts parents' hs xs finished old ready new ready' info) where
  next_stands : Stands sorting rows faults g tips ends parents accepts (given ++ filter accepts (info.id ∷ [])) new ready' × IsInfo rows g info
  next_stands =
      let st : Standing sorting rows (as_read faults g) tips parents' sd.hs sd.xs sd.finished old ready = subst (λ (p : Parents). Standing sorting rows (as_read faults g) tips p sd.hs sd.xs sd.finished old ready) (sym same_parents) sd.standing in
      let step : Steps sorting rows (as_read faults g) tips parents sd.hs sd.xs sd.finished old ready new ready' info = subst (λ (p : Parents). Steps sorting rows (as_read faults g) tips p sd.hs sd.xs sd.finished old ready new ready' info) same_parents (stood sorting rows (as_read faults g) tips sd.hs sd.xs sd.finished st) in
      stands_step sorting rows faults g tips ends parents accepts given old new ready ready' info same_ids sd step

  pub stands_yes : accepts info.id ≡ true → Stands sorting rows faults g tips ends parents accepts (given ++ info.id ∷ []) new ready' × IsInfo rows g info
  stands_yes e = (subst (λ (zs : List ObjectId). Stands sorting rows faults g tips ends parents accepts (given ++ zs) new ready') (filter_yes accepts info.id e) next_stands.0, next_stands.1)

  pub stands_no : accepts info.id ≡ false → Stands sorting rows faults g tips ends parents accepts given new ready'
  stands_no e = subst (λ (zs : List ObjectId). Stands sorting rows faults g tips ends parents accepts zs new ready') (ap (λ (zs : List ObjectId). given ++ zs) (filter_no accepts info.id e) ∙ append-nil given) next_stands.0

-- ---- why nothing more comes

module _ (sorting : Sorting) (rows : List Row) (faults : ObjectId → Option Error) (g : Commits ObjectId) (tips ends : List ObjectId) (parents parents' : Parents) (same_parents : parents' ≡ parents) (accepts : ObjectId → Bool) (given : List ObjectId) (known : Known) (ready : Ready) (sd : Stands sorting rows faults g tips ends parents accepts given known ready) (error : Error) (refused : (s : Sorting) (rs : List Row) (ts finished : List ObjectId) → IsTurnOf s rs ts parents' finished known ready error) where
  turn_next : (x : ObjectId) → IsNext sorting (as_read faults g) tips parents (Contains sd.xs) sd.finished x → IsTurn sorting faults g (topo_request tips ends parents accepts) given x
  turn_next x next = record {
    finished = sd.finished;
    given_are = sd.given_are;
    read = sd.finished_read;
    next = record {
      listed = (sd.lists x).0 next.listed;
      new = next.new;
      ready = λ c s n. next.ready c ((sd.lists c).1 s) n;
      first = λ y s n r d. next.first y ((sd.lists y).1 s) n (λ c t m. r c ((sd.lists c).0 t) m) d;
    };
    listed = in_walk sorting rows faults g tips ends parents accepts (as_read faults g) sd.xs sd.lists sd.hides (λ y z s n. edges_read faults g y z n) x next.listed;
  }

  pub turn_fault : (error ≡ Memory) ⊎ ((x : ObjectId) × (faults x ≡ Some error) × IsTurn sorting faults g (topo_request tips ends parents accepts) given x)
  turn_fault =
      let all : IsTurnOf sorting rows tips parents sd.finished known ready error = subst (λ (p : Parents). IsTurnOf sorting rows tips p sd.finished known ready error) same_parents (refused sorting rows tips sd.finished) in
      elim (all (as_read faults g) sd.hs sd.xs sd.standing) [
        | inl m ↦ inl m
        | inr (x, n, facts, a, b, f, next) ↦ (
            let (m, l, a') = number_in known.ids.keys sd.hs sd.xs x sd.standing.keys_are next.listed in
            let same : n ≡ m = sd.standing.keys_once n m x a a' in
            inr (x, sym (sd.faulty n x facts (omega (arith, l, same, sd.standing.hidden_are)) a b next.new) ∙ f, turn_next x next))
      ]
