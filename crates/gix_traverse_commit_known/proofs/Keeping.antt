-- A walk in breadth order that keeps some commits: a list, and what is met.
use Rattle.std.proofs.Common.{◌≡◌, ℕ, suc, ◌+◌, ◌<◌, ◌≤◌, List, [], ◌∷◌, ◌++◌, length, refl, sym, ◌∙◌, ap, subst, arith, Bool, true, false, cond, add-one, length-append, append_assoc, append-nil, inl, inr}
use Rattle.std.specs.Prelude.{Contains, IsTrue, not, ◌&&◌}
use Rattle.std.proofs.lemmas.Option.{slice_get_within}
use Rattle.gix_hash.specs.declared.object_id.ObjectId.{ObjectId}
use Rattle.gix_traverse_graph.specs.Order.{At, IsBreadthFirst, Named}
use Rattle.gix_traverse_graph.specs.Commits.{Reached}
use Rattle.gix_traverse_commit_known.specs.Keeping.{IsMetBy, Kept, KeptAll}
use Rattle.gix_traverse_graph.specs.Numbered.{same_id}
use Rattle.gix_traverse_graph.specs.Reading.{Read}
use Rattle.gix_traverse_graph.specs.Standing.{Reads}
use Rattle.gix_traverse_graph.proofs.Lists.{at_one, at_from_contains, contains_from_at, at_push, at_append, at_from_push}
use Rattle.gix_traverse_graph.proofs.Frontier.{read_none, read_skip, read_push, read_next, read_all}
use Rattle.gix_traverse_graph.proofs.Ids.{same_from_test, test_from_same}

-- the flags after one more is met
abbrev pub Meets : (has has' : ObjectId → Bool) → ObjectId → Type 0
Meets has has' y = (q : ObjectId) → has' q ≡ cond (same_id y q) true (has q)

-- the queue after a commit is met, which is kept or not
abbrev pub Queues : Bool → Bool → List ObjectId → List ObjectId → ObjectId → Type 0
Queues met kept queue queue' y = queue' ≡ cond met queue (cond kept (queue ++ y ∷ []) queue)

pub met_itself : (has has' : ObjectId → Bool) (y : ObjectId) → Meets has has' y → has' y ≡ true
met_itself has has' y new = new y ∙ ap (λ (b : Bool). cond b true (has y)) (test_from_same y y refl)

pub met_more : (has has' : ObjectId → Bool) (y q : ObjectId) → Meets has has' y → has q ≡ true → has' q ≡ true
met_more has has' y q new h = new q ∙ go (same_id y q)
  where
    go : (b : Bool) → cond b true (has q) ≡ true
    go true = refl
    go false = h

-- the same if a hidden commit is passed by
pub stays_met : (has has' : ObjectId → Bool) (hides : Bool) (y q : ObjectId) → ((q : ObjectId) → has' q ≡ cond hides (has q) (cond (same_id y q) true (has q))) → has q ≡ true → has' q ≡ true
stays_met has has' true y q new h = new q ∙ h
stays_met has has' false y q new h = met_more has has' y q new h

pub unmet_before : (has has' : ObjectId → Bool) (y : ObjectId) → (has y ≡ true → has' y ≡ true) → has' y ≡ false → has y ≡ false
unmet_before has has' y grown f = go (has y) refl
  where
    go : (b : Bool) → has y ≡ b → has y ≡ false
    go false e = e
    go true e = let g = grown e in let z : ⊥ = cc in absurd z

pub met_other : (has has' : ObjectId → Bool) (y q : ObjectId) → Meets has has' y → has' q ≡ true → (has q ≡ true → ⊥) → y ≡ q
met_other has has' y q new h old = go (same_id y q) refl
  where
    go : (b : Bool) → same_id y q ≡ b → y ≡ q
    go true e = same_from_test y q e
    go false e = absurd (old (sym (ap (λ (b : Bool). cond b true (has q)) e) ∙ sym (new q) ∙ h))

pub contains_push : (xs : List ObjectId) (y x : ObjectId) → Contains xs x → Contains (xs ++ y ∷ []) x
contains_push xs y x c = let (k, a) = at_from_contains xs x c in contains_from_at (xs ++ y ∷ []) k x (at_push xs y k x a)

module _ (keep : ObjectId → Bool) where
  pub known_none : (has : ObjectId → Bool) (xs : List ObjectId) → xs ≡ [] → ((q : ObjectId) → has q ≡ true → keep q ≡ true → ⊥) → IsMetBy keep has xs
  known_none has xs e h = record {
    listed = λ q c. absurd (nothing q (subst (λ (zs : List ObjectId). Contains zs q) e c));
    met = λ q m k. absurd (h q m k);
  }
    where
      nothing : (q : ObjectId) → Contains [] q → ⊥
      nothing q c = let (k, a) = at_from_contains [] q c in cc

  -- nothing new is listed
  known_same : (has has' : ObjectId → Bool) (xs : List ObjectId) (y : ObjectId) → IsMetBy keep has xs → Meets has has' y → (keep y ≡ true → Contains xs y) → IsMetBy keep has' xs
  known_same has has' xs y w new here = record {
    listed = λ q c. met_more has has' y q new (w.listed q c);
    met = λ q m k. go q m k (has q) refl;
  }
    where
      go : (q : ObjectId) → has' q ≡ true → keep q ≡ true → (b : Bool) → has q ≡ b → Contains xs q
      go q m k true e = w.met q e k
      go q m k false e =
          let same : y ≡ q = met_other has has' y q new m (λ h. let z : ⊥ = cc in z) in
          subst (λ (z : ObjectId). Contains xs z) same (here (subst (λ (z : ObjectId). keep z ≡ true) (sym same) k))

  known_push : (has has' : ObjectId → Bool) (xs : List ObjectId) (y : ObjectId) → IsMetBy keep has xs → Meets has has' y → IsMetBy keep has' (xs ++ y ∷ [])
  known_push has has' xs y w new = record {
    listed = λ q c. listed q c;
    met = λ q m k. go q m k (has q) refl;
  }
    where
      listed : (q : ObjectId) → Contains (xs ++ y ∷ []) q → has' q ≡ true
      listed q c =
          let (k, a) = at_from_contains (xs ++ y ∷ []) q c in
          elim (at_from_push xs y k q a) [
            | inl before ↦ met_more has has' y q new (w.listed q (contains_from_at xs k q before))
            | inr (e, f) ↦ subst (λ (z : ObjectId). has' z ≡ true) (sym f) (met_itself has has' y new)
          ]

      go : (q : ObjectId) → has' q ≡ true → keep q ≡ true → (b : Bool) → has q ≡ b → Contains (xs ++ y ∷ []) q
      go q m k true e = contains_push xs y q (w.met q e k)
      go q m k false e =
          let same : y ≡ q = met_other has has' y q new m (λ h. let z : ⊥ = cc in z) in
          subst (λ (z : ObjectId). Contains (xs ++ y ∷ []) z) same (contains_from_at (xs ++ y ∷ []) (length xs) y (at_append xs y []))

module _ (along : ObjectId → List ObjectId) (tips : List ObjectId) (keep : ObjectId → Bool) where
  pub kept_none : (has : ObjectId → Bool) (xs : List ObjectId) → xs ≡ [] → ((q : ObjectId) → has q ≡ true → keep q ≡ true → ⊥) → Kept along tips keep has xs 0 0
  kept_none has xs e h = record {
    read = subst (λ (zs : List ObjectId). Read along tips (λ q. IsTrue (keep q)) zs 0 0) (sym e) (read_none along tips (λ q. IsTrue (keep q)));
    known = known_none keep has xs e h;
  }

  -- one name is met: it is queued if it was not met and is kept
  pub kept_meet : (has has' : ObjectId → Bool) (kept : Bool) (listed queue queue' : List ObjectId) (p m : ℕ) (y : ObjectId) → Kept along tips keep has (listed ++ queue) p m → Named along tips (listed ++ queue) p m y → Queues (has y) kept queue queue' y → Meets has has' y → (has y ≡ false → keep y ≡ kept) → Kept along tips keep has' (listed ++ queue') p (m + 1)
  kept_meet has has' kept listed queue queue' p m y w n e new which = rw add-one (go (has y) refl kept refl)
    where
      P : List ObjectId → Type 0
      P zs = Kept along tips keep has' (listed ++ zs) p (suc m)

      skip : (keep y ≡ true → Contains (listed ++ queue) y) → P queue
      skip here = record {
        read = read_skip along tips (λ q. IsTrue (keep q)) (listed ++ queue) p m y w.read n here;
        known = known_same keep has has' (listed ++ queue) y w.known new here;
      }

      push : has y ≡ false → keep y ≡ true → P (queue ++ y ∷ [])
      push f k =
          let fresh : Contains (listed ++ queue) y → ⊥ = λ (c : Contains (listed ++ queue) y). let h = w.known.listed y c in let z : ⊥ = cc in z in
          subst (λ (zs : List ObjectId). Kept along tips keep has' zs p (suc m)) (append_assoc listed queue (y ∷ [])) (record {
            read = read_push along tips (λ q. IsTrue (keep q)) (listed ++ queue) p m y w.read n k fresh;
            known = known_push keep has has' (listed ++ queue) y w.known new;
          })

      go : (b : Bool) → has y ≡ b → (c : Bool) → kept ≡ c → P queue'
      go true f c g = let same : queue ≡ queue' = sym (rw f at e) in subst P same (skip (w.known.met y f))
      go false f true g =
          let same : queue ++ y ∷ [] ≡ queue' = sym (rw (f, g) at e) in
          subst P same (push f (which f ∙ g))
      go false f false g =
          let same : queue ≡ queue' = sym (rw (f, g) at e) in
          let out : keep y ≡ false = which f ∙ g in
          subst P same (skip (λ k. let z : ⊥ = cc in absurd z))

  pub kept_start : (has : ObjectId → Bool) (listed queue : List ObjectId) (m : ℕ) → listed ≡ [] → Kept along tips keep has queue 0 m → length tips ≤ m → KeptAll along tips keep has (listed ++ queue) (length listed)
  kept_start has listed queue m e w l =
      let P : List ObjectId → Type 0 = λ zs. KeptAll along tips keep has (zs ++ queue) (length zs) in
      subst P (sym e) (record { count = m; kept = w; all = λ j x a. let k = slice_get_within tips j x a in omega arith })

  pub kept_next : (has : ObjectId → Bool) (xs : List ObjectId) (p : ℕ) → KeptAll along tips keep has xs p → suc p ≤ length xs → Kept along tips keep has xs (suc p) 0
  kept_next has xs p w room = record {
    read = read_next along tips (λ q. IsTrue (keep q)) xs p w.count w.kept.read w.all room;
    known = w.kept.known;
  }

  -- the first of the queue is listed
  pub kept_pop : (has : ObjectId → Bool) (listed queue listed' queue' : List ObjectId) (id : ObjectId) → KeptAll along tips keep has (listed ++ queue) (length listed) → queue ≡ id ∷ queue' → listed' ≡ listed ++ id ∷ [] → Kept along tips keep has (listed' ++ queue') (length listed') 0 × Reads (listed' ++ queue') (length listed') id
  kept_pop has listed queue listed' queue' id w e f =
      let same : listed ++ queue ≡ listed' ++ queue' = ap (λ (zs : List ObjectId). listed ++ zs) e ∙ sym (append_assoc listed (id ∷ []) queue') ∙ ap (λ (zs : List ObjectId). zs ++ queue') (sym f) in
      let long : suc (length listed) ≡ length listed' = omega (arith, ap length f, length-append listed (id ∷ [])) in
      let room : suc (length listed) ≤ length (listed ++ queue) = omega (arith, ap length e, length-append listed queue) in
      let here : At (listed ++ queue) (length listed) id = subst (λ (zs : List ObjectId). At (listed ++ zs) (length listed) id) (sym e) (at_append listed id queue') in (
        subst (λ (zs : List ObjectId). Kept along tips keep has zs (length listed') 0) same (subst (λ (n : ℕ). Kept along tips keep has (listed ++ queue) n 0) long (kept_next has (listed ++ queue) (length listed) w room)),
        (length listed, sym long, subst (λ (zs : List ObjectId). At zs (length listed) id) same here),
      )

  -- one parent is met
  pub kept_parent : (has has' : ObjectId → Bool) (kept : Bool) (listed queue queue' : List ObjectId) (p m : ℕ) (y id : ObjectId) → Kept along tips keep has (listed ++ queue) p m × Reads (listed ++ queue) p id → At (along id) m y → Queues (has y) kept queue queue' y → Meets has has' y → (has y ≡ false → keep y ≡ kept) → Kept along tips keep has' (listed ++ queue') p (m + 1) × Reads (listed ++ queue') p id
  kept_parent has has' kept listed queue queue' p m y id (w, r) a e new which =
      let (q, f, b) = r in
      let named : Named along tips (listed ++ queue) p m y = subst (λ (n : ℕ). Named along tips (listed ++ queue) n m y) (sym f) (id, b, a) in
      (kept_meet has has' kept listed queue queue' p m y w named e new which, (q, f, stays (has y) refl kept refl q b))
    where
      pushed : (q : ℕ) → At (listed ++ queue) q id → At (listed ++ (queue ++ y ∷ [])) q id
      pushed q b = subst (λ (zs : List ObjectId). At zs q id) (append_assoc listed queue (y ∷ [])) (at_push (listed ++ queue) y q id b)

      stays : (d : Bool) → has y ≡ d → (k : Bool) → kept ≡ k → (q : ℕ) → At (listed ++ queue) q id → At (listed ++ queue') q id
      stays true g k h q b = let same : queue ≡ queue' = sym (rw g at e) in subst (λ (zs : List ObjectId). At (listed ++ zs) q id) same b
      stays false g true h q b = let same : queue ++ y ∷ [] ≡ queue' = sym (rw (g, h) at e) in subst (λ (zs : List ObjectId). At (listed ++ zs) q id) same (pushed q b)
      stays false g false h q b = let same : queue ≡ queue' = sym (rw (g, h) at e) in subst (λ (zs : List ObjectId). At (listed ++ zs) q id) same b

  -- a name is passed by, that isn't kept
  kept_pass : (has has' : ObjectId → Bool) (listed queue queue' : List ObjectId) (p m : ℕ) (y : ObjectId) → Kept along tips keep has (listed ++ queue) p m → Named along tips (listed ++ queue) p m y → queue' ≡ queue → ((q : ObjectId) → has' q ≡ has q) → (has y ≡ false → keep y ≡ false) → Kept along tips keep has' (listed ++ queue') p (m + 1)
  kept_pass has has' listed queue queue' p m y w n e new out = rw add-one (subst (λ (zs : List ObjectId). Kept along tips keep has' (listed ++ zs) p (suc m)) (sym e) (record {
    read = read_skip along tips (λ q. IsTrue (keep q)) (listed ++ queue) p m y w.read n (here (has y) refl);
    known = record { listed = λ q c. new q ∙ w.known.listed q c; met = λ q h k. w.known.met q (sym (new q) ∙ h) k };
  }))
    where
      here : (b : Bool) → has y ≡ b → keep y ≡ true → Contains (listed ++ queue) y
      here true f k = w.known.met y f k
      here false f k = let g = out f in let z : ⊥ = cc in absurd z

  -- one parent is met, or passed by since it is hidden
  pub kept_step : (has has' : ObjectId → Bool) (hides accepted : Bool) (listed queue queue' : List ObjectId) (p m : ℕ) (y id : ObjectId) → Kept along tips keep has (listed ++ queue) p m × Reads (listed ++ queue) p id → At (along id) m y → Queues (has y) (not hides && accepted) queue queue' y → ((q : ObjectId) → has' q ≡ cond hides (has q) (cond (same_id y q) true (has q))) → (has y ≡ false → keep y ≡ (not hides && accepted)) → Kept along tips keep has' (listed ++ queue') p (m + 1) × Reads (listed ++ queue') p id
  kept_step has has' false accepted listed queue queue' p m y id w a e new which = kept_parent has has' accepted listed queue queue' p m y id w a e new which
  kept_step has has' true accepted listed queue queue' p m y id (w, r) a e new which =
      let (q, f, b) = r in
      let named : Named along tips (listed ++ queue) p m y = subst (λ (n : ℕ). Named along tips (listed ++ queue) n m y) (sym f) (id, b, a) in
      let same : queue' ≡ queue = e ∙ stays (has y) in (
        kept_pass has has' listed queue queue' p m y w named same new which,
        (q, f, subst (λ (zs : List ObjectId). At (listed ++ zs) q id) (sym same) b),
      )
    where
      stays : (b : Bool) → cond b queue queue ≡ queue
      stays true = refl
      stays false = refl

  -- all its parents are met
  pub kept_row : (has : ObjectId → Bool) (xs : List ObjectId) (p m : ℕ) (id : ObjectId) → Kept along tips keep has xs p m × Reads xs p id → length (along id) ≤ m → KeptAll along tips keep has xs p
  kept_row has xs p m id (w, r) l = record { count = m; kept = w; all = all r }
    where
      all : Reads xs p id → (j : ℕ) (x : ObjectId) → Named along tips xs p j x → j < m
      all (q, f, b) j x n =
          let (c, a, d) = let named : Named along tips xs (suc q) j x = subst (λ (n : ℕ). Named along tips xs n j x) f n in named in
          let same : c ≡ id = at_one xs q c id a b in
          let k = slice_get_within (along id) j x (subst (λ (z : ObjectId). At (along z) j x) same d) in
          omega arith

  -- all places are read
  pub kept_end : (has : ObjectId → Bool) (listed queue : List ObjectId) → KeptAll along tips keep has (listed ++ queue) (length listed) → queue ≡ [] → (S : ObjectId → Type 0) → ((x : ObjectId) → S x → Reached along (λ q. IsTrue (keep q)) tips x) → ((x : ObjectId) → Reached along (λ q. IsTrue (keep q)) tips x → S x) → IsBreadthFirst along tips S listed
  kept_end has listed queue w e S to from =
      let same : listed ++ queue ≡ listed = ap (λ (zs : List ObjectId). listed ++ zs) e ∙ append-nil listed in
      let v : KeptAll along tips keep has listed (length listed) = subst (λ (zs : List ObjectId). KeptAll along tips keep has zs (length listed)) same w in
      read_all along tips (λ q. IsTrue (keep q)) listed v.count v.kept.read v.all S to from
