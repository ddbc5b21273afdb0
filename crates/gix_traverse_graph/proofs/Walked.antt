-- The state of a walk in breadth order: a list, and a set that has its members.
use Rattle.std.proofs.Common.{◌≡◌, ℕ, zero, suc, ◌+◌, ◌<◌, ◌≤◌, List, [], ◌∷◌, ◌++◌, length, map, take, refl, sym, ◌∙◌, ap, subst, arith, Some, Bool, true, false, cond, ◌||◌, get_or, add-one, length-append, append-nil, append_assoc}
use Rattle.std.specs.Prelude.{Contains, ⊤}
use Rattle.std.specs.List.{list_any, IsDistinct}
use Rattle.std.proofs.lemmas.List.Folds.{list_any-append}
use Rattle.std.proofs.lemmas.Map.Made.{length-le_from_is_member}
use Rattle.std.proofs.lemmas.Map.Keys.{IsDistinct-from_apart}
use Rattle.std.proofs.lemmas.Option.{slice_get_within, slice_get-get_or}
use Rattle.gix_hash.specs.declared.object_id.ObjectId.{ObjectId}
use Rattle.gix_hash.specs.Id.{id_of}
use Rattle.gix_hash.specs.OrderLaws.{equivalence}
use Rattle.gix_traverse_graph.specs.Order.{At, IsBreadthFirst, Named}
use Rattle.gix_traverse_graph.specs.Commits.{asked_parents, Reached, tip, parent, Passes, Listed}
use Rattle.gix_traverse_graph.specs.Numbered.{same_id}
use Rattle.gix_traverse_graph.specs.RowCommits.{commits_of}
use Rattle.gix_traverse_graph.specs.Rows.{Holds}
use Rattle.gix_traverse_graph.specs.declared.parents.Parents.{Parents}
use Rattle.gix_traverse_graph.specs.declared.rows.Row.{Row}
use Rattle.gix_traverse_graph.specs.declared.walk.WalkError.{WalkError}
use Rattle.gix_traverse_graph.specs.declared.walk.WalkError.TheVariants.{Missing, Memory}
use Rattle.gix_traverse_graph.proofs.Lists.{at_one, at_from_contains, contains_from_at, at_push, at_append}
use Rattle.gix_traverse_graph.specs.Standing.{plain_request, NotIn, Walked, WalkedAll, Paints, Reads, OfMissing}
use Rattle.gix_traverse_graph.proofs.Frontier.{read_none, read_skip, read_push, read_next, read_all}
use Rattle.gix_traverse_graph.proofs.Ids.{same_from_test, test_from_same, same_id_apart}
use Rattle.gix_traverse_graph.proofs.Listing.{listed_reached}
use Rattle.gix_traverse_graph.specs.declared.parents.Parents.TheVariants.{All as AllParents}
use Rattle.gix_traverse_graph.proofs.Slow.{contains_from_any, any_from_contains}
use Rattle.gix_traverse_graph.proofs.Turn.{at_left}

module _ (along : ObjectId → List ObjectId) (tips hs : List ObjectId) where
  pub walked_none : (has : ObjectId → Bool) → ((q : ObjectId) → has q ≡ list_any (same_id q) hs) → Walked along tips hs has [] 0 0
  walked_none has h = record { read = read_none along tips (NotIn hs); members = h }

  pub walked_old : (has has' : ObjectId → Bool) (xs : List ObjectId) (p m : ℕ) (y : ObjectId) → Walked along tips hs has xs p m → Named along tips xs p m y → has y ≡ true → ((q : ObjectId) → has' q ≡ cond (same_id y q) true (has q)) → Walked along tips hs has' xs p (suc m)
  walked_old has has' xs p m y w n old new = record {
    read = read_skip along tips (NotIn hs) xs p m y w.read n (λ k. known k (list_any (same_id y) xs) refl);
    members = λ q. new q ∙ same q (same_id y q) refl ∙ w.members q;
  }
    where
      known : NotIn hs y → (b : Bool) → list_any (same_id y) xs ≡ b → Contains xs y
      known k true e = contains_from_any same_id same_id_apart xs y e
      known k false e = let f : (list_any (same_id y) xs || list_any (same_id y) hs) ≡ true = sym (w.members y) ∙ old in absurd (k (contains_from_any same_id same_id_apart hs y (rw e at f)))

      same : (q : ObjectId) (b : Bool) → same_id y q ≡ b → cond (same_id y q) true (has q) ≡ has q
      same q true e = let f : y ≡ q = same_from_test y q e in rw e (sym old ∙ ap has f)
      same q false e = rw e refl

  pub walked_new : (has has' : ObjectId → Bool) (xs : List ObjectId) (p m : ℕ) (y : ObjectId) → Walked along tips hs has xs p m → Named along tips xs p m y → has y ≡ false → ((q : ObjectId) → has' q ≡ cond (same_id y q) true (has q)) → Walked along tips hs has' (xs ++ y ∷ []) p (suc m)
  walked_new has has' xs p m y w n fresh new = record {
    read = read_push along tips (NotIn hs) xs p m y w.read n (λ c. neither (any_from_contains same_id same_id_apart hs y c)) (λ c. nor (any_from_contains same_id same_id_apart xs y c));
    members = λ q. new q ∙ ap (cond (same_id y q) true) (w.members q) ∙ last q (same_id y q) (same_id q y) refl refl (list_any (same_id q) xs) (list_any (same_id q) hs) ∙ ap (λ (b : Bool). b || list_any (same_id q) hs) (sym (list_any-append (same_id q) xs (y ∷ [])));
  }
    where
      neither : list_any (same_id y) hs ≡ true → ⊥
      neither e = let f : false ≡ (list_any (same_id y) xs || true) = sym fresh ∙ w.members y ∙ ap (λ (b : Bool). list_any (same_id y) xs || b) e in go (list_any (same_id y) xs) f
        where
          go : (b : Bool) → false ≡ (b || true) → ⊥
          go true e = cc
          go false e = cc

      nor : list_any (same_id y) xs ≡ true → ⊥
      nor e = let f : false ≡ (true || list_any (same_id y) hs) = sym fresh ∙ w.members y ∙ ap (λ (b : Bool). b || list_any (same_id y) hs) e in cc

      last : (q : ObjectId) (a b : Bool) → same_id y q ≡ a → same_id q y ≡ b → (c d : Bool) → cond a true (c || d) ≡ ((c || (b || false)) || d)
      last q true true e f true d = refl
      last q true true e f false d = refl
      last q false false e f true d = refl
      last q false false e f false d = refl
      last q true false e f c d = let g = test_from_same q y (sym (same_from_test y q e)) in let z : ⊥ = cc in absurd z
      last q false true e f c d = let g = test_from_same y q (sym (same_from_test q y f)) in let z : ⊥ = cc in absurd z

  -- one name is met: what is listed stays, and the queue has it at its end if it was not seen
  pub walked_meet : (has has' : ObjectId → Bool) (listed queue queue' : List ObjectId) (p m : ℕ) (y : ObjectId) → Walked along tips hs has (listed ++ queue) p m → Named along tips (listed ++ queue) p m y → queue' ≡ cond (has y) queue (queue ++ y ∷ []) → ((q : ObjectId) → has' q ≡ cond (same_id y q) true (has q)) → Walked along tips hs has' (listed ++ queue') p (m + 1)
  walked_meet has has' listed queue queue' p m y w n e new = rw add-one (go (has y) refl)
    where
      go : (b : Bool) → has y ≡ b → Walked along tips hs has' (listed ++ queue') p (suc m)
      go true f = let same : queue ≡ queue' = sym (rw f at e) in subst (λ (zs : List ObjectId). Walked along tips hs has' (listed ++ zs) p (suc m)) same (walked_old has has' (listed ++ queue) p m y w n f new)
      go false f = let same : queue ++ y ∷ [] ≡ queue' = sym (rw f at e) in subst (λ (zs : List ObjectId). Walked along tips hs has' (listed ++ zs) p (suc m)) same (subst (λ (zs : List ObjectId). Walked along tips hs has' zs p (suc m)) (append_assoc listed queue (y ∷ [])) (walked_new has has' (listed ++ queue) p m y w n f new))

  pub walked_next : (has : ObjectId → Bool) (xs : List ObjectId) (p : ℕ) → WalkedAll along tips hs has xs p → suc p ≤ length xs → Walked along tips hs has xs (suc p) 0
  walked_next has xs p w room = record {
    read = read_next along tips (NotIn hs) xs p w.count w.walked.read w.all room;
    members = w.walked.members;
  }

  -- after the tips
  pub walked_start : (has : ObjectId → Bool) (listed queue : List ObjectId) (m : ℕ) → listed ≡ [] → Walked along tips hs has queue 0 m → length tips ≤ m → WalkedAll along tips hs has (listed ++ queue) (length listed)
  walked_start has listed queue m e w l =
      let P : List ObjectId → Type 0 = λ zs. WalkedAll along tips hs has (zs ++ queue) (length zs) in
      subst P (sym e) (record { count = m; walked = w; all = λ j x a. let k = slice_get_within tips j x a in omega arith })

  -- the first of the queue is listed
  pub walked_pop : (has : ObjectId → Bool) (listed queue listed' queue' : List ObjectId) (id : ObjectId) → WalkedAll along tips hs has (listed ++ queue) (length listed) → queue ≡ id ∷ queue' → listed' ≡ listed ++ id ∷ [] → Walked along tips hs has (listed' ++ queue') (length listed') 0 × Reads (listed' ++ queue') (length listed') id
  walked_pop has listed queue listed' queue' id w e f =
      let same : listed ++ queue ≡ listed' ++ queue' = ap (λ (zs : List ObjectId). listed ++ zs) e ∙ sym (append_assoc listed (id ∷ []) queue') ∙ ap (λ (zs : List ObjectId). zs ++ queue') (sym f) in
      let long : suc (length listed) ≡ length listed' = omega (arith, ap length f, length-append listed (id ∷ [])) in
      let room : suc (length listed) ≤ length (listed ++ queue) = omega (arith, ap length e, length-append listed queue) in
      let here : At (listed ++ queue) (length listed) id = subst (λ (zs : List ObjectId). At (listed ++ zs) (length listed) id) (sym e) (at_append listed id queue') in (
        subst (λ (zs : List ObjectId). Walked along tips hs has zs (length listed') 0) same (subst (λ (n : ℕ). Walked along tips hs has (listed ++ queue) n 0) long (walked_next has (listed ++ queue) (length listed) w room)),
        (length listed, sym long, subst (λ (zs : List ObjectId). At zs (length listed) id) same here),
      )

  -- one parent is met
  pub walked_parent : (has has' : ObjectId → Bool) (listed queue queue' : List ObjectId) (m : ℕ) (y id : ObjectId) → Walked along tips hs has (listed ++ queue) (length listed) m × Reads (listed ++ queue) (length listed) id → At (along id) m y → queue' ≡ cond (has y) queue (queue ++ y ∷ []) → ((q : ObjectId) → has' q ≡ cond (same_id y q) true (has q)) → Walked along tips hs has' (listed ++ queue') (length listed) (m + 1) × Reads (listed ++ queue') (length listed) id
  walked_parent has has' listed queue queue' m y id (w, r) a e new =
      let (q, f, b) = r in
      let named : Named along tips (listed ++ queue) (length listed) m y = subst (λ (n : ℕ). Named along tips (listed ++ queue) n m y) (sym f) (id, b, a) in
      (walked_meet has has' listed queue queue' (length listed) m y w named e new, (q, f, kept (has y) refl q b))
    where
      kept : (d : Bool) → has y ≡ d → (q : ℕ) → At (listed ++ queue) q id → At (listed ++ queue') q id
      kept true g q b = let same : queue ≡ queue' = sym (rw g at e) in subst (λ (zs : List ObjectId). At (listed ++ zs) q id) same b
      kept false g q b = let same : queue ++ y ∷ [] ≡ queue' = sym (rw g at e) in subst (λ (zs : List ObjectId). At (listed ++ zs) q id) same (subst (λ (zs : List ObjectId). At zs q id) (append_assoc listed queue (y ∷ [])) (at_push (listed ++ queue) y q id b))

  -- all its parents are met
  pub walked_row : (has : ObjectId → Bool) (xs : List ObjectId) (p m : ℕ) (id : ObjectId) → Walked along tips hs has xs p m × Reads xs p id → length (along id) ≤ m → WalkedAll along tips hs has xs p
  walked_row has xs p m id (w, r) l = record { count = m; walked = w; all = all r }
    where
      all : Reads xs p id → (j : ℕ) (x : ObjectId) → Named along tips xs p j x → j < m
      all (q, f, b) j x n =
          let (c, a, d) = let named : Named along tips xs (suc q) j x = subst (λ (n : ℕ). Named along tips xs n j x) f n in named in
          let same : c ≡ id = at_one xs q c id a b in
          let k = slice_get_within (along id) j x (subst (λ (z : ObjectId). At (along z) j x) same d) in
          omega arith

-- ---- over rows

pub distinct_from_once : (xs : List ObjectId) → ((j k : ℕ) (x : ObjectId) → At xs j x → At xs k x → j ≡ k) → IsDistinct same_id xs
distinct_from_once xs once = IsDistinct-from_apart same_id xs apart
  where
    apart : (i j : ℕ) (d : ObjectId) → i < j → j < length xs → same_id (get_or xs i d) (get_or xs j d) ≡ false
    apart i j d lt l = go (same_id (get_or xs i d) (get_or xs j d)) refl
      where
        go : (b : Bool) → same_id (get_or xs i d) (get_or xs j d) ≡ b → same_id (get_or xs i d) (get_or xs j d) ≡ false
        go false e = e
        go true e =
            let same = same_from_test (get_or xs i d) (get_or xs j d) e in
            let k : i < length xs = omega arith in
            let a = slice_get-get_or xs i d k in
            let b = slice_get-get_or xs j d l in
            let f = once i j (get_or xs j d) (a ∙ ap Some same) b in
            absurd (omega arith)

-- where all places are read, the list is what the tips reach without hs
pub walked_all : (rows : List Row) (tips hs : List ObjectId) (parents : Parents) (has : ObjectId → Bool) (xs : List ObjectId) → WalkedAll (asked_parents parents (commits_of rows)) tips hs has xs (length xs) → (S : ObjectId → Type 0) → ((x : ObjectId) → S x → Reached (asked_parents parents (commits_of rows)) (NotIn hs) tips x) → ((x : ObjectId) → Reached (asked_parents parents (commits_of rows)) (NotIn hs) tips x → S x) → IsBreadthFirst (asked_parents parents (commits_of rows)) tips S xs
walked_all rows tips hs parents has xs w S to from = read_all (asked_parents parents (commits_of rows)) tips (NotIn hs) xs w.count w.walked.read w.all S to from

module _ (rows : List Row) (tips hidden hs : List ObjectId) (parents : Parents) (paints : Paints rows hidden hs) where
  pub to_walked : (x : ObjectId) → Listed (commits_of rows) (plain_request tips hidden parents) x → Reached (asked_parents parents (commits_of rows)) (NotIn hs) tips x
  to_walked x l = go (listed_reached (commits_of rows) (plain_request tips hidden parents) l.0 l.1)
    where
      go : {y : ObjectId} → Reached (asked_parents parents (commits_of rows)) (Listed (commits_of rows) (plain_request tips hidden parents)) tips y → Reached (asked_parents parents (commits_of rows)) (NotIn hs) tips y
      go (tip {x = y} t k) = tip t (λ c. k.1 ((paints.same y).0 c))
      go (parent {y = y} r n k) = parent (go r) n (λ c. k.1 ((paints.same y).0 c))

  pub from_walked : (x : ObjectId) → Reached (asked_parents parents (commits_of rows)) (NotIn hs) tips x → Listed (commits_of rows) (plain_request tips hidden parents) x
  from_walked x r = (passes r, λ h. kept r ((paints.same x).1 h))
    where
      kept : {y : ObjectId} → Reached (asked_parents parents (commits_of rows)) (NotIn hs) tips y → NotIn hs y
      kept (tip t k) = k
      kept (parent r n k) = k

      passes : {y : ObjectId} → Reached (asked_parents parents (commits_of rows)) (NotIn hs) tips y → Reached (asked_parents parents (commits_of rows)) (Passes (commits_of rows) (plain_request tips hidden parents)) tips y
      passes (tip t k) = tip t (refl, tt)
      passes (parent r n k) = parent (passes r) n (refl, tt)

-- by all parents and without hs, all that the tips reach
pub all_reached : (rows : List Row) (tips : List ObjectId) {x : ObjectId} → Reached (asked_parents AllParents (commits_of rows)) (NotIn []) tips x → Reached (λ y. (commits_of rows y).parents) (λ _. ⊤) tips x
all_reached rows tips (tip t k) = tip t tt
all_reached rows tips (parent r n k) = parent (all_reached rows tips r) n tt

pub reached_all : (rows : List Row) (tips : List ObjectId) {x : ObjectId} → Reached (λ y. (commits_of rows y).parents) (λ _. ⊤) tips x → Reached (asked_parents AllParents (commits_of rows)) (NotIn []) tips x
reached_all rows tips (tip t k) = tip t (not_nil _)
  where
    not_nil : (x : ObjectId) → Contains [] x → ⊥
    not_nil x c = let (j, a) = at_from_contains [] x c in cc
reached_all rows tips (parent r n k) = parent (reached_all rows tips r) n (not_nil _)
  where
    not_nil : (x : ObjectId) → Contains [] x → ⊥
    not_nil x c = let (j, a) = at_from_contains [] x c in cc

pub popped_place : (listed queue queue' : List ObjectId) (id : ObjectId) → queue ≡ id ∷ queue' → At (listed ++ queue) (length listed) id
popped_place listed queue queue' id e = subst (λ (zs : List ObjectId). At (listed ++ zs) (length listed) id) (sym e) (at_append listed id queue')

-- an empty queue ends the walk
pub walked_end : (rows : List Row) (tips hs : List ObjectId) (parents : Parents) (has : ObjectId → Bool) (listed queue : List ObjectId) → WalkedAll (asked_parents parents (commits_of rows)) tips hs has (listed ++ queue) (length listed) → queue ≡ [] → WalkedAll (asked_parents parents (commits_of rows)) tips hs has listed (length listed)
walked_end rows tips hs parents has listed queue w e =
    let same : listed ++ queue ≡ listed = ap (λ (zs : List ObjectId). listed ++ zs) e ∙ append-nil listed in
    subst (λ (zs : List ObjectId). WalkedAll (asked_parents parents (commits_of rows)) tips hs has zs (length listed)) same w

-- a row's commit is among the rows' ids
row_id_in : (rows : List Row) (row : Row) (k : ℕ) → At rows k row → At (map (λ (r : Row). r.id) rows) k row.id
row_id_in [] row k a = let z : ⊥ = cc in absurd z
row_id_in (r ∷ rows) row zero a = let same : r ≡ row = cc in ap (λ (s : Row). Some s.id) same
row_id_in (r ∷ rows) row (suc k) a = row_id_in rows row k a

length-ids : (rows : List Row) → length (map (λ (r : Row). r.id) rows) ≡ length rows
length-ids [] = refl
length-ids (r ∷ rows) = let e = length-ids rows in omega arith

-- no more are listed than there are rows
pub listed_fits : (rows : List Row) (along : ObjectId → List ObjectId) (tips hs : List ObjectId) (has : ObjectId → Bool) (listed queue : List ObjectId) → WalkedAll along tips hs has (listed ++ queue) (length listed) → ((x : ObjectId) → Contains listed x → Holds rows x) → length listed ≤ length rows
listed_fits rows along tips hs has listed queue w held =
    let ids = map (λ (r : Row). r.id) rows in
    let fits : length listed ≤ length ids = length-le_from_is_member (equivalence {K = ObjectId} id_of) listed ids
    (distinct_from_once listed (λ j k x a b. w.walked.read.once j k x (at_left listed queue j x a) (at_left listed queue k x b)))
    (λ q e. member q (held q (contains_from_any same_id same_id_apart listed q e))) in
    omega (arith, length-ids rows)
  where
    member : (q : ObjectId) → Holds rows q → list_any (same_id q) (map (λ (r : Row). r.id) rows) ≡ true
    member q (row, c, e) =
        let (k, a) = at_from_contains rows row c in
        let b : At (map (λ (r : Row). r.id) rows) k q = subst (λ (x : ObjectId). At (map (λ (r : Row). r.id) rows) k x) e (row_id_in rows row k a) in
        any_from_contains same_id same_id_apart (map (λ (r : Row). r.id) rows) q (contains_from_at (map (λ (r : Row). r.id) rows) k q b)

-- one set under two names
pub breadth_same : {I : Type 0} (along : I → List I) (tips : List I) (S T : I → Type 0) (out : List I) → ((x : I) → S x → T x) → ((x : I) → T x → S x) → IsBreadthFirst along tips S out → IsBreadthFirst along tips T out
breadth_same along tips S T out to from h = record {
  list = record {
    each = λ x. ((λ c. to x ((h.list.each x).0 c)), (λ t. (h.list.each x).1 (from x t)));
    once = h.list.once;
  };
  keyed = h.keyed;
  ascending = h.ascending;
}

-- what is listed by all parents without hiding is what paints
pub paints_from : (rows : List Row) (hidden hs : List ObjectId) → IsBreadthFirst (asked_parents AllParents (commits_of rows)) hidden (λ x. Reached (asked_parents AllParents (commits_of rows)) (NotIn []) hidden x) hs → Paints rows hidden hs
paints_from rows hidden hs h = record { same = λ x. ((λ c. all_reached rows hidden ((h.list.each x).0 c)), (λ r. (h.list.each x).1 (reached_all rows hidden r))) }

-- what comes next on the way is reached
pub popped_reached : (along : ObjectId → List ObjectId) (tips hs : List ObjectId) (has : ObjectId → Bool) (listed queue queue' : List ObjectId) (id : ObjectId) → WalkedAll along tips hs has (listed ++ queue) (length listed) → queue ≡ id ∷ queue' → Reached along (NotIn hs) tips id
popped_reached along tips hs has listed queue queue' id w e = w.walked.read.reached (length listed) id (popped_place listed queue queue' id e)

-- ---- what is hidden is seen from the start

take_push : (xs : List ObjectId) (i : ℕ) (x : ObjectId) → At xs i x → take (suc i) xs ≡ take i xs ++ x ∷ []
take_push [] i x a = let z : ⊥ = cc in absurd z
take_push (y ∷ ys) zero x a = let same : y ≡ x = cc in ap (λ (z : ObjectId). z ∷ []) same
take_push (y ∷ ys) (suc i) x a = ap (λ (zs : List ObjectId). y ∷ zs) (take_push ys i x a)

pub hides_push : (hides : List ObjectId) (i : ℕ) (id : ObjectId) (old new : ObjectId → Bool) → At hides i id → ((q : ObjectId) → old q ≡ list_any (same_id q) (take i hides)) → ((q : ObjectId) → new q ≡ cond (same_id id q) true (old q)) → (q : ObjectId) → new q ≡ list_any (same_id q) (take (i + 1) hides)
hides_push hides i id old new a before step q =
    let grown : take (i + 1) hides ≡ take i hides ++ id ∷ [] = rw add-one (take_push hides i id a) in
    step q ∙ ap (cond (same_id id q) true) (before q) ∙ last (same_id id q) (same_id q id) refl refl (list_any (same_id q) (take i hides)) ∙ sym (list_any-append (same_id q) (take i hides) (id ∷ [])) ∙ ap (list_any (same_id q)) (sym grown)
  where
    last : (a b : Bool) → same_id id q ≡ a → same_id q id ≡ b → (c : Bool) → cond a true c ≡ (c || (b || false))
    last true true e f true = refl
    last true true e f false = refl
    last false false e f true = refl
    last false false e f false = refl
    last true false e f c = let g = test_from_same q id (sym (same_from_test id q e)) in let z : ⊥ = cc in absurd z
    last false true e f c = let g = test_from_same id q (sym (same_from_test q id f)) in let z : ⊥ = cc in absurd z

-- ---- faults

pub of_missing : (P Q : ObjectId → Type 0) → ((id : ObjectId) → P id → Q id) → (e : WalkError) → OfMissing P e → OfMissing Q e
of_missing P Q f (Missing id) h = f id h
of_missing P Q f Memory h = h
