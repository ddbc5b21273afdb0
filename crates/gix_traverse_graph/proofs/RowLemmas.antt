-- The numbers of rows, and the greatest generation among some.
use Rattle.std.proofs.Common.{◌≡◌, ℕ, zero, suc, ◌+◌, ◌<◌, ◌≤◌, ◌⊎◌, inl, inr, List, [], ◌∷◌, length, take, refl, sym, ◌∙◌, ap, subst, arith, Some, None, Bool, true, false, cond, max, get_or}
use Rattle.std.specs.Prelude.{Contains, find}
use Rattle.std.specs.HashMap.{get}
use Rattle.std.proofs.lemmas.Option.{slice_get_within, slice_get-get_or}
use Rattle.gix_hash.specs.declared.object_id.ObjectId.{ObjectId}
use Rattle.gix_traverse_graph.specs.declared.rows.Row.{Row}
use Rattle.gix_traverse_graph.specs.Order.{At}
use Rattle.gix_traverse_graph.specs.Rows.{IsOnce, IsGreatest, HasGeneration, AreRows, generation_limit}
use Rattle.gix_traverse_graph.specs.Numbered.{NumberMap, same_id, NumbersBelow, Numbers}
use Rattle.gix_traverse_graph.specs.RowCommits.{commit_of, commits_of}
use Rattle.gix_traverse_graph.proofs.Ids.{same_from_test, test_from_same, same_id_apart}
use Rattle.gix_traverse_graph.proofs.Lists.{at_one, at_from_contains, contains_from_at, three, at_from_take, at_take, none_at_nil}

-- one more row, whose commit had none, gets its number
pub numbers_push : (rows : List Row) (n : ℕ) (m m' : NumberMap) (row : Row) → NumbersBelow rows n m → At rows n row → get same_id m row.id ≡ None → ((q : ObjectId) → get same_id m' q ≡ cond (same_id row.id q) (Some n) (get same_id m q)) → NumbersBelow rows (n + 1) m'
numbers_push rows n m m' row old here fresh new = record { each = each; only = only }
  where
    -- rows before it keep theirs
    before : (k : ℕ) (r : Row) → k < n → At rows k r → (c : Bool) → same_id row.id r.id ≡ c → cond c (Some n) (get same_id m r.id) ≡ Some k
    before k r lt a true t =
        let f : get same_id m r.id ≡ Some k = old.each k r lt a in
        let g : get same_id m r.id ≡ None = subst (λ (i : ObjectId). get same_id m i ≡ None) (same_from_test row.id r.id t) fresh in
        let z : ⊥ = cc in absurd z
    before k r lt a false t = old.each k r lt a

    -- it has its place
    here_too : (k : ℕ) (r : Row) → k ≡ n → At rows k r → get same_id m' r.id ≡ Some k
    here_too k r e a =
        let b : At rows n r = subst (λ (i : ℕ). At rows i r) e a in
        let same : row ≡ r = at_one rows n row r here b in
        let t : same_id row.id r.id ≡ true = subst (λ (s : Row). same_id row.id s.id ≡ true) same (same_id_apart.itself row.id) in
        new r.id ∙ ap (λ (c : Bool). cond c (Some n) (get same_id m r.id)) t ∙ ap Some (sym e)

    each : (k : ℕ) (r : Row) → k < n + 1 → At rows k r → get same_id m' r.id ≡ Some k
    each k r lt a = elim (three k n) [
      | inl below ↦ new r.id ∙ before k r below a (same_id row.id r.id) refl
      | inr (inl e) ↦ here_too k r e a
      | inr (inr above) ↦ absurd (omega arith)
    ]

    only : (id : ObjectId) (k : ℕ) → get same_id m' id ≡ Some k → (k < n + 1) × ((r : Row) × At rows k r × (r.id ≡ id))
    only id k e = go (same_id row.id id) refl (sym (new id) ∙ e)
      where
        go : (c : Bool) → same_id row.id id ≡ c → cond c (Some n) (get same_id m id) ≡ Some k → (k < n + 1) × ((r : Row) × At rows k r × (r.id ≡ id))
        go true t f =
            let same : n ≡ k = cc in
            (omega arith, (row, subst (λ (i : ℕ). At rows i row) same here, same_from_test row.id id t))
        go false t f = let h = old.only id k f in (omega arith, h.1)

-- numbered rows are of different commits
pub once_from_numbers : (rows : List Row) (m : NumberMap) → Numbers rows m → IsOnce rows
once_from_numbers rows m h j k r s a b e =
    let f = h.each j r (slice_get_within rows j r a) a in
    let g = h.each k s (slice_get_within rows k s b) b in
    let f' : get same_id m s.id ≡ Some j = subst (λ (i : ObjectId). get same_id m i ≡ Some j) e f in
    let both : Some j ≡ Some k = sym f' ∙ g in
    cc

-- rows of one commit are one row
pub one_row : (rows : List Row) → IsOnce rows → (r s : Row) → Contains rows r → Contains rows s → r.id ≡ s.id → r ≡ s
one_row rows once r s c d e =
    let (j, a) = at_from_contains rows r c in
    let (k, b) = at_from_contains rows s d in
    let same = once j k r s a b e in
    at_one rows k r s (subst (λ (i : ℕ). At rows i r) same a) b

-- ---- the greatest generation

in_take : (ids : List ObjectId) (i : ℕ) (x p : ObjectId) → Contains (take (i + 1) ids) x → At ids i p → Contains (take i ids) x ⊎ (x ≡ p)
in_take ids i x p c a =
    let (k, b) = at_from_contains (take (i + 1) ids) x c in
    let (lt, d) = at_from_take ids (i + 1) k x b in
    elim (three k i) [
      | inl below ↦ inl (contains_from_at (take i ids) k x (at_take ids i k x below d))
      | inr (inl e) ↦ inr (at_one ids i x p (subst (λ (j : ℕ). At ids j x) e d) a)
      | inr (inr above) ↦ absurd (omega arith)
    ]

to_take : (ids : List ObjectId) (i j : ℕ) (x : ObjectId) → j ≤ i → Contains (take j ids) x → Contains (take i ids) x
to_take ids i j x l c =
    let (k, b) = at_from_contains (take j ids) x c in
    let (lt, d) = at_from_take ids j k x b in
    contains_from_at (take i ids) k x (at_take ids i k x (omega arith) d)

-- one more commit, which has a row
pub greatest_push : (rows : List Row) (ids : List ObjectId) (i g : ℕ) (p : ObjectId) (row : Row) → IsOnce rows → IsGreatest rows (take i ids) g → At ids i p → Contains rows row → row.id ≡ p → IsGreatest rows (take (i + 1) ids) (max g row.generation)
greatest_push rows ids i g p row once old a here e = record { none_above = above; attained = attained old.attained }
  where
    above : (s : Row) → Contains rows s → Contains (take (i + 1) ids) s.id → s.generation ≤ max g row.generation
    above s c d = elim (in_take ids i s.id p d a) [
      | inl before ↦ (let h = old.none_above s c before in omega arith)
      | inr same ↦ (let one : s ≡ row = one_row rows once s row c here (same ∙ sym e) in let h : s.generation ≡ row.generation = ap (λ (r : Row). r.generation) one in omega arith)
    ]

    mine : Contains (take (i + 1) ids) row.id
    mine = contains_from_at (take (i + 1) ids) i row.id (at_take ids (i + 1) i row.id (omega arith) (subst (λ (x : ObjectId). At ids i x) (sym e) a))

    attained : ((take i ids ≡ []) × (g ≡ 0)) ⊎ ((s : Row) × Contains rows s × Contains (take i ids) s.id × (s.generation ≡ g)) → ((take (i + 1) ids ≡ []) × (max g row.generation ≡ 0)) ⊎ ((s : Row) × Contains rows s × Contains (take (i + 1) ids) s.id × (s.generation ≡ max g row.generation))
    attained (inl h) = inr (row, here, mine, omega arith)
    attained (inr (s, c, d, f)) = elim (three row.generation g) [
      | inl less ↦ inr (s, c, to_take ids (i + 1) i s.id (omega arith) d, omega arith)
      | inr (inl same) ↦ inr (row, here, mine, omega arith)
      | inr (inr more) ↦ inr (row, here, mine, omega arith)
    ]

none_contained : (x : ObjectId) (ids : List ObjectId) → ids ≡ [] → Contains ids x → ⊥
none_contained x ids e c = let (k, a) = at_from_contains [] x (subst (λ (ys : List ObjectId). Contains ys x) e c) in none_at_nil k x a

-- there is one greatest
pub greatest_once : (rows : List Row) (ids : List ObjectId) (m n : ℕ) → IsGreatest rows ids m → IsGreatest rows ids n → m ≡ n
greatest_once rows ids m n h k = go h.attained k.attained
  where
    go : ((ids ≡ []) × (m ≡ 0)) ⊎ ((s : Row) × Contains rows s × Contains ids s.id × (s.generation ≡ m)) → ((ids ≡ []) × (n ≡ 0)) ⊎ ((s : Row) × Contains rows s × Contains ids s.id × (s.generation ≡ n)) → m ≡ n
    go (inl a) (inl b) = omega arith
    go (inl a) (inr (s, c, d, f)) = absurd (none_contained s.id ids a.0 d)
    go (inr (s, c, d, f)) (inl b) = absurd (none_contained s.id ids b.0 d)
    go (inr (s, c, d, f)) (inr (t, c', d', f')) = let x = k.none_above s c d in let y = h.none_above t c' d' in omega arith

-- no other generation is by the rule
pub generation_once : (rows : List Row) (row : Row) (n : ℕ) → IsGreatest rows row.parents.items n → HasGeneration rows row → (row.generation ≡ n + 1) × (row.generation ≤ generation_limit)
generation_once rows row n g h = let e = greatest_once rows row.parents.items n h.greatest g h.is_greatest in (let x = h.one_more in omega arith, h.within)

-- ---- places

-- what a loop reads is at its place
pub at_item : {I : Type 0} (xs : List I) (i : ℕ) (x : I) → i < length xs → x ≡ get_or xs i x → At xs i x
at_item xs i x l e = slice_get-get_or xs i x l ∙ ap Some (sym e)

-- what holds of all rows before a place, and of the one there
pub below_and_here : (P : Row → Type 0) (rows : List Row) (i : ℕ) (here : Row) → ((k : ℕ) (row : Row) → k < i → At rows k row → P row) → At rows i here → P here → (k : ℕ) (row : Row) → k < i + 1 → At rows k row → P row
below_and_here P rows i here before a p k row lt b = elim (three k i) [
  | inl below ↦ before k row below b
  | inr (inl e) ↦ subst P (at_one rows i here row a (subst (λ (j : ℕ). At rows j row) e b)) p
  | inr (inr above) ↦ absurd (omega arith)
]

-- what holds at each place holds of all rows
pub of_all : (P : Row → Type 0) (rows : List Row) (i : ℕ) → ((k : ℕ) (row : Row) → k < i → At rows k row → P row) → length rows ≤ i → (row : Row) → Contains rows row → P row
of_all P rows i below l row c =
    let (k, a) = at_from_contains rows row c in
    let lt = slice_get_within rows k row a in
    below k row (omega arith) a

-- ---- what the rows say

-- the first that passes, where only one can
find_one_at : (p : Row → Bool) (xs : List Row) (row : Row) (k : ℕ) → At xs k row → p row ≡ true → ((s : Row) (j : ℕ) → At xs j s → p s ≡ true → s ≡ row) → find p xs ≡ Some row
find_one_at p [] row k a h only = absurd (none_at_nil k row a)
find_one_at p (x ∷ xs) row k a h only = here (p x) refl k a (λ j b. find_one_at p xs row j b h (λ s i c. only s (suc i) c))
  where
    here : (b : Bool) → p x ≡ b → (k : ℕ) → At (x ∷ xs) k row → ((j : ℕ) → At xs j row → find p xs ≡ Some row) → find p (x ∷ xs) ≡ Some row
    here true e k a next = rw e (ap Some (only x 0 refl e))
    here false e zero a next =
        let same : x ≡ row = cc in
        let f : p x ≡ true = subst (λ (r : Row). p r ≡ true) (sym same) h in
        let z : ⊥ = cc in absurd z
    here false e (suc k) a next = rw e (next k a)

-- a commit is what its row says
pub commit_from_row : (rows : List Row) (row : Row) (id : ObjectId) → AreRows rows → Contains rows row → row.id ≡ id → commits_of rows id ≡ commit_of (Some row)
commit_from_row rows row id whole c e =
    let (k, a) = at_from_contains rows row c in
    let t : same_id id row.id ≡ true = test_from_same id row.id (sym e) in
    ap commit_of (find_one_at (λ (r : Row). same_id id r.id) rows row k a t (λ s j b f. one_row rows whole.once s row (contains_from_at rows j s b) c (sym (same_from_test id s.id f) ∙ sym e)))
