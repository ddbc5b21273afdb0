-- Which commits are met, and for which the predicate is called.
use Rattle.std.proofs.Common.{◌≡◌, ◌∙◌, ◌↔◌, ℕ, zero, suc, ◌+◌, ◌≤◌, ◌⊎◌, inl, inr, List, [], ◌∷◌, ◌++◌, length, ap, take, append-nil, refl, sym, subst, Bool, true, false, cond, arith}
use Rattle.std.specs.Prelude.{Contains, filter, not}
use Rattle.std.proofs.lemmas.List.Elements.{Contains-append_left, Contains-push, filter-append}
use Rattle.std.proofs.lemmas.Option.{slice_get_within}
use Rattle.gix_hash.specs.Id.{Id, id_of}
use Rattle.gix_hash.specs.declared.object_id.ObjectId.{ObjectId}
use Rattle.gix_traverse_commit_known.specs.Meeting.{Asks, CountsAll, CountsOne, MarksAll, accepted, unmet}
use Rattle.gix_traverse_commit_known.specs.Nodes.{Node, is_met}
use Rattle.gix_traverse_graph.specs.Numbered.{same_id}
use Rattle.gix_traverse_graph.specs.Order.{At, IsListOf}
use Rattle.gix_traverse_graph.specs.declared.rows.Row.{Row}
use Rattle.gix_traverse_commit_known.proofs.Keeping.{Meets, met_itself, met_more, met_other, stays_met, unmet_before}
use Rattle.gix_traverse_graph.proofs.Lists.{at_from_contains, contains_from_at, none_at_nil, once_push}
use Rattle.gix_traverse_commit_known.proofs.Simply.{in_push, take_push}
use Rattle.gix_traverse_commit_known.proofs.Timely.{in_nil}

-- ---- one after another

pub asks_more : {P : Type 0} (goes : P → Id → P → Type 0) (xs ys : List ObjectId) (a b c : P) → Asks goes xs a b → Asks goes ys b c → Asks goes (xs ++ ys) a c
asks_more {P} goes [] ys a b c e h = subst (λ (p : P). Asks goes ys p c) e h
asks_more {P} goes (x ∷ xs) ys a b c (mid, step, later) h = (mid, step, asks_more goes xs ys mid b c later h)

pub counts_more : (rows : List Row) (xs ys : List ObjectId) (a b c : ℕ) → CountsAll rows xs a b → CountsAll rows ys b c → CountsAll rows (xs ++ ys) a c
counts_more rows [] ys a b c e h = subst (λ (n : ℕ). CountsAll rows ys n c) e h
counts_more rows (x ∷ xs) ys a b c (mid, one, later) h = (mid, one, counts_more rows xs ys mid b c later h)

-- of those that are accepted
pub counts_accepted : (rows : List Row) (accepts : Id → Bool) (xs ys : List ObjectId) (a b c : ℕ) → CountsAll rows (accepted accepts xs) a b → CountsAll rows (accepted accepts ys) b c → CountsAll rows (accepted accepts (xs ++ ys)) a c
counts_accepted rows accepts xs ys a b c h k = subst (λ (zs : List ObjectId). CountsAll rows zs a c) (sym (filter-append (λ (x : ObjectId). accepts (id_of x)) xs ys)) (counts_more rows (accepted accepts xs) (accepted accepts ys) a b c h k)

-- one alone
pub counts_one : (rows : List Row) (x : ObjectId) (a b : ℕ) → CountsOne rows x a b → CountsAll rows (x ∷ []) a b
counts_one rows x a b one = (b, one, refl)

-- the beginning of a list is that of a longer one
pub take_kept : {I : Type 0} (xs ys : List I) (k : ℕ) → ((j : ℕ) (y : I) → At xs j y → At ys j y) → k ≤ length xs → take k ys ≡ take k xs
take_kept [] [] zero kept l = refl
take_kept [] (y ∷ ys) zero kept l = refl
take_kept [] ys (suc k) kept l = absurd (omega arith)
take_kept (x ∷ xs) [] k kept l = absurd (none_at_nil 0 x (kept 0 x refl))
take_kept (x ∷ xs) (y ∷ ys) zero kept l = refl
take_kept {I} (x ∷ xs) (y ∷ ys) (suc k) kept l =
    let b : At (y ∷ ys) 0 x = kept 0 x refl in
    let same : y ≡ x = cc in
    ap (λ (v : I). v ∷ take k ys) same ∙ ap (λ (zs : List I). x ∷ zs) (take_kept xs ys k (λ j z a. kept (suc j) z a) (omega arith))

-- the next commit is counted
pub counts_next : (rows : List Row) (xs ys : List ObjectId) (k : ℕ) (x : ObjectId) (a b c : ℕ) → At xs k x → ((j : ℕ) (y : ObjectId) → At xs j y → At ys j y) → CountsAll rows (take k xs) a b → CountsOne rows x b c → CountsAll rows (take (k + 1) ys) a c
counts_next rows xs ys k x a b c here kept before one =
    let within = slice_get_within xs k x here in
    let same : take (k + 1) ys ≡ take k xs ++ x ∷ [] = take_push ys k x (kept k x here) ∙ ap (λ (zs : List ObjectId). zs ++ x ∷ []) (take_kept xs ys k kept (omega arith)) in
    subst (λ (zs : List ObjectId). CountsAll rows zs a c) (sym same) (counts_more rows (take k xs) (x ∷ []) a b c before (counts_one rows x b c one))

-- ---- each that is fresh is met once

abbrev pub Fresh : (has hides : ObjectId → Bool) → List ObjectId → ObjectId → Type 0
Fresh has hides xs x = Contains xs x × (has x ≡ false) × (hides x ≡ false)

-- of these commits each that was fresh is met, once, and no other commit is met now
pub record MeetsOnce (has hides has' : ObjectId → Bool) (xs met : List ObjectId) : Type 0 where
  pub list : IsListOf (Fresh has hides xs) met
  pub now : (x : ObjectId) → Contains met x → has' x ≡ true
  pub only : (x : ObjectId) → has' x ≡ true → (has x ≡ true) ⊎ Contains xs x
  pub kept : (x : ObjectId) → has x ≡ true → has' x ≡ true

pub meets_none : (has hides : ObjectId → Bool) → MeetsOnce has hides has [] []
meets_none has hides = record {
  list = record {
    each = λ x. ((λ c. absurd (in_nil x c)), (λ f. absurd (in_nil x f.0)));
    once = λ j k x a b. absurd (none_at_nil j x a);
  };
  now = λ x c. absurd (in_nil x c);
  only = λ x h. inl h;
  kept = λ x h. h;
}

-- what is met after a step was met before it, or is the commit of the step
pub tip_or_met : (has has' : ObjectId → Bool) (y : ObjectId) → Meets has has' y → (x : ObjectId) → has' x ≡ true → (x ≡ y) ⊎ (has x ≡ true)
tip_or_met has has' y new x h = go (has x) refl
  where
    go : (b : Bool) → has x ≡ b → (x ≡ y) ⊎ (has x ≡ true)
    go true e = inr e
    go false e = inl (sym (met_other has has' y x new h (λ f. let z : ⊥ = cc in z)))

pub parent_or_met : (has has' : ObjectId → Bool) (hides : Bool) (y : ObjectId) → ((q : ObjectId) → has' q ≡ cond hides (has q) (cond (same_id y q) true (has q))) → (x : ObjectId) → has' x ≡ true → (x ≡ y) ⊎ (has x ≡ true)
parent_or_met has has' true y new x h = inr (sym (new x) ∙ h)
parent_or_met has has' false y new x h = tip_or_met has has' y new x h

pub parent_met : (has has' : ObjectId → Bool) (hides : Bool) (y : ObjectId) → ((q : ObjectId) → has' q ≡ cond hides (has q) (cond (same_id y q) true (has q))) → hides ≡ false → has' y ≡ true
parent_met has has' true y new e = let z : ⊥ = cc in absurd z
parent_met has has' false y new e = met_itself has has' y new

module _ (has hides mid has' : ObjectId → Bool) (hidden : Bool) (xs met : List ObjectId) (i : ℕ) (y : ObjectId) (here : At xs i y) (w : MeetsOnce has hides mid (take i xs) met) (same : hidden ≡ hides y) (grow : (x : ObjectId) → mid x ≡ true → has' x ≡ true) (from : (x : ObjectId) → has' x ≡ true → (x ≡ y) ⊎ (mid x ≡ true)) (now : hidden ≡ false → has' y ≡ true) where
  longer : take (i + 1) xs ≡ take i xs ++ y ∷ []
  longer = take_push xs i y here

  up : (x : ObjectId) → Contains (take i xs) x → Contains (take (i + 1) xs) x
  up x c = subst (λ (zs : List ObjectId). Contains zs x) (sym longer) (Contains-append_left (take i xs) (y ∷ []) x c)

  at_last : Contains (take (i + 1) xs) y
  at_last = subst (λ (zs : List ObjectId). Contains zs y) (sym longer) (Contains-push (take i xs) y)

  down : (x : ObjectId) → Contains (take (i + 1) xs) x → Contains (take i xs) x ⊎ (x ≡ y)
  down x c = in_push (take i xs) y x (subst (λ (zs : List ObjectId). Contains zs x) longer c)

  only : (x : ObjectId) → has' x ≡ true → (has x ≡ true) ⊎ Contains (take (i + 1) xs) x
  only x h = elim (from x h) [
    | inl e ↦ inr (subst (λ (z : ObjectId). Contains (take (i + 1) xs) z) (sym e) at_last)
    | inr m ↦ elim (w.only x m) [ inl b ↦ inl b | inr c ↦ inr (up x c) ]
  ]

  -- nothing new is met
  pass : (Fresh has hides (take (i + 1) xs) y → Contains met y) → MeetsOnce has hides has' (take (i + 1) xs) met
  pass f = record {
    list = record { each = λ x. (to x, back x); once = w.list.once };
    now = λ x c. grow x (w.now x c);
    only = only;
    kept = λ x h. grow x (w.kept x h);
  }
    where
      to : (x : ObjectId) → Contains met x → Fresh has hides (take (i + 1) xs) x
      to x c = let (a, b, d) = (w.list.each x).0 c in (up x a, b, d)

      back : (x : ObjectId) → Fresh has hides (take (i + 1) xs) x → Contains met x
      back x (a, b, d) = elim (down x a) [
        | inl e ↦ (w.list.each x).1 (e, b, d)
        | inr e ↦ subst (λ (z : ObjectId). Contains met z) (sym e) (f (at_last, subst (λ (z : ObjectId). has z ≡ false) e b, subst (λ (z : ObjectId). hides z ≡ false) e d))
      ]

  push : mid y ≡ false → hidden ≡ false → MeetsOnce has hides has' (take (i + 1) xs) (met ++ y ∷ [])
  push m h = record {
    list = record { each = λ x. (to x, back x); once = once_push met y w.list.once out };
    now = λ x c. elim (in_push met y x c) [ inl d ↦ grow x (w.now x d) | inr e ↦ subst (λ (z : ObjectId). has' z ≡ true) (sym e) (now h) ];
    only = only;
    kept = λ x h. grow x (w.kept x h);
  }
    where
      out : Contains met y → ⊥
      out c = let t = w.now y c in let z : ⊥ = cc in z

      unmet : has y ≡ false
      unmet = unmet_before has mid y (w.kept y) m

      to : (x : ObjectId) → Contains (met ++ y ∷ []) x → Fresh has hides (take (i + 1) xs) x
      to x c = elim (in_push met y x c) [
        | inl d ↦ (let (a, b, e) = (w.list.each x).0 d in (up x a, b, e))
        | inr e ↦ subst (Fresh has hides (take (i + 1) xs)) (sym e) (at_last, unmet, sym same ∙ h)
      ]

      back : (x : ObjectId) → Fresh has hides (take (i + 1) xs) x → Contains (met ++ y ∷ []) x
      back x (a, b, d) = elim (down x a) [
        | inl e ↦ Contains-append_left met (y ∷ []) x ((w.list.each x).1 (e, b, d))
        | inr e ↦ subst (λ (z : ObjectId). Contains (met ++ y ∷ []) z) (sym e) (Contains-push met y)
      ]

  -- the next of these commits is met, if it is fresh
  pub meets_step : MeetsOnce has hides has' (take (i + 1) xs) (met ++ cond (mid y) [] (cond hidden [] (y ∷ [])))
  meets_step = go (mid y) refl hidden refl
    where
      met_before : mid y ≡ true → Fresh has hides (take (i + 1) xs) y → Contains met y
      met_before m (a, b, d) = elim (w.only y m) [ inl t ↦ (let z : ⊥ = cc in absurd z) | inr c ↦ (w.list.each y).1 (c, b, d) ]

      hidden_before : hidden ≡ true → Fresh has hides (take (i + 1) xs) y → Contains met y
      hidden_before h (a, b, d) = let e = same in let z : ⊥ = cc in absurd z

      go : (m : Bool) → mid y ≡ m → (h : Bool) → hidden ≡ h → MeetsOnce has hides has' (take (i + 1) xs) (met ++ cond m [] (cond h [] (y ∷ [])))
      go true m h n = subst (MeetsOnce has hides has' (take (i + 1) xs)) (sym (append-nil met)) (pass (met_before m))
      go false m true n = subst (MeetsOnce has hides has' (take (i + 1) xs)) (sym (append-nil met)) (pass (hidden_before n))
      go false m false n = push m n

-- a list of one set is one of another that has the same members
pub list_same : (S T : ObjectId → Type 0) (xs : List ObjectId) → ((x : ObjectId) → S x → T x) → ((x : ObjectId) → T x → S x) → IsListOf S xs → IsListOf T xs
list_same S T xs to from w = record {
  each = λ x. ((λ c. to x ((w.each x).0 c)), (λ t. (w.each x).1 (from x t)));
  once = w.once;
}

-- ---- tips whose times are read

pub unmet_more : (rows : List Row) (nodes : List Node) (xs : List ObjectId) (i : ℕ) (y : ObjectId) (a b c : ℕ) → At xs i y → CountsAll rows (unmet nodes (take i xs)) a b → CountsAll rows (unmet nodes (y ∷ [])) b c → CountsAll rows (unmet nodes (take (i + 1) xs)) a c
unmet_more rows nodes xs i y a b c here h k =
    let e : unmet nodes (take (i + 1) xs) ≡ unmet nodes (take i xs) ++ unmet nodes (y ∷ []) = ap (unmet nodes) (take_push xs i y here) ∙ filter-append (λ (x : ObjectId). not (is_met nodes x)) (take i xs) (y ∷ []) in
    subst (λ (zs : List ObjectId). CountsAll rows zs a c) (sym e) (counts_more rows (unmet nodes (take i xs)) (unmet nodes (y ∷ [])) a b c h k)

-- those that pass two tests that agree on all
pub filter_same : (p q : ObjectId → Bool) (xs : List ObjectId) → ((x : ObjectId) → Contains xs x → p x ≡ q x) → filter p xs ≡ filter q xs
filter_same p q [] h = refl
filter_same p q (x ∷ xs) h = go (p x) (q x) (h x (contains_from_at (x ∷ xs) 0 x refl)) (filter_same p q xs (λ y c. let (k, a) = at_from_contains xs y c in h y (contains_from_at (x ∷ xs) (suc k) y a)))
  where
    go : (b d : Bool) → b ≡ d → filter p xs ≡ filter q xs → cond b (x ∷ filter p xs) (filter p xs) ≡ cond d (x ∷ filter q xs) (filter q xs)
    go true true e r = ap (λ (zs : List ObjectId). x ∷ zs) r
    go false false e r = r
    go true false e r = let z : ⊥ = cc in absurd z
    go false true e r = let z : ⊥ = cc in absurd z

-- the tips that are not met are those that are accepted
pub unmet_accepted : (nodes : List Node) (accepts : Id → Bool) (tips : List ObjectId) → ((x : ObjectId) → is_met nodes x ≡ true → accepts (id_of x) ≡ false) → ((x : ObjectId) → Contains tips x → is_met nodes x ≡ false → accepts (id_of x) ≡ true) → unmet nodes tips ≡ accepted accepts tips
unmet_accepted nodes accepts tips refused taken = filter_same (λ (x : ObjectId). not (is_met nodes x)) (λ (x : ObjectId). accepts (id_of x)) tips (λ x c. go x (is_met nodes x) refl c)
  where
    go : (x : ObjectId) (b : Bool) → is_met nodes x ≡ b → Contains tips x → not b ≡ accepts (id_of x)
    go x true e c = sym (refused x e)
    go x false e c = sym (taken x c e)

-- ---- which are marked as met

-- the same by what is met and hidden
abbrev pub WalkFlags : (has hides has' : ObjectId → Bool) → List ObjectId → Type 0
WalkFlags has hides has' xs = (x : ObjectId) → (has' x ≡ true) ↔ ((has x ≡ true) ⊎ Fresh has hides xs x)

pub flags_none : (has hides : ObjectId → Bool) → WalkFlags has hides has []
flags_none has hides = λ x. ((λ h. inl h), (λ d. elim d [ inl h ↦ h | inr f ↦ absurd (in_nil x f.0) ]))

module _ (has hides mid has' : ObjectId → Bool) (hidden : Bool) (xs : List ObjectId) (i : ℕ) (y : ObjectId) (here : At xs i y) (w : WalkFlags has hides mid (take i xs)) (same : hidden ≡ hides y) (new : (q : ObjectId) → has' q ≡ cond hidden (mid q) (cond (same_id y q) true (mid q))) where
  wider : take (i + 1) xs ≡ take i xs ++ y ∷ []
  wider = take_push xs i y here

  in_wider : (x : ObjectId) → Contains (take i xs) x → Contains (take (i + 1) xs) x
  in_wider x c = subst (λ (zs : List ObjectId). Contains zs x) (sym wider) (Contains-append_left (take i xs) (y ∷ []) x c)

  last_wider : Contains (take (i + 1) xs) y
  last_wider = subst (λ (zs : List ObjectId). Contains zs y) (sym wider) (Contains-push (take i xs) y)

  before : (x : ObjectId) → mid x ≡ true → (has x ≡ true) ⊎ Fresh has hides (take (i + 1) xs) x
  before x m = elim ((w x).0 m) [
    | inl h ↦ inl h
    | inr f ↦ inr (in_wider x f.0, f.1, f.2)
  ]

  itself : (h b : Bool) → hidden ≡ h → has y ≡ b → has' y ≡ true → (has y ≡ true) ⊎ Fresh has hides (take (i + 1) xs) y
  itself true b e f t = before y (sym (new y ∙ ap (λ (h : Bool). cond h (mid y) (cond (same_id y y) true (mid y))) e) ∙ t)
  itself false true e f t = inl f
  itself false false e f t = inr (last_wider, f, sym same ∙ e)

  to_flags : (x : ObjectId) → has' x ≡ true → (has x ≡ true) ⊎ Fresh has hides (take (i + 1) xs) x
  to_flags x t = elim (parent_or_met mid has' hidden y new x t) [
    | inl e ↦ subst (λ (z : ObjectId). (has z ≡ true) ⊎ Fresh has hides (take (i + 1) xs) z) (sym e) (itself hidden (has y) refl refl (subst (λ (z : ObjectId). has' z ≡ true) e t))
    | inr m ↦ before x m
  ]

  from_flags : (x : ObjectId) → (has x ≡ true) ⊎ Fresh has hides (take (i + 1) xs) x → has' x ≡ true
  from_flags x d = elim d [
    | inl h ↦ stays_met mid has' hidden y x new ((w x).1 (inl h))
    | inr f ↦ elim (in_push (take i xs) y x (subst (λ (zs : List ObjectId). Contains zs x) wider f.0)) [
      | inl c ↦ stays_met mid has' hidden y x new ((w x).1 (inr (c, f.1, f.2)))
      | inr e ↦ subst (λ (z : ObjectId). has' z ≡ true) (sym e) (parent_met mid has' hidden y new (same ∙ subst (λ (z : ObjectId). hides z ≡ false) e f.2))
    ]
  ]

  pub flags_step : WalkFlags has hides has' (take (i + 1) xs)
  flags_step = λ x. (to_flags x, from_flags x)

-- ---- all are met

pub all_none : (nodes : List Node) → MarksAll nodes [] nodes
all_none nodes = λ x. ((λ h. inl h), (λ d. elim d [ inl h ↦ h | inr k ↦ absurd (in_nil x k) ]))

pub all_step : (nodes mid nodes' : List Node) (xs : List ObjectId) (i : ℕ) (y : ObjectId) → At xs i y → MarksAll nodes (take i xs) mid → Meets (is_met mid) (is_met nodes') y → MarksAll nodes (take (i + 1) xs) nodes'
all_step nodes mid nodes' xs i y here w new = λ x. (to x, from x)
  where
    more : take (i + 1) xs ≡ take i xs ++ y ∷ []
    more = take_push xs i y here

    to : (x : ObjectId) → is_met nodes' x ≡ true → (is_met nodes x ≡ true) ⊎ Contains (take (i + 1) xs) x
    to x t = elim (tip_or_met (is_met mid) (is_met nodes') y new x t) [
      | inl e ↦ inr (subst (λ (z : ObjectId). Contains (take (i + 1) xs) z) (sym e) (subst (λ (zs : List ObjectId). Contains zs y) (sym more) (Contains-push (take i xs) y)))
      | inr m ↦ elim ((w x).0 m) [
        | inl h ↦ inl h
        | inr k ↦ inr (subst (λ (zs : List ObjectId). Contains zs x) (sym more) (Contains-append_left (take i xs) (y ∷ []) x k))
      ]
    ]

    from : (x : ObjectId) → (is_met nodes x ≡ true) ⊎ Contains (take (i + 1) xs) x → is_met nodes' x ≡ true
    from x d = elim d [
      | inl h ↦ met_more (is_met mid) (is_met nodes') y x new ((w x).1 (inl h))
      | inr k ↦ elim (in_push (take i xs) y x (subst (λ (zs : List ObjectId). Contains zs x) more k)) [
        | inl b ↦ met_more (is_met mid) (is_met nodes') y x new ((w x).1 (inr b))
        | inr e ↦ subst (λ (z : ObjectId). is_met nodes' z ≡ true) (sym e) (met_itself (is_met mid) (is_met nodes') y new)
      ]
    ]
