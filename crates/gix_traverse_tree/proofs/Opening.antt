-- Steps of a walk in depth order.
use Rattle.std.proofs.Common.{◌≡◌, ◌≢◌, ◌∙◌, sym, ap, subst, ℕ, suc, ◌+◌, ◌-◌, ◌*◌, ◌^◌, ◌<◌, ◌≤◌, ◌||◌, inl, inr, Bool, true, false, take, drop, List, [], ◌∷◌, ◌++◌, length, refl, append_assoc, arith, length-append}
use Rattle.std.specs.Prelude.{reverse}
use Rattle.std.specs.List.{list_any, IsDistinct}
use Rattle.std.specs.declared.ops.ControlFlow.TheVariants.{Continue, Break}
use Rattle.std.proofs.Math.Nat.{pow-succ', mul-le-mul_right, one-le-pow}
use Rattle.std.proofs.lemmas.List.{length-map, take-append-drop, reverse-append}
use Rattle.std.proofs.lemmas.List.Folds.{list_any-append}
use Rattle.std.proofs.lemmas.Map.Keys.{IsDistinct-cons, IsDistinct-tail}
use Rattle.std.proofs.lemmas.Map.Made.{length-le_from_is_member, IsDistinct-from_count}
use Rattle.gix_hash.specs.Id.{Id, id_of}
use Rattle.gix_hash.specs.Order.{id_eq}
use Rattle.gix_hash.specs.OrderLaws.{id_equivalence}
use Rattle.gix_object_tree.specs.Entry.{Item, SpellsEntry}
use Rattle.gix_object_lookup.specs.Table.{Table}
use Rattle.gix_traverse_tree.specs.Calls.{Call, Runs, pop_back, pop, shown, descends}
use Rattle.gix_traverse_tree.specs.Depth as depth
use Rattle.gix_traverse_tree.specs.Depth.{InDepth, before, inside, entering, behind_last}
use Rattle.gix_traverse_tree.specs.Opened.{left_of, ids_of, Rest, Resumes, AreOpen, weight, ShowsEntry, ShowsNext, HasNoNext, Opens, GoesOn, IsAtEnd, IsGood, IsResumed}
use Rattle.gix_traverse_tree.specs.Trees.{End, whole, broken, failed, IsRead, TreeFault, is_among}
use Rattle.gix_traverse_tree.specs.declared.depthfirst.Open.{Open}
use Rattle.gix_traverse_tree.specs.declared.depthfirst.Step.{Step}
use Rattle.gix_traverse_tree.specs.declared.depthfirst.Step.TheVariants.{Left, Past, Below, Ended}
use Rattle.gix_traverse_tree.specs.declared.error.Error.{Error}
use Rattle.gix_traverse_tree.specs.declared.error.Error.TheVariants as errors
use Rattle.gix_traverse_tree.proofs.Called.{runs_more}
use Rattle.gix_traverse_tree.proofs.Ways.{none_equal, stored_more}

not_whole : (error : Error) → failed error ≢ whole
not_whole error e = cc

-- an entry takes bytes
pub spelled_shorter : (ids : _) (input : List ℕ) (item : Item) (rest : List ℕ) → SpellsEntry ids input item rest → length rest < length input
spelled_shorter ids input item rest is =
    let one = ap (λ (t : List ℕ). length t) is.spelled in
    let two = length-append is.text (32 ∷ (item.name ++ 0 ∷ (is.bytes ++ rest))) in
    let three = length-append item.name (0 ∷ (is.bytes ++ rest)) in
    let four = length-append is.bytes rest in
    omega arith

module _ (H M : Type 0) (table : Table) where
  -- nothing is left of the innermost tree
  pub rest_left : (tree : Open) (trees : List Open) (calls more : List Call) (end : End) → left_of tree ≡ [] → Resumes trees (λ cs. Rest H M table trees cs end) calls → Rest H M table (tree ∷ trees) calls end
  rest_left tree trees calls more end e r =
      let none = subst (λ (t : List ℕ). InDepth H M table (ids_of trees) (inside (id_of tree.id) t) [] whole) (sym e) depth.none in
      inl ([], calls, none, r, refl)

  -- the walk goes past an entry
  pub rest_past : (tree after : Open) (trees : List Open) (item : Item) (answer : Bool) (more : List Call) (end : End) → after.id ≡ tree.id → SpellsEntry (id_of tree.id).kind (left_of tree) item (left_of after)
      → descends item (Continue answer) ≡ false → Rest H M table (after ∷ trees) more end
      → Rest H M table (tree ∷ trees) ((shown item (Continue answer) ++ (pop ∷ [])) ++ more) end
  rest_past tree after trees item answer more end same spelled past (inl (first, later, is, res, e)) =
      let is2 = subst (λ id. InDepth H M table (ids_of trees) (inside (id_of id) (left_of after)) first whole) same is in
      inl (shown item (Continue answer) ++ (pop ∷ first), later, depth.entry answer spelled past is2, res, ap (λ (cs : List Call). (shown item (Continue answer) ++ (pop ∷ [])) ++ cs) e)
  rest_past tree after trees item answer more end same spelled past (inr (is, ne)) =
      let is2 = subst (λ id. InDepth H M table (ids_of trees) (inside (id_of id) (left_of after)) more end) same is in
      inr (depth.entry answer spelled past is2, ne)

  entered : (tree after child : Open) (trees : List Open) (item : Item) (calls : List Call) (end : End) → after.id ≡ tree.id → id_of child.id ≡ item.id → IsRead H table (ids_of (after ∷ trees)) item.id (left_of child)
      → InDepth H M table (ids_of (after ∷ trees)) (inside (id_of child.id) (left_of child)) calls end
      → InDepth H M table (id_of tree.id ∷ ids_of trees) (before item.id) (pop_back ∷ calls) end
  entered tree after child trees item calls end same named read is =
      let is2 = subst (λ (id : Id). InDepth H M table (ids_of (after ∷ trees)) (inside id (left_of child)) calls end) named is in
      subst (λ id. InDepth H M table (id_of id ∷ ids_of trees) (before item.id) (pop_back ∷ calls) end) same (depth.tree read is2)

  moved : (tree after : Open) (trees : List Open) (calls : List Call) (end : End) → after.id ≡ tree.id → InDepth H M table (ids_of trees) (inside (id_of after.id) (left_of after)) calls end
      → InDepth H M table (ids_of trees) (inside (id_of tree.id) (left_of after)) calls end
  moved tree after trees calls end same is = subst (λ id. InDepth H M table (ids_of trees) (inside (id_of id) (left_of after)) calls end) same is

  -- the walk goes below an entry, into this tree
  pub rest_below : (tree after child : Open) (trees : List Open) (item : Item) (answer : Bool) (more : List Call) (end : End) → after.id ≡ tree.id → SpellsEntry (id_of tree.id).kind (left_of tree) item (left_of after)
      → descends item (Continue answer) ≡ true → id_of child.id ≡ item.id → IsRead H table (ids_of (after ∷ trees)) item.id (left_of child)
      → Rest H M table (child ∷ (after ∷ trees)) more end
      → Rest H M table (tree ∷ trees) (((shown item (Continue answer) ++ (pop ∷ entering item)) ++ (pop_back ∷ [])) ++ more) end
  rest_below tree after child trees item answer more end same spelled desc named read (inl (first, later, is, (next, e, inl (f2, l2, is2, res, e2)), all)) =
      let told = (shown item (Continue answer) ++ (pop ∷ entering item)) ++ (pop_back ∷ []) in
      let eq = all ∙ ap (λ (cs : List Call). first ++ cs) (e ∙ ap (λ (cs : List Call). pop_back ∷ cs) e2) ∙ sym (append_assoc first (pop_back ∷ f2) l2) in
      inl (
        shown item (Continue answer) ++ (pop ∷ (entering item ++ ((pop_back ∷ first) ++ (pop_back ∷ f2)))),
        l2,
        depth.below answer spelled desc (entered tree after child trees item first whole same named read is) (moved tree after trees f2 whole same is2),
        res,
        ap (λ (cs : List Call). told ++ cs) eq,
      )
  rest_below tree after child trees item answer more end same spelled desc named read (inl (first, later, is, (next, e, inr (is2, ne)), all)) =
      let told = (shown item (Continue answer) ++ (pop ∷ entering item)) ++ (pop_back ∷ []) in
      let eq = all ∙ ap (λ (cs : List Call). first ++ cs) e in
      inr (
        subst (λ (cs : List Call). InDepth H M table (ids_of trees) (inside (id_of tree.id) (left_of tree)) cs end) (sym (ap (λ (cs : List Call). told ++ cs) eq))
            (depth.below answer spelled desc (entered tree after child trees item first whole same named read is) (moved tree after trees next end same is2)),
        ne,
      )
  rest_below tree after child trees item answer more end same spelled desc named read (inr (is, ne)) =
      inr (depth.ended_below answer spelled desc (entered tree after child trees item more end same named read is) ne, ne)

  -- the walk ends in the innermost tree
  pub rest_stop : (tree : Open) (trees : List Open) (calls : List Call) (end : End) → InDepth H M table (ids_of trees) (inside (id_of tree.id) (left_of tree)) calls end → end ≢ whole → Rest H M table (tree ∷ trees) calls end
  rest_stop tree trees calls end is ne = inr (is, ne)

-- ---- the trees that the walk is in

pub open_nothing : (ids : List Id) → AreOpen ids []
open_nothing ids = record { distinct = IsDistinct-from_count id_equivalence [] refl; stored = λ id e. let z : ⊥ = cc in absurd z }

pub open_one_less : (ids : List Id) (tree : Open) (trees : List Open) → AreOpen ids (tree ∷ trees) → AreOpen ids trees
open_one_less ids tree trees is = record {
  distinct = IsDistinct-tail id_eq (id_of tree.id) (ids_of trees) is.distinct;
  stored = λ id e. is.stored id (or_later (id_eq id (id_of tree.id)) (is_among id (ids_of trees)) e);
}
  where
    or_later : (a b : Bool) → b ≡ true → (a || b) ≡ true
    or_later true b e = refl
    or_later false b e = e

pub open_same : (ids : List Id) (tree after : Open) (trees : List Open) → after.id ≡ tree.id → AreOpen ids (tree ∷ trees) → AreOpen ids (after ∷ trees)
open_same ids tree after trees same is = record {
  distinct = subst (λ id. IsDistinct id_eq (id_of id ∷ ids_of trees)) (sym same) is.distinct;
  stored = λ x e. is.stored x (subst (λ id. is_among x (id_of id ∷ ids_of trees) ≡ true) same e);
}

pub open_one_more : (ids : List Id) (tree : Open) (trees : List Open) → is_among (id_of tree.id) (ids_of trees) ≡ false → is_among (id_of tree.id) ids ≡ true → AreOpen ids trees → AreOpen ids (tree ∷ trees)
open_one_more ids tree trees alone stored is = record {
  distinct = IsDistinct-cons id_eq (id_of tree.id) (ids_of trees) (none_equal (id_of tree.id) (ids_of trees) alone) is.distinct;
  stored = stored_more ids (id_of tree.id) (ids_of trees) stored is.stored;
}

pub open_within : (ids : List Id) (trees : List Open) → AreOpen ids trees → length trees ≤ length ids
open_within ids trees is =
    let e = length-le_from_is_member id_equivalence (ids_of trees) ids is.distinct is.stored in
    let f = length-map trees (λ (tree : Open). id_of tree.id) in
    omega arith

-- ---- the bound

pow_step : (w n k : ℕ) → k < n → w ^ (n - k) ≡ w * w ^ (n - suc k)
pow_step w n k l = let e : n - k ≡ suc (n - suc k) = omega arith in ap (λ (m : ℕ). w ^ m) e ∙ pow-succ' w (n - suc k)

pow_some : (w n : ℕ) → 1 ≤ suc w ^ n
pow_some w n = one-le-pow n (suc w) (omega arith)

step_lighter : (a b p rest : ℕ) → a < b → 1 ≤ p → (a + 1) * p + rest < (b + 1) * p + rest
step_lighter a b p rest l s = let e = mul-le-mul_right {m = a + 2} {n = b + 1} p (let h : a + 2 ≤ b + 1 = omega arith in h) in omega (arith, e)

below_lighter : (w q p c a b rest : ℕ) → p ≡ w * q → c + 1 < w → a < b → 1 ≤ q → (c + 1) * q + ((a + 1) * p + rest) < (b + 1) * p + rest
below_lighter w q p c a b rest e small l some =
    let f = mul-le-mul_right {m = c + 2} {n = w} q (let h : c + 2 ≤ w = omega arith in h) in
    let g = mul-le-mul_right {m = a + 2} {n = b + 1} p (let h : a + 2 ≤ b + 1 = omega arith in h) in
    omega (arith, f, g)

some_lighter : (a p rest : ℕ) → 1 ≤ p → rest < (a + 1) * p + rest
some_lighter a p rest s = let e = mul-le-mul_right {m = 1} {n = a + 1} p (let h : 1 ≤ a + 1 = omega arith in h) in omega (arith, e)

pub lighter_left : (ids : List Id) (tree : Open) (trees : List Open) → weight ids trees < weight ids (tree ∷ trees)
lighter_left ids tree trees = some_lighter (length (left_of tree)) ((2 ^ 64 + 1) ^ (length ids - length trees)) (weight ids trees) (pow_some (2 ^ 64) (length ids - length trees))

pub lighter_past : (ids : List Id) (tree after : Open) (trees : List Open) → length (left_of after) < length (left_of tree) → weight ids (after ∷ trees) < weight ids (tree ∷ trees)
lighter_past ids tree after trees l = step_lighter (length (left_of after)) (length (left_of tree)) ((2 ^ 64 + 1) ^ (length ids - length trees)) (weight ids trees) l (pow_some (2 ^ 64) (length ids - length trees))

pub lighter_below : (ids : List Id) (tree after child : Open) (trees : List Open) → length (left_of after) < length (left_of tree) → length (left_of child) < 2 ^ 64 → length (child ∷ (after ∷ trees)) ≤ length ids
    → weight ids (child ∷ (after ∷ trees)) < weight ids (tree ∷ trees)
lighter_below ids tree after child trees l small deep =
    below_lighter (2 ^ 64 + 1) ((2 ^ 64 + 1) ^ (length ids - suc (length trees))) ((2 ^ 64 + 1) ^ (length ids - length trees)) (length (left_of child)) (length (left_of after)) (length (left_of tree)) (weight ids trees)
    (pow_step (2 ^ 64 + 1) (length ids) (length trees) (omega arith)) (omega arith) l (pow_some (2 ^ 64) (length ids - suc (length trees)))

-- ---- the innermost first

pub reverse_push : {A : Type 0} (xs : List A) (x : A) → reverse (xs ++ x ∷ []) ≡ x ∷ reverse xs
reverse_push xs x = reverse-append xs (x ∷ [])

or_swap : (a b : Bool) → (a || (b || false)) ≡ (b || a)
or_swap true true = refl
or_swap true false = refl
or_swap false true = refl
or_swap false false = refl

any_reverse : {A : Type 0} (p : A → Bool) (xs : List A) → list_any p (reverse xs) ≡ list_any p xs
any_reverse p [] = refl
any_reverse p (x ∷ xs) =
    ap (list_any p) (reverse-append (x ∷ []) xs) ∙ list_any-append p (reverse xs) (x ∷ [])
    ∙ ap (λ (b : Bool). b || (p x || false)) (any_reverse p xs) ∙ or_swap (list_any p xs) (p x)

any_ids : (id : Id) (trees : List Open) → is_among id (ids_of trees) ≡ list_any (λ (tree : Open). id_eq id (id_of tree.id)) trees
any_ids id [] = refl
any_ids id (tree ∷ trees) = ap (λ (b : Bool). id_eq id (id_of tree.id) || b) (any_ids id trees)

pub among_open : (id : Id) (trees : List Open) → is_among id (ids_of (reverse trees)) ≡ list_any (λ (tree : Open). id_eq id (id_of tree.id)) trees
among_open id trees = any_ids id (reverse trees) ∙ any_reverse (λ (tree : Open). id_eq id (id_of tree.id)) trees

-- ---- where the next entry begins

drop_front : (front rest : List ℕ) → drop (length front) (front ++ rest) ≡ rest
drop_front [] rest = refl
drop_front (x ∷ front) rest = drop_front front rest

drop_back : (content front rest : List ℕ) → content ≡ front ++ rest → drop (length content - length rest) content ≡ rest
drop_back content front rest e =
    let l = ap (λ (t : List ℕ). length t) e in
    let m = length-append front rest in
    let n : length content - length rest ≡ length front = omega arith in
    ap (λ (k : ℕ). drop k content) n ∙ ap (λ (t : List ℕ). drop (length front) t) e ∙ drop_front front rest

pub next_begins : (ids : _) (content : List ℕ) (offset : ℕ) (item : Item) (rest : List ℕ) → SpellsEntry ids (drop offset content) item rest → drop (length content - length rest) content ≡ rest
next_begins ids content offset item rest is =
    let front = take offset content ++ (is.text ++ (32 ∷ (item.name ++ (0 ∷ is.bytes)))) in
    let inner : item.name ++ (0 ∷ (is.bytes ++ rest)) ≡ (item.name ++ (0 ∷ is.bytes)) ++ rest = sym (append_assoc item.name (0 ∷ is.bytes) rest) in
    let outer : is.text ++ (32 ∷ (item.name ++ (0 ∷ (is.bytes ++ rest)))) ≡ (is.text ++ (32 ∷ (item.name ++ (0 ∷ is.bytes)))) ++ rest = ap (λ (t : List ℕ). is.text ++ (32 ∷ t)) inner ∙ sym (append_assoc is.text (32 ∷ (item.name ++ (0 ∷ is.bytes))) rest) in
    let e : content ≡ front ++ rest = sym (take-append-drop offset content) ∙ ap (λ (t : List ℕ). take offset content ++ t) (is.spelled ∙ outer) ∙ sym (append_assoc (take offset content) (is.text ++ (32 ∷ (item.name ++ (0 ∷ is.bytes)))) rest) in
    drop_back content front rest e

-- ---- one step

pub shows_next : {S : Type 0} (G : S → Call → S → Type 0) (a : S) (tree : Open) (b : S) (after : Open) (step : Step) (item : Item) → SpellsEntry (id_of tree.id).kind (left_of tree) item (left_of after)
    → ShowsEntry G a item b step → ShowsNext G a tree b after step
shows_next G a tree b after Left item spelled h = absurd h
shows_next G a tree b after Past item spelled h = (item, spelled, h)
shows_next G a tree b after (Below id) item spelled h = (item, spelled, h)
shows_next G a tree b after Ended item spelled h = (item, spelled, h)

module _ {S : Type 0} (G : S → Call → S → Type 0) (H M : Type 0) (table : Table) (ids : List Id) where
  pub go_left : (tree : Open) (trees old : List Open) (a b : S) → old ≡ tree ∷ trees → left_of tree ≡ [] → IsResumed G a (length trees) b → GoesOn G H M table ids a old b trees
  go_left tree trees old a b e none resumed = subst (λ (ts : List Open). GoesOn G H M table ids a ts b trees) (sym e) (go trees resumed)
    where
      go : (ts : List Open) → IsResumed G a (length ts) b → GoesOn G H M table ids a (tree ∷ ts) b ts
      go [] r = record {
        calls = [];
        runs = r.0 refl;
        later = λ more end rest. rest_left H M table tree [] more [] end none rest;
        still = λ is. open_one_less ids tree [] is;
        less = λ is. lighter_left ids tree [];
      }
      go (t ∷ ts) r = record {
        calls = pop_back ∷ [];
        runs = (b, r.1 (omega arith), refl);
        later = λ more end rest. rest_left H M table tree (t ∷ ts) (pop_back ∷ more) [] end none (more, refl, rest);
        still = λ is. open_one_less ids tree (t ∷ ts) is;
        less = λ is. lighter_left ids tree (t ∷ ts);
      }

  pub go_past : (tree after : Open) (trees old new : List Open) (a b : S) → old ≡ tree ∷ trees → new ≡ after ∷ trees → after.id ≡ tree.id → ShowsNext G a tree b after Past → GoesOn G H M table ids a old b new
  go_past tree after trees old new a b e f same (item, spelled, (answer, past, runs)) =
      subst (λ (ts : List Open). GoesOn G H M table ids a ts b new) (sym e) (subst (λ (ts : List Open). GoesOn G H M table ids a (tree ∷ trees) b ts) (sym f) (record {
        calls = shown item (Continue answer) ++ (pop ∷ []);
        runs = runs;
        later = λ more end rest. rest_past H M table tree after trees item answer more end same spelled past rest;
        still = λ is. open_same ids tree after trees same is;
        less = λ is. lighter_past ids tree after trees (spelled_shorter (id_of tree.id).kind (left_of tree) item (left_of after) spelled);
      }))

  pub go_below : (tree after : Open) (trees old middle new : List Open) (id : _) (a b c : S) → old ≡ tree ∷ trees → middle ≡ after ∷ trees → after.id ≡ tree.id → ShowsNext G a tree b after (Below id)
      → Opens G H table ids (id_of id) b middle c new → GoesOn G H M table ids a old c new
  go_below tree after trees old middle new id a b c e m same (item, spelled, (answer, desc, is_id, runs)) opens =
      let child = opens.tree in
      let put : new ≡ child ∷ (after ∷ trees) = opens.put ∙ ap (λ (ts : List Open). child ∷ ts) m in
      let named = opens.named ∙ is_id in
      let read = subst (λ (ts : List Open). IsRead H table (ids_of ts) (id_of id) (left_of child)) m opens.read in
      let read2 = subst (λ (i : Id). IsRead H table (ids_of (after ∷ trees)) i (left_of child)) is_id read in
      let alone = ap (λ (i : Id). is_among i (ids_of (after ∷ trees))) opens.named ∙ read.0 in
      let stored = ap (λ (i : Id). is_among i ids) opens.named ∙ opens.stored in
      let told = shown item (Continue answer) ++ (pop ∷ entering item) in
      subst (λ (ts : List Open). GoesOn G H M table ids a ts c new) (sym e) (subst (λ (ts : List Open). GoesOn G H M table ids a (tree ∷ trees) c ts) (sym put) (record {
        calls = told ++ (pop_back ∷ []);
        runs = runs_more G told (pop_back ∷ []) a b c runs (c, opens.told, refl);
        later = λ more end rest. rest_below H M table tree after child trees item answer more end same spelled desc named read2 rest;
        still = λ is. open_one_more ids child (after ∷ trees) alone stored (open_same ids tree after trees same is);
        less = λ is. lighter_below ids tree after child trees (spelled_shorter (id_of tree.id).kind (left_of tree) item (left_of after) spelled) opens.small
            (open_within ids (child ∷ (after ∷ trees)) (open_one_more ids child (after ∷ trees) alone stored (open_same ids tree after trees same is)));
      }))

  pub end_nothing : (old : List Open) (a : S) → old ≡ [] → IsAtEnd G H M table a old a IsGood
  end_nothing old a e = ([], whole, refl, subst (λ (ts : List Open). Rest H M table ts [] whole) (sym e) (refl, refl), tt)

  pub end_ended : (tree after : Open) (trees old : List Open) (a b : S) → old ≡ tree ∷ trees → ShowsNext G a tree b after Ended → IsAtEnd G H M table a old b IsGood
  end_ended tree after trees old a b e (item, spelled, runs) = (
    shown item (Break tt) ++ behind_last item,
    broken,
    runs,
    subst (λ (ts : List Open). Rest H M table ts (shown item (Break tt) ++ behind_last item) broken) (sym e) (rest_stop H M table tree trees (shown item (Break tt) ++ behind_last item) broken (depth.ended spelled) broken_not),
    tt,
  )
    where
      broken_not : broken ≢ whole
      broken_not q = cc

  pub stop_next : (tree : Open) (trees old : List Open) (a b : S) (error : Error) → old ≡ tree ∷ trees → HasNoNext a tree b error → IsAtEnd G H M table a old b (λ end. end ≡ failed error)
  stop_next tree trees old a b (errors.ObjectDecode error) e (some, none, fault, same) = (
    [],
    failed (errors.ObjectDecode error),
    same,
    subst (λ (ts : List Open). Rest H M table ts [] (failed (errors.ObjectDecode error))) (sym e) (rest_stop H M table tree trees [] (failed (errors.ObjectDecode error)) (depth.unread some none fault) (not_whole (errors.ObjectDecode error))),
    refl,
  )
  stop_next tree trees old a b (errors.Find _) e h = absurd h
  stop_next tree trees old a b errors.Cancelled e h = absurd h
  stop_next tree trees old a b errors.Cycle e h = absurd h
  stop_next tree trees old a b errors.Memory e h = absurd h

  pub stop_below : (tree after : Open) (trees old middle : List Open) (id : _) (a b c : S) (error : Error) → old ≡ tree ∷ trees → middle ≡ after ∷ trees → after.id ≡ tree.id → ShowsNext G a tree b after (Below id)
      → TreeFault H M table (ids_of middle) (id_of id) error × (c ≡ b) → IsAtEnd G H M table a old c (λ end. end ≡ failed error)
  stop_below tree after trees old middle id a b c error e m same (item, spelled, (answer, desc, is_id, runs)) (fault, stays) =
      let told = shown item (Continue answer) ++ (pop ∷ entering item) in
      let f1 = subst (λ (ts : List Open). TreeFault H M table (ids_of ts) (id_of id) error) m fault in
      let f2 = subst (λ (i : Id). TreeFault H M table (ids_of (after ∷ trees)) i error) is_id f1 in
      let f3 = subst (λ i. TreeFault H M table (id_of i ∷ ids_of trees) item.id error) same f2 in
      let d = depth.ended_below answer spelled desc (depth.unfound f3) (not_whole error) in (
        told,
        failed error,
        subst (λ (s : S). Runs G a told s) (sym stays) runs,
        subst (λ (ts : List Open). Rest H M table ts told (failed error)) (sym e) (rest_stop H M table tree trees told (failed error) d (not_whole error)),
        refl,
      )
