-- How far a walk has read the commits that it numbered, and how often they name each other.
use Rattle.std.proofs.Common.{◌≡◌, ℕ, suc, ◌+◌, ◌<◌, ◌≤◌, inl, inr, List, [], ◌∷◌, ◌++◌, length, take, refl, sym, ◌∙◌, ap, subst, arith, Bool, true, false, cond, set, not, length-append, append-nil}
use Rattle.std.specs.Prelude.{Contains}
use Rattle.std.specs.List.{list_any}
use Rattle.std.proofs.lemmas.Option.{slice_get_within}
use Rattle.gix_hash.specs.declared.object_id.ObjectId.{ObjectId}
use Rattle.gix_object_lookup.specs.Table.{Table}
use Rattle.gix_traverse_graph.specs.Commits.{Commits, asked, asked_parents, Reached}
use Rattle.gix_traverse_graph.specs.Numbered.{same_id}
use Rattle.gix_traverse_graph.specs.Order.{At, Named}
use Rattle.gix_traverse_graph.specs.Reading.{Read}
use Rattle.gix_traverse_graph.specs.Standing.{NotIn}
use Rattle.gix_traverse_graph.specs.declared.parents.Parents.{Parents}
use Rattle.gix_traverse_graph.specs.declared.rows.Row.{Row}
use Rattle.gix_traverse_graph.proofs.Frontier.{read_none, read_next, read_all}
use Rattle.gix_traverse_graph.proofs.Lists.{at_one, at_push, once_push, take_agree, three}
use Rattle.gix_traverse_graph.proofs.Ids.{same_id_apart}
use Rattle.gix_traverse_graph.proofs.Slow.{any_from_contains}
use Rattle.gix_traverse_topo.specs.Meeting.{IsRow, Met, Walks}
use Rattle.gix_traverse_topo.specs.Nodes.{all_facts, counts, EachCount, IsOnce, AreFacts, NamesAre, ParentsFrom, ParentsIn}
use Rattle.gix_traverse_topo.specs.Turns.{names_of, times}
use Rattle.gix_traverse_topo.specs.Walking.{Meets, Names, Visits, Walking}
use Rattle.gix_traverse_topo.specs.declared.known.Node.{Node}
use Rattle.gix_traverse_topo.specs.declared.known.Facts.{Facts}
use Rattle.gix_traverse_topo.proofs.Counting.{names_as, names_more, names_none, names_pushed}
use Rattle.gix_traverse_topo.proofs.Degree.{total_push}
use Rattle.gix_traverse_topo.proofs.Meeting.{MetSo, asked_same, at_back, at_length_append, keys_more, length_map, map_push, meet_more, met_all, met_once, row_met}
use Rattle.gix_traverse_topo.proofs.Updates.{at_within, whole}
use Rattle.gix_traverse_commit_known.proofs.Simply.{take_push}

long_told : (nodes : List Node) → length (all_facts nodes) ≡ length nodes
long_told nodes = length_map (λ (node : Node). node.facts) nodes

as_long : {A : Type 0} (xs ys : List A) → ((k : ℕ) (x : A) → At xs k x → At ys k x) → length xs ≤ length ys
as_long [] ys kept = omega arith
as_long (x ∷ xs) ys kept = let (y, a) = at_within (x ∷ xs) (length xs) (omega arith) in let w = slice_get_within ys (length xs) y (kept (length xs) y a) in omega arith

none_named : (way : ObjectId → List ObjectId) (y : ObjectId) (xs : List ObjectId) → names_of same_id way y (take 0 xs) ≡ 0
none_named way y [] = refl
none_named way y (x ∷ xs) = refl

-- after the same keys the longer list has the shorter one's at their places
behind_kept : (keys keys' keys'' xs ys : List ObjectId) → ((k : ℕ) (x : ObjectId) → At keys' k x → At keys'' k x) → keys' ≡ keys ++ xs → keys'' ≡ keys ++ ys → (k : ℕ) (x : ObjectId) → At xs k x → At ys k x
behind_kept keys keys' keys'' xs ys kept e f k x a = at_length_append keys ys k x (subst (λ (zs : List ObjectId). At zs (length keys + k) x) f (kept (length keys + k) x (subst (λ (zs : List ObjectId). At zs (length keys + k) x) (sym e) (at_behind keys))))
  where
    at_behind : (hs : List ObjectId) → At (hs ++ xs) (length hs + k) x
    at_behind [] = let g : 0 + k ≡ k = omega arith in subst (λ (n : ℕ). At xs n x) (sym g) a
    at_behind (h ∷ hs) = let g : suc (length hs) + k ≡ suc (length hs + k) = omega arith in subst (λ (n : ℕ). At (h ∷ (hs ++ xs)) n x) (sym g) (at_behind hs)

-- the names that one more commit gives are counted after those of the commits before it
named_next : (way : ObjectId → List ObjectId) (xs ys : List ObjectId) (p : ℕ) (id : ObjectId) (row : List ObjectId) → take (suc p) ys ≡ take p xs ++ id ∷ [] → way id ≡ row → (y : ObjectId) → names_of same_id way y (take p xs) + times (same_id y) row ≡ names_of same_id way y (take (suc p) ys)
named_next way xs ys p id row e f y =
    let pushed : names_of same_id way y (take p xs ++ id ∷ []) ≡ names_of same_id way y (take p xs) + times (same_id y) (way id) = total_push (λ c. times (same_id y) (way c)) (take p xs) id in
    let front : names_of same_id way y (take (suc p) ys) ≡ names_of same_id way y (take p xs ++ id ∷ []) = ap (names_of same_id way y) e in
    let last : times (same_id y) (way id) ≡ times (same_id y) row = ap (times (same_id y)) f in
    omega arith

same_front : (xs ys : List ObjectId) (n : ℕ) → n ≤ length xs → ((k : ℕ) (x : ObjectId) → At xs k x → At ys k x) → take n ys ≡ take n xs
same_front xs ys n l kept = take_agree ys xs n (λ j lt. let (x, a) = at_within xs j (omega arith) in kept j x a ∙ sym a)

-- ---- a row of ids

once_more : (keys keys' : List ObjectId) (y : ObjectId) → keys' ≡ cond (list_any (same_id y) keys) keys (keys ++ y ∷ []) → IsOnce keys → IsOnce keys'
once_more keys keys' y e o = go (list_any (same_id y) keys) refl
  where
    go : (b : Bool) → list_any (same_id y) keys ≡ b → IsOnce keys'
    go true f = let g : keys' ≡ keys = rw f at e in subst (λ (ks : List ObjectId). IsOnce ks) (sym g) o
    go false f = let g : keys' ≡ keys ++ y ∷ [] = rw f at e in subst (λ (ks : List ObjectId). IsOnce ks) (sym g) (once_push keys y o (λ c. let s : list_any (same_id y) keys ≡ true = any_from_contains same_id same_id_apart keys y c in let z : ⊥ = cc in z))

-- the first m of these have numbers
pub record MeetsSo (ids keys : List ObjectId) (nodes : List Node) (keys' : List ObjectId) (nodes' : List Node) (m : ℕ) : Type 0 where
  pub kept : (k : ℕ) (x : ObjectId) → At keys k x → At keys' k x
  pub once : IsOnce keys → IsOnce keys'
  pub told : (k : ℕ) (facts : Facts) → At (all_facts nodes) k facts → At (all_facts nodes') k facts
  pub many : length nodes ≡ length keys → length nodes' ≡ length keys'
  pub met : (way : ObjectId → List ObjectId) (tips hs xs : List ObjectId) (p : ℕ) → keys ≡ hs ++ xs → Read way tips (NotIn hs) xs p 0 → IsRow way tips xs p ids → MetSo way tips hs keys' p m ids

pub so_none : (ids keys : List ObjectId) (nodes : List Node) → MeetsSo ids keys nodes keys nodes 0
so_none ids keys nodes = record {
  kept = λ k x a. a;
  once = λ o. o;
  told = λ k r a. a;
  many = λ e. e;
  met = λ way tips hs xs p e r row. record { xs = xs; keys_are = e; read = r; row = row };
}

pub so_more : (ids keys : List ObjectId) (nodes : List Node) (keys' : List ObjectId) (nodes' : List Node) (m : ℕ) (y : ObjectId) (keys'' : List ObjectId) (nodes'' : List Node) → MeetsSo ids keys nodes keys' nodes' m → At ids m y → keys'' ≡ cond (list_any (same_id y) keys') keys' (keys' ++ y ∷ []) → ((k : ℕ) (facts : Facts) → At (all_facts nodes') k facts → At (all_facts nodes'') k facts) → (length nodes' ≡ length keys' → length nodes'' ≡ length keys'') → MeetsSo ids keys nodes keys'' nodes'' (m + 1)
so_more ids keys nodes keys' nodes' m y keys'' nodes'' s here e told many = record {
  kept = λ k x a. keys_more keys' keys'' y e k x (s.kept k x a);
  once = λ o. once_more keys' keys'' y e (s.once o);
  told = λ k r a. told k r (s.told k r a);
  many = λ f. many (s.many f);
  met = λ way tips hs xs p f r row. meet_more way tips hs keys' keys'' p m ids y (s.met way tips hs xs p f r row) here e;
}

-- a name of one of them is counted
pub so_named : (ids keys : List ObjectId) (nodes : List Node) (keys' : List ObjectId) (nodes' nodes'' : List Node) (m : ℕ) → MeetsSo ids keys nodes keys' nodes' m → all_facts nodes'' ≡ all_facts nodes' → MeetsSo ids keys nodes keys' nodes'' m
so_named ids keys nodes keys' nodes' nodes'' m s e = record {
  kept = s.kept;
  once = s.once;
  told = λ k r a. subst (λ (rs : List Facts). At rs k r) (sym e) (s.told k r a);
  many = λ f. sym (long_told nodes'') ∙ ap length e ∙ long_told nodes' ∙ s.many f;
  met = s.met;
}

pub so_all : (ids keys : List ObjectId) (nodes : List Node) (keys' : List ObjectId) (nodes' : List Node) (m : ℕ) → MeetsSo ids keys nodes keys' nodes' m → length ids ≤ m → Meets ids keys nodes keys' nodes'
so_all ids keys nodes keys' nodes' m s l = record {
  kept = s.kept;
  told = s.told;
  many = s.many;
  met = λ way tips hs xs p e r row. met_all way tips hs keys' p m ids (s.met way tips hs xs p e r row) l;
}

pub meets_longer : (ids keys : List ObjectId) (nodes : List Node) (keys' : List ObjectId) (nodes' : List Node) → Meets ids keys nodes keys' nodes' → length nodes ≤ length nodes'
meets_longer ids keys nodes keys' nodes' m = let l = as_long (all_facts nodes) (all_facts nodes') m.told in let e = long_told nodes in let f = long_told nodes' in omega arith

-- without names
pub names_kept : (keys : List ObjectId) (nodes : List Node) → Names (λ _. 0) keys nodes keys nodes
names_kept keys nodes low names o e known = names_as low keys (counts nodes) names (λ y. names y + 0) known (λ y. omega arith)

pub names_number : (more : ObjectId → ℕ) (keys : List ObjectId) (nodes : List Node) (keys' : List ObjectId) (nodes' : List Node) (keys'' : List ObjectId) (nodes'' : List Node) → Names more keys nodes keys' nodes' → (length nodes ≡ length keys → length nodes' ≡ length keys') → ((low : ℕ) (names : ObjectId → ℕ) → length nodes' ≡ length keys' → NamesAre low keys' (counts nodes') names → NamesAre low keys'' (counts nodes'') names) → Names more keys nodes keys'' nodes''
names_number more keys nodes keys' nodes' keys'' nodes'' all many step low names o e known = step low (λ y. names y + more y) (many e) (all low names o e known)

-- the first name of the row is still to be counted
pub names_row_none : (row keys : List ObjectId) (nodes : List Node) → Names (λ y. times (same_id y) (take 0 row)) keys nodes keys nodes
names_row_none [] keys nodes low names o e known = names_as low keys (counts nodes) names (λ y. names y + 0) known (λ y. omega arith)
names_row_none (x ∷ row) keys nodes low names o e known = names_as low keys (counts nodes) names (λ y. names y + 0) known (λ y. omega arith)

-- one more name of the row is counted
pub names_row_more : (row : List ObjectId) (m : ℕ) (y : ObjectId) (keys : List ObjectId) (nodes : List Node) (keys' : List ObjectId) (nodes' nodes'' : List Node) (n count : ℕ) → At row m y → (IsOnce keys → IsOnce keys') → At keys' n y → At (counts nodes') n count → counts nodes'' ≡ set (counts nodes') n (count + 1) → Names (λ z. times (same_id z) (take m row)) keys nodes keys' nodes' → Names (λ z. times (same_id z) (take (m + 1) row)) keys nodes keys' nodes''
names_row_more row m y keys nodes keys' nodes' nodes'' n count named once here at f all low names o e known =
    subst (λ (cs : List ℕ). NamesAre low keys' cs (λ z. names z + times (same_id z) (take (m + 1) row))) (sym f)
    (names_more low keys' (counts nodes') names row m n count y (once o) named here at (all low names o e known))

pub names_row_all : (row : List ObjectId) (m : ℕ) (keys : List ObjectId) (nodes : List Node) (keys' : List ObjectId) (nodes' : List Node) → length row ≤ m → Names (λ z. times (same_id z) (take m row)) keys nodes keys' nodes' → Names (λ z. times (same_id z) row) keys nodes keys' nodes'
names_row_all row m keys nodes keys' nodes' l all = subst (λ (zs : List ObjectId). Names (λ z. times (same_id z) zs) keys nodes keys' nodes') (whole row m l) all

-- ---- a number for one id

pub new_key : (keys keys' : List ObjectId) (y : ObjectId) (new : Bool) → new ≡ not (list_any (same_id y) keys) → new ≡ true → keys' ≡ cond (list_any (same_id y) keys) keys (keys ++ y ∷ []) → (keys' ≡ keys ++ y ∷ []) × (Contains keys y → ⊥)
new_key keys keys' y new n t e = go (list_any (same_id y) keys) refl
  where
    go : (b : Bool) → list_any (same_id y) keys ≡ b → (keys' ≡ keys ++ y ∷ []) × (Contains keys y → ⊥)
    go true f = absurd (let g : new ≡ not true = rw f at n in let z : ⊥ = cc in z)
    go false f = ((let g : keys' ≡ keys ++ y ∷ [] = rw f at e in g), λ c. let s : list_any (same_id y) keys ≡ true = any_from_contains same_id same_id_apart keys y c in let z : ⊥ = cc in z)

pub old_key : (keys keys' : List ObjectId) (y : ObjectId) (new : Bool) → new ≡ not (list_any (same_id y) keys) → new ≡ false → keys' ≡ cond (list_any (same_id y) keys) keys (keys ++ y ∷ []) → keys' ≡ keys
old_key keys keys' y new n t e = go (list_any (same_id y) keys) refl
  where
    go : (b : Bool) → list_any (same_id y) keys ≡ b → keys' ≡ keys
    go true f = rw f at e
    go false f = absurd (let g : new ≡ not false = rw f at n in let z : ⊥ = cc in z)

pub told_pushed : (nodes nodes' : List Node) (node : Node) → nodes' ≡ nodes ++ node ∷ [] → (k : ℕ) (facts : Facts) → At (all_facts nodes) k facts → At (all_facts nodes') k facts
told_pushed nodes nodes' node e k r a = subst (λ (rs : List Facts). At rs k r) (sym (ap all_facts e ∙ map_push (λ (v : Node). v.facts) nodes node)) (at_push (all_facts nodes) node.facts k r a)

pub unnamed_pushed : (nodes nodes' : List Node) (node : Node) (keys keys' : List ObjectId) (y : ObjectId) → nodes' ≡ nodes ++ node ∷ [] → node.names ≡ 0 → keys' ≡ keys ++ y ∷ [] → (Contains keys y → ⊥) → (low : ℕ) (names : ObjectId → ℕ) → length nodes ≡ length keys → NamesAre low keys (counts nodes) names → NamesAre low keys' (counts nodes') names
unnamed_pushed nodes nodes' node keys keys' y e z f new low names l known =
    let counted : counts nodes' ≡ counts nodes ++ 0 ∷ [] = ap counts e ∙ map_push (λ (v : Node). v.names) nodes node ∙ ap (λ (c : ℕ). counts nodes ++ c ∷ []) z in
    subst (λ (ks : List ObjectId). NamesAre low ks (counts nodes') names) (sym f)
    (subst (λ (cs : List ℕ). NamesAre low (keys ++ y ∷ []) cs names) (sym counted)
    (names_pushed low keys (counts nodes) names y (length_map (λ (v : Node). v.names) nodes ∙ l) new known))

-- what was read of a commit is put in its place
pub names_put : (more : ObjectId → ℕ) (keys : List ObjectId) (nodes : List Node) (keys' : List ObjectId) (nodes' nodes'' : List Node) → counts nodes'' ≡ counts nodes' → Names more keys nodes keys' nodes' → Names more keys nodes keys' nodes''
names_put more keys nodes keys' nodes' nodes'' e all low names o l known = subst (λ (cs : List ℕ). NamesAre low keys' cs (λ y. names y + more y)) (sym e) (all low names o l known)

-- ---- walks

module _ (honest may_fail : Type 0) (rows : List Row) (table : Table) (along : Parents) (tips keys : List ObjectId) (nodes : List Node) where
  -- after the tips
  pub walking_none : (keys' : List ObjectId) (nodes' : List Node) → Meets tips keys nodes keys' nodes' → Names (λ _. 0) keys nodes keys' nodes' → Walking honest may_fail rows table along tips keys nodes (length nodes) keys' nodes'
  walking_none keys' nodes' m names = record {
    keys_kept = m.kept;
    once = met_once (λ _. []) tips keys keys' 0 (row_met keys keys' tips m.met);
    told_kept = λ k r l a. m.told k r a;
    many = m.many;
    within = meets_longer tips keys nodes keys' nodes' m;
    read = λ n x r l lt a b. absurd (omega arith);
    place = 0;
    placed = omega arith;
    met = λ e o h t.
        let way = asked_parents along h in
        let met = m.met way tips keys [] 0 (sym (append-nil keys)) (read_none way tips (NotIn keys)) refl in (
          met,
          names_as (length keys) keys' (counts nodes') (λ y. 0 + 0) (λ y. names_of same_id way y (take 0 met.xs))
              (names (length keys) (λ y. 0) o e (names_none (length keys) keys (counts nodes) (omega arith)))
              (λ y. let z = none_named way y met.xs in omega arith),
        );
  }

  -- one more commit
  pub walking_step : (high : ℕ) (keys' : List ObjectId) (nodes' : List Node) (keys'' : List ObjectId) (nodes'' : List Node) (id : ObjectId) → Walking honest may_fail rows table along tips keys nodes high keys' nodes' → At keys' high id → Visits honest may_fail rows table along high id keys' nodes' keys'' nodes'' → Walking honest may_fail rows table along tips keys nodes (high + 1) keys'' nodes''
  walking_step high keys' nodes' keys'' nodes'' id w here v = record {
    keys_kept = λ k x a. v.meets.kept k x (w.keys_kept k x a);
    once = λ o. met_once (λ _. []) row keys' keys'' 0 (row_met keys' keys'' row v.meets.met) (w.once o);
    told_kept = λ k r l a. v.others k r (λ e. omega (arith, w.placed)) (w.told_kept k r l a);
    many = λ e. v.many ∙ v.meets.many (w.many e);
    within = (let l = slice_get_within (all_facts nodes'') high v.facts v.placed in let e = long_told nodes'' in omega arith);
    read = λ n x r l lt a b. elim (three n high) [
      | inl less ↦ earlier n x r l less a b
      | inr (inl e) ↦ (
          let same : x ≡ id = at_one keys'' high x id (subst (λ (k : ℕ). At keys'' k x) e a) (v.meets.kept high id here) in
          let told : r ≡ v.facts = at_one (all_facts nodes'') high r v.facts (subst (λ (k : ℕ). At (all_facts nodes'') k r) e b) v.placed in
          subst (λ (s : Facts). AreFacts honest may_fail rows table x s) (sym told) (subst (λ (z : ObjectId). AreFacts honest may_fail rows table z v.facts) (sym same) v.is_read))
      | inr (inr gt) ↦ absurd (omega arith)
    ];
    place = suc w.place;
    placed = omega (arith, w.placed);
    met = met;
  }
    where
      row : List ObjectId
      row = asked along v.facts.parents.items

      room : high < length keys'
      room = slice_get_within keys' high id here

      earlier : (n : ℕ) (x : ObjectId) (r : Facts) → length nodes ≤ n → n < high → At keys'' n x → At (all_facts nodes'') n r → AreFacts honest may_fail rows table x r
      earlier n x r l less a b =
          let (s, c) = at_within (all_facts nodes') n (let e = long_told nodes' in omega (arith, w.within)) in
          let same : s ≡ r = at_one (all_facts nodes'') n s r (v.others n s (λ e. omega arith) c) b in
          subst (λ (q : Facts). AreFacts honest may_fail rows table x q) same (w.read n x s l less (at_back keys' keys'' v.meets.kept n x (omega (arith, room)) a) c)

      met : length nodes ≡ length keys → IsOnce keys → (h : Commits ObjectId) → ParentsIn (length nodes) (high + 1) h keys'' (all_facts nodes'') → (m : Met (asked_parents along h) tips keys keys'' (suc w.place)) × NamesAre (length keys) keys'' (counts nodes'') (λ y. names_of same_id (asked_parents along h) y (take (suc w.place) m.xs))
      met e o h t =
          let way = asked_parents along h in
          let (m, named) = w.met e o h (λ n x r l lt a b. t n x r l (omega arith) (v.meets.kept n x a) (v.others n r (λ f. omega arith) b)) in
          let there : At m.xs w.place id = at_length_append keys m.xs w.place id (subst (λ (zs : List ObjectId). At zs (length keys + w.place) id) m.keys_are (subst (λ (n : ℕ). At keys' n id) (w.placed ∙ ap (λ (n : ℕ). n + w.place) e) here)) in
          let within = slice_get_within m.xs w.place id there in
          let parents : v.facts.parents.items ≡ (h id).parents = t high id v.facts (omega (arith, w.placed)) (omega arith) (v.meets.kept high id here) v.placed in
          let same_row : way id ≡ row = asked_same along h id ∙ ap (asked along) (sym parents) in
          let next : Met way tips keys keys'' (suc w.place) = v.meets.met way tips keys m.xs (suc w.place) m.keys_are (read_next way tips (NotIn keys) m.xs w.place m.count m.read m.all (omega arith)) (id, there, same_row) in
          let more : NamesAre (length keys) keys'' (counts nodes'') (λ y. names_of same_id way y (take w.place m.xs) + times (same_id y) row) = v.names (length keys) (λ y. names_of same_id way y (take w.place m.xs)) (w.once o) (w.many e) named in
          let one : suc w.place ≡ w.place + 1 = omega arith in
          let front : take (suc w.place) next.xs ≡ take w.place m.xs ++ id ∷ [] = same_front m.xs next.xs (suc w.place) (omega arith) (behind_kept keys keys' keys'' m.xs next.xs v.meets.kept m.keys_are next.keys_are) ∙ ap (λ (n : ℕ). take n m.xs) one ∙ take_push m.xs w.place id there in (
            next,
            names_as (length keys) keys'' (counts nodes'') (λ y. names_of same_id way y (take w.place m.xs) + times (same_id y) row) (λ y. names_of same_id way y (take (suc w.place) next.xs)) more
                (λ y. named_next way m.xs next.xs w.place id row front same_row y),
          )

  -- all are read
  pub walks_all : (high : ℕ) (keys' : List ObjectId) (nodes' : List Node) → Walking honest may_fail rows table along tips keys nodes high keys' nodes' → length keys' ≤ high → length nodes ≡ length keys → IsOnce keys → (h : Commits ObjectId) → ParentsFrom (length nodes) h keys' (all_facts nodes') → (s : Walks (asked_parents along h) tips keys keys') × EachCount (length keys) keys' (counts nodes') (λ y count. count ≡ names_of same_id (asked_parents along h) y s.xs)
  walks_all high keys' nodes' w l e o h t =
      let way = asked_parents along h in
      let (m, named) = w.met e o h (λ n x r low lt a b. t n x r low a b) in
      let long : length keys' ≡ length keys + length m.xs = ap length m.keys_are ∙ length-append keys m.xs in
      let within = m.read.within in
      let end : w.place ≡ length m.xs = omega (arith, w.placed) in
      let all : take w.place m.xs ≡ m.xs = whole m.xs w.place (omega arith) in (
        record {
          xs = m.xs;
          keys_are = m.keys_are;
          breadth = read_all way tips (NotIn keys) m.xs m.count (subst (λ (n : ℕ). Read way tips (NotIn keys) m.xs n m.count) end m.read) (λ j x n. m.all j x (subst (λ (q : ℕ). Named way tips m.xs q j x) (sym end) n)) (λ x. Reached way (NotIn keys) tips x) (λ x r. r) (λ x r. r);
        },
        (λ n x c low a b. named.0 n x c low a b ∙ ap (names_of same_id way x) all),
      )

  -- all that is read is as much as has a number
  pub many_all : (high : ℕ) (keys' : List ObjectId) (nodes' : List Node) → Walking honest may_fail rows table along tips keys nodes high keys' nodes' → length keys' ≤ high → length nodes ≡ length keys → high ≡ length nodes'
  many_all high keys' nodes' w l e = let m = w.many e in let i = w.within in omega arith
