-- How far a walk has numbered and read the commits that it comes to.
use Rattle.std.proofs.Common.{◌≡◌, ℕ, zero, suc, ◌+◌, ◌<◌, ◌≤◌, ◌⊎◌, inl, inr, List, [], ◌∷◌, ◌++◌, length, map, take, refl, sym, ◌∙◌, ap, subst, arith, Some, Bool, true, false, cond, append_assoc, append-nil}
use Rattle.std.specs.Prelude.{Contains}
use Rattle.std.specs.List.{list_any}
use Rattle.std.proofs.lemmas.Option.{slice_get_within, slice_get-get_or}
use Rattle.std.proofs.lemmas.List.Elements.{Contains-append_left, Contains-append_right, Contains-append_cases}
use Rattle.gix_hash.specs.declared.object_id.ObjectId.{ObjectId}
use Rattle.gix_traverse_graph.specs.Commits.{Commits, asked, asked_parents, Reached, tip, parent}
use Rattle.gix_traverse_graph.specs.Numbered.{same_id}
use Rattle.gix_traverse_graph.specs.Order.{At, Named}
use Rattle.gix_traverse_graph.specs.Reading.{Read}
use Rattle.gix_traverse_graph.specs.Standing.{NotIn}
use Rattle.gix_traverse_graph.specs.declared.parents.Parents.{Parents}
use Rattle.gix_traverse_graph.specs.declared.parents.Parents.TheVariants.{All, First}
use Rattle.gix_traverse_graph.specs.declared.rows.Row.{Row}
use Rattle.gix_traverse_graph.proofs.Frontier.{read_none, read_skip, read_push}
use Rattle.gix_traverse_graph.proofs.Ids.{same_id_apart}
use Rattle.gix_traverse_graph.proofs.Lists.{at_one, at_from_contains, contains_from_at, none_at_nil, at_push, at_from_take}
use Rattle.gix_traverse_graph.proofs.Slow.{contains_from_any, any_from_contains}
use Rattle.gix_traverse_topo.specs.Meeting.{IsRow, Met}
use Rattle.gix_traverse_graph.specs.Rows.{AllHeld}
use Rattle.gix_traverse_topo.specs.Nodes.{IsOnce}
use Rattle.gix_traverse_topo.proofs.Turns.{at_append_cases}

-- the first m names of a row are met
pub record MetSo (way : ObjectId → List ObjectId) (tips hs keys : List ObjectId) (p m : ℕ) (names : List ObjectId) : Type 0 where
  pub xs : List ObjectId
  pub keys_are : keys ≡ hs ++ xs
  pub read : Read way tips (NotIn hs) xs p m
  pub row : IsRow way tips xs p names

module _ (way : ObjectId → List ObjectId) (tips : List ObjectId) where
  row_more : (xs : List ObjectId) (y : ObjectId) (p : ℕ) (names : List ObjectId) → IsRow way tips xs p names → IsRow way tips (xs ++ y ∷ []) p names
  row_more xs y zero names r = r
  row_more xs y (suc q) names (c, a, e) = (c, at_push xs y q c a, e)

  named_from_row : (xs : List ObjectId) (p : ℕ) (names : List ObjectId) → IsRow way tips xs p names → (m : ℕ) (y : ObjectId) → At names m y → Named way tips xs p m y
  named_from_row xs zero names r m y a = subst (λ (zs : List ObjectId). At zs m y) (sym r) a
  named_from_row xs (suc q) names (c, b, e) m y a = (c, b, subst (λ (zs : List ObjectId). At zs m y) (sym e) a)

  row_from_named : (xs : List ObjectId) (p : ℕ) (names : List ObjectId) → IsRow way tips xs p names → (m : ℕ) (y : ObjectId) → Named way tips xs p m y → At names m y
  row_from_named xs zero names r m y a = subst (λ (zs : List ObjectId). At zs m y) r a
  row_from_named xs (suc q) names (c, b, e) m y (d, a, n) =
      let same : d ≡ c = at_one xs q d c a b in
      subst (λ (zs : List ObjectId). At zs m y) e (subst (λ (z : ObjectId). At (way z) m y) same n)

  -- one more name of the row
  pub meet_one : (hs keys keys' : List ObjectId) (p m : ℕ) (names : List ObjectId) (y : ObjectId) → MetSo way tips hs keys p m names → At names m y → keys' ≡ cond (list_any (same_id y) keys) keys (keys ++ y ∷ []) → MetSo way tips hs keys' p (suc m) names
  meet_one hs keys keys' p m names y s here e = go (list_any (same_id y) keys) refl
    where
      named : Named way tips s.xs p m y
      named = named_from_row s.xs p names s.row m y here

      inside : list_any (same_id y) keys ≡ true → Contains (hs ++ s.xs) y
      inside f = contains_from_any same_id same_id_apart (hs ++ s.xs) y (ap (list_any (same_id y)) (sym s.keys_are) ∙ f)

      outside : list_any (same_id y) keys ≡ false → Contains (hs ++ s.xs) y → ⊥
      outside f c = let t : list_any (same_id y) keys ≡ true = ap (list_any (same_id y)) s.keys_are ∙ any_from_contains same_id same_id_apart (hs ++ s.xs) y c in let z : ⊥ = cc in z

      go : (b : Bool) → list_any (same_id y) keys ≡ b → MetSo way tips hs keys' p (suc m) names
      go true f = record {
        xs = s.xs;
        keys_are = (let g : keys' ≡ keys = rw f at e in g ∙ s.keys_are);
        read = read_skip way tips (NotIn hs) s.xs p m y s.read named (λ k. elim (Contains-append_cases hs s.xs y (inside f)) [ inl h ↦ absurd (k h) | inr c ↦ c ]);
        row = s.row;
      }
      go false f = record {
        xs = s.xs ++ y ∷ [];
        keys_are = (let g : keys' ≡ keys ++ y ∷ [] = rw f at e in g ∙ ap (λ (zs : List ObjectId). zs ++ y ∷ []) s.keys_are ∙ append_assoc hs s.xs (y ∷ []));
        read = read_push way tips (NotIn hs) s.xs p m y s.read named (λ c. outside f (Contains-append_left hs s.xs y c)) (λ c. outside f (Contains-append_right hs s.xs y c));
        row = row_more s.xs y p names s.row;
      }

  pub meet_more : (hs keys keys' : List ObjectId) (p m : ℕ) (names : List ObjectId) (y : ObjectId) → MetSo way tips hs keys p m names → At names m y → keys' ≡ cond (list_any (same_id y) keys) keys (keys ++ y ∷ []) → MetSo way tips hs keys' p (m + 1) names
  meet_more hs keys keys' p m names y s here e = let f : suc m ≡ m + 1 = omega arith in subst (λ (n : ℕ). MetSo way tips hs keys' p n names) f (meet_one hs keys keys' p m names y s here e)

  -- all names of the row
  pub met_all : (hs keys : List ObjectId) (p m : ℕ) (names : List ObjectId) → MetSo way tips hs keys p m names → length names ≤ m → Met way tips hs keys p
  met_all hs keys p m names s l = record {
    xs = s.xs;
    keys_are = s.keys_are;
    count = m;
    read = s.read;
    all = λ j x n. let a = row_from_named s.xs p names s.row j x n in let w = slice_get_within names j x a in omega arith;
  }

-- a key stays where it is
pub keys_more : (keys keys' : List ObjectId) (y : ObjectId) → keys' ≡ cond (list_any (same_id y) keys) keys (keys ++ y ∷ []) → (k : ℕ) (x : ObjectId) → At keys k x → At keys' k x
keys_more keys keys' y e k x a = go (list_any (same_id y) keys) refl
  where
    go : (b : Bool) → list_any (same_id y) keys ≡ b → At keys' k x
    go true f = let g : keys' ≡ keys = rw f at e in subst (λ (zs : List ObjectId). At zs k x) (sym g) a
    go false f = let g : keys' ≡ keys ++ y ∷ [] = rw f at e in subst (λ (zs : List ObjectId). At zs k x) (sym g) (at_push keys y k x a)

pub asked_same : (along : Parents) (h : Commits ObjectId) (x : ObjectId) → asked_parents along h x ≡ asked along (h x).parents
asked_same All h x = refl
asked_same First h x = refl

pub at_length_append : {I : Type 0} (xs ys : List I) (k : ℕ) (x : I) → At (xs ++ ys) (length xs + k) x → At ys k x
at_length_append [] ys k x a = let e : 0 + k ≡ k = omega arith in subst (λ (n : ℕ). At ys n x) e a
at_length_append (z ∷ xs) ys k x a = at_length_append xs ys k x (let e : suc (length xs) + k ≡ suc (length xs + k) = omega arith in let b : At (z ∷ (xs ++ ys)) (suc (length xs + k)) x = subst (λ (n : ℕ). At (z ∷ (xs ++ ys)) n x) e a in b)

pub length_map : {A B : Type 0} (f : A → B) (xs : List A) → length (map f xs) ≡ length xs
length_map f [] = refl
length_map f (x ∷ xs) = ap suc (length_map f xs)

pub map_push : {A B : Type 0} (f : A → B) (xs : List A) (x : A) → map f (xs ++ x ∷ []) ≡ map f xs ++ f x ∷ []
map_push f [] x = refl
map_push f (y ∷ xs) x = ap (λ (zs : List _). f y ∷ zs) (map_push f xs x)

-- what is at a place of the longer list was there before
pub at_back : {I : Type 0} (xs ys : List I) → ((k : ℕ) (x : I) → At xs k x → At ys k x) → (k : ℕ) (x : I) → k < length xs → At ys k x → At xs k x
at_back xs ys kept k x l a =
    let here = slice_get-get_or xs k x l in
    let there = kept k _ here in
    let same = at_one ys k _ x there a in
    subst (λ (z : _). At xs k z) same here

-- ---- one row of names

reached_passes : {along : ObjectId → List ObjectId} {P : ObjectId → Type 0} {tips : List ObjectId} {x : ObjectId} → Reached along P tips x → P x
reached_passes (tip t p) = p
reached_passes (parent r n p) = p

-- without parents only the tips are reached
reached_tip : {P : ObjectId → Type 0} {tips : List ObjectId} {x : ObjectId} → Reached (λ _. []) P tips x → Contains tips x
reached_tip (tip t p) = t
reached_tip (parent {y = y} r n p) = let (k, a) = at_from_contains [] y n in absurd (none_at_nil k y a)

pub row_met : (keys keys' names : List ObjectId) → ((way : ObjectId → List ObjectId) (tips hs xs : List ObjectId) (p : ℕ) → keys ≡ hs ++ xs → Read way tips (NotIn hs) xs p 0 → IsRow way tips xs p names → Met way tips hs keys' p) → Met (λ _. []) names keys keys' 0
row_met keys keys' names met = met (λ _. []) names keys [] 0 (sym (append-nil keys)) (read_none (λ _. []) names (NotIn keys)) refl

-- no key is there twice
pub met_once : (way : ObjectId → List ObjectId) (tips keys keys' : List ObjectId) (p : ℕ) → Met way tips keys keys' p → IsOnce keys → IsOnce keys'
met_once way tips keys keys' p m once j k x a b = go (at_append_cases keys m.xs j x (subst (λ (zs : List ObjectId). At zs j x) m.keys_are a)) (at_append_cases keys m.xs k x (subst (λ (zs : List ObjectId). At zs k x) m.keys_are b))
  where
    go : At keys j x ⊎ ((i : ℕ) × (j ≡ length keys + i) × At m.xs i x) → At keys k x ⊎ ((i : ℕ) × (k ≡ length keys + i) × At m.xs i x) → j ≡ k
    go (inl c) (inl d) = once j k x c d
    go (inl c) (inr (i, e, d)) = absurd (reached_passes (m.read.reached i x d) (contains_from_at keys j x c))
    go (inr (i, e, c)) (inl d) = absurd (reached_passes (m.read.reached i x c) (contains_from_at keys k x d))
    go (inr (i, e, c)) (inr (l, f, d)) = e ∙ ap (λ (n : ℕ). length keys + n) (m.read.once i l x c d) ∙ sym f

-- where the names have rows, all keys do
pub met_held : (rows : List Row) (names keys keys' : List ObjectId) → Met (λ _. []) names keys keys' 0 → AllHeld rows keys → AllHeld rows names → AllHeld rows keys'
met_held rows names keys keys' m held all x c = elim (Contains-append_cases keys m.xs x (subst (λ (zs : List ObjectId). Contains zs x) m.keys_are c)) [
  | inl d ↦ held x d
  | inr d ↦ (let (k, a) = at_from_contains m.xs x d in all x (reached_tip (m.read.reached k x a)))
]

pub asked_held : (rows : List Row) (along : Parents) (ids : List ObjectId) → AllHeld rows ids → AllHeld rows (asked along ids)
asked_held rows All ids held = held
asked_held rows First ids held = λ x c. let (k, a) = at_from_contains (take 1 ids) x c in let b = at_from_take ids 1 k x a in held x (contains_from_at ids k x b.1)

-- what passes in a list of keys
pub not_among : (keys : List ObjectId) (n : ℕ) (x : ObjectId) → list_any (same_id x) keys ≡ false → At keys n x → ⊥
not_among keys n x e a = let t = any_from_contains same_id same_id_apart keys x (contains_from_at keys n x a) in let z : ⊥ = cc in z

pub at_map : {A B : Type 0} (f : A → B) (xs : List A) (k : ℕ) (x : A) → At xs k x → At (map f xs) k (f x)
at_map f [] k x a = let z : ⊥ = cc in absurd z
at_map f (y ∷ xs) zero x a = let e : y ≡ x = cc in ap (λ (z : _). Some (f z)) e
at_map f (y ∷ xs) (suc k) x a = at_map f xs k x a

pub from_map : {A B : Type 0} (f : A → B) (xs : List A) (k : ℕ) (y : B) → At (map f xs) k y → (x : A) × At xs k x × (f x ≡ y)
from_map f [] k y a = let z : ⊥ = cc in absurd z
from_map f (x ∷ xs) zero y a = (x, refl, cc)
from_map f (x ∷ xs) (suc k) y a = from_map f xs k y a
