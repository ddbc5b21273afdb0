-- Generations of commits that are described each before its parents.
use Rattle.std.proofs.Common.{◌≡◌, ◌∙◌, ◌≤◌, ◌+◌, ℕ, zero, suc, ap, refl, sym, subst, arith, List, [], ◌∷◌, ◌++◌, length, map, max, inl, inr, Option, Some, None, option_map, unwrap_or}
use Rattle.std.specs.Prelude.{Contains, fold, ◌⊎◌}
use Rattle.std.specs.FinMap.{len, keys, entries, len-entries}
use Rattle.std.proofs.lemmas.List.{length-map}
use Rattle.gix_hash.specs.Id.{Id, id_of}
use Rattle.gix_hash.specs.declared.object_id.ObjectId.{ObjectId}
use Rattle.history_model.specs.Answers.{generation, generation_within, parents_at}
use Rattle.history_model.specs.Objects.{CommitValue}
use Rattle.history_model.specs.Repository.{Repository}
use Rattle.history_model.proofs.WholeLists.{In, of_map}
use Rattle.history_walks.specs.Telling.{AreInOrder, IsTold, TellsStored}
use Rattle.history_walks.specs.declared.told.Told.{Told}
use Rattle.history_walks.proofs.Members.{contains_from_in, in_from_contains}

-- ---- the greatest of some numbers

least : (a : ℕ) (xs : List ℕ) → a ≤ fold max a xs
least a [] = omega arith
least a (x ∷ xs) = let rest = least (max a x) xs in let first : a ≤ max a x = omega arith in omega (arith, rest, first)

pub below_greatest : (a : ℕ) (xs : List ℕ) (x : ℕ) → In x xs → x ≤ fold max a xs
below_greatest a [] x i = absurd i
below_greatest a (y ∷ xs) x (inl same) = let rest = least (max a y) xs in let first : y ≤ max a y = omega arith in omega (arith, rest, first, same)
below_greatest a (y ∷ xs) x (inr later) = below_greatest (max a y) xs x later

pub greatest_below : (a n : ℕ) (xs : List ℕ) → a ≤ n → ((x : ℕ) → In x xs → x ≤ n) → fold max a xs ≤ n
greatest_below a n [] first each = first
greatest_below a n (x ∷ xs) first each = let here = each x (inl refl) in greatest_below (max a x) n xs (omega (arith, first, here)) (λ y i. each y (inr i))

pub attained : (a : ℕ) (xs : List ℕ) → (fold max a xs ≡ a) ⊎ In (fold max a xs) xs
attained a [] = inl refl
attained a (x ∷ xs) = elim (attained (max a x) xs) [
  | inr later ↦ inr (inr later)
  | inl same ↦ elim (either_max a x) [ inl first ↦ inl (same ∙ first) | inr second ↦ inr (inl (same ∙ second)) ]
]
  where
    either_max : (m n : ℕ) → (max m n ≡ m) ⊎ (max m n ≡ n)
    either_max m n = grind arith

pub map_same : {X : Type 0} (f g : X → ℕ) (xs : List X) → ((x : X) → In x xs → f x ≡ g x) → map f xs ≡ map g xs
map_same f g [] same = refl
map_same f g (x ∷ xs) same = λ i. same x (inl refl) i ∷ map_same f g xs (λ y among. same y (inr among)) i

pub map_twice : {X Y Z : Type 0} (f : Y → Z) (g : X → Y) (xs : List X) → map f (map g xs) ≡ map (λ x. f (g x)) xs
map_twice f g [] = refl
map_twice f g (x ∷ xs) = λ i. f (g x) ∷ map_twice f g xs i

-- ---- ways of so many commits

step : (r : Repository) (m : ℕ) (id : Id) → generation_within (suc m) r id ≡ suc (fold max 0 (map (λ parent. generation_within m r parent) (parents_at r id)))
unfolding generation_within
step r m id = refl

pub no_more : (r : Repository) (k : ℕ) (id : Id) → generation_within k r id ≤ k
unfolding generation_within
no_more r zero id = omega arith
no_more r (suc k) id =
    let least : fold max 0 (map (λ parent. generation_within k r parent) (parents_at r id)) ≤ k =
    greatest_below 0 k (map (λ parent. generation_within k r parent) (parents_at r id)) (omega arith)
    (λ n i. let (parent, among, same) = of_map (λ parent. generation_within k r parent) n (parents_at r id) i in subst (λ x. x ≤ k) (sym same) (no_more r k parent)) in
    omega (arith, least)

-- no way from this commit is longer
abbrev pub IsSettled : Repository → ℕ → Id → Type 0
IsSettled r k id = (m : ℕ) → k ≤ m → generation_within m r id ≡ generation_within k r id

settled_more : (r : Repository) (k n : ℕ) (id : Id) → k ≤ n → IsSettled r k id → IsSettled r n id
settled_more r k n id more settled m least = settled m (omega (arith, more, least)) ∙ sym (settled n more)

settled_one : (r : Repository) (k : ℕ) (id : Id) → ((parent : Id) → In parent (parents_at r id) → IsSettled r k parent) → IsSettled r (suc k) id
settled_one r k id parents zero least = absurd (omega (arith, least))
settled_one r k id parents (suc m) least =
    step r m id
    ∙ ap (λ xs. suc (fold max 0 xs)) (map_same (λ parent. generation_within m r parent) (λ parent. generation_within k r parent) (parents_at r id) (λ parent among. parents parent among m (omega (arith, least))))
    ∙ sym (step r k id)

-- ---- of commits that are described

pub told_parents : (r : Repository) (told : Told) → TellsStored r told → parents_at r (id_of told.id) ≡ map id_of told.parents.items
told_parents r told is = ap (λ found. unwrap_or (option_map (λ (commit : CommitValue). commit.parents) found) []) is.stored ∙ sym is.parents

-- if the commits after it are settled, so are its parents
parents_settled : (r : Repository) (first : Told) (behind : List Told) → TellsStored r first → ((parent : ObjectId) → Contains first.parents.items parent → IsTold behind parent)
    → ((told : Told) → In told behind → IsSettled r (length behind) (id_of told.id)) → (parent : Id) → In parent (parents_at r (id_of first.id)) → IsSettled r (length behind) parent
parents_settled r first behind stored order rest parent i =
    let (id, among, is) = of_map id_of parent first.parents.items (subst (λ ids. In parent ids) (told_parents r first stored) i) in
    let (later, there, named) = order id (contains_from_in first.parents.items id among) in
    subst (IsSettled r (length behind)) (ap id_of named ∙ sym is) (rest later (in_from_contains behind later there))

pub settled : (r : Repository) (commits : List Told) → ((told : Told) → In told commits → TellsStored r told) → AreInOrder commits → (told : Told) → In told commits → IsSettled r (length commits) (id_of told.id)
settled r [] stored order told i = absurd i
settled r (first ∷ behind) stored order told (inl same) =
    subst (λ (t : Told). IsSettled r (suc (length behind)) (id_of t.id)) (sym same)
    (settled_one r (length behind) (id_of first.id) (parents_settled r first behind (stored first (inl refl)) order.0 (λ later i. settled r behind (λ t j. stored t (inr j)) order.2 later i)))
settled r (first ∷ behind) stored order told (inr later) =
    settled_more r (length behind) (suc (length behind)) (id_of told.id) (omega arith) (settled r behind (λ t j. stored t (inr j)) order.2 told later)

-- the generation of a described commit, in a map with at least as many ids
module _ (r : Repository) (commits : List Told) (stored : (told : Told) → In told commits → TellsStored r told) (order : AreInOrder commits) (fewer : length commits ≤ len r.objects) (told : Told) (i : In told commits) where
  pub one_more : generation r (id_of told.id) ≡ suc (fold max 0 (map (λ parent. generation r (id_of parent)) told.parents.items))
  one_more =
      let still = settled r commits stored order told i in
      still (len r.objects) fewer ∙ sym (still (suc (len r.objects)) (omega (arith, fewer)))
      ∙ step r (len r.objects) (id_of told.id)
      ∙ ap (λ ids. suc (fold max 0 (map (λ parent. generation_within (len r.objects) r parent) ids))) (told_parents r told (stored told i))
      ∙ ap (λ xs. suc (fold max 0 xs)) (map_twice (λ parent. generation_within (len r.objects) r parent) id_of told.parents.items)

  pub bounded : generation r (id_of told.id) ≤ length commits
  bounded =
      let still = settled r commits stored order told i (len r.objects) fewer in
      let most = no_more r (length commits) (id_of told.id) in
      omega (arith, still, most)
