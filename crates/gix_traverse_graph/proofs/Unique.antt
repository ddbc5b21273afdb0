-- Only one list meets an order's condition.
use Rattle.std.proofs.Common.{◌≡◌, ℕ, zero, suc, ◌<◌, ◌≤◌, inl, inr, List, [], ◌∷◌, take, refl, sym, ◌∙◌, ap, subst, arith, Some, None, slice_get, Option}
use Rattle.std.specs.Prelude.{ℤ}
use Rattle.std.proofs.lemmas.Int.{ints}
use Rattle.gix_traverse_graph.specs.Order.{At, Before, IsListOf, IsChosen, IsBreadthFirst, IsKey, Named, IsLastName, HasNoChild, Outranks, later_child, has_child, newer, given_later, IsTopological}
use Rattle.gix_traverse_graph.specs.Commits.{Reached, tip, parent}
use Rattle.gix_traverse_graph.proofs.Lists.{at_one, at_from_contains, contains_from_at, Agree, same_from_agree, take_agree, three, not_before}

-- what agreeing places say of both lists at one place
abbrev pub SameAt : {I : Type 0} → List I → List I → ℕ → Type 0
SameAt {I} xs ys k = (x y : I) → At xs k x → At ys k y → x ≡ y

-- an element of ys that is at k is nowhere below k in xs
pub not_below : {I : Type 0} (S : I → Type 0) (xs ys : List I) (k l : ℕ) (y : I) → IsListOf S ys → Agree xs ys k → At ys k y → At xs l y → l < k → ⊥
not_below S xs ys k l y hy agree ay ax lt =
    let e = agree l lt in
    let b : At ys l y = sym e ∙ ax in
    let same = hy.once l k y b ay in
    omega arith

-- where one list has an element at k the other has one too
pub not_longer : {I : Type 0} (S : I → Type 0) (xs ys : List I) (k : ℕ) (y : I) → IsListOf S xs → IsListOf S ys → Agree xs ys k → slice_get xs k ≡ None → At ys k y → ⊥
not_longer S xs ys k y hx hy agree none ay =
    let there = at_from_contains xs y ((hx.each y).1 ((hy.each y).0 (contains_from_at ys k y ay))) in
    elim (three there.0 k) [
      | inl lt ↦ not_below S xs ys k there.0 y hy agree ay there.1 lt
      | inr (inl e) ↦ (let b : slice_get xs k ≡ Some y = subst (λ (j : ℕ). slice_get xs j ≡ Some y) e there.1 in cc)
      | inr (inr gt) ↦ past xs k there.0 y gt none there.1
    ]
  where
    past : {J : Type 0} (zs : List J) (k l : ℕ) (z : J) → k < l → slice_get zs k ≡ None → slice_get zs l ≡ Some z → ⊥
    past [] k l z gt n a = cc
    past (w ∷ zs) zero l z gt n a = cc
    past (w ∷ zs) (suc k) zero z gt n a = omega arith
    past (w ∷ zs) (suc k) (suc l) z gt n a = past zs k l z (omega arith) n a

-- one place
one_place : {I : Type 0} (S : I → Type 0) (xs ys : List I) (k : ℕ) → IsListOf S xs → IsListOf S ys → Agree xs ys k → SameAt xs ys k → slice_get xs k ≡ slice_get ys k
one_place {I} S xs ys k hx hy agree same = go (slice_get xs k) (slice_get ys k) refl refl
  where
    go : (a b : Option I) → slice_get xs k ≡ a → slice_get ys k ≡ b → slice_get xs k ≡ slice_get ys k
    go None None ea eb = ea ∙ sym eb
    go None (Some y) ea eb = absurd (not_longer S xs ys k y hx hy agree ea eb)
    go (Some x) None ea eb = absurd (not_longer S ys xs k x hy hx (λ j l. sym (agree j l)) eb ea)
    go (Some x) (Some y) ea eb = ea ∙ ap Some (same x y ea eb) ∙ sym eb

all_agree : {I : Type 0} (S : I → Type 0) (xs ys : List I) → IsListOf S xs → IsListOf S ys → ((k : ℕ) → Agree xs ys k → SameAt xs ys k) → (k : ℕ) → Agree xs ys k
all_agree S xs ys hx hy step zero = λ j l. absurd (omega arith)
all_agree S xs ys hx hy step (suc k) =
    let below = all_agree S xs ys hx hy step k in
    λ j l. elim (three j k) [
      | inl lt ↦ below j lt
      | inr (inl e) ↦ subst (λ (i : ℕ). slice_get xs i ≡ slice_get ys i) (sym e) (one_place S xs ys k hx hy below (step k below))
      | inr (inr gt) ↦ absurd (omega arith)
    ]

-- two lists of one set are one where the places below decide each place
pub same_lists : {I : Type 0} (S : I → Type 0) (xs ys : List I) → IsListOf S xs → IsListOf S ys → ((k : ℕ) → Agree xs ys k → SameAt xs ys k) → xs ≡ ys
same_lists S xs ys hx hy step = same_from_agree xs ys (λ j. all_agree S xs ys hx hy step (suc j) j (omega arith))

-- ---- orders that choose at each place

-- where of two one alone can come first
pub chosen_once : {I : Type 0} (S : I → Type 0) (Fit : List I → I → Type 0) (Comes : List I → I → I → Type 0) → ((before : List I) (x y : I) → Comes before x y → Comes before y x → ⊥) → (xs ys : List I) → IsChosen S Fit Comes xs → IsChosen S Fit Comes ys → xs ≡ ys
chosen_once {I} S Fit Comes once xs ys hx hy = same_lists S xs ys hx.list hy.list step
  where
    step : (k : ℕ) → Agree xs ys k → SameAt xs ys k
    step k agree x y ax ay =
        let same = take_agree xs ys k agree in
        let there = at_from_contains xs y ((hx.list.each y).1 ((hy.list.each y).0 (contains_from_at ys k y ay))) in
        let here = at_from_contains ys x ((hy.list.each x).1 ((hx.list.each x).0 (contains_from_at xs k x ax))) in
        elim (three there.0 k) [
          | inl lt ↦ absurd (not_below S xs ys k there.0 y hy.list agree ay there.1 lt)
          | inr (inl e) ↦ at_one xs k x y ax (subst (λ (j : ℕ). At xs j y) e there.1)
          | inr (inr gt) ↦ elim (three here.0 k) [
            | inl lt ↦ absurd (not_below S ys xs k here.0 x hx.list (λ j l. sym (agree j l)) ax here.1 lt)
            | inr (inl e) ↦ at_one ys k x y (subst (λ (j : ℕ). At ys j x) e here.1) ay
            | inr (inr gt') ↦ absurd (once (take k xs) x y
                (hx.chosen k there.0 x y gt ax there.1 (subst (λ (b : List I). Fit b y) (sym same) (hy.fit k y ay)))
                (subst (λ (b : List I). Comes b y x) (sym same) (hy.chosen k here.0 y x gt' ay here.1 (subst (λ (b : List I). Fit b x) same (hx.fit k x ax)))))
          ]
        ]

-- ---- breadth first

-- a commit that an early place names is before each commit with a later key
named_early : {I : Type 0} (along : I → List I) (tips : List I) (S : I → Type 0) (out : List I) → IsBreadthFirst along tips S out → (k l : ℕ) (x y : I) (p i q j : ℕ) → At out k x → IsKey along tips out x p i → Named along tips out q j y → q < p → At out l y → l < k
named_early along tips S out h k l x y p i q j ax key named lt ay = elim (three l k) [
  | inl early ↦ early
  | inr (inl e) ↦ (let same : x ≡ y = at_one out k x y ax (subst (λ (m : ℕ). At out m y) e ay) in
      absurd (key.first q j (subst (λ (z : _). Named along tips out q j z) (sym same) named) (inl lt)))
  | inr (inr late) ↦ (let mine = h.keyed l y ay in
      let up = h.ascending k l x y p i mine.0 mine.1 late ax ay key mine.2 in
      let low = not_before q j mine.0 mine.1 in
      absurd (mine.2.first q j named (elim up [ inl a ↦ inl (omega arith) | inr b ↦ inl (omega arith) ])))
]

-- each commit's key is of an earlier place
key_within : {I : Type 0} (along : I → List I) (tips : List I) (S : I → Type 0) (out : List I) → ((x : I) → S x → Reached along S tips x) → IsBreadthFirst along tips S out → (k : ℕ) (x : I) (p i : ℕ) → At out k x → IsKey along tips out x p i → p ≤ k
key_within {I} along tips S out reached h k x p i ax key = elim (three k p) [
  | inl lt ↦ (let early = all_early lt (reached x ((h.list.each x).0 (contains_from_at out k x ax))) k ax in absurd (omega arith))
  | inr (inl e) ↦ omega arith
  | inr (inr gt) ↦ omega arith
]
  where
    member : {y : I} → Reached along S tips y → S y
    member (tip t s) = s
    member (parent r c s) = s

    all_early : k < p → {y : I} → Reached along S tips y → (l : ℕ) → At out l y → l < k
    all_early lt (tip {x = y} t s) l ay =
        let t' = at_from_contains tips y t in
        named_early along tips S out h k l x y p i 0 t'.0 ax key t'.1 (omega arith) ay
    all_early lt (parent {x = c} {y = y} r m s) l ay =
        let place = at_from_contains out c ((h.list.each c).1 (member r)) in
        let early = all_early lt r place.0 place.1 in
        let index = at_from_contains (along c) y m in
        named_early along tips S out h k l x y p i (suc place.0) index.0 ax key (c, place.1, index.1) (omega arith) ay

-- what early places name is the same in lists that agree there
named_agree : {I : Type 0} (along : I → List I) (tips xs ys : List I) (k : ℕ) → Agree xs ys k → (p i : ℕ) (z : I) → p ≤ k → Named along tips xs p i z → Named along tips ys p i z
named_agree along tips xs ys k agree zero i z l n = n
named_agree along tips xs ys k agree (suc j) i z l (c, a, b) = (c, sym (agree j (omega arith)) ∙ a, b)

-- only one list is in breadth order
pub breadth_once : {I : Type 0} (along : I → List I) (tips : List I) (S : I → Type 0) → ((x : I) → S x → Reached along S tips x) → (xs ys : List I) → IsBreadthFirst along tips S xs → IsBreadthFirst along tips S ys → xs ≡ ys
breadth_once {I} along tips S reached xs ys hx hy = same_lists S xs ys hx.list hy.list step
  where
    step : (k : ℕ) → Agree xs ys k → SameAt xs ys k
    step k agree x y ax ay =
        let there = at_from_contains xs y ((hx.list.each y).1 ((hy.list.each y).0 (contains_from_at ys k y ay))) in
        let here = at_from_contains ys x ((hy.list.each x).1 ((hx.list.each x).0 (contains_from_at xs k x ax))) in
        elim (three there.0 k) [
          | inl lt ↦ absurd (not_below S xs ys k there.0 y hy.list agree ay there.1 lt)
          | inr (inl e) ↦ at_one xs k x y ax (subst (λ (j : ℕ). At xs j y) e there.1)
          | inr (inr gt) ↦ elim (three here.0 k) [
            | inl lt ↦ absurd (not_below S ys xs k here.0 x hx.list (λ j l. sym (agree j l)) ax here.1 lt)
            | inr (inl e) ↦ at_one ys k x y (subst (λ (j : ℕ). At ys j x) e here.1) ay
            | inr (inr gt') ↦ (
                let kx = hx.keyed k x ax in
                let ky = hx.keyed there.0 y there.1 in
                let ky' = hy.keyed k y ay in
                let kx' = hy.keyed here.0 x here.1 in
                let up = hx.ascending k there.0 x y kx.0 kx.1 ky.0 ky.1 gt ax there.1 kx.2 ky.2 in
                let up' = hy.ascending k here.0 y x ky'.0 ky'.1 kx'.0 kx'.1 gt' ay here.1 ky'.2 kx'.2 in
                let in_x = key_within along tips S xs reached hx k x kx.0 kx.1 ax kx.2 in
                let in_y = key_within along tips S ys reached hy k y ky'.0 ky'.1 ay ky'.2 in
                let x_there = kx'.2.first kx.0 kx.1 (named_agree along tips xs ys k agree kx.0 kx.1 x in_x kx.2.named) in
                let y_there = ky.2.first ky'.0 ky'.1 (named_agree along tips ys xs k (λ j l. sym (agree j l)) ky'.0 ky'.1 y in_y ky'.2.named) in
                absurd (turn kx.0 kx.1 ky.0 ky.1 ky'.0 ky'.1 kx'.0 kx'.1 up up' x_there y_there))
          ]
        ]
      where
        turn : (a b c d e f g h : ℕ) → Before a b c d → Before e f g h → (Before a b g h → ⊥) → (Before e f c d → ⊥) → ⊥
        turn a b c d e f g h p q r s = grind arith

-- ---- topological

last_name_once : {I : Type 0} (along : I → List I) (before : List I) (x : I) (p i q j : ℕ) → IsLastName along before x p i → IsLastName along before x q j → (p ≡ q) × (i ≡ j)
last_name_once along before x p i q j a b = elim (not_before p i q j (a.last q j b.named)) [ inl lt ↦ absurd (b.last p i a.named lt) | inr e ↦ e ]

-- one that has no child has no last child
no_last_name : {I : Type 0} (along : I → List I) (before : List I) (x : I) (p i : ℕ) → IsLastName along before x p i → HasNoChild along before x → ⊥
no_last_name along before x p i a none =
    let (child, there, named) = a.named in
    none child (contains_from_at before p child there) (contains_from_at (along child) i x named)

-- of two commits one alone outranks the other
outranks_once : {I : Type 0} (along : I → List I) (tips : List I) (time : I → ℤ) (before : List I) (x y : I) → Outranks along tips time before x y → Outranks along tips time before y x → ⊥
outranks_once along tips time before x y (later_child {p = p} {i = i} {q = q} {j = j} a b l) (later_child {p = p'} {i = i'} {q = q'} {j = j'} c d m) =
    let e = last_name_once along before x p i q' j' a d in
    let f = last_name_once along before y q j p' i' b c in
    turned p i q j p' i' q' j' e f l m
  where
    turned : (a b c d e f g h : ℕ) → ((a ≡ g) × (b ≡ h)) → ((c ≡ e) × (d ≡ f)) → Before c d a b → Before g h e f → ⊥
    turned a b c d e f g h s t u v = grind arith
outranks_once along tips time before x y (later_child {p = p} {i = i} a b l) (has_child c n) = no_last_name along before x p i a n
outranks_once along tips time before x y (later_child {p = p} {i = i} a b l) (newer n m t) = no_last_name along before x p i a m
outranks_once along tips time before x y (later_child {p = p} {i = i} a b l) (given_later n m t c d e) = no_last_name along before x p i a m
outranks_once along tips time before x y (has_child {p = p} {i = i} a n) (later_child {q = q} {j = j} b c l) = no_last_name along before y _ _ b n
outranks_once along tips time before x y (has_child {p = p} {i = i} a n) (has_child c m) = no_last_name along before x p i a m
outranks_once along tips time before x y (has_child {p = p} {i = i} a n) (newer c m t) = no_last_name along before x p i a m
outranks_once along tips time before x y (has_child {p = p} {i = i} a n) (given_later c m t d e f) = no_last_name along before x p i a m
outranks_once along tips time before x y (newer n m t) (later_child a b l) = no_last_name along before y _ _ a m
outranks_once along tips time before x y (newer n m t) (has_child a b) = no_last_name along before y _ _ a m
outranks_once along tips time before x y (newer n m t) (newer a b u) = omega (arith, ints)
outranks_once along tips time before x y (newer n m t) (given_later a b u c d e) = omega (arith, ints)
outranks_once along tips time before x y (given_later n m t a b c) (later_child d e l) = no_last_name along before y _ _ d m
outranks_once along tips time before x y (given_later n m t a b c) (has_child d e) = no_last_name along before y _ _ d m
outranks_once along tips time before x y (given_later n m t a b c) (newer d e u) = omega (arith, ints)
outranks_once along tips time before x y (given_later {i = i} {j = j} n m t a b c) (given_later {i = i'} {j = j'} d e u f g h) =
    let s = a.first j' g.at in
    let r = f.first j b.at in
    omega arith

-- only one list is in topological order
pub topological_once : {I : Type 0} (along : I → List I) (tips : List I) (time : I → ℤ) (S : I → Type 0) (xs ys : List I) → IsTopological along tips time S xs → IsTopological along tips time S ys → xs ≡ ys
topological_once along tips time S xs ys = chosen_once S _ _ (outranks_once along tips time) xs ys
