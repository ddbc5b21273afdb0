-- Members of lists, and what filtered, mapped and sorted lists have.
use Rattle.std.proofs.Common.{◌≡◌, ◌⊎◌, Bool, true, false, List, [], ◌∷◌, ◌++◌, map, refl, sym, ◌∙◌, ap, subst, inl, inr, Some, None, bytes_eq}
use Rattle.std.specs.List.{list_any, list_all, flat_map, AllByRecursion}
use Rattle.std.proofs.lemmas.Slice.Eq.{bytes_eq-Decides}
use Rattle.history_model.specs.Bytes.{Bytes}
use Rattle.std.proofs.lemmas.Bool.{or_parts, and_from, and_parts, or_cases}
use Rattle.history_model.proofs.NameLemmas.{some_or}

-- x is a member of the list
abbrev pub In : {X : Type 0} → X → List X → Type 0
In x [] = ⊥
In x (y ∷ ys) = (x ≡ y) ⊎ In x ys

pub all_in : {X : Type 0} (P : X → Type 0) (xs : List X) → AllByRecursion P xs → (x : X) → In x xs → P x
all_in P [] h x i = absurd i
all_in P (y ∷ ys) h x (inl e) = subst P (sym e) h.0
all_in P (y ∷ ys) h x (inr i) = all_in P ys h.1 x i

pub in_all : {X : Type 0} (P : X → Type 0) (xs : List X) → ((x : X) → In x xs → P x) → AllByRecursion P xs
in_all P [] f = tt
in_all P (x ∷ xs) f = (f x (inl refl), in_all P xs (λ y i. f y (inr i)))

pub in_left : {X : Type 0} (x : X) (xs ys : List X) → In x xs → In x (xs ++ ys)
in_left x [] ys i = absurd i
in_left x (y ∷ xs) ys (inl e) = inl e
in_left x (y ∷ xs) ys (inr i) = inr (in_left x xs ys i)

pub in_right : {X : Type 0} (x : X) (xs ys : List X) → In x ys → In x (xs ++ ys)
in_right x [] ys i = i
in_right x (y ∷ xs) ys i = inr (in_right x xs ys i)

pub in_either : {X : Type 0} (x : X) (xs ys : List X) → In x (xs ++ ys) → In x xs ⊎ In x ys
in_either x [] ys i = inr i
in_either x (y ∷ xs) ys (inl e) = inl (inl e)
in_either x (y ∷ xs) ys (inr i) = elim (in_either x xs ys i) [ inl a ↦ inl (inr a) | inr b ↦ inr b ]

pub in_map : {X Y : Type 0} (f : X → Y) (x : X) (xs : List X) → In x xs → In (f x) (map f xs)
in_map f x [] i = absurd i
in_map f x (y ∷ ys) (inl e) = inl (ap f e)
in_map f x (y ∷ ys) (inr i) = inr (in_map f x ys i)

pub of_map : {X Y : Type 0} (f : X → Y) (y : Y) (xs : List X) → In y (map f xs) → (x : X) × In x xs × (y ≡ f x)
of_map f y [] i = absurd i
of_map f y (x ∷ xs) (inl e) = (x, inl refl, e)
of_map f y (x ∷ xs) (inr i) = let rest = of_map f y xs i in (rest.0, inr rest.1, rest.2)

pub in_flat : {X Y : Type 0} (f : X → List Y) (y : Y) (x : X) (xs : List X) → In x xs → In y (f x) → In y (flat_map f xs)
in_flat f y x [] i j = absurd i
in_flat f y x (z ∷ zs) (inl e) j = in_left y (f z) (flat_map f zs) (subst (λ w. In y (f w)) e j)
in_flat f y x (z ∷ zs) (inr i) j = in_right y (f z) (flat_map f zs) (in_flat f y x zs i j)

pub of_flat : {X Y : Type 0} (f : X → List Y) (y : Y) (xs : List X) → In y (flat_map f xs) → (x : X) × In x xs × In y (f x)
of_flat f y [] i = absurd i
of_flat f y (x ∷ xs) i = elim (in_either y (f x) (flat_map f xs) i) [
  | inl a ↦ (x, inl refl, a)
  | inr b ↦ let rest = of_flat f y xs b in (rest.0, inr rest.1, rest.2)
]

-- ---- tests

pub either : (b : Bool) → (b ≡ true) ⊎ (b ≡ false)
either true = inl refl
either false = inr refl

pub clash : {A : Type 0} {b : Bool} → b ≡ true → b ≡ false → A
clash h k = cc

pub same_text : (p q : Bytes) → bytes_eq p q ≡ true → p ≡ q
same_text p q h = (bytes_eq-Decides p q).0 h

pub text_itself : (p : Bytes) → bytes_eq p p ≡ true
text_itself p = (bytes_eq-Decides p p).1 refl

pub texts_differ : {A : Type 0} (p q : Bytes) → bytes_eq p q ≡ false → p ≡ q → A
texts_differ p q h e = clash ((bytes_eq-Decides p q).1 e) h

pub none_is_some : {A X : Type 0} (x : X) → None ≡ Some x → A
none_is_some x e = cc

pub all_pass : {X : Type 0} (test : X → Bool) (xs : List X) → list_all test xs ≡ true → (x : X) → In x xs → test x ≡ true
all_pass test [] h x i = absurd i
all_pass test (y ∷ ys) h x (inl e) = ap test e ∙ (and_parts (test y) (list_all test ys) h).0
all_pass test (y ∷ ys) h x (inr i) = all_pass test ys (and_parts (test y) (list_all test ys) h).1 x i

pub pass_all : {X : Type 0} (test : X → Bool) (xs : List X) → ((x : X) → In x xs → test x ≡ true) → list_all test xs ≡ true
pass_all test [] f = refl
pass_all test (x ∷ xs) f = and_from (test x) (list_all test xs) (f x (inl refl)) (pass_all test xs (λ y i. f y (inr i)))

pub none_passes : {X : Type 0} (test : X → Bool) (xs : List X) → list_any test xs ≡ false → (x : X) → In x xs → test x ≡ false
none_passes test [] h x i = absurd i
none_passes test (y ∷ ys) h x (inl e) = ap test e ∙ (or_parts (test y) (list_any test ys) h).0
none_passes test (y ∷ ys) h x (inr i) = none_passes test ys (or_parts (test y) (list_any test ys) h).1 x i

pub one_passes : {X : Type 0} (test : X → Bool) (xs : List X) → list_any test xs ≡ true → (x : X) × In x xs × (test x ≡ true)
one_passes test [] h = cc
one_passes test (y ∷ ys) h = elim (or_cases (test y) (list_any test ys) h) [
  | inl a ↦ (y, inl refl, a)
  | inr b ↦ let rest = one_passes test ys b in (rest.0, inr rest.1, rest.2)
]

pub passes_one : {X : Type 0} (test : X → Bool) (xs : List X) (x : X) → In x xs → test x ≡ true → list_any test xs ≡ true
passes_one test [] x i h = absurd i
passes_one test (y ∷ ys) x (inl e) h = some_or (test y) (list_any test ys) (inl (ap test (sym e) ∙ h))
passes_one test (y ∷ ys) x (inr i) h = some_or (test y) (list_any test ys) (inr (passes_one test ys x i h))
