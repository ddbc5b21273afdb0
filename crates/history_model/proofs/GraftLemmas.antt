-- What a graft puts, and where.
use Rattle.std.proofs.Common.{ℕ, nat_eq, is_some, ◌≡◌, ◌≢◌, ◌⊎◌, Bool, true, false, cond, not, ◌&&◌, ◌||◌, List, [], ◌∷◌, ◌++◌, ◌==◌, ◌+◌, length, drop, refl, sym, ◌∙◌, ap, subst, arith, inl, inr, Option, Some, None, bytes_eq, option_map}
use Rattle.std.specs.List.{list_any, onto_first, filter_map, cons_option}
use Rattle.std.specs.FinMap.{get, insert, entries, contains_key}
use Rattle.std.proofs.lemmas.Bool.{and_parts, and_from, or_parts, not-true}
use Rattle.std.proofs.lemmas.List.{length-append}
use Rattle.std.proofs.lemmas.Option.{same_Some}
use Rattle.history_model.specs.Bytes.{Bytes, has_byte, is_empty}
use Rattle.history_model.specs.FileMap.{FileMap, Content, IsFileMap, components, is_path, is_below, is_within, rest_behind, with_rest, carried, with_all}
use Rattle.history_model.proofs.AfterFirstLemmas.{get-with}
use Rattle.history_model.proofs.WholeLists.{In, either, clash, same_text, none_is_some}
use Rattle.history_model.proofs.WholePaths.{below_parts, below_front, below_below, inner_below, eq_same, same_eq}
use Rattle.history_model.proofs.WholeStores.{in_get}

-- ---- lists

pub of_filter : {X Y : Type 0} (f : X → Option Y) (y : Y) (xs : List X) → In y (filter_map f xs) → (x : X) × In x xs × (f x ≡ Some y)
of_filter f y [] i = absurd i
of_filter {X = X} {Y = Y} f y (x ∷ xs) i = go (f x) refl i (of_filter f y xs)
  where
    go : (o : Option Y) → f x ≡ o → In y (cons_option o (filter_map f xs)) → (In y (filter_map f xs) → (z : X) × In z xs × (f z ≡ Some y)) → (z : X) × ((z ≡ x) ⊎ In z xs) × (f z ≡ Some y)
    go None e j rest = let more = rest j in (more.0, inr more.1, more.2)
    go (Some z) e (inl g) rest = (x, inl refl, e ∙ ap Some (sym g))
    go (Some z) e (inr j) rest = let more = rest j in (more.0, inr more.1, more.2)

-- what a map has after these were put into it
pub had_all : (es : List (Bytes × Content)) (files : FileMap) (q : Bytes) (c : Content) → get (with_all es files) q ≡ Some c → In (q, c) es ⊎ (get files q ≡ Some c)
had_all [] files q c h = inr h
had_all (e ∷ es) files q c h = elim (had_all es (insert files e.0 e.1) q c h) [
  | inl i ↦ inl (inr i)
  | inr g ↦ by_key (bytes_eq q e.0) refl (sym (get-with files e.0 e.1 q) ∙ g)
]
  where
    by_key : (b : Bool) → bytes_eq q e.0 ≡ b → cond b (Some e.1) (get files q) ≡ Some c → In (q, c) (e ∷ es) ⊎ (get files q ≡ Some c)
    by_key true same k =
        let p : q ≡ e.0 = same_text q e.0 same in
        let v : e.1 ≡ c = same_Some e.1 c k in
        inl (inl (λ i. (p i, sym v i)))
    by_key false other k = inr k

-- ---- paths

any_append : (test : Bytes → Bool) (xs ys : List Bytes) → list_any test (xs ++ ys) ≡ (list_any test xs || list_any test ys)
any_append test [] ys = refl
any_append test (x ∷ xs) ys = ap (λ b. test x || b) (any_append test xs ys) ∙ grouped (test x) (list_any test xs) (list_any test ys)
  where
    grouped : (a b c : Bool) → (a || (b || c)) ≡ ((a || b) || c)
    grouped true b c = refl
    grouped false b c = refl

has_append : (n : ℕ) (a b : Bytes) → has_byte n (a ++ b) ≡ (has_byte n a || has_byte n b)
has_append n [] b = refl
has_append n (x ∷ a) b = ap (λ t. (x == n) || t) (has_append n a b) ∙ grouped (x == n) (has_byte n a) (has_byte n b)
  where
    grouped : (a b c : Bool) → (a || (b || c)) ≡ ((a || b) || c)
    grouped true b c = refl
    grouped false b c = refl

some_parts : (path : Bytes) → (c : Bytes) × (cs : List Bytes) × (components path ≡ c ∷ cs)
some_parts [] = ([], [], refl)
some_parts (b ∷ path) = go (b == 47) (some_parts path)
  where
    go : (t : Bool) → ((c : Bytes) × (cs : List Bytes) × (components path ≡ c ∷ cs))
        → (c : Bytes) × (cs : List Bytes) × (cond t ([] ∷ components path) (onto_first b (components path)) ≡ c ∷ cs)
    go true rest = ([], components path, refl)
    go false (c, cs, e) = (b ∷ c, cs, ap (onto_first b) e)

-- the components of a path below a folder
parts_below : (folder rest : Bytes) → components (folder ++ 47 ∷ rest) ≡ components folder ++ components rest
parts_below [] rest = refl
parts_below (b ∷ folder) rest = go (b == 47) (parts_below folder rest) (some_parts folder)
  where
    go : (t : Bool) → components (folder ++ 47 ∷ rest) ≡ components folder ++ components rest → ((c : Bytes) × (cs : List Bytes) × (components folder ≡ c ∷ cs))
        → cond t ([] ∷ components (folder ++ 47 ∷ rest)) (onto_first b (components (folder ++ 47 ∷ rest))) ≡ cond t ([] ∷ components folder) (onto_first b (components folder)) ++ components rest
    go true e some = ap (λ ps. [] ∷ ps) e
    go false e (c, cs, f) =
        ap (onto_first b) (e ∙ ap (λ ps. ps ++ components rest) f)
        ∙ sym (ap (λ ps. onto_first b ps ++ components rest) f)

or_none : (a b : Bool) → a ≡ false → b ≡ false → (a || b) ≡ false
or_none a b f g = ap (λ t. t || b) f ∙ g

-- what makes a text a path: no component is empty, and it has no zero byte
path_parts : (path : Bytes) → is_path path ≡ true → (list_any is_empty (components path) ≡ false) × (has_byte 0 path ≡ false)
path_parts path h =
    let both = and_parts (not (list_any is_empty (components path))) (not (has_byte 0 path)) h in
    (not-true (list_any is_empty (components path)) both.0, not-true (has_byte 0 path) both.1)

path_from : (path : Bytes) → list_any is_empty (components path) ≡ false → has_byte 0 path ≡ false → is_path path ≡ true
path_from path named plain = and_from (not (list_any is_empty (components path))) (not (has_byte 0 path)) (ap not named) (ap not plain)

-- the rest of a path below another is a path, and two paths joined are one
rest_is_path : (folder rest : Bytes) → is_path (folder ++ 47 ∷ rest) ≡ true → is_path rest ≡ true
rest_is_path folder rest h =
    let parts = path_parts (folder ++ 47 ∷ rest) h in
    let named = or_parts (list_any is_empty (components folder)) (list_any is_empty (components rest))
    (sym (any_append is_empty (components folder) (components rest)) ∙ ap (list_any is_empty) (sym (parts_below folder rest)) ∙ parts.0) in
    let plain = or_parts (has_byte 0 folder) (has_byte 0 (47 ∷ rest)) (sym (has_append 0 folder (47 ∷ rest)) ∙ parts.1) in
    path_from rest named.1 plain.1

joined_path : (folder rest : Bytes) → is_path folder ≡ true → is_path rest ≡ true → is_path (folder ++ 47 ∷ rest) ≡ true
joined_path folder rest f r =
    let front = path_parts folder f in
    let back = path_parts rest r in
    path_from (folder ++ 47 ∷ rest)
    (ap (list_any is_empty) (parts_below folder rest) ∙ any_append is_empty (components folder) (components rest)
    ∙ or_none (list_any is_empty (components folder)) (list_any is_empty (components rest)) front.0 back.0)
    (has_append 0 folder (47 ∷ rest) ∙ or_none (has_byte 0 folder) (has_byte 0 (47 ∷ rest)) front.1 back.1)

no_empty_path : {A : Type 0} → is_path [] ≡ true → A
no_empty_path h = cc

-- ---- what follows a source

-- the path is the source, or below it, or the source is empty
data Follows (source path rest : Bytes) : Type 0 where
  Itself : path ≡ source → rest ≡ [] → Follows source path rest
  Below : path ≡ source ++ 47 ∷ rest → Follows source path rest
  Whole : source ≡ [] → rest ≡ path → Follows source path rest

follows : (source path rest : Bytes) → rest_behind source path ≡ Some rest → Follows source path rest
follows [] path rest h = Whole refl (sym (same_Some path rest h))
follows (b ∷ source) path rest h = by_itself (bytes_eq (b ∷ source) path) refl h
  where
    by_below : (t : Bool) → is_below (b ∷ source) path ≡ t → cond t (Some (drop (length (b ∷ source) + 1) path)) None ≡ Some rest → Follows (b ∷ source) path rest
    by_below true e k = Below (below_parts (b ∷ source) path e ∙ ap (λ x. (b ∷ source) ++ 47 ∷ x) (same_Some (drop (length (b ∷ source) + 1) path) rest k))
    by_below false e k = none_is_some rest k

    by_itself : (t : Bool) → bytes_eq (b ∷ source) path ≡ t → cond t (Some []) (cond (is_below (b ∷ source) path) (Some (drop (length (b ∷ source) + 1) path)) None) ≡ Some rest
        → Follows (b ∷ source) path rest
    by_itself true e k = Itself (sym (same_text (b ∷ source) path e)) (sym (same_Some [] rest k))
    by_itself false e k = by_below (is_below (b ∷ source) path) refl k

-- if the path is one, either nothing follows, at the source itself, or a path does
pub record FollowsAs (source path rest : Bytes) : Type 0 where
  pub named : is_path path ≡ true
  pub nothing : rest ≡ [] → path ≡ source
  pub some : rest ≢ [] → is_path rest ≡ true
  pub at : rest ≢ [] → (path ≡ source ++ 47 ∷ rest) ⊎ ((source ≡ []) × (rest ≡ path))

pub follows_as : (source path rest : Bytes) → is_path path ≡ true → rest_behind source path ≡ Some rest → FollowsAs source path rest
follows_as source path rest named h = by_case (follows source path rest h)
  where
    no_rest : path ≡ source ++ 47 ∷ rest → rest ≡ [] → path ≡ source
    no_rest e none = no_empty_path (subst (λ r. is_path r ≡ true) none (rest_is_path source rest (subst (λ p. is_path p ≡ true) e named)))

    by_case : Follows source path rest → FollowsAs source path rest
    by_case (Itself e none) = record {
      named = named;
      nothing = λ _. e;
      some = λ some. absurd (some none);
      at = λ some. absurd (some none);
    }
    by_case (Below e) = record {
      named = named;
      nothing = no_rest e;
      some = λ _. rest_is_path source rest (subst (λ p. is_path p ≡ true) e named);
      at = λ _. inl e;
    }
    by_case (Whole none e) = record {
      named = named;
      nothing = λ empty. no_empty_path (subst (λ p. is_path p ≡ true) (sym e ∙ empty) named);
      some = λ _. subst (λ p. is_path p ≡ true) (sym e) named;
      at = λ _. inr (none, e);
    }

-- ---- what is carried

pub record IsCarried (path source : Bytes) (files : FileMap) (q : Bytes) (c : Content) : Type 0 where
  pub from : Bytes
  pub rest : Bytes
  pub stands : In (from, c) (entries files)
  pub behind : rest_behind source from ≡ Some rest
  pub is : q ≡ with_rest path rest

pub of_carried : (path source : Bytes) (files : FileMap) (q : Bytes) (c : Content) → In (q, c) (carried path source files) → IsCarried path source files q c
of_carried path source files q c i =
    let one = of_filter (λ (e : Bytes × Content). option_map {U = Bytes × Content} (λ rest. (with_rest path rest, e.1)) (rest_behind source e.0)) (q, c) (entries files) i in
    by_rest one.0 one.1 (rest_behind source (one.0).0) refl one.2
  where
    by_rest : (e : Bytes × Content) → In e (entries files) → (o : Option Bytes) → rest_behind source e.0 ≡ o → option_map {U = Bytes × Content} (λ rest. (with_rest path rest, e.1)) o ≡ Some (q, c)
        → IsCarried path source files q c
    by_rest e j None f g = none_is_some (q, c) g
    by_rest e j (Some rest) f g =
        let same = same_Some (with_rest path rest, e.1) (q, c) g in
        let content : e.1 ≡ c = λ k. (same k).1 in
        record {
          from = e.0;
          rest = rest;
          stands = subst (λ x. In (e.0, x) (entries files)) content j;
          behind = f;
          is = λ k. (sym same k).0;
        }

-- the path with what follows
pub with_rest_path : (path rest : Bytes) → is_path path ≡ true → (rest ≢ [] → is_path rest ≡ true) → is_path (with_rest path rest) ≡ true
with_rest_path path [] fits some = fits
with_rest_path path (b ∷ rest) fits some = joined_path path (b ∷ rest) fits (some (λ e. cc))

-- ---- paths below one another

not_below_itself : (p : Bytes) → is_below p p ≡ false
not_below_itself p = elim (either (is_below p p)) [
  | inl e ↦
      let parts = ap length (below_parts p p e) in
      let longer = length-append p (47 ∷ drop (length p + 1) p) in
      absurd (omega arith)
  | inr e ↦ e
]

shorter : {A : Type 0} (p rest : Bytes) → is_below (p ++ 47 ∷ rest) p ≡ true → A
shorter p rest h =
    let parts = ap length (below_parts (p ++ 47 ∷ rest) p h) in
    let longer = length-append (p ++ 47 ∷ rest) (47 ∷ drop (length (p ++ 47 ∷ rest) + 1) p) in
    let more = length-append p (47 ∷ rest) in
    absurd (omega arith)

-- of two paths that one path is below, one is within the other
below_either : (q path rest : Bytes) → is_below q (path ++ 47 ∷ rest) ≡ true → (is_within q path ≡ true) ⊎ (is_within path q ≡ true)
below_either [] [] rest h = inl refl
below_either [] (a ∷ path) rest h = inl h
below_either (a ∷ q) [] rest h =
    let both = and_parts (nat_eq a 47) (is_below q rest) h in
    inr (and_from (nat_eq 47 a) true (ap (λ n. nat_eq 47 n) (eq_same a 47 both.0)) refl)
below_either (a ∷ q) (b ∷ path) rest h =
    let both = and_parts (nat_eq a b) (is_below q (path ++ 47 ∷ rest)) h in
    elim (below_either q path rest both.1) [
      | inl up ↦ inl (same_head q path a b both.0 up)
      | inr down ↦ inr (same_head path q b a (turn a b both.0) down)
    ]
  where
    turn : (a b : ℕ) → nat_eq a b ≡ true → nat_eq b a ≡ true
    turn a b e = subst (λ n. nat_eq n a ≡ true) (eq_same a b e) (same_eq a)

    same_head : (x y : Bytes) (m n : ℕ) → nat_eq m n ≡ true → is_within x y ≡ true → is_within (m ∷ x) (n ∷ y) ≡ true
    same_head x y m n e h = subst (λ t. (t && bytes_eq x y || (t && is_below x y)) ≡ true) (sym e) h

slash_first : {A : Type 0} (rest : Bytes) → is_path (47 ∷ rest) ≡ true → A
slash_first rest h = cc

-- two that are carried from one file map are apart
module _ (path source : Bytes) (files : FileMap) (map : IsFileMap files) where
  named_there : (p : Bytes) (c : Content) → In (p, c) (entries files) → contains_key files p ≡ true
  named_there p c i = ap is_some (in_get files p c i)

  pub follows_there : (q : Bytes) (c : Content) (a : IsCarried path source files q c) → FollowsAs source a.from a.rest
  follows_there q c a = follows_as source a.from a.rest (map.paths a.from (named_there a.from c a.stands)) a.behind

  pub carried_apart : (p q : Bytes) (c d : Content) → IsCarried path source files p c → IsCarried path source files q d → is_below p q ≡ false
  carried_apart p q c d a b = elim (either (is_below p q)) [
    | inl e ↦ absurd (by_rests a.rest refl b.rest refl (subst (λ t. is_below t (with_rest path b.rest) ≡ true) a.is (subst (λ t. is_below p t ≡ true) b.is e)))
    | inr e ↦ e
  ]
    where
      as_a : FollowsAs source a.from a.rest
      as_a = follows_there p c a

      as_b : FollowsAs source b.from b.rest
      as_b = follows_there q d b

      never : is_below a.from b.from ≡ true → ⊥
      never h = clash h (map.apart a.from b.from (named_there a.from c a.stands) (named_there b.from d b.stands))

      below_source : a.from ≡ source → (b.from ≡ source ++ 47 ∷ b.rest) ⊎ ((source ≡ []) × (b.rest ≡ b.from)) → ⊥
      below_source e (inl f) = never (subst (λ t. is_below t b.from ≡ true) (sym e) (subst (λ t. is_below source t ≡ true) (sym f) (below_front source b.rest)))
      below_source e (inr f) = no_empty_path (subst (λ t. is_path t ≡ true) (e ∙ f.0) as_a.named)

      inside_both : is_below a.rest b.rest ≡ true → (a.from ≡ source ++ 47 ∷ a.rest) ⊎ ((source ≡ []) × (a.rest ≡ a.from)) → (b.from ≡ source ++ 47 ∷ b.rest) ⊎ ((source ≡ []) × (b.rest ≡ b.from)) → ⊥
      inside_both h (inl e) (inl f) =
          never (subst (λ t. is_below t b.from ≡ true) (sym e) (subst (λ t. is_below (source ++ 47 ∷ a.rest) t ≡ true) (sym f) (inner_below source a.rest b.rest ∙ h)))
      inside_both h (inl e) (inr f) = slash_first a.rest (subst (λ t. is_path t ≡ true) (e ∙ ap (λ s. s ++ 47 ∷ a.rest) f.0) as_a.named)
      inside_both h (inr e) (inl f) = slash_first b.rest (subst (λ t. is_path t ≡ true) (f ∙ ap (λ s. s ++ 47 ∷ b.rest) e.0) as_b.named)
      inside_both h (inr e) (inr f) = never (subst (λ t. is_below t b.from ≡ true) e.1 (subst (λ t. is_below a.rest t ≡ true) f.1 h))

      some : (n : ℕ) (y rest : Bytes) → rest ≡ n ∷ y → rest ≢ []
      some n y rest e none = let bad : n ∷ y ≡ [] = sym e ∙ none in cc

      by_rests : (x : Bytes) → a.rest ≡ x → (y : Bytes) → b.rest ≡ y → is_below (with_rest path x) (with_rest path y) ≡ true → ⊥
      by_rests [] ea [] eb h = clash h (not_below_itself path)
      by_rests [] ea (n ∷ y) eb h = below_source (as_a.nothing ea) (as_b.at (some n y b.rest eb))
      by_rests (m ∷ x) ea [] eb h = shorter path (m ∷ x) h
      by_rests (m ∷ x) ea (n ∷ y) eb h =
          let inner : is_below (m ∷ x) (n ∷ y) ≡ true = sym (inner_below path (m ∷ x) (n ∷ y)) ∙ h in
          inside_both (subst (λ t. is_below t b.rest ≡ true) (sym ea) (subst (λ t. is_below (m ∷ x) t ≡ true) (sym eb) inner)) (as_a.at (some m x a.rest ea)) (as_b.at (some n y b.rest eb))

-- ---- against paths that are neither at, below nor above the target

pub below_carried : (path rest q : Bytes) → is_within path q ≡ false → is_below (with_rest path rest) q ≡ false
below_carried path [] q clear = (or_parts (bytes_eq path q) (is_below path q) clear).1
below_carried path (b ∷ rest) q clear = elim (either (is_below (path ++ 47 ∷ b ∷ rest) q)) [
  | inl e ↦
      let x = drop (length (path ++ 47 ∷ b ∷ rest) + 1) q in
      let split : q ≡ path ++ 47 ∷ ((b ∷ rest) ++ 47 ∷ x) = below_parts (path ++ 47 ∷ b ∷ rest) q e ∙ below_below path (b ∷ rest) x in
      clash (subst (λ t. is_below path t ≡ true) (sym split) (below_front path ((b ∷ rest) ++ 47 ∷ x))) (or_parts (bytes_eq path q) (is_below path q) clear).1
  | inr e ↦ e
]

pub carried_below : (path rest q : Bytes) → is_within path q ≡ false → is_within q path ≡ false → is_below q (with_rest path rest) ≡ false
carried_below path [] q clear above = (or_parts (bytes_eq q path) (is_below q path) above).1
carried_below path (b ∷ rest) q clear above = elim (either (is_below q (path ++ 47 ∷ b ∷ rest))) [
  | inl e ↦ elim (below_either q path (b ∷ rest) e) [
    | inl up ↦ clash up above
    | inr down ↦ clash down clear
  ]
  | inr e ↦ e
]
