-- Paths by their components: which begin which.
use Rattle.std.proofs.Common.{◌≡◌, ℕ, Bool, true, false, cond, ◌&&◌, ◌||◌, List, [], ◌∷◌, ◌++◌, refl, sym, ◌∙◌, ap, arith, tests, inl, inr, Option, Some, None, is_some, option_map, bytes_eq, ◌==◌, nat_eq}
use Rattle.std.specs.List.{onto_first}
use Rattle.gix_object_nodes.specs.Files.{Path, behind}
use Rattle.history_model.specs.Bytes.{Bytes, has_byte}
use Rattle.history_model.specs.FileMap.{components, is_below, is_within}
use Rattle.history_model.proofs.WholeLists.{clash, either}
use Rattle.history_model.proofs.WholePaths.{below_parts, below_front, eq_same}
use Rattle.gix_object_nodes.proofs.Paths.{behind_is}
use Rattle.gix_object_editor.proofs.Raised.{begins_behind}
use Rattle.std.proofs.lemmas.Bool.{or_parts}

same_eq : (a : ℕ) → nat_eq a a ≡ true
same_eq a = grind (arith, tests)

-- ---- components

pub some_parts : (path : Bytes) → (c : Bytes) × (cs : List Bytes) × (components path ≡ c ∷ cs)
some_parts [] = ([], [], refl)
some_parts (b ∷ path) = go (b == 47) (some_parts path)
  where
    go : (t : Bool) → ((c : Bytes) × (cs : List Bytes) × (components path ≡ c ∷ cs))
        → (c : Bytes) × (cs : List Bytes) × (cond t ([] ∷ components path) (onto_first b (components path)) ≡ c ∷ cs)
    go true rest = ([], components path, refl)
    go false (c, cs, e) = (b ∷ c, cs, ap (onto_first b) e)

-- a path without a slash is its one component
pub one_part : (path : Bytes) → has_byte 47 path ≡ false → components path ≡ path ∷ []
one_part [] h = refl
one_part (b ∷ path) h =
    let parts = or_parts (b == 47) (has_byte 47 path) h in
    ap (λ t. cond t ([] ∷ components path) (onto_first b (components path))) parts.0 ∙ ap (onto_first b) (one_part path parts.1)

-- the components of a path below a folder
pub parts_below : (folder rest : Bytes) → components (folder ++ 47 ∷ rest) ≡ components folder ++ components rest
parts_below [] rest = refl
parts_below (b ∷ folder) rest = go (b == 47) (parts_below folder rest) (some_parts folder)
  where
    go : (t : Bool) → components (folder ++ 47 ∷ rest) ≡ components folder ++ components rest → ((c : Bytes) × (cs : List Bytes) × (components folder ≡ c ∷ cs))
        → cond t ([] ∷ components (folder ++ 47 ∷ rest)) (onto_first b (components (folder ++ 47 ∷ rest))) ≡ cond t ([] ∷ components folder) (onto_first b (components folder)) ++ components rest
    go true e some = ap (λ ps. [] ∷ ps) e
    go false e (c, cs, f) =
        ap (onto_first b) (e ∙ ap (λ ps. ps ++ components rest) f)
        ∙ sym (ap (λ ps. onto_first b ps ++ components rest) f)

-- ---- what follows a folder and a slash

abbrev pub below_rest : Bytes → Bytes → Option Bytes
below_rest [] [] = None
below_rest [] (c ∷ q) = cond (c == 47) (Some q) None
below_rest (b ∷ p) [] = None
below_rest (b ∷ p) (c ∷ q) = cond (nat_eq b c) (below_rest p q) None

pub rest_parts : (p q r : Bytes) → below_rest p q ≡ Some r → q ≡ p ++ 47 ∷ r
rest_parts [] [] r h = cc
rest_parts [] (c ∷ q) r h = go (c == 47) refl h
  where
    go : (t : Bool) → (c == 47) ≡ t → cond t (Some q) None ≡ Some r → c ∷ q ≡ 47 ∷ r
    go true e k = let same : q ≡ r = cc in λ i. eq_same c 47 e i ∷ same i
    go false e k = cc
rest_parts (b ∷ p) [] r h = cc
rest_parts (b ∷ p) (c ∷ q) r h = go (nat_eq b c) refl h (rest_parts p q r)
  where
    go : (t : Bool) → nat_eq b c ≡ t → cond t (below_rest p q) None ≡ Some r → (below_rest p q ≡ Some r → q ≡ p ++ 47 ∷ r) → c ∷ q ≡ b ∷ (p ++ 47 ∷ r)
    go true e k more = let rest = more k in λ i. sym (eq_same b c e) i ∷ rest i
    go false e k more = cc

pub rest_front : (p r : Bytes) → below_rest p (p ++ 47 ∷ r) ≡ Some r
rest_front [] r = refl
rest_front (b ∷ p) r = ap (λ t. cond t (below_rest p (p ++ 47 ∷ r)) None) (same_eq b) ∙ rest_front p r

pub below_by : (p q : Bytes) → is_some (below_rest p q) ≡ is_below p q
below_by p q = go (below_rest p q) refl
  where
    go : (o : Option Bytes) → below_rest p q ≡ o → is_some o ≡ is_below p q
    go (Some r) e = sym (ap (is_below p) (rest_parts p q r e) ∙ below_front p r)
    go None e = elim (either (is_below p q)) [
      | inl h ↦ let found = ap (below_rest p) (below_parts p q h) ∙ rest_front p _ in let bad = sym e ∙ found in cc
      | inr h ↦ sym h
    ]

-- ---- which components begin which

-- what follows the first path in the second, as components
abbrev pub parts_behind : Bytes → Bytes → Option Path
parts_behind p q = cond (bytes_eq p q) (Some []) (option_map components (below_rest p q))

pub behind_parts : (p q : Bytes) → behind (components p) (components q) ≡ parts_behind p q
behind_parts [] [] = refl
behind_parts [] (b ∷ q) = go (b == 47) (some_parts q)
  where
    go : (t : Bool) → ((c : Bytes) × (cs : List Bytes) × (components q ≡ c ∷ cs))
        → behind ([] ∷ []) (cond t ([] ∷ components q) (onto_first b (components q))) ≡ option_map components (cond t (Some q) None)
    go true some = refl
    go false (c, cs, e) = ap (λ ps. behind ([] ∷ []) (onto_first b ps)) e
behind_parts (a ∷ p) [] = go (a == 47) (some_parts p)
  where
    go : (t : Bool) → ((c : Bytes) × (cs : List Bytes) × (components p ≡ c ∷ cs))
        → behind (cond t ([] ∷ components p) (onto_first a (components p))) ([] ∷ []) ≡ None
    go true (c, cs, e) = ap (λ ps. behind ps []) e
    go false (c, cs, e) = ap (λ ps. behind (onto_first a ps) ([] ∷ [])) e
behind_parts (a ∷ p) (b ∷ q) = go (a == 47) refl (b == 47) refl (nat_eq a b) refl (some_parts p) (some_parts q) (behind_parts p q)
  where
    go : (s : Bool) → (a == 47) ≡ s → (t : Bool) → (b == 47) ≡ t → (u : Bool) → nat_eq a b ≡ u
        → ((c : Bytes) × (cs : List Bytes) × (components p ≡ c ∷ cs)) → ((c : Bytes) × (cs : List Bytes) × (components q ≡ c ∷ cs))
        → behind (components p) (components q) ≡ parts_behind p q
        → behind (cond s ([] ∷ components p) (onto_first a (components p))) (cond t ([] ∷ components q) (onto_first b (components q)))
        ≡ cond (u && bytes_eq p q) (Some []) (option_map components (cond u (below_rest p q) None))
    go true e true f true g some other rest = rest
    go true e true f false g some other rest = clash (ap (nat_eq a) (eq_same b 47 f) ∙ e) g
    go true e false f true g some other rest = clash (ap (λ n. n == 47) (sym (eq_same a b g)) ∙ e) f
    go true e false f false g some (d, ds, k) rest = ap (λ ps. behind ([] ∷ components p) (onto_first b ps)) k
    go false e true f true g some other rest = clash (ap (λ n. n == 47) (eq_same a b g) ∙ f) e
    go false e true f false g (c, cs, h) other rest = ap (λ ps. behind (onto_first a ps) ([] ∷ components q)) h
    go false e false f true g (c, cs, h) (d, ds, k) rest =
        (λ i. behind (onto_first a (h i)) (onto_first b (k i)))
        ∙ ap (λ t. cond (t && bytes_eq c d) (behind cs ds) None) g
        ∙ sym (λ i. behind (h i) (k i)) ∙ rest
    go false e false f false g (c, cs, h) (d, ds, k) rest =
        (λ i. behind (onto_first a (h i)) (onto_first b (k i)))
        ∙ ap (λ t. cond (t && bytes_eq c d) (behind cs ds) None) g

pub is_behind : (p q : Bytes) → is_some (behind (components p) (components q)) ≡ is_within p q
is_behind p q = ap is_some (behind_parts p q) ∙ go (bytes_eq p q) (below_rest p q) ∙ ap (λ b. bytes_eq p q || b) (below_by p q)
  where
    go : (t : Bool) (o : Option Bytes) → is_some (cond t (Some []) (option_map components o)) ≡ (t || is_some o)
    go true o = refl
    go false None = refl
    go false (Some r) = refl
