-- Paths that get their numbers.
use Rattle.std.proofs.Common.{◌≡◌, ◌≢◌, ◌∙◌, ◌↔◌, refl, sym, ap, subst, ℕ, zero, suc, ◌+◌, ◌<◌, ◌≤◌, ◌⊎◌, inl, inr, Bool, true, false, cond, Bor, List, [], ◌∷◌, ◌++◌, length, map, drop, get_or, slice_set, Some, None, Ordering, arith, append_assoc, length-append, bytes_eq}
use Rattle.std.specs.Prelude.{IsTrue, MatchBool}
use Rattle.std.specs.BTreeMap.{is_at}
use Rattle.std.specs.Cmp.Lexicographic.{slice_cmp}
use Rattle.std.specs.Map.{lookup, KeepsOthers, IsKeyTest, AreApart}
use Rattle.std.specs.Ordering.{nat_cmp, is_eq, eq_by_cmp}
use Rattle.std.proofs.lemmas.Bool.{cases_eq}
use Rattle.std.proofs.lemmas.Map.Text.{is_eq-slice_cmp}
use Rattle.std.proofs.lemmas.Option.{same_Some}
use Rattle.std.proofs.lemmas.Slice.Eq.{bytes_eq-Decides}
use Rattle.std.proofs.Math.Seq.{drop-cons}
use Rattle.gix_object_lookup.specs.Path.{Path}
use Rattle.gix_traverse_tree.specs.AtPaths.{Begins, BeginsOne}
use Rattle.gix_traverse_tree.specs.Folders.{Numbers, number_in, numbers_of, Way, IsNumbered, Grows, NumbersName, NumbersPath, HaveNumbers, NumbersPaths}
use Rattle.gix_traverse_tree.specs.declared.folders.Folder.{Folder}

abbrev pub Name : Type 0
Name = List ℕ

-- ---- tests

by_test : (b : Bool) → (b ≡ true) ⊎ (b ≡ false)
by_test true = inl refl
by_test false = inr refl

pub name_cases : (a b : Name) → ((a ≡ b) × (bytes_eq a b ≡ true)) ⊎ ((a ≢ b) × (bytes_eq a b ≡ false))
name_cases a b = elim (by_test (bytes_eq a b)) [
  | inl t ↦ inl ((bytes_eq-Decides a b).0 t, t)
  | inr f ↦ inr (λ e. (let t = (bytes_eq-Decides a b).1 e in absurd cc), f)
]

-- ---- one folder

abbrev pub is_named : Name → Bor Name → Bool
is_named name = is_at (λ (k : Bor Name). slice_cmp nat_cmp name k.now)

pub tells_empty : (names : List (Bor Name × ℕ)) (b : Bool) → IsTrue b ↔ (length names ≡ 0)
    → MatchBool b ((name : Name) → lookup (is_named name) names ≡ None) ((name : Name) × (n : ℕ) × (lookup (is_named name) names ≡ Some n))
tells_empty [] true tells = λ name. refl
tells_empty [] false tells = let t = tells.1 refl in absurd cc
tells_empty (e ∷ names) true tells = let z = tells.0 refl in absurd cc
tells_empty (e ∷ names) false tells =
    let same : is_named (e.0).now e.0 ≡ true = is_eq-slice_cmp (e.0).now (e.0).now ∙ (bytes_eq-Decides (e.0).now (e.0).now).1 refl in
    ((e.0).now, e.1, ap (λ b. cond b (Some e.1) (lookup (is_named (e.0).now) names)) same)

abbrev key_cmp : Bor Name → Bor Name → Ordering
key_cmp a b = slice_cmp nat_cmp a.now b.now

named_same : (name : Name) (k : Bor Name) → is_named name k ≡ true → name ≡ k.now
named_same name k e = (bytes_eq-Decides name k.now).0 (sym (is_eq-slice_cmp name k.now) ∙ e)

tells_keys : (name : Name) → IsKeyTest (eq_by_cmp key_cmp) (is_named name)
tells_keys name x y e = ap (λ n. is_eq (slice_cmp nat_cmp n y.now)) (named_same name x e)

tells_apart : (name other : Name) → other ≢ name → AreApart (is_named name) (is_named other)
tells_apart name other ne k e = elim (by_test (is_named other k)) [
  | inl t ↦ absurd (ne (named_same other k t ∙ sym (named_same name k e)))
  | inr f ↦ f
]

pub others_kept : (name other : Name) (old new : List (Bor Name × ℕ)) → KeepsOthers (eq_by_cmp key_cmp) (is_named name) old new → other ≢ name → lookup (is_named other) new ≡ lookup (is_named other) old
unfolding KeepsOthers
others_kept name other old new keeps ne = keeps (is_named other) (tells_keys other) (tells_apart name other ne)

-- ---- folders

pub folder_at : (folders : List Folder) (i : ℕ) (d : Folder) (name : Name) → i < length folders → numbers_of folders i name ≡ number_in (get_or folders i d) name
folder_at [] i d name lt = absurd (omega arith)
folder_at (k ∷ folders) zero d name lt = refl
folder_at (k ∷ folders) (suc i) d name lt = let less : i < length folders = omega arith in folder_at folders i d name less

pub set_here : (folders : List Folder) (i : ℕ) (n : Folder) (name : Name) → i < length folders → numbers_of (slice_set folders i n) i name ≡ number_in n name
set_here [] i n name lt = absurd (omega arith)
set_here (k ∷ folders) zero n name lt = refl
set_here (k ∷ folders) (suc i) n name lt = let less : i < length folders = omega arith in set_here folders i n name less

set_other : (folders : List Folder) (i j : ℕ) (n : Folder) (name : Name) → j ≢ i → numbers_of (slice_set folders i n) j name ≡ numbers_of folders j name
set_other [] i j n name ne = refl
set_other (k ∷ folders) zero zero n name ne = absurd (ne refl)
set_other (k ∷ folders) zero (suc j) n name ne = refl
set_other (k ∷ folders) (suc i) zero n name ne = refl
set_other (k ∷ folders) (suc i) (suc j) n name ne = set_other folders i j n name (λ e. ne (ap suc e))

pub set_others : (folders : List Folder) (j : ℕ) (d new : Folder) (name : Name) → j < length folders
    → ((other : Name) → other ≢ name → number_in new other ≡ number_in (get_or folders j d) other)
    → (i : ℕ) (other : Name) → ((i ≡ j) → (other ≡ name) → ⊥) → numbers_of (slice_set folders j new) i other ≡ numbers_of folders i other
set_others folders j d new name lt same i other off = elim (cases_eq i j) [
  | inl e ↦
      ap (λ k. numbers_of (slice_set folders j new) k other) e ∙ set_here folders j new other lt ∙ same other (off e)
      ∙ sym (folder_at folders j d other lt) ∙ ap (λ k. numbers_of folders k other) (sym e)
  | inr ne ↦ set_other folders j i new other ne
]

-- a folder without names adds no number
pub empty_behind : (folders : List Folder) (n : Folder) → ((name : Name) → number_in n name ≡ None) → (i : ℕ) (name : Name) → numbers_of (folders ++ n ∷ []) i name ≡ numbers_of folders i name
empty_behind [] n none zero name = none name
empty_behind [] n none (suc i) name = refl
empty_behind (k ∷ folders) n none zero name = refl
empty_behind (k ∷ folders) n none (suc i) name = empty_behind folders n none i name

pub none_is_some : {A : Type 0} {x : A} {B : Type 0} → None ≡ Some x → B
none_is_some e = cc

pub within : (folders : List Folder) (i n : ℕ) (name : Name) → numbers_of folders i name ≡ Some n → i < length folders
within [] i n name e = none_is_some e
within (k ∷ folders) zero n name e = omega arith
within (k ∷ folders) (suc i) n name e = let less = within folders i n name e in omega arith

-- ---- one name

module _ (old new : List Folder) (at : ℕ) (name : Name) (numbered : IsNumbered old) (inside : at < length old)
    (none : numbers_of old at name ≡ None) (longer : length new ≡ suc (length old))
    (here : numbers_of new at name ≡ Some (length old))
    (others : (i : ℕ) (other : Name) → ((i ≡ at) → (other ≡ name) → ⊥) → numbers_of new i other ≡ numbers_of old i other) where
  -- it is the new number, or an old one
  is_new : (i n : ℕ) (other : Name) → numbers_of new i other ≡ Some n → ((i ≡ at) × (other ≡ name) × (n ≡ length old)) ⊎ (numbers_of old i other ≡ Some n)
  is_new i n other e = elim (cases_eq i at) [
    | inl same ↦ elim (name_cases other name) [
      | inl is ↦ inl (same, is.0, same_Some _ _ (sym e ∙ ap (λ k. numbers_of new k other) same ∙ ap (numbers_of new at) is.0 ∙ here))
      | inr isnt ↦ inr (sym (others i other (λ a b. isnt.0 b)) ∙ e)
    ]
    | inr differs ↦ inr (sym (others i other (λ a b. differs a)) ∙ e)
  ]

  later : (i n : ℕ) (other : Name) → numbers_of new i other ≡ Some n → (i < n) × (n < length new)
  later i n other e = elim (is_new i n other e) [
    | inl is ↦ (let a = is.0 in let b = is.2 in (omega arith), let b = is.2 in omega arith)
    | inr before ↦ let l = numbered.later i n other before in (l.0, let m = l.1 in omega arith)
  ]

  once : (i j n : ℕ) (a b : Name) → numbers_of new i a ≡ Some n → numbers_of new j b ≡ Some n → (i ≡ j) × (a ≡ b)
  once i j n a b e f = elim (is_new i n a e) [
    | inl is ↦ elim (is_new j n b f) [
      | inl too ↦ (is.0 ∙ sym too.0, is.1 ∙ sym too.1)
      | inr before ↦ let l = (numbered.later j n b before).1 in let k = is.2 in absurd (omega arith)
    ]
    | inr before ↦ elim (is_new j n b f) [
      | inl is ↦ let l = (numbered.later i n a before).1 in let k = is.2 in absurd (omega arith)
      | inr too ↦ numbered.once i j n a b before too
    ]
  ]

  kept : (i n : ℕ) (other : Name) → numbers_of old i other ≡ Some n → numbers_of new i other ≡ Some n
  kept i n other e =
      others i other (λ a b. none_is_some (sym none ∙ ap (numbers_of old at) (sym b) ∙ ap (λ k. numbers_of old k other) (sym a) ∙ e)) ∙ e

  added : (i n : ℕ) (other : Name) → numbers_of new i other ≡ Some n → (numbers_of old i other ≡ Some n) ⊎ ((i ≡ at) × (other ≡ name))
  added i n other e = elim (is_new i n other e) [
    | inl is ↦ inr (is.0, is.1)
    | inr before ↦ inl before
  ]

  pub named_new : NumbersName at name (length old) old new
  named_new = record {
    grows = record { numbered = record { later = later; once = once }; longer = omega arith; kept = kept };
    here = here;
    within = omega arith;
    added = added;
  }

-- the new number is that of a folder after the others
pub named_pushed : (old mid : List Folder) (last : Folder) (at number : ℕ) (name : Name) → IsNumbered old → at < length old → numbers_of old at name ≡ None → length mid ≡ length old → number ≡ length old
    → numbers_of mid at name ≡ Some number → ((i : ℕ) (other : Name) → ((i ≡ at) → (other ≡ name) → ⊥) → numbers_of mid i other ≡ numbers_of old i other) → ((other : Name) → number_in last other ≡ None)
    → NumbersName at name number old (mid ++ last ∷ [])
named_pushed old mid last at number name numbered inside none len is here others empty =
    let longer : length (mid ++ last ∷ []) ≡ suc (length old) = omega (arith, length-append mid (last ∷ []), len) in
    subst (λ n. NumbersName at name n old (mid ++ last ∷ [])) (sym is)
    (named_new old (mid ++ last ∷ []) at name numbered inside none longer
    (empty_behind mid last empty at name ∙ here ∙ ap (λ n. Some n) is)
    (λ i other off. empty_behind mid last empty i other ∙ others i other off))

-- ---- ways

abbrev Keeps : Numbers → Numbers → Type 0
Keeps a b = (i n : ℕ) (name : Name) → a i name ≡ Some n → b i name ≡ Some n

pub way_kept : (a b : Numbers) → Keeps a b → (from : ℕ) (path : Path) (end : ℕ) → Way a from path end → Way b from path end
way_kept a b keeps from [] end way = way
way_kept a b keeps from (name ∷ path) end way = (way.0, keeps from way.0 name way.1, way_kept a b keeps way.0 path end way.2)

pub way_on : (a : Numbers) (from : ℕ) (path : Path) (mid : ℕ) (name : Name) (end : ℕ) → Way a from path mid → a mid name ≡ Some end → Way a from (path ++ name ∷ []) end
way_on a from [] mid name end way e = (end, subst (λ k. a k name ≡ Some end) way e, refl)
way_on a from (n ∷ path) mid name end way e = (way.0, way.1, way_on a way.0 path mid name end way.2 e)

pub way_one : (a : Numbers) (from : ℕ) (path : Path) (x y : ℕ) → Way a from path x → Way a from path y → x ≡ y
way_one a from [] x y one two = one ∙ sym two
way_one a from (name ∷ path) x y one two =
    let same = same_Some _ _ (sym one.1 ∙ two.1) in
    way_one a two.0 path x y (subst (λ k. Way a k path x) same one.2) two.2

-- the numbers before and after a name that a way goes past
pub way_past : (a : Numbers) (from : ℕ) (front : Path) (name : Name) (rest : Path) (end : ℕ) → Way a from (front ++ name ∷ rest) end → (mid next : ℕ) × Way a from front mid × (a mid name ≡ Some next)
way_past a from [] name rest end way = (from, way.0, refl, way.1)
way_past a from (n ∷ front) name rest end way =
    let later = way_past a way.0 front name rest end way.2 in
    (later.0, later.1, (way.0, way.1, later.2), later.3)

-- ---- one path

abbrev pub texts : List (Bor Name) → Path
texts names = map {A = Bor Name} {B = Name} (λ name. name.now) names

-- the names before this one have the number
pub record Along (path : Path) (items : List (Bor Name)) (i at : ℕ) (old new : List Folder) : Type 0 where
  pub grows : Grows old new
  pub within : at < length new
  pub front : Path
  pub split : front ++ texts (drop i items) ≡ path
  pub way : Way (numbers_of new) 0 front at
  pub added : (k n : ℕ) (name : Name) → numbers_of new k name ≡ Some n
      → (numbers_of old k name ≡ Some n) ⊎ ((before : Path) × Way (numbers_of new) 0 before k × Begins path before)

grows_more : (a b c : List Folder) → Grows a b → Grows b c → Grows a c
grows_more a b c one two = record {
  numbered = two.numbered;
  longer = (let x = one.longer in let y = two.longer in omega arith);
  kept = λ i n name e. two.kept i n name (one.kept i n name e);
}

pub along_more : (path : Path) (items : List (Bor Name)) (i at number : ℕ) (d : Bor Name) (old mid new : List Folder) → i < length items → Along path items i at old mid
    → NumbersName at (get_or items i d).now number mid new → Along path items (i + 1) number old new
along_more path items i at number d old mid new inside along step = record {
  grows = grows_more old mid new along.grows step.grows;
  within = step.within;
  front = along.front ++ name ∷ [];
  split = append_assoc along.front (name ∷ []) (texts (drop (i + 1) items)) ∙ cut;
  way = way_on (numbers_of new) 0 along.front at name number way step.here;
  added = added;
}
  where
    name : Name
    name = (get_or items i d).now

    cut : along.front ++ name ∷ texts (drop (i + 1) items) ≡ path
    cut =
        let next : suc i ≡ i + 1 = omega arith in
        ap (λ rest. along.front ++ texts rest) (sym (drop-cons items i d inside ∙ ap (λ n. get_or items i d ∷ drop n items) next)) ∙ along.split

    way : Way (numbers_of new) 0 along.front at
    way = way_kept (numbers_of mid) (numbers_of new) step.grows.kept 0 along.front at along.way

    added : (k n : ℕ) (other : Name) → numbers_of new k other ≡ Some n
        → (numbers_of old k other ≡ Some n) ⊎ ((before : Path) × Way (numbers_of new) 0 before k × Begins path before)
    added k n other e = elim (step.added k n other e) [
      | inl before ↦ elim (along.added k n other before) [
        | inl first ↦ inl first
        | inr begun ↦ inr (begun.0, way_kept (numbers_of mid) (numbers_of new) step.grows.kept 0 begun.0 k begun.1, begun.2)
      ]
      | inr is ↦ inr (along.front, subst (Way (numbers_of new) 0 along.front) (sym is.0) way, (name, texts (drop (i + 1) items), cut))
    ]

-- ---- all paths

pub have_kept : (a b : List Folder) → Grows a b → (paths : List Path) (numbers : List ℕ) → HaveNumbers a paths numbers → HaveNumbers b paths numbers
have_kept a b grows [] [] have = tt
have_kept a b grows [] (n ∷ numbers) have = have
have_kept a b grows (p ∷ paths) [] have = have
have_kept a b grows (p ∷ paths) (n ∷ numbers) (has, have) = (
  ((let x = has.0 in let y = grows.longer in omega arith), way_kept (numbers_of a) (numbers_of b) grows.kept 0 p n has.1),
  have_kept a b grows paths numbers have,
)

have_more : (folders : List Folder) (paths : List Path) (numbers : List ℕ) (path : Path) (number : ℕ) → HaveNumbers folders paths numbers → number < length folders → Way (numbers_of folders) 0 path number
    → HaveNumbers folders (paths ++ path ∷ []) (numbers ++ number ∷ [])
have_more folders [] [] path number have inside way = ((inside, way), tt)
have_more folders [] (n ∷ numbers) path number have inside way = absurd have
have_more folders (p ∷ paths) [] path number have inside way = absurd have
have_more folders (p ∷ paths) (n ∷ numbers) path number have inside way = (have.0, have_more folders paths numbers path number have.1 inside way)

begins_before : (paths : List Path) (path front : Path) → BeginsOne paths front → BeginsOne (paths ++ path ∷ []) front
begins_before [] path front h = absurd h
begins_before (p ∷ paths) path front (inl h) = inl h
begins_before (p ∷ paths) path front (inr h) = inr (begins_before paths path front h)

begins_last : (paths : List Path) (path front : Path) → Begins path front → BeginsOne (paths ++ path ∷ []) front
begins_last [] path front h = inl h
begins_last (p ∷ paths) path front h = inr (begins_last paths path front h)

pub paths_more : (paths : List Path) (numbers : List ℕ) (path : Path) (number : ℕ) (old new : List Folder) → NumbersPaths paths numbers old → NumbersPath path number old new
    → NumbersPaths (paths ++ path ∷ []) (numbers ++ number ∷ []) new
paths_more paths numbers path number old new so step = record {
  some = (let x = so.some in let y = step.grows.longer in omega arith);
  numbered = step.grows.numbered;
  have = have_more new paths numbers path number (have_kept old new step.grows paths numbers so.have) step.within step.way;
  used = λ i n name e. elim (step.added i n name e) [
    | inl before ↦
        let was = so.used i n name before in
        (was.0, way_kept (numbers_of old) (numbers_of new) step.grows.kept 0 was.0 i was.1, begins_before paths path was.0 was.2)
    | inr begun ↦ (begun.0, begun.1, begins_last paths path begun.0 begun.2)
  ];
}
