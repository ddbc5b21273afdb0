-- Edits whose names occur once have no name twice, and no path.
use Rattle.std.proofs.Common.{◌≡◌, ◌≤◌, ◌+◌, ℕ, Bool, true, false, cond, List, [], ◌∷◌, refl, sym, ◌∙◌, ap, bytes_eq, arith}
use Rattle.std.specs.Prelude.{count_by}
use Rattle.std.specs.List.{AllByRecursion, list_any, list_all}
use Rattle.std.proofs.lemmas.Bool.{and_from, or_parts}
use Rattle.std.proofs.lemmas.List.Sums.{sum_by-cons}
use Rattle.gix_ref_edit.specs.Names.{StandsTwice}
use Rattle.history_model.specs.Bytes.{Bytes, has_twice}
use Rattle.history_model.proofs.PlaceLemmas.{apart_texts, one_text, texts_apart}

abbrev times : List Bytes → Bytes → ℕ
times names name = count_by (λ other. bytes_eq other name) names

times_cons : (x : Bytes) (xs : List Bytes) (name : Bytes) → times (x ∷ xs) name ≡ cond (bytes_eq x name) 1 0 + times xs name
times_cons x xs name = sum_by-cons (λ other. cond (bytes_eq other name) 1 0) x xs

times_if : (b : Bool) (x : Bytes) (xs : List Bytes) (name : Bytes) → bytes_eq x name ≡ b → times (x ∷ xs) name ≡ cond b 1 0 + times xs name
times_if b x xs name is = times_cons x xs name ∙ ap (λ c. cond c 1 0 + times xs name) is

none_of : (name : Bytes) (xs : List Bytes) → list_any (bytes_eq name) xs ≡ false → times xs name ≡ 0
none_of name [] none = refl
none_of name (x ∷ xs) none =
    let parts = or_parts (bytes_eq name x) (list_any (bytes_eq name) xs) none in
    let apart : bytes_eq x name ≡ false = texts_apart x name (λ same. apart_texts name x parts.0 (sym same)) in
    omega (arith, times_if false x xs name apart, none_of name xs parts.1)

at_most_once : (xs : List Bytes) → has_twice bytes_eq xs ≡ false → (name : Bytes) → times xs name ≤ 1
at_most_once [] once name = omega arith
at_most_once (x ∷ xs) once name = go (bytes_eq x name) refl (at_most_once xs parts.1 name)
  where
    parts : (list_any (bytes_eq x) xs ≡ false) × (has_twice bytes_eq xs ≡ false)
    parts = or_parts (list_any (bytes_eq x) xs) (has_twice bytes_eq xs) once

    go : (b : Bool) → bytes_eq x name ≡ b → times xs name ≤ 1 → times (x ∷ xs) name ≤ 1
    go true is rest =
        let here : list_any (bytes_eq name) xs ≡ false = ap (λ n. list_any (bytes_eq n) xs) (sym (one_text x name is)) ∙ parts.0 in
        omega (arith, times_if true x xs name is, none_of name xs here)
    go false is rest = omega (arith, times_if false x xs name is, rest)

pub none_twice : (xs : List Bytes) → has_twice bytes_eq xs ≡ false → (name : Bytes) → StandsTwice xs name → ⊥
none_twice xs once name twice = omega (arith, twice, at_most_once xs once name)

pub all_of_each : (p : Bytes → Bool) (xs : List Bytes) → AllByRecursion (λ x. p x ≡ true) xs → list_all p xs ≡ true
all_of_each p [] all = refl
all_of_each p (x ∷ xs) all = and_from (p x) (list_all p xs) all.0 (all_of_each p xs all.1)
