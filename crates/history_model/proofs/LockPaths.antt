-- The lock of a path is a path, if it isn't too long.
use Rattle.std.proofs.Common.{◌≡◌, ◌≢◌, refl, sym, ◌∙◌, ap, ℕ, ◌≤◌, ◌==◌, Bool, true, false, cond, not, ◌&&◌, ◌||◌, List, [], ◌∷◌, ◌++◌, length, length-append, arith, codes, bytes_eq}
use Rattle.std.specs.Prelude.{IsTrue, nat_lt, nat_le}
use Rattle.std.specs.List.{list_any, list_all, slice_split, onto_first}
use Rattle.std.proofs.lemmas.Bool.{not-true, and_parts}
use Rattle.std.proofs.lemmas.Bool.Decides.{nat_tests}
use Rattle.std.proofs.lemmas.List.Folds.{list_any-append}
use Rattle.std.proofs.lemmas.Slice.Eq.{bytes_eq-Decides}
use Rattle.gix_ref_file.specs.Tree.{is_slash, is_component, is_path, max_path}
use Rattle.history_model.specs.Bytes.{Bytes}

abbrev lock_end : Bytes
lock_end = codes ".lock"

abbrev onto_last : List Bytes → List Bytes
onto_last [] = lock_end ∷ []
onto_last (part ∷ []) = (part ++ lock_end) ∷ []
onto_last (part ∷ next ∷ parts) = part ∷ onto_last (next ∷ parts)

none_split : (b : ℕ) (text : Bytes) → slice_split is_slash text ≢ []
none_split b text is = some text is
  where
    some : (t : Bytes) → slice_split is_slash t ≡ [] → ⊥
    some [] e = cc
    some (c ∷ t) e = go (is_slash c) (slice_split is_slash t) e
      where
        go : (s : Bool) (parts : List Bytes) → cond s ([] ∷ parts) (onto_first c parts) ≡ [] → ⊥
        go true parts e = cc
        go false [] e = cc
        go false (part ∷ parts) e = cc

split_locked : (name : Bytes) → slice_split is_slash (name ++ lock_end) ≡ onto_last (slice_split is_slash name)
split_locked [] = refl
split_locked (b ∷ name) = go (is_slash b) (slice_split is_slash name) refl (split_locked name)
  where
    go : (s : Bool) (parts : List Bytes) → slice_split is_slash name ≡ parts → slice_split is_slash (name ++ lock_end) ≡ onto_last (slice_split is_slash name)
        → cond s ([] ∷ slice_split is_slash (name ++ lock_end)) (onto_first b (slice_split is_slash (name ++ lock_end))) ≡ onto_last (cond s ([] ∷ slice_split is_slash name) (onto_first b (slice_split is_slash name)))
    go s [] e ih = absurd (none_split b name e)
    go true (part ∷ parts) e ih = ap (λ ps. [] ∷ ps) (ih ∙ ap onto_last e) ∙ ap (λ ps. onto_last ([] ∷ ps)) (sym e)
    go false (part ∷ []) e ih = ap (onto_first b) (ih ∙ ap onto_last e) ∙ ap (λ ps. onto_last (onto_first b ps)) (sym e)
    go false (part ∷ next ∷ parts) e ih = ap (onto_first b) (ih ∙ ap onto_last e) ∙ ap (λ ps. onto_last (onto_first b ps)) (sym e)

no_dots : (part dots : Bytes) → length dots ≤ 2 → not (bytes_eq (part ++ lock_end) dots) ≡ true
no_dots part dots few = by_test (bytes_eq (part ++ lock_end) dots) refl
  where
    by_test : (b : Bool) → bytes_eq (part ++ lock_end) dots ≡ b → not b ≡ true
    by_test false apart = refl
    by_test true same = absurd (omega (arith, few, ap length ((bytes_eq-Decides (part ++ lock_end) dots).0 same), length-append part lock_end))

locked_part : (part : Bytes) → is_component part ≡ true → is_component (part ++ lock_end) ≡ true
locked_part part is =
    let clean = not-true (list_any (λ byte. byte == 0) part) (and_parts _ (not (list_any (λ byte. byte == 0) part)) is).1 in
    let some : nat_lt 0 (length (part ++ lock_end)) ≡ true = grind (arith, nat_tests, length-append part lock_end) in
    let free : list_any (λ byte. byte == 0) (part ++ lock_end) ≡ false = list_any-append (λ byte. byte == 0) part lock_end ∙ ap (λ b. b || list_any (λ byte. byte == 0) lock_end) clean in
    λ i. some i && no_dots part (codes ".") (omega arith) i && no_dots part (codes "..") (omega arith) i && not (free i)

locked_parts : (parts : List Bytes) → parts ≢ [] → list_all is_component parts ≡ true → list_all is_component (onto_last parts) ≡ true
locked_parts [] some are = absurd (some refl)
locked_parts (part ∷ []) some are = ap (λ b. b && true) (locked_part part (and_parts (is_component part) true are).0)
locked_parts (part ∷ next ∷ parts) some are =
    let both = and_parts (is_component part) (list_all is_component (next ∷ parts)) are in
    λ i. both.0 i && locked_parts (next ∷ parts) (λ e. cc) both.1 i

fits : (n : ℕ) → n ≤ 4096 → nat_le n 4096 ≡ true
fits n few = grind (arith, nat_tests)

pub lock_is_path : (path : Bytes) → list_all is_component (slice_split is_slash path) ≡ true → length (path ++ codes ".lock") ≤ max_path → IsTrue (is_path (path ++ codes ".lock"))
lock_is_path path are short =
    let parts = ap (list_all is_component) (split_locked path) ∙ locked_parts (slice_split is_slash path) (none_split 0 path) are in
    λ i. fits (length (path ++ codes ".lock")) short i && parts i
