-- A name's file, its lock and its log have paths.
use Rattle.std.proofs.Common.{◌≡◌, refl, sym, ◌∙◌, ap, ℕ, ◌+◌, ◌≤◌, ◌==◌, Bool, true, false, cond, not, ◌&&◌, ◌||◌, List, [], ◌∷◌, length, length-append, arith, codes, bytes_eq}
use Rattle.std.specs.Prelude.{IsTrue, nat_lt, nat_le}
use Rattle.std.specs.List.{list_any, list_all, slice_split, onto_first}
use Rattle.std.proofs.lemmas.Bool.{not-true, and_parts}
use Rattle.std.proofs.lemmas.Bool.Decides.{Decides-eqb, nat_tests}
use Rattle.std.proofs.lemmas.Slice.Eq.{bytes_eq-Decides}
use Rattle.gix_object_lines.specs.NameTest.{is_barred}
use Rattle.gix_ref_file.specs.Tree.{is_slash, is_component, is_path}
use Rattle.gix_ref_lock.specs.Locks.{lock_of}
use Rattle.history_model.specs.Bytes.{Bytes, begins}
use Rattle.history_model.specs.Forms.{is_name, max_name}
use Rattle.history_model.specs.Places.{log_place}
use Rattle.history_model.proofs.LockPaths.{lock_is_path}
use Rattle.history_model.proofs.NameLemmas.{partial_of}
use Rattle.history_model.proofs.NameTests.{is_name_component, components_of, unbarred_of}

-- ---- a name is a path, and so is its log's place

split_free : (p : ℕ → Bool) (text : Bytes) → list_any p text ≡ false → list_all (λ part. not (list_any p part)) (slice_split is_slash text) ≡ true
split_free p [] none = refl
split_free p (b ∷ text) none = by_case (is_slash b) (slice_split is_slash text) (split_free p text (either (p b) (list_any p text) none).1)
  where
    either : (x y : Bool) → (x || y) ≡ false → (x ≡ false) × (y ≡ false)
    either true y h = cc
    either false y h = (refl, h)

    by_case : (s : Bool) (parts : List Bytes) → list_all (λ part. not (list_any p part)) parts ≡ true → list_all (λ part. not (list_any p part)) (cond s ([] ∷ parts) (onto_first b parts)) ≡ true
    by_case true parts free = free
    by_case false [] free = ap (λ x. not (x || false) && true) (either (p b) (list_any p text) none).0
    by_case false (part ∷ parts) free = ap (λ x. not (x || list_any p part) && list_all (λ part. not (list_any p part)) parts) (either (p b) (list_any p text) none).0 ∙ free

no_zero : (text : Bytes) → list_any is_barred text ≡ false → list_any (λ b. b == 0) text ≡ false
no_zero [] none = refl
no_zero (b ∷ text) none = by_case (b == 0) refl (is_barred b) refl none (no_zero text)
  where
    by_case : (zero : Bool) → (b == 0) ≡ zero → (barred : Bool) → is_barred b ≡ barred → (barred || list_any is_barred text) ≡ false → (list_any is_barred text ≡ false → list_any (λ b. b == 0) text ≡ false) → (zero || list_any (λ b. b == 0) text) ≡ false
    by_case false is barred was none rest = rest (after barred none)
      where
        after : (x : Bool) → (x || list_any is_barred text) ≡ false → list_any is_barred text ≡ false
        after true h = cc
        after false h = h
    by_case true is true was none rest = cc
    by_case true is false was none rest = let wrong : true ≡ false = ap is_barred (sym ((Decides-eqb b 0).0 is)) ∙ was in absurd (cc wrong)

not_dots : (part dots : Bytes) → begins (codes ".") part ≡ false → begins (codes ".") dots ≡ true → not (bytes_eq part dots) ≡ true
not_dots part dots plain dotted = by_test (bytes_eq part dots) refl
  where
    by_test : (b : Bool) → bytes_eq part dots ≡ b → not b ≡ true
    by_test false apart = refl
    by_test true same = let wrong : true ≡ false = sym dotted ∙ ap (begins (codes ".")) (sym ((bytes_eq-Decides part dots).0 same)) ∙ plain in absurd (cc wrong)

one_part : (part : Bytes) → is_name_component part ≡ true → not (list_any (λ b. b == 0) part) ≡ true → is_component part ≡ true
one_part [] is free = cc
one_part (b ∷ part) is free =
    let plain = not-true (begins (codes ".") (b ∷ part)) (and_parts true (not (begins (codes ".") (b ∷ part))) (and_parts _ _ is).0).1 in
    let some : nat_lt 0 (length (b ∷ part)) ≡ true = grind (arith, nat_tests) in
    λ i. some i && not_dots (b ∷ part) (codes ".") plain refl i && not_dots (b ∷ part) (codes "..") plain refl i && free i

all_parts : (parts : List Bytes) → list_all is_name_component parts ≡ true → list_all (λ part. not (list_any (λ b. b == 0) part)) parts ≡ true → list_all is_component parts ≡ true
all_parts [] are free = refl
all_parts (part ∷ parts) are free =
    let here = and_parts (is_name_component part) (list_all is_name_component parts) are in
    let clean = and_parts (not (list_any (λ b. b == 0) part)) (list_all (λ part. not (list_any (λ b. b == 0) part)) parts) free in
    λ i. one_part part here.0 clean.0 i && all_parts parts here.1 clean.1 i

pub name_parts : (name : Bytes) → is_name name ≡ true → list_all is_component (slice_split is_slash name) ≡ true
name_parts name h =
    let partial = partial_of name h in
    let clean = unbarred_of name partial in
    all_parts (slice_split is_slash name) (components_of name partial) (split_free (λ b. b == 0) name (no_zero name clean))

within : (n m : ℕ) → nat_le n 1024 ≡ true → m ≤ n + 5 → nat_le m 4096 ≡ true
within n m short few = grind (arith, nat_tests)

name_short : (name : Bytes) → is_name name ≡ true → nat_le (length name) 1024 ≡ true
name_short name h = (and_parts _ (nat_le (length name) max_name) h).1

pub name_path : (name : Bytes) → is_name name ≡ true → IsTrue (is_path name)
name_path name h = λ i. within (length name) (length name) (name_short name h) (omega arith) i && name_parts name h i

pub log_path : (name : Bytes) → is_name name ≡ true → IsTrue (is_path (log_place name))
log_path name h = λ i. within (length name) (length (log_place name)) (name_short name h) (omega (arith, length-append (codes "logs/") name)) i && name_parts name h i

-- ---- so is its lock

pub lock_path : (name : Bytes) → is_name name ≡ true → IsTrue (is_path (lock_of name))
lock_path name h = lock_is_path name (name_parts name h) (short (length name) (length (lock_of name)) (name_short name h) (omega (arith, length-append name (codes ".lock"))))
  where
    short : (n m : ℕ) → nat_le n 1024 ≡ true → m ≤ n + 5 → m ≤ 4096
    short n m few more = grind (arith, nat_tests)
