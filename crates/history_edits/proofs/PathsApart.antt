-- The paths of different names are different.
use Rattle.std.proofs.Common.{◌≡◌, true, false, ◌||◌, List, [], ◌∷◌, drop, refl, sym, ◌∙◌, ap, bytes_eq, codes}
use Rattle.std.specs.List.{list_any, list_all}
use Rattle.std.proofs.lemmas.Bool.{and_parts, or_parts, or_from}
use Rattle.std.proofs.lemmas.List.{append_cancel_right}
use Rattle.gix_ref_lock.specs.Locks.{lock_of}
use Rattle.gix_ref_transaction.specs.Paths as paths
use Rattle.history_model.specs.Bytes.{Bytes, has_twice}
use Rattle.history_model.specs.Forms.{is_name}
use Rattle.history_model.specs.Places.{packed_place, log_place, is_log_place, is_lock_file}
use Rattle.history_model.proofs.NameLemmas.{ends_after, name-lock, name-log, log-lock}
use Rattle.history_model.proofs.PlaceLemmas.{texts_apart, apart_texts}
use Rattle.history_layout.proofs.TreeMoves.{packed_apart}
use Rattle.history_edits.specs.Bridges.{name_paths, PathsOnce}

-- ---- one path and many

none_by : (p : Bytes) (f : Bytes → Bytes) (names : List Bytes) → ((n : Bytes) → is_name n ≡ true → p ≡ f n → ⊥) → list_all is_name names ≡ true → list_any (λ n. bytes_eq p (f n)) names ≡ false
none_by p f [] differ all = refl
none_by p f (n ∷ names) differ all =
    let parts = and_parts (is_name n) (list_all is_name names) all in
    or_from (bytes_eq p (f n)) (list_any (λ n. bytes_eq p (f n)) names) (texts_apart p (f n) (differ n parts.0)) (none_by p f names differ parts.1)

apart_still : (f : Bytes → Bytes) → ((a b : Bytes) → f a ≡ f b → a ≡ b) → (p : Bytes) (names : List Bytes) → list_any (bytes_eq p) names ≡ false → list_any (λ n. bytes_eq (f p) (f n)) names ≡ false
apart_still f told p [] apart = refl
apart_still f told p (n ∷ names) apart =
    let parts = or_parts (bytes_eq p n) (list_any (bytes_eq p) names) apart in
    or_from (bytes_eq (f p) (f n)) (list_any (λ n. bytes_eq (f p) (f n)) names) (texts_apart (f p) (f n) (λ same. apart_texts p n parts.0 (told p n same))) (apart_still f told p names parts.1)

none_of_paths : (p : Bytes) (names : List Bytes) → list_any (bytes_eq p) names ≡ false → list_any (λ n. bytes_eq p (lock_of n)) names ≡ false → list_any (λ n. bytes_eq p (log_place n)) names ≡ false → list_any (bytes_eq p) (name_paths names) ≡ false
none_of_paths p [] file lock log = refl
none_of_paths p (n ∷ names) file lock log =
    let files = or_parts (bytes_eq p n) (list_any (bytes_eq p) names) file in
    let locks = or_parts (bytes_eq p (lock_of n)) (list_any (λ n. bytes_eq p (lock_of n)) names) lock in
    let logs = or_parts (bytes_eq p (log_place n)) (list_any (λ n. bytes_eq p (log_place n)) names) log in
    let rest = none_of_paths p names files.1 locks.1 logs.1 in
    or_from (bytes_eq p n) (bytes_eq p (lock_of n) || (bytes_eq p (log_place n) || list_any (bytes_eq p) (name_paths names))) files.0
    (or_from (bytes_eq p (lock_of n)) (bytes_eq p (log_place n) || list_any (bytes_eq p) (name_paths names)) locks.0
    (or_from (bytes_eq p (log_place n)) (list_any (bytes_eq p) (name_paths names)) logs.0 rest))

-- ---- what makes them different

pub lock_ends : (place : Bytes) → is_lock_file (lock_of place) ≡ true
lock_ends place = ends_after place (codes ".lock")

locks_told : (a b : Bytes) → lock_of a ≡ lock_of b → a ≡ b
locks_told a b same = append_cancel_right a b (codes ".lock") same

logs_told : (a b : Bytes) → log_place a ≡ log_place b → a ≡ b
logs_told a b same = ap (λ (t : Bytes). drop 5 t) same

-- what is no lock is not the lock of another
no_lock_of : (p n : Bytes) → is_lock_file p ≡ false → p ≡ lock_of n → ⊥
no_lock_of p n plain same = cc (sym (lock_ends n) ∙ sym (ap (λ t. is_lock_file t) same) ∙ plain)

no_log_of : (p n : Bytes) → is_log_place p ≡ false → p ≡ log_place n → ⊥
no_log_of p n plain same = cc (sym (ap (λ t. is_log_place t) same) ∙ plain)

lock_no_name : (place n : Bytes) → is_name n ≡ true → lock_of place ≡ n → ⊥
lock_no_name place n named same = cc (sym (lock_ends place) ∙ ap (λ t. is_lock_file t) same ∙ name-lock n named)

lock_no_log : (place n : Bytes) → is_name n ≡ true → lock_of place ≡ log_place n → ⊥
lock_no_log place n named same = cc (sym (lock_ends place) ∙ ap (λ t. is_lock_file t) same ∙ log-lock n named)

log_no_name : (m n : Bytes) → is_name n ≡ true → log_place m ≡ n → ⊥
log_no_name m n named same = cc (ap (λ t. is_log_place t) same ∙ name-log n named)

-- ---- all of them

file_once : (p : Bytes) (names : List Bytes) → is_lock_file p ≡ false → is_log_place p ≡ false → list_all is_name names ≡ true → list_any (bytes_eq p) names ≡ false → list_any (bytes_eq p) (name_paths names) ≡ false
file_once p names no_lock no_log all apart = none_of_paths p names apart
    (none_by p (λ n. lock_of n) names (λ n named. no_lock_of p n no_lock) all)
    (none_by p (λ n. log_place n) names (λ n named. no_log_of p n no_log) all)

lock_once : (p : Bytes) (names : List Bytes) → list_all is_name names ≡ true → list_any (bytes_eq p) names ≡ false → list_any (bytes_eq (lock_of p)) (name_paths names) ≡ false
lock_once p names all apart = none_of_paths (lock_of p) names
    (none_by (lock_of p) (λ n. n) names (λ n named. lock_no_name p n named) all)
    (apart_still (λ n. lock_of n) locks_told p names apart)
    (none_by (lock_of p) (λ n. log_place n) names (λ n named. lock_no_log p n named) all)

log_once : (p : Bytes) (names : List Bytes) → is_name p ≡ true → list_all is_name names ≡ true → list_any (bytes_eq p) names ≡ false → list_any (bytes_eq (log_place p)) (name_paths names) ≡ false
log_once p names is_one all apart = none_of_paths (log_place p) names
    (none_by (log_place p) (λ n. n) names (λ n named. log_no_name p n named) all)
    (none_by (log_place p) (λ n. lock_of n) names (λ n named. no_lock_of (log_place p) n (log-lock p is_one)) all)
    (apart_still (λ n. log_place n) logs_told p names apart)

names_once : (names : List Bytes) → list_all is_name names ≡ true → has_twice bytes_eq names ≡ false → paths.has_twice (name_paths names) ≡ false
names_once [] all once = refl
names_once (n ∷ names) all once =
    let named = and_parts (is_name n) (list_all is_name names) all in
    let apart = or_parts (list_any (bytes_eq n) names) (has_twice bytes_eq names) once in
    or_from (list_any (bytes_eq n) (lock_of n ∷ log_place n ∷ name_paths names)) (paths.has_twice (lock_of n ∷ log_place n ∷ name_paths names))
    (or_from (bytes_eq n (lock_of n)) (bytes_eq n (log_place n) || list_any (bytes_eq n) (name_paths names)) (texts_apart n (lock_of n) (no_lock_of n n (name-lock n named.0)))
    (or_from (bytes_eq n (log_place n)) (list_any (bytes_eq n) (name_paths names)) (texts_apart n (log_place n) (no_log_of n n (name-log n named.0)))
    (file_once n names (name-lock n named.0) (name-log n named.0) named.1 apart.0)))
    (or_from (list_any (bytes_eq (lock_of n)) (log_place n ∷ name_paths names)) (paths.has_twice (log_place n ∷ name_paths names))
    (or_from (bytes_eq (lock_of n) (log_place n)) (list_any (bytes_eq (lock_of n)) (name_paths names)) (texts_apart (lock_of n) (log_place n) (lock_no_log n n named.0))
    (lock_once n names named.1 apart.0))
    (or_from (list_any (bytes_eq (log_place n)) (name_paths names)) (paths.has_twice (name_paths names)) (log_once n names named.0 named.1 apart.0)
    (names_once names named.1 apart.1)))

pub paths_once : PathsOnce
paths_once names all once =
    let none = none_by packed_place (λ n. n) names (λ n named. packed_apart n named) all in
    or_from (list_any (bytes_eq packed_place) (lock_of packed_place ∷ name_paths names)) (paths.has_twice (lock_of packed_place ∷ name_paths names))
    (or_from (bytes_eq packed_place (lock_of packed_place)) (list_any (bytes_eq packed_place) (name_paths names)) refl (file_once packed_place names refl refl all none))
    (or_from (list_any (bytes_eq (lock_of packed_place)) (name_paths names)) (paths.has_twice (name_paths names)) (lock_once packed_place names all none)
    (names_once names all once))
