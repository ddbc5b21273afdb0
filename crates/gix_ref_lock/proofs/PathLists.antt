-- The paths of moves, each of which occurs once.
use Rattle.std.proofs.Common.{◌≡◌, ◌≢◌, sym, subst, List, [], ◌∷◌, ◌++◌}
use Rattle.std.specs.List.{AllByRecursion}
use Rattle.gix_ref_file.specs.Tree.{Tree}
use Rattle.gix_ref_way.specs.Ways.{Bytes, file_at}
use Rattle.gix_ref_lock.specs.Contents.{Contents, contents, place_of, lock_path_of, log_path_of}
use Rattle.gix_ref_lock.specs.Moves.{all_paths, paths_of, IsNone, Once}
use Rattle.gix_ref_lock.specs.Moments.{AreApart}
use Rattle.gix_ref_lock.specs.declared.act.Move.{Move}

-- the files of this move are none of that one's
pub record Clear (n m : Move) : Type 0 where
  pub file : IsNone (place_of n) (paths_of m)
  pub lock : IsNone (lock_path_of n) (paths_of m)
  pub log : IsNone (log_path_of n) (paths_of m)

-- a path that differs from all differs from each one's
pub none_of_one : (path : Bytes) (done : List Move) (m : Move) (rest : List Move) → IsNone path (all_paths (done ++ m ∷ rest)) → IsNone path (paths_of m)
none_of_one path [] m rest none = (none.0, (none.1.0, (none.1.1.0, tt)))
none_of_one path (n ∷ done) m rest none = none_of_one path done m rest none.1.1.1

clear_rest : (m : Move) (rest : List Move) → IsNone (place_of m) (all_paths rest) → IsNone (lock_path_of m) (all_paths rest) → IsNone (log_path_of m) (all_paths rest)
    → AllByRecursion (λ n. Clear n m) rest
clear_rest m [] file lock log = tt
clear_rest m (n ∷ rest) file lock log = (
  record {
    file = (λ e. file.0 (sym e), (λ e. lock.0 (sym e), (λ e. log.0 (sym e), tt)));
    lock = (λ e. file.1.0 (sym e), (λ e. lock.1.0 (sym e), (λ e. log.1.0 (sym e), tt)));
    log = (λ e. file.1.1.0 (sym e), (λ e. lock.1.1.0 (sym e), (λ e. log.1.1.0 (sym e), tt)));
  },
  clear_rest m rest file.1.1.1 lock.1.1.1 log.1.1.1,
)

-- what Once says of a move among others
pub record Among (done : List Move) (m : Move) (rest : List Move) : Type 0 where
  pub before : AllByRecursion (λ n. Clear n m) done
  pub apart : AreApart m
  pub behind : AllByRecursion (λ n. Clear n m) rest

pub among : (done : List Move) (m : Move) (rest : List Move) → Once (all_paths (done ++ m ∷ rest)) → Among done m rest
among [] m rest once = record {
  before = tt;
  apart = record { lock = once.0.0; log = once.0.1.0; log_lock = once.1.0.0 };
  behind = clear_rest m rest once.0.1.1 once.1.0.1 once.1.1.0;
}
among (n ∷ done) m rest once =
    let later = among done m rest once.1.1.1 in
    record {
      before = (
        record {
          file = none_of_one (place_of n) done m rest once.0.1.1;
          lock = none_of_one (lock_path_of n) done m rest once.1.0.1;
          log = none_of_one (log_path_of n) done m rest once.1.1.0;
        },
        later.before,
      );
      apart = later.apart;
      behind = later.behind;
    }

-- ---- what stays

abbrev pub StaysBut : Move → Tree → Tree → Type 0
StaysBut m old new = (path : Bytes) → path ≢ place_of m → path ≢ lock_path_of m → path ≢ log_path_of m → file_at new path ≡ file_at old path

pub same_contents : (n m : Move) (old new : Tree) → Clear n m → StaysBut m old new → contents n new ≡ contents n old
same_contents n m old new clear stays =
    let file = stays (place_of n) clear.file.0 clear.file.1.0 clear.file.1.1.0 in
    let log = stays (log_path_of n) clear.log.0 clear.log.1.0 clear.log.1.1.0 in
    let lock = stays (lock_path_of n) clear.lock.0 clear.lock.1.0 clear.lock.1.1.0 in
    λ i. record { file = file i; log = log i; lock = lock i }

abbrev pub AllSame : List Move → Tree → Tree → Type 0
AllSame moves old new = AllByRecursion (λ n. contents n new ≡ contents n old) moves

pub all_same : (m : Move) (ns : List Move) (old new : Tree) → AllByRecursion (λ n. Clear n m) ns → StaysBut m old new → AllSame ns old new
all_same m [] old new clear stays = tt
all_same m (n ∷ ns) old new clear stays = (same_contents n m old new clear.0 stays, all_same m ns old new clear.1 stays)

-- what holds of contents holds of the same ones
pub all_carried : (P : Move → Contents → Type 0) (ns : List Move) (old new : Tree) → AllByRecursion (λ n. P n (contents n old)) ns → AllSame ns old new → AllByRecursion (λ n. P n (contents n new)) ns
all_carried P [] old new all same = tt
all_carried P (n ∷ ns) old new all same = (subst (P n) (sym same.0) all.0, all_carried P ns old new all.1 same.1)

pub all_weaker : (P Q : Move → Type 0) (ns : List Move) → ((n : Move) → P n → Q n) → AllByRecursion P ns → AllByRecursion Q ns
all_weaker P Q [] f all = tt
all_weaker P Q (n ∷ ns) f all = (f n all.0, all_weaker P Q ns f all.1)

pub all_of : (P : Move → Type 0) (ns : List Move) → ((n : Move) → P n) → AllByRecursion P ns
all_of P [] f = tt
all_of P (n ∷ ns) f = (f n, all_of P ns f)

pub all_both : (P Q R : Move → Type 0) (ns : List Move) → ((n : Move) → P n → Q n → R n) → AllByRecursion P ns → AllByRecursion Q ns → AllByRecursion R ns
all_both P Q R [] f ps qs = tt
all_both P Q R (n ∷ ns) f ps qs = (f n ps.0 qs.0, all_both P Q R ns f ps.1 qs.1)

pub all_append : (P : Move → Type 0) (ms ns : List Move) → AllByRecursion P ms → AllByRecursion P ns → AllByRecursion P (ms ++ ns)
all_append P [] ns first second = second
all_append P (m ∷ ms) ns first second = (first.0, all_append P ms ns first.1 second)

pub all_at : (P : Move → Type 0) (done : List Move) (m : Move) (rest : List Move) → AllByRecursion P (done ++ m ∷ rest) → P m
all_at P [] m rest all = all.0
all_at P (n ∷ done) m rest all = all_at P done m rest all.1
