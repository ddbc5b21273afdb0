-- What moves need stays while others are made, and steps fail only for their causes.
use Rattle.std.proofs.Common.{◌≡◌, ◌≢◌, ◌⊎◌, true, inl, inr, refl, sym, ◌∙◌, ap, subst, ⊎_elim, ℕ, ◌≤◌, List, [], ◌∷◌, ◌++◌, Option, Some, None, Vec, arith}
use Rattle.std.specs.Prelude.{Contains, IsTrue, IsSome, is_some, Result, Ok, Err, IfErr, IsErrOf, OnOk}
use Rattle.std.specs.List.{AllByRecursion}
use Rattle.std.specs.declared.alloc.Global.{Global}
use Rattle.std.proofs.lemmas.List.Elements.{Contains-append_left, Contains-append_right, Contains-append_cases}
use Rattle.gix_ref_file.specs.Tree.{Tree, Node, file, folder, bytes_of, place_of as place_at}
use Rattle.gix_ref_file.specs.Changes.{may_hold_file, is_file_at}
use Rattle.gix_ref_file.specs.History.{HasRisen}
use Rattle.gix_ref_file.specs.declared.files.FileError.{FileError}
use Rattle.gix_ref_file.specs.declared.files.FileError.TheVariants.{Failed}
use Rattle.gix_ref_file.specs.declared.files.Place.TheVariants as places
use Rattle.gix_ref_lock.specs.Calls.{IsForMemory, EndsQuietly}
use Rattle.gix_ref_lock.specs.PackedEdits as packed
use Rattle.gix_ref_lock.specs.declared.lock.GivenBack.{GivenBack}
use Rattle.gix_ref_lock.specs.declared.lock.GivenBack.TheVariants as given_case
use Rattle.gix_ref_lock.specs.declared.packed.Transaction.{Transaction}
use Rattle.gix_ref_way.specs.Ways.{Bytes, file_at, IsAbove, HasWay, FoldersOnlyOf}
use Rattle.gix_ref_way.proofs.Rooms.{among_first, among_rest, only_weaker, room_stays}
use Rattle.gix_ref_way.proofs.FoldersMade.{risen_later}
use Rattle.gix_ref_lock.specs.Contents.{Contents, contents, act_line, place_of, lock_path_of, log_path_of}
use Rattle.gix_ref_lock.specs.Moments.{NotesLog, AreApart}
use Rattle.gix_ref_lock.specs.Moves.{all_paths, paths_of, IsNone, Once}
use Rattle.gix_ref_lock.specs.Committing.{packed_paths, commit_paths, shown}
use Rattle.gix_ref_lock.specs.Needs.{noted_logs, logs_of, log_paths, CanNote, CanMove, CanReplace, PackedLocked, AreBeside, IsOutOfMemory, KeepsLock, Needs}
use Rattle.gix_ref_lock.specs.declared.act.Act.{Act}
use Rattle.gix_ref_lock.specs.declared.act.Act.TheVariants as acts
use Rattle.gix_ref_lock.specs.declared.act.CommitError.{CommitError}
use Rattle.gix_ref_lock.specs.declared.act.Move.{Move}
use Rattle.gix_ref_lock.specs.declared.steps.Step.{Step}
use Rattle.gix_ref_lock.specs.declared.steps.Step.TheVariants.{Update, Forget, Remove}
use Rattle.gix_ref_lock.proofs.PathLists.{all_at, all_both}
use Rattle.gix_ref_lock.proofs.OnWays.{packed_lock_apart}
use Rattle.gix_ref_lock.proofs.Progress.{Progress}

-- ---- causes

-- a function that passes an outcome on fails for the outcome's cause
pub told_cause : {T U P : Type 0} (outcome : Result T FileError) (r : Result U CommitError) → IfErr r (λ error. IsOutOfMemory error ⊎ IsErrOf outcome Failed)
    → (IsErrOf outcome Failed → P) → IfErr r (λ error. IsOutOfMemory error ⊎ P)
told_cause outcome (Ok u) told cause = tt
told_cause outcome (Err e) (inl short) cause = inl short
told_cause outcome (Err e) (inr failed) cause = inr (cause failed)

-- and quietly only if the outcome is quiet
pub told_quiet : {U : Type 0} (N : Type 0) (r : Result U CommitError) (outcome : Result (Unit {0}) FileError) → OnOk r (outcome ≡ Ok tt) → (N → EndsQuietly IsOutOfMemory r → EndsQuietly IsForMemory outcome)
    → EndsQuietly (λ error. N × IsOutOfMemory error) r → EndsQuietly IsForMemory outcome
told_quiet N (Ok u) outcome done short quiet = subst (λ (o : Result (Unit {0}) FileError). EndsQuietly IsForMemory o) (sym done) tt
told_quiet N (Err e) outcome done short quiet = short quiet.0 quiet.1

-- a failure that was counted meanwhile was counted since before, and until after
pub wider : {R : Type 0} (a b c d : ℕ) → a ≤ b → c ≤ d → HasRisen b c ⊎ R → HasRisen a d ⊎ R
wider a b c d first last (inl risen) = inl (risen_later a b c d first risen last)
wider a b c d first last (inr reading) = inr reading

pub since : {U : Type 0} (R : Type 0) (a b c : ℕ) (r : Result U CommitError) → a ≤ b → IfErr r (λ error. IsOutOfMemory error ⊎ (HasRisen b c ⊎ R)) → IfErr r (λ error. IsOutOfMemory error ⊎ (HasRisen a c ⊎ R))
since R a b c (Ok u) first fails = tt
since R a b c (Err e) first (inl short) = inl short
since R a b c (Err e) first (inr fault) = inr (wider a b c c first (omega arith) fault)

-- an error that is told after locks were given back
pub after_cause : {R : Type 0} (a b c : ℕ) (error result : CommitError) (given : GivenBack) → a ≤ b → b ≤ c → IsOutOfMemory error ⊎ (HasRisen a b ⊎ R) → (result ≡ error) ⊎ (given ≡ given_case.Failed)
    → (given ≡ given_case.Failed → HasRisen b c ⊎ R) → IsOutOfMemory result ⊎ (HasRisen a c ⊎ R)
after_cause a b c error result given first last (inl short) (inl same) rise = inl (subst IsOutOfMemory (sym same) short)
after_cause a b c error result given first last (inr fault) (inl same) rise = inr (wider a a b c (omega arith) last fault)
after_cause a b c error result given first last fault (inr failed) rise = inr (wider a b c c first (omega arith) (rise failed))

pub file_there : (o : Option Node) (n : ℕ) → places.File n ≡ place_at o → is_some (bytes_of o) ≡ true
file_there None n is = cc
file_there (Some (file bytes)) n is = refl
file_there (Some folder) n is = cc

-- ---- among paths

-- a path that differs from each of these
none_apart : (path : Bytes) (paths : List Bytes) → ((other : Bytes) → Contains paths other → path ≢ other) → IsNone path paths
none_apart path [] apart = tt
none_apart path (p ∷ ps) apart = (apart p (among_first p ps), none_apart path ps (λ other among. apart other (among_rest p other ps among)))

deeper : (n : Move) (paths : List Bytes) (path : Bytes) → Contains paths path → Contains (place_of n ∷ lock_path_of n ∷ log_path_of n ∷ paths) path
deeper n paths path among = among_rest (place_of n) path (lock_path_of n ∷ log_path_of n ∷ paths) (among_rest (lock_path_of n) path (log_path_of n ∷ paths) (among_rest (log_path_of n) path paths among))

pub noted_among : (line : Option (Vec ℕ Global)) (m : Move) (path : Bytes) → Contains (noted_logs line (log_path_of m)) path → Contains (paths_of m) path
noted_among None m path among = absurd (omega (arith, among.1))
noted_among (Some line) m path among = among_rest (place_of m) path (lock_path_of m ∷ log_path_of m ∷ []) (among_rest (lock_path_of m) path (log_path_of m ∷ []) among)

one_among : (m : Move) (ms : List Move) (path : Bytes) → Contains (paths_of m) path → Contains (all_paths (m ∷ ms)) path
one_among m ms path among = Contains-append_left (paths_of m) (all_paths ms) path among

pub own_among : (done : List Move) (m : Move) (rest : List Move) (path : Bytes) → Contains (paths_of m) path → Contains (all_paths (done ++ m ∷ rest)) path
own_among [] m rest path among = one_among m rest path among
own_among (n ∷ done) m rest path among = deeper n (all_paths (done ++ m ∷ rest)) path (own_among done m rest path among)

logs_among : (ms : List Move) (path : Bytes) → Contains (log_paths ms) path → Contains (all_paths ms) path
logs_among [] path among = among
logs_among (m ∷ ms) path among =
    ⊎_elim (λ own. one_among m ms path (noted_among (act_line m.act) m path own)) (λ rest. deeper m (all_paths ms) path (logs_among ms path rest)) (Contains-append_cases (logs_of m) (log_paths ms) path among)

own_logs : (done : List Move) (m : Move) (rest : List Move) (path : Bytes) → Contains (logs_of m) path → Contains (log_paths (done ++ m ∷ rest)) path
own_logs [] m rest path among = Contains-append_left (logs_of m) (log_paths rest) path among
own_logs (n ∷ done) m rest path among = Contains-append_right (logs_of n) (log_paths (done ++ m ∷ rest)) path (own_logs done m rest path among)

moves_among : (t : Option Transaction) (ms : List Move) (path : Bytes) → Contains (all_paths ms) path → Contains (commit_paths t ms) path
moves_among t ms path among = Contains-append_right (packed_paths t) (all_paths ms) path among

pub beside_fewer : (few more : List Bytes) → ((path : Bytes) → Contains few path → Contains more path) → AreBeside more → AreBeside few
beside_fewer few more all beside upper lower one other above = beside upper lower (all upper one) (all lower other) above

pub moves_beside : (t : Option Transaction) (ms : List Move) → AreBeside (commit_paths t ms) → AreBeside (all_paths ms)
moves_beside t ms beside = beside_fewer (all_paths ms) (commit_paths t ms) (moves_among t ms) beside

-- ---- while a log gets its line
module _ (m : Move) (apart : AreApart m) (beside : AreBeside (paths_of m)) (line : Option (Vec ℕ Global)) (old mid : Tree) where
  pub lock_after : NotesLog line (log_path_of m) old mid → IsTrue (is_file_at old (lock_path_of m)) → IsTrue (is_file_at mid (lock_path_of m))
  lock_after noted held = ap is_some (noted.others (lock_path_of m) apart.log_lock) ∙ held

  pub place_after : FoldersOnlyOf (noted_logs line (log_path_of m)) old mid → IsTrue (may_hold_file old (place_of m)) → IsTrue (may_hold_file mid (place_of m))
  place_after only may = room_stays (place_of m) (noted_logs line (log_path_of m)) old mid may only (λ other among.
      let is = noted_among line m other among in
      let own = among_first (place_of m) (lock_path_of m ∷ log_path_of m ∷ []) in
      (beside other (place_of m) is own, beside (place_of m) other own is))

-- ---- while moves are made
module _ (moves : List Move) (old now : Tree) (beside : AreBeside (all_paths moves)) (only : FoldersOnlyOf (log_paths moves) old now)
    (others : (path : Bytes) → IsNone path (all_paths moves) → file_at now path ≡ file_at old path) where
  room : (path : Bytes) → Contains (all_paths moves) path → IsTrue (may_hold_file old path) → IsTrue (may_hold_file now path)
  room path among may = room_stays path (log_paths moves) old now may only (λ other log. let is = logs_among moves other log in (beside other path is among, beside path other among is))

  way : (path : Bytes) → Contains (all_paths moves) path → HasWay path old → HasWay path now
  way path among has = record {
    above = λ place is. others place (none_apart place (all_paths moves) (λ p held same. beside p path held among (subst (λ q. IsAbove q path) same is))) ∙ has.above place is;
    below = λ other is. others other (none_apart other (all_paths moves) (λ p held same. beside path p among held (subst (λ q. IsAbove path q) same is))) ∙ has.below other is;
  }

  can_note : (line : Option (Vec ℕ Global)) (path : Bytes) → Contains (all_paths moves) path → CanNote line path old → CanNote line path now
  can_note None path among can = tt
  can_note (Some line) path among (whole, has) = (whole, way path among has)

  needs_stay : (step : Step) (m : Move) → ((path : Bytes) → Contains (paths_of m) path → Contains (all_paths moves) path) → contents m now ≡ contents m old → Needs step m old → Needs step m now
  needs_stay Update m among same can = record {
    held = ap (λ c. is_some c.lock) same ∙ can.held;
    place = room (place_of m) (among (place_of m) (among_first (place_of m) (lock_path_of m ∷ log_path_of m ∷ []))) can.place;
    log = can_note (act_line m.act) (log_path_of m)
        (among (log_path_of m) (among_rest (place_of m) (log_path_of m) (lock_path_of m ∷ log_path_of m ∷ []) (among_rest (lock_path_of m) (log_path_of m) (log_path_of m ∷ []) (among_first (log_path_of m) [])))) can.log;
  }
  needs_stay Forget m among same needs = tt
  needs_stay Remove m among same needs = subst (KeepsLock m.act) (sym same) needs

module _ (f : Act → Contents → Contents) (moves : List Move) (m : Move) (rest : List Move) (old now : Tree) (so_far : Progress f moves (m ∷ rest) old now) where
  among_all : (path : Bytes) → Contains (paths_of m) path → Contains (all_paths moves) path
  among_all path among = subst (λ ms. Contains (all_paths ms) path) (sym so_far.split) (own_among so_far.done m rest path among)

  pub next_beside : AreBeside (all_paths moves) → AreBeside (paths_of m)
  next_beside beside = beside_fewer (paths_of m) (all_paths moves) among_all beside

  pub next_needs : (step : Step) → AreBeside (all_paths moves) → FoldersOnlyOf (log_paths moves) old now → AllByRecursion (λ n. Needs step n old) moves → Needs step m now
  next_needs step beside only all =
      needs_stay moves old now beside only so_far.others step m among_all so_far.left.0
      (all_at (λ n. Needs step n old) so_far.done m rest (subst (AllByRecursion (λ n. Needs step n old)) so_far.split all))

  -- folders that are made for one log are among those made for all
  pub logs_wider : (x : Tree) → FoldersOnlyOf (logs_of m) now x → FoldersOnlyOf (log_paths moves) now x
  logs_wider x only = only_weaker (logs_of m) (log_paths moves) now x (λ path among. subst (λ ms. Contains (log_paths ms) path) (sym so_far.split) (own_logs so_far.done m rest path among)) only

-- ---- what is needed after all updates
kept_shown : (act : Act) (c : Contents) → IsSome c.lock → KeepsLock act (shown act c)
kept_shown (acts.Put line) c held = tt
kept_shown (acts.Note line) c held = tt
kept_shown (acts.Pack line) c held = held
kept_shown acts.Remove c held = held
kept_shown acts.Forget c held = held

pub locks_kept : (moves : List Move) (old then : Tree) → AllByRecursion (λ m. contents m then ≡ shown m.act (contents m old)) moves → AllByRecursion (λ m. CanMove m old) moves → AllByRecursion (λ m. Needs Remove m then) moves
locks_kept moves old then made can =
    all_both (λ m. contents m then ≡ shown m.act (contents m old)) (λ m. CanMove m old) (λ m. Needs Remove m then) moves
    (λ m is has. subst (KeepsLock m.act) (sym is) (kept_shown m.act (contents m old) has.held)) made can

pub replace_stays : (t : Option Transaction) (moves : List Move) (old mid : Tree) → Once (commit_paths t moves) → AreBeside (commit_paths t moves) → FoldersOnlyOf (log_paths moves) old mid
    → ((path : Bytes) → IsNone path (all_paths moves) → file_at mid path ≡ file_at old path) → CanReplace t old → CanReplace t mid
replace_stays None moves old mid once beside only others can = tt
replace_stays (Some t) moves old mid once beside only others can = (
  ap is_some (others (packed.lock_path_of t) (packed_lock_apart t moves once)) ∙ can.0,
  room_stays (packed.place_of t) (log_paths moves) old mid can.1 only (λ other log.
      let is = moves_among (Some t) moves other (logs_among moves other log) in
      let own = among_first (packed.place_of t) (packed.lock_path_of t ∷ all_paths moves) in
      (beside other (packed.place_of t) is own, beside (packed.place_of t) other own is)),
)

pub locked_stays : (t : Option Transaction) (moves : List Move) (old mid : Tree) → Once (commit_paths t moves) → ((path : Bytes) → IsNone path (all_paths moves) → file_at mid path ≡ file_at old path) → CanReplace t old → PackedLocked t mid
locked_stays None moves old mid once others can = tt
locked_stays (Some t) moves old mid once others can = ap is_some (others (packed.lock_path_of t) (packed_lock_apart t moves once)) ∙ can.0
