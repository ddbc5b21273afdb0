-- What the steps of a commit leave.
use Rattle.std.proofs.Common.{◌≡◌, ◌≢◌, ◌⊎◌, inl, inr, refl, sym, ◌∙◌, ap, subst, cond, List, [], ◌∷◌, Option, Some, None}
use Rattle.std.specs.Prelude.{unwrap_or}
use Rattle.std.specs.List.{AllByRecursion}
use Rattle.gix_ref_file.specs.Tree.{Tree}
use Rattle.gix_ref_lock.specs.PackedEdits as packed
use Rattle.gix_ref_lock.specs.declared.packed.Transaction.{Transaction}
use Rattle.gix_ref_way.specs.Ways.{Bytes, file_at}
use Rattle.gix_ref_lock.specs.Contents.{Contents, contents, updated, forgotten, removed, moved, IsBetween, place_of, lock_path_of, log_path_of}
use Rattle.gix_ref_lock.specs.Moments.{IsUpdating, IsForgetting, IsRemoving}
use Rattle.gix_ref_lock.specs.Moves.{all_paths, IsNone, Once, AllHave, AllMay}
use Rattle.gix_ref_lock.specs.Committing.{packed_paths, commit_paths, packed_end, PackedStays, PackedIsNew, PackedUnlocked, Shows, StaysYet, FileStays, LogGone, EachOf, UpdatesFirst, RecordsFirst, LogsFirst, IsShowing, OnTheWay, IsCommitted, shown, LocksAlone, MayReplace, Replaces, KeepsPacked}
use Rattle.gix_ref_lock.specs.declared.act.Act.{Act}
use Rattle.gix_ref_lock.specs.declared.act.Move.{Move}
use Rattle.gix_ref_lock.proofs.PathLists.{AllSame, all_both, all_of, all_weaker}
use Rattle.gix_ref_lock.proofs.ActWays.{begin_between, begin_stays, begin_files, up_between, up_stays, up_files, forget_between, forget_shows, forget_files, shown_between, shown_shows, shown_files, shown_gone, remove_between, remove_shows, remove_gone, still_between, still_shows, still_stays, still_files, still_gone}

abbrev Related : Type 1
Related = Act → Contents → Contents → Type 0

each_weaker : (R S : Related) (ms : List Move) (old x : Tree) → ((act : Act) (c d : Contents) → R act c d → S act c d) → EachOf R ms old x → EachOf S ms old x
each_weaker R S ms old x f each = all_weaker (λ m. R m.act (contents m old) (contents m x)) (λ m. S m.act (contents m old) (contents m x)) ms (λ m. f m.act (contents m old) (contents m x)) each

each_after : (f : Act → Contents → Contents) (R S : Related) (ms : List Move) (old mid x : Tree) → ((act : Act) (c d : Contents) → R act (f act c) d → S act c d)
    → AllByRecursion (λ m. contents m mid ≡ f m.act (contents m old)) ms → EachOf R ms mid x → EachOf S ms old x
each_after f R S ms old mid x then made each =
    all_both (λ m. contents m mid ≡ f m.act (contents m old)) (λ m. R m.act (contents m mid) (contents m x)) (λ m. S m.act (contents m old) (contents m x)) ms
    (λ m is r. then m.act (contents m old) (contents m x) (subst (λ c. R m.act c (contents m x)) is r)) made each

each_still : (R : Related) (ms : List Move) (old mid x : Tree) → ((act : Act) (c d e : Contents) → LocksAlone act d e → R act c d → R act c e) → EachOf R ms old mid → EachOf LocksAlone ms mid x → EachOf R ms old x
each_still R ms old mid x still each locks =
    all_both (λ m. R m.act (contents m old) (contents m mid)) (λ m. LocksAlone m.act (contents m mid) (contents m x)) (λ m. R m.act (contents m old) (contents m x)) ms
    (λ m r l. still m.act (contents m old) (contents m mid) (contents m x) l r) each locks

none_of_moves : (t : Option Transaction) (ms : List Move) (path : Bytes) → IsNone path (commit_paths t ms) → IsNone path (all_paths ms)
none_of_moves None ms path none = none
none_of_moves (Some t) ms path none = none.1.1

none_of_packed : (t : Option Transaction) (ms : List Move) (path : Bytes) → IsNone path (commit_paths t ms) → IsNone path (packed_paths t)
none_of_packed None ms path none = tt
none_of_packed (Some t) ms path none = (none.0, (none.1.0, tt))

pub once_moves : (t : Option Transaction) (ms : List Move) → Once (commit_paths t ms) → Once (all_paths ms)
once_moves None ms once = once
once_moves (Some t) ms once = once.1.1

-- ---- if nothing happened
pub way_begins : (t : Option Transaction) (ms : List Move) (tree : Tree) → OnTheWay t ms tree tree
way_begins t ms tree = record {
  each = all_of (λ m. IsBetween m.act (contents m tree) (contents m tree)) ms (λ m. begin_between m.act (contents m tree));
  order = inl (all_of (λ m. StaysYet m.act (contents m tree) (contents m tree)) ms (λ m. begin_stays m.act (contents m tree)), packed_begins t);
  records = inl (all_of (λ m. FileStays m.act (contents m tree) (contents m tree)) ms (λ m. begin_files m.act (contents m tree)));
  logs_first = inl (packed_begins t);
  packed = inl (packed_begins t);
  others = λ path none. refl;
}
  where
    packed_begins : (t : Option Transaction) → PackedStays t tree tree
    packed_begins None = tt
    packed_begins (Some t) = refl

-- ---- updates, and logs that are removed
pub updating : (ms : List Move) (old x : Tree) → AllMay IsUpdating ms old x → IsShowing ms old x
updating ms old x may = record {
  way = record {
    each = each_weaker IsUpdating IsBetween ms old x up_between may.each;
    order = inl (each_weaker IsUpdating StaysYet ms old x up_stays may.each, tt);
    records = inr tt;
    logs_first = inl tt;
    packed = inl tt;
    others = may.others;
  };
  files = each_weaker IsUpdating FileStays ms old x up_files may.each;
}

pub forgetting : (ms : List Move) (old mid : Tree) → AllHave updated ms old mid → (x : Tree) → AllMay IsForgetting ms mid x → IsShowing ms old x
forgetting ms old mid made x may = record {
  way = record {
    each = each_after updated IsForgetting IsBetween ms old mid x forget_between made.each may.each;
    order = inr (each_after updated IsForgetting Shows ms old mid x forget_shows made.each may.each);
    records = inr tt;
    logs_first = inl tt;
    packed = inl tt;
    others = λ path none. may.others path none ∙ made.others path none;
  };
  files = each_after updated IsForgetting FileStays ms old mid x forget_files made.each may.each;
}

pub is_shown : (ms : List Move) (old mid new : Tree) → AllHave updated ms old mid → AllHave forgotten ms mid new → AllHave shown ms old new
is_shown ms old mid new made gone = record {
  each = all_both (λ m. contents m mid ≡ updated m.act (contents m old)) (λ m. contents m new ≡ forgotten m.act (contents m mid)) (λ m. contents m new ≡ shown m.act (contents m old)) ms
      (λ m first second. second ∙ ap (forgotten m.act) first) made.each gone.each;
  others = λ path none. gone.others path none ∙ made.others path none;
}

-- ---- packed records
packed_apart : (t : Transaction) (ms : List Move) → Once (commit_paths (Some t) ms) → IsNone (packed.place_of t) (all_paths ms)
packed_apart t ms once = once.0.1

pub packed_lock_apart : (t : Transaction) (ms : List Move) → Once (commit_paths (Some t) ms) → IsNone (packed.lock_path_of t) (all_paths ms)
packed_lock_apart t ms once = once.1.0

-- if only the moves' files changed, the packed ones are the same
packed_same : (t : Option Transaction) (ms : List Move) (old new : Tree) → Once (commit_paths t ms) → ((path : Bytes) → IsNone path (all_paths ms) → file_at new path ≡ file_at old path) → PackedStays t old new
packed_same None ms old new once others = tt
packed_same (Some t) ms old new once others = others (packed.place_of t) (packed_apart t ms once)

end_same : (t : Transaction) (ms : List Move) (old mid : Tree) → Once (commit_paths (Some t) ms) → ((path : Bytes) → IsNone path (all_paths ms) → file_at mid path ≡ file_at old path) → packed_end t mid ≡ packed_end t old
end_same t ms old mid once others =
    let lock = ap (λ f. Some (unwrap_or f [])) (others (packed.lock_path_of t) (packed_lock_apart t ms once)) in
    let place = others (packed.place_of t) (packed_apart t ms once) in
    λ i. cond t.is_written (lock i) (place i)

stays_on : (t : Option Transaction) (old mid x : Tree) → PackedStays t old mid → PackedStays t mid x → PackedStays t old x
stays_on None old mid x first second = tt
stays_on (Some t) old mid x first second = second ∙ first

new_on : (t : Option Transaction) (old mid x : Tree) → PackedIsNew t old mid → PackedStays t mid x → PackedIsNew t old x
new_on None old mid x first second = tt
new_on (Some t) old mid x first second = second ∙ first

unlocked_on : (t : Option Transaction) (ms : List Move) (mid new : Tree) → Once (commit_paths t ms) → PackedUnlocked t mid → ((path : Bytes) → IsNone path (all_paths ms) → file_at new path ≡ file_at mid path) → PackedUnlocked t new
unlocked_on None ms mid new once gone others = tt
unlocked_on (Some t) ms mid new once gone others = others (packed.lock_path_of t) (packed_lock_apart t ms once) ∙ gone

new_after : (t : Option Transaction) (ms : List Move) (old mid x : Tree) → Once (commit_paths t ms) → ((path : Bytes) → IsNone path (all_paths ms) → file_at mid path ≡ file_at old path) → PackedIsNew t mid x → PackedIsNew t old x
new_after None ms old mid x once others new = tt
new_after (Some t) ms old mid x once others new = new ∙ end_same t ms old mid once others

either_on : (t : Option Transaction) (old mid x : Tree) → PackedStays t old mid ⊎ PackedIsNew t old mid → PackedStays t mid x → PackedStays t old x ⊎ PackedIsNew t old x
either_on t old mid x (inl stays) second = inl (stays_on t old mid x stays second)
either_on t old mid x (inr new) second = inr (new_on t old mid x new second)

-- the paths of the moves are none of the packed ones
turned : {p q : Bytes} → p ≢ q → q ≢ p
turned apart e = apart (sym e)

none_packed : (t : Option Transaction) (m : Move) (ms : List Move) → Once (commit_paths t (m ∷ ms)) → IsNone (place_of m) (packed_paths t) × IsNone (lock_path_of m) (packed_paths t) × IsNone (log_path_of m) (packed_paths t)
none_packed None m ms once = (tt, tt, tt)
none_packed (Some t) m ms once = (
  (turned once.0.1.0, (turned once.1.0.0, tt)),
  (turned once.0.1.1.0, (turned once.1.0.1.0, tt)),
  (turned once.0.1.1.1.0, (turned once.1.0.1.1.0, tt)),
)

once_less : (t : Option Transaction) (m : Move) (ms : List Move) → Once (commit_paths t (m ∷ ms)) → Once (commit_paths t ms)
once_less None m ms once = once.1.1.1
once_less (Some t) m ms once = ((once.0.0, once.0.1.1.1.1), (once.1.0.1.1.1, once.1.1.1.1.1))

-- if only the packed files changed, those of the moves are the same
moves_same : (t : Option Transaction) (ms : List Move) (old new : Tree) → Once (commit_paths t ms) → ((path : Bytes) → IsNone path (packed_paths t) → file_at new path ≡ file_at old path) → AllSame ms old new
moves_same t [] old new once others = tt
moves_same t (m ∷ ms) old new once others =
    let none = none_packed t m ms once in
    let file = others (place_of m) none.0 in
    let lock = others (lock_path_of m) none.1 in
    let log = others (log_path_of m) none.2 in
    (λ i. record { file = file i; log = log i; lock = lock i }, moves_same t ms old new (once_less t m ms once) others)

locks_same : (ms : List Move) (old new : Tree) → AllSame ms old new → EachOf LocksAlone ms old new
locks_same ms old new same = all_weaker (λ m. contents m new ≡ contents m old) (λ m. LocksAlone m.act (contents m old) (contents m new)) ms (λ m is. (ap (λ c. c.file) is, ap (λ c. c.log) is)) same

-- ---- more on the way
order_on : (t : Option Transaction) (ms : List Move) (old mid x : Tree) → UpdatesFirst t ms old mid → EachOf LocksAlone ms mid x → PackedStays t mid x → UpdatesFirst t ms old x
order_on t ms old mid x (inl (stays, packed)) locks second = inl (each_still StaysYet ms old mid x still_stays stays locks, stays_on t old mid x packed second)
order_on t ms old mid x (inr shows) locks second = inr (each_still Shows ms old mid x still_shows shows locks)

records_on : (t : Option Transaction) (ms : List Move) (old mid x : Tree) → RecordsFirst t ms old mid → EachOf LocksAlone ms mid x → PackedStays t mid x → RecordsFirst t ms old x
records_on t ms old mid x (inl files) locks second = inl (each_still FileStays ms old mid x still_files files locks)
records_on t ms old mid x (inr new) locks second = inr (new_on t old mid x new second)

logs_on : (t : Option Transaction) (ms : List Move) (old mid x : Tree) → LogsFirst t ms old mid → EachOf LocksAlone ms mid x → PackedStays t mid x → LogsFirst t ms old x
logs_on t ms old mid x (inl packed) locks second = inl (stays_on t old mid x packed second)
logs_on t ms old mid x (inr (shows, gone)) locks second = inr (each_still Shows ms old mid x still_shows shows locks, each_still LogGone ms old mid x still_gone gone locks)

-- locks that are removed
pub way_goes_on : (t : Option Transaction) (ms : List Move) (old mid x : Tree) → OnTheWay t ms old mid → EachOf LocksAlone ms mid x → PackedStays t mid x → ((path : Bytes) → IsNone path (commit_paths t ms) → file_at x path ≡ file_at mid path) → OnTheWay t ms old x
way_goes_on t ms old mid x way locks second others = record {
  each = each_still IsBetween ms old mid x still_between way.each locks;
  order = order_on t ms old mid x way.order locks second;
  records = records_on t ms old mid x way.records locks second;
  logs_first = logs_on t ms old mid x way.logs_first locks second;
  packed = either_on t old mid x way.packed second;
  others = λ path none. others path none ∙ way.others path none;
}

pub way_given_back : (t : Option Transaction) (ms : List Move) (old mid x : Tree) → Once (commit_paths t ms) → OnTheWay t ms old mid → AllMay LocksAlone ms mid x → OnTheWay t ms old x
way_given_back t ms old mid x once way may =
    way_goes_on t ms old mid x way may.each (packed_same t ms mid x once may.others) (λ path none. may.others path (none_of_moves t ms path none))

pub way_dropped : (t : Option Transaction) (ms : List Move) (old mid x : Tree) → Once (commit_paths t ms) → OnTheWay t ms old mid → KeepsPacked t mid x → OnTheWay t ms old x
way_dropped t ms old mid x once way keeps =
    way_goes_on t ms old mid x way (locks_same ms mid x (moves_same t ms mid x once keeps.others)) keeps.packed (λ path none. keeps.others path (none_of_packed t ms path none))

-- with packed records whose files are not those of moves
pub wider : (t : Option Transaction) (ms : List Move) (old x : Tree) → Once (commit_paths t ms) → IsShowing ms old x → OnTheWay t ms old x
wider t ms old x once showing = record {
  each = showing.way.each;
  order = by_order showing.way.order;
  records = inl showing.files;
  logs_first = inl packed_is;
  packed = inl packed_is;
  others = λ path none. showing.way.others path (none_of_moves t ms path none);
}
  where
    packed_is : PackedStays t old x
    packed_is = packed_same t ms old x once showing.way.others

    by_order : UpdatesFirst None ms old x → UpdatesFirst t ms old x
    by_order (inl (stays, none)) = inl (stays, packed_is)
    by_order (inr shows) = inr shows

-- ---- packed records replaced
module _ (t : Option Transaction) (ms : List Move) (old mid : Tree) (once : Once (commit_paths t ms)) (made : AllHave shown ms old mid) where
  same_shown : (x : Tree) → AllSame ms mid x → AllByRecursion (λ m. contents m x ≡ shown m.act (contents m old)) ms
  same_shown x same = all_both (λ m. contents m mid ≡ shown m.act (contents m old)) (λ m. contents m x ≡ contents m mid) (λ m. contents m x ≡ shown m.act (contents m old)) ms (λ m first second. second ∙ first) made.each same

  pub replacing : (x : Tree) → MayReplace t mid x → OnTheWay t ms old x
  replacing x may = record {
    each = all_weaker (λ m. contents m x ≡ shown m.act (contents m old)) (λ m. IsBetween m.act (contents m old) (contents m x)) ms
        (λ m is. subst (IsBetween m.act (contents m old)) (sym is) (shown_between m.act (contents m old))) (same_shown x same);
    order = inr shows;
    records = inl (all_weaker (λ m. contents m x ≡ shown m.act (contents m old)) (λ m. FileStays m.act (contents m old) (contents m x)) ms
        (λ m is. subst (FileStays m.act (contents m old)) (sym is) (shown_files m.act (contents m old))) (same_shown x same));
    logs_first = inr (
      shows,
      all_weaker (λ m. contents m x ≡ shown m.act (contents m old)) (λ m. LogGone m.act (contents m old) (contents m x)) ms
          (λ m is. subst (LogGone m.act (contents m old)) (sym is) (shown_gone m.act (contents m old))) (same_shown x same),
    );
    packed = by_case may.packed;
    others = λ path none. may.others path (none_of_packed t ms path none) ∙ made.others path (none_of_moves t ms path none);
  }
    where
      same : AllSame ms mid x
      same = moves_same t ms mid x once may.others

      shows : EachOf Shows ms old x
      shows = all_weaker (λ m. contents m x ≡ shown m.act (contents m old)) (λ m. Shows m.act (contents m old) (contents m x)) ms
          (λ m is. subst (Shows m.act (contents m old)) (sym is) (shown_shows m.act (contents m old))) (same_shown x same)

      by_case : PackedStays t mid x ⊎ PackedIsNew t mid x → PackedStays t old x ⊎ PackedIsNew t old x
      by_case (inl stays) = inl (stays_on t old mid x (packed_same t ms old mid once made.others) stays)
      by_case (inr new) = inr (new_after t ms old mid x once made.others new)

  -- ---- files that are removed
  module _ (then : Tree) (replaced : Replaces t mid then) where
    pub then_shown : AllByRecursion (λ m. contents m then ≡ shown m.act (contents m old)) ms
    then_shown = same_shown then (moves_same t ms mid then once replaced.others)

    then_new : PackedIsNew t old then
    then_new = new_after t ms old mid then once made.others replaced.packed

    then_others : (path : Bytes) → IsNone path (commit_paths t ms) → file_at then path ≡ file_at old path
    then_others path none = replaced.others path (none_of_packed t ms path none) ∙ made.others path (none_of_moves t ms path none)

    pub removing : (x : Tree) → AllMay IsRemoving ms then x → OnTheWay t ms old x
    removing x may = record {
      each = each_after shown IsRemoving IsBetween ms old then x remove_between then_shown may.each;
      order = inr shows;
      records = inr (new_on t old then x then_new (packed_same t ms then x once may.others));
      logs_first = inr (shows, each_after shown IsRemoving LogGone ms old then x remove_gone then_shown may.each);
      packed = inr (new_on t old then x then_new (packed_same t ms then x once may.others));
      others = λ path none. may.others path (none_of_moves t ms path none) ∙ then_others path none;
    }
      where
        shows : EachOf Shows ms old x
        shows = each_after shown IsRemoving Shows ms old then x remove_shows then_shown may.each

    pub is_committed : (new : Tree) → AllHave removed ms then new → IsCommitted t ms old new
    is_committed new gone = record {
      each = all_both (λ m. contents m then ≡ shown m.act (contents m old)) (λ m. contents m new ≡ removed m.act (contents m then)) (λ m. contents m new ≡ moved m.act (contents m old)) ms
          (λ m first second. second ∙ ap (removed m.act) first) then_shown gone.each;
      packed = new_on t old then new then_new (packed_same t ms then new once gone.others);
      unlocked = unlocked_on t ms then new once replaced.unlocked gone.others;
      others = λ path none. gone.others path (none_of_moves t ms path none) ∙ then_others path none;
    }
