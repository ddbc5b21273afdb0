-- A commit of edits, moment by moment.
use Rattle.std.proofs.Common.{◌≡◌, ◌≢◌, ◌⊎◌, inl, inr, true, false, List, [], ◌∷◌, ◌++◌, map, take, refl, sym, ◌∙◌, ap, subst, Option, Some, None, unwrap_or, bytes_eq, codes, ℕ, Vec}
use Rattle.std.specs.List.{AllByRecursion, list_any}
use Rattle.std.specs.declared.alloc.Global.{Global}
use Rattle.std.proofs.lemmas.Bool.{or_parts, or_from}
use Rattle.gix_hash.specs.declared.kind.Kind.{Kind}
use Rattle.gix_ref_file.specs.Tree.{Tree, bytes_at}
use Rattle.gix_ref_lock.specs.PackedEdits as packed
use Rattle.gix_ref_lock.specs.declared.packed.Transaction.{Transaction}
use Rattle.gix_ref_lock.specs.Committing.{OnTheWay, IsCommitted, EachOf, Shows, StaysYet, FileStays, LogGone, PackedStays, PackedIsNew, commit_paths}
use Rattle.gix_ref_lock.specs.Contents.{Contents, IsBetween, contents, noted, moved as moved_by, place_of, lock_path_of, log_path_of}
use Rattle.gix_ref_lock.specs.Moments.{SameButLocks}
use Rattle.gix_ref_lock.specs.Moves.{IsNone, all_paths}
use Rattle.gix_ref_lock.specs.declared.act.Act.{Act}
use Rattle.gix_ref_lock.specs.declared.act.Act.TheVariants.{Put, Remove}
use Rattle.gix_ref_lock.specs.declared.act.Move.{Move}
use Rattle.history_model.specs.Bytes.{Bytes, line}
use Rattle.history_model.specs.Forms.{is_name}
use Rattle.history_model.specs.Logs.{log_line}
use Rattle.history_model.specs.Objects.{hex}
use Rattle.history_model.specs.Places.{file_at, packed_place, log_place, is_lock_file}
use Rattle.history_model.proofs.NameLemmas.{ends_after, name-lock, log-lock}
use Rattle.history_model.proofs.PlaceLemmas.{apart_texts, texts_apart}
use Rattle.history_model.proofs.WholeLists.{either}
use Rattle.history_layout.specs.EditSteps.{MovedName, NameMoved, HasGone, NameMoves, NameGoes, MayGo, ShowsMove, edited_names}
use Rattle.history_layout.specs.TakeSteps.{LacksRecord, TakesRecord}
use Rattle.history_layout.proofs.TreeMoves.{packed_apart, packed_no_log}
use Rattle.history_edits.specs.Bridges.{records_end}
use Rattle.history_edits.specs.EditCommits.{PutsName, RemovesName, AreMovesOf, IsOfRecords, RecordsGo, IsReady, IsLineFor, ReadyingPasses, CommitPasses, CommitMakes}

-- ---- locks

pub lock_is : (made : Move) → is_lock_file (lock_path_of made) ≡ true
lock_is made = ap (λ t. is_lock_file t) made.lock.beside ∙ ends_after (place_of made) (codes ".lock")

pub packed_lock_is : (t : Transaction) → is_lock_file (packed.lock_path_of t) ≡ true
packed_lock_is t = ap (λ p. is_lock_file p) t.lock.beside ∙ ends_after (packed.place_of t) (codes ".lock")

pub no_lock : (path lock : Bytes) → is_lock_file path ≡ false → is_lock_file lock ≡ true → path ≢ lock
no_lock path lock plain is same = absurd (cc (sym is ∙ sym (ap (λ t. is_lock_file t) same) ∙ plain))

-- ---- while edits are made ready

all_named : (P : Bytes → Type 0) (moved : List MovedName) (taken : Option Bytes) → AllByRecursion P (edited_names moved taken) → AllByRecursion (λ (m : MovedName). P m.name) moved
all_named P [] taken h = tt
all_named P (m ∷ moved) taken h = (h.0, all_named P moved taken h.1)

pub last_named : (P : Bytes → Type 0) (moved : List MovedName) (name : Bytes) → AllByRecursion P (edited_names moved (Some name)) → P name
last_named P [] name h = h.0
last_named P (m ∷ moved) name h = last_named P moved name h.1

module _ (kind : Kind) (moved : List MovedName) (old tree : Tree) (same : SameButLocks old tree) where
  none_moved : (ms : List MovedName) → AllByRecursion (λ (m : MovedName). is_name m.name ≡ true) ms → AllByRecursion (NameMoves old tree) ms
  none_moved [] named = tt
  none_moved (m ∷ ms) named = (record { here = inl (same m.name (name-lock m.name named.0)); log = inl (same (log_place m.name) (log-lock m.name named.0)) }, none_moved ms named.1)

  none_gone : (taken : Option Bytes) → AllByRecursion (λ name. is_name name ≡ true) (edited_names moved taken) → MayGo kind moved taken old tree
  none_gone None named = same packed_place refl
  none_gone (Some name) named =
      let is_one = last_named (λ n. is_name n ≡ true) moved name named in
      let log = same (log_place name) (log-lock name is_one) in
      let here = same name (name-lock name is_one) in
      record { log = inl log; packed = inl (same packed_place refl); here = inl here; order = inl (log, same packed_place refl, here) }

pub readying_passes : ReadyingPasses
readying_passes kind moved taken old tree named same folders = record {
  each = none_moved kind moved old tree same moved (all_named (λ n. is_name n ≡ true) moved taken named);
  gone = none_gone kind moved old tree same taken named;
  others = λ path apart logs not_packed plain. same path plain;
  folders = folders;
}

-- ---- one name moves

module _ (m : MovedName) (old locked tree : Tree) (made : Move) (puts : PutsName m locked made) (named : is_name m.name ≡ true) (locks : SameButLocks old locked) where
  here_was : file_at locked (place_of made) ≡ file_at old m.name
  here_was = ap (file_at locked) puts.place ∙ locks m.name (name-lock m.name named)

  log_was : file_at locked (log_path_of made) ≡ file_at old (log_place m.name)
  log_was = ap (file_at locked) puts.log ∙ locks (log_place m.name) (log-lock m.name named)

  here_now : file_at tree m.name ≡ file_at tree (place_of made)
  here_now = ap (file_at tree) (sym puts.place)

  log_now : file_at tree (log_place m.name) ≡ file_at tree (log_path_of made)
  log_now = ap (file_at tree) (sym puts.log)

  new_text : Some (unwrap_or (file_at locked (lock_path_of made)) []) ≡ Some (line (hex m.entry.after))
  new_text = ap (λ o. Some (unwrap_or o [])) puts.text

  grown : (more : Bytes) → Some (unwrap_or (file_at locked (log_path_of made)) [] ++ more) ≡ Some (bytes_at old (log_place m.name) ++ more)
  grown more = ap (λ o. Some (unwrap_or o [] ++ more)) log_was

  by_line : (l : Option (Vec ℕ Global)) → IsLineFor m l → IsBetween (Put l) (contents made locked) (contents made tree) → NameMoves old tree m
  by_line None told way = record {
    here = elim way.file [
      | inl same ↦ inl (here_now ∙ same ∙ here_was)
      | inr new ↦ inr (here_now ∙ new.0 ∙ new_text, λ differ. absurd (differ told))
    ];
    log = inl (log_now ∙ way.log ∙ log_was);
  }
  by_line (Some l) told way = record {
    here = elim way.file [
      | inl same ↦ inl (here_now ∙ same ∙ here_was)
      | inr new ↦ inr (here_now ∙ new.0 ∙ new_text, λ differ. log_now ∙ new.1 ∙ grown l.items ∙ ap (λ t. Some (bytes_at old (log_place m.name) ++ t)) told.1)
    ];
    log = elim way.log [
      | inl same ↦ inl (log_now ∙ same ∙ log_was)
      | inr more ↦ inr (told.0, (more.0, log_now ∙ more.1 ∙ grown (take more.0 l.items) ∙ ap (λ t. Some (bytes_at old (log_place m.name) ++ take more.0 t)) told.1))
    ];
  }

  one_moves : IsBetween made.act (contents made locked) (contents made tree) → NameMoves old tree m
  one_moves way = by_line puts.line puts.told (subst (λ act. IsBetween act (contents made locked) (contents made tree)) puts.act way)

  one_shows : Shows made.act (contents made locked) (contents made tree) → ShowsMove tree m
  one_shows shows = here_now ∙ (subst (λ act. Shows act (contents made locked) (contents made tree)) puts.act shows).0 ∙ new_text

-- ---- all of them

module _ (old locked tree : Tree) (locks : SameButLocks old locked) where
  each_moves : (moved : List MovedName) (taken : Option Bytes) (moves : List Move) → AreMovesOf moved taken locked moves → AllByRecursion (λ name. is_name name ≡ true) (edited_names moved taken)
      → EachOf IsBetween moves locked tree → AllByRecursion (NameMoves old tree) moved
  each_moves [] taken moves are named each = tt
  each_moves (m ∷ moved) taken [] are named each = absurd are
  each_moves (m ∷ moved) taken (made ∷ moves) are named each = (one_moves m old locked tree made are.0 named.0 locks each.0, each_moves moved taken moves are.1 named.1 each.1)

  each_shows : (moved : List MovedName) (taken : Option Bytes) (moves : List Move) → AreMovesOf moved taken locked moves → AllByRecursion (λ name. is_name name ≡ true) (edited_names moved taken)
      → EachOf Shows moves locked tree → AllByRecursion (ShowsMove tree) moved
  each_shows [] taken moves are named each = tt
  each_shows (m ∷ moved) taken [] are named each = absurd are
  each_shows (m ∷ moved) taken (made ∷ moves) are named each = (one_shows m old locked tree made are.0 named.0 locks each.0, each_shows moved taken moves are.1 named.1 each.1)

  -- what is said of each move is said of the one that removes
  abbrev Removed : (Act → Contents → Contents → Type 0) → Bytes → Type 0
  Removed Rel name = (made : Move) × RemovesName name made × Rel Remove (contents made locked) (contents made tree)

  removed : (Rel : Act → Contents → Contents → Type 0) (moved : List MovedName) (name : Bytes) (moves : List Move) → AreMovesOf moved (Some name) locked moves → EachOf Rel moves locked tree → Removed Rel name
  removed Rel [] name [] are each = absurd are
  removed Rel [] name (made ∷ moves) are each = (made, are.0, subst (λ act. Rel act (contents made locked) (contents made tree)) are.0.act each.0)
  removed Rel (m ∷ moved) name [] are each = absurd are
  removed Rel (m ∷ moved) name (made ∷ moves) are each = removed Rel moved name moves are.1 each.1

  -- a path of none of the names is none of the moves'
  none_of_moves : (path : Bytes) (moved : List MovedName) (taken : Option Bytes) (moves : List Move) → AreMovesOf moved taken locked moves → is_lock_file path ≡ false
      → list_any (bytes_eq path) (edited_names moved taken) ≡ false → list_any (bytes_eq path) (map log_place (edited_names moved taken)) ≡ false → IsNone path (all_paths moves)
  none_of_moves path [] None moves are plain names logs = subst (λ ms. IsNone path (all_paths ms)) (sym are) tt
  none_of_moves path [] (Some name) [] are plain names logs = absurd are
  none_of_moves path [] (Some name) (made ∷ moves) are plain names logs = (
    λ same. apart_texts path name (or_parts (bytes_eq path name) false names).0 (same ∙ are.0.place),
    (
      no_lock path (lock_path_of made) plain (lock_is made),
      (
        λ same. apart_texts path (log_place name) (or_parts (bytes_eq path (log_place name)) false logs).0 (same ∙ are.0.log),
        subst (λ ms. IsNone path (all_paths ms)) (sym are.1) tt,
      ),
    ),
  )
  none_of_moves path (m ∷ moved) taken [] are plain names logs = absurd are
  none_of_moves path (m ∷ moved) taken (made ∷ moves) are plain names logs =
      let own = or_parts (bytes_eq path m.name) (list_any (bytes_eq path) (edited_names moved taken)) names in
      let own_log = or_parts (bytes_eq path (log_place m.name)) (list_any (bytes_eq path) (map log_place (edited_names moved taken))) logs in (
        λ same. apart_texts path m.name own.0 (same ∙ are.0.place),
        (
          no_lock path (lock_path_of made) plain (lock_is made),
          (
            λ same. apart_texts path (log_place m.name) own_log.0 (same ∙ are.0.log),
            none_of_moves path moved taken moves are.1 plain own.1 own_log.1,
          ),
        ),
      )

  pub none_of_all : (path : Bytes) (t : Option Transaction) (moves : List Move) → IsOfRecords t → is_lock_file path ≡ false → path ≢ packed_place → IsNone path (all_paths moves) → IsNone path (commit_paths t moves)
  none_of_all path None moves at plain apart none = none
  none_of_all path (Some t) moves at plain apart none = (λ same. apart (same ∙ at), (no_lock path (packed.lock_path_of t) plain (packed_lock_is t), none))

  -- `packed-refs` is none of the names and none of their logs
  pub records_apart : (names : List Bytes) → AllByRecursion (λ name. is_name name ≡ true) names → (list_any (bytes_eq packed_place) names ≡ false) × (list_any (bytes_eq packed_place) (map log_place names) ≡ false)
  records_apart [] named = (refl, refl)
  records_apart (n ∷ names) named =
      let rest = records_apart names named.1 in (
        or_from (bytes_eq packed_place n) (list_any (bytes_eq packed_place) names) (texts_apart packed_place n (packed_apart n named.0)) rest.0,
        or_from (bytes_eq packed_place (log_place n)) (list_any (bytes_eq packed_place) (map log_place names)) (texts_apart packed_place (log_place n) (packed_no_log n)) rest.1,
      )

module _ (kind : Kind) (moved : List MovedName) (taken : Option Bytes) (old locked tree : Tree) (t : Option Transaction) (moves : List Move) (ready : IsReady kind moved taken old locked t moves)
    (rest : (path : Bytes) → IsNone path (commit_paths t moves) → file_at tree path ≡ file_at locked path) where
  packed_was : file_at locked packed_place ≡ file_at old packed_place
  packed_was = ready.locks packed_place refl

  -- if records aren't locked they are as before
  pub unlocked : t ≡ None → file_at tree packed_place ≡ file_at old packed_place
  unlocked none =
      let apart = records_apart old locked tree ready.locks (edited_names moved taken) ready.named in
      rest packed_place (subst (λ o. IsNone packed_place (commit_paths o moves)) (sym none) (none_of_moves old locked tree ready.locks packed_place moved taken moves ready.moves_are refl apart.0 apart.1)) ∙ packed_was

  stayed : PackedStays t locked tree → file_at tree packed_place ≡ file_at old packed_place
  stayed stays = go t refl ready.at_records stays
    where
      go : (o : Option Transaction) → t ≡ o → IsOfRecords o → PackedStays o locked tree → file_at tree packed_place ≡ file_at old packed_place
      go None is at h = unlocked is
      go (Some x) is at h = ap (file_at tree) (sym at) ∙ h ∙ ap (file_at locked) at ∙ packed_was

  -- if they are new they are those of the end
  ended : PackedIsNew t locked tree → file_at tree packed_place ≡ records_end old locked t
  ended new = go t refl ready.at_records new
    where
      go : (o : Option Transaction) → t ≡ o → IsOfRecords o → PackedIsNew o locked tree → file_at tree packed_place ≡ records_end old locked o
      go None is at h = unlocked is
      go (Some x) is at h = ap (file_at tree) (sym at) ∙ h

  others : (path : Bytes) → list_any (bytes_eq path) (edited_names moved taken) ≡ false → list_any (bytes_eq path) (map log_place (edited_names moved taken)) ≡ false → path ≢ packed_place → is_lock_file path ≡ false
      → file_at tree path ≡ file_at old path
  others path names logs apart plain =
      rest path (none_of_all old locked tree ready.locks path t moves ready.at_records plain apart (none_of_moves old locked tree ready.locks path moved taken moves ready.moves_are plain names logs)) ∙ ready.locks path plain

-- ---- on the way

module _ (kind : Kind) (moved : List MovedName) (taken : Option Bytes) (old locked tree : Tree) (t : Option Transaction) (moves : List Move) (ready : IsReady kind moved taken old locked t moves) (way : OnTheWay t moves locked tree) where
  as_before : PackedStays t locked tree → file_at tree packed_place ≡ file_at old packed_place
  as_before = stayed kind moved taken old locked tree t moves ready way.others

  in_the_end : PackedIsNew t locked tree → file_at tree packed_place ≡ records_end old locked t
  in_the_end = ended kind moved taken old locked tree t moves ready way.others

  module _ (name : Bytes) (are : AreMovesOf moved (Some name) locked moves) (is_one : is_name name ≡ true) (lacks : LacksRecord kind name (file_at old packed_place) (records_end old locked t))
      (named : AllByRecursion (λ n. is_name n ≡ true) (edited_names moved (Some name))) where
    abbrev Told : (Act → Contents → Contents → Type 0) → Type 0
    Told Rel = (made : Move) × RemovesName name made × Rel Remove (contents made locked) (contents made tree)

    told : (Rel : Act → Contents → Contents → Type 0) → EachOf Rel moves locked tree → Told Rel
    told Rel all = removed old locked tree ready.locks Rel moved name moves are all

    file_same : (made : Move) → RemovesName name made → file_at tree (place_of made) ≡ file_at locked (place_of made) → file_at tree name ≡ file_at old name
    file_same made goes same = ap (file_at tree) (sym goes.place) ∙ same ∙ ap (file_at locked) goes.place ∙ ready.locks name (name-lock name is_one)

    file_none : (made : Move) → RemovesName name made → file_at tree (place_of made) ≡ None → file_at tree name ≡ None
    file_none made goes none = ap (file_at tree) (sym goes.place) ∙ none

    log_same : (made : Move) → RemovesName name made → file_at tree (log_path_of made) ≡ file_at locked (log_path_of made) → file_at tree (log_place name) ≡ file_at old (log_place name)
    log_same made goes same = ap (file_at tree) (sym goes.log) ∙ same ∙ ap (file_at locked) goes.log ∙ ready.locks (log_place name) (log-lock name is_one)

    log_none : (made : Move) → RemovesName name made → file_at tree (log_path_of made) ≡ None → file_at tree (log_place name) ≡ None
    log_none made goes none = ap (file_at tree) (sym goes.log) ∙ none

    taken_then : PackedIsNew t locked tree → TakesRecord kind name old tree
    taken_then new = subst (LacksRecord kind name (file_at old packed_place)) (sym (in_the_end new)) lacks

    log_is : (file_at tree (log_place name) ≡ file_at old (log_place name)) ⊎ (file_at tree (log_place name) ≡ None)
    log_is =
        let own = told IsBetween way.each in
        elim own.2.log [ inl same ↦ inl (log_same own.0 own.1 same) | inr none ↦ inr (log_none own.0 own.1 none) ]

    packed_is : (file_at tree packed_place ≡ file_at old packed_place) ⊎ ((file_at tree (log_place name) ≡ None) × TakesRecord kind name old tree)
    packed_is = elim way.packed [
      | inl stays ↦ inl (as_before stays)
      | inr new ↦ elim way.logs_first [
        | inl stays ↦ inl (as_before stays)
        | inr (shows, gone) ↦ let own = told LogGone gone in inr (log_none own.0 own.1 own.2, taken_then new)
      ]
    ]

    here_is : (file_at tree name ≡ file_at old name) ⊎ ((file_at tree name ≡ None) × (file_at tree (log_place name) ≡ None) × TakesRecord kind name old tree)
    here_is = elim way.records [
      | inl stays ↦ let own = told FileStays stays in inl (file_same own.0 own.1 own.2)
      | inr new ↦
          let own = told IsBetween way.each in
          elim own.2.file [
            | inl same ↦ inl (file_same own.0 own.1 same)
            | inr none ↦ inr (file_none own.0 own.1 none.0, log_none own.0 own.1 none.1, taken_then new)
          ]
    ]

    goes : NameGoes kind moved name old tree
    goes = record {
      log = log_is;
      packed = packed_is;
      here = here_is;
      order = elim way.order [
        | inl (yet, stays) ↦ let own = told StaysYet yet in inl (log_same own.0 own.1 own.2.1, as_before stays, file_same own.0 own.1 own.2.0)
        | inr shows ↦ inr (each_shows old locked tree ready.locks moved (Some name) moves are named shows)
      ];
    }

  gone : (o : Option Bytes) → taken ≡ o → AreMovesOf moved o locked moves → RecordsGo kind o old locked t → AllByRecursion (λ n. is_name n ≡ true) (edited_names moved o) → MayGo kind moved o old tree
  gone None is are records named = unlocked kind moved taken old locked tree t moves ready way.others records
  gone (Some name) is are records named = goes name are (last_named (λ n. is_name n ≡ true) moved name named) records named

pub commit_passes : CommitPasses
commit_passes kind moved taken old locked tree t moves ready way folders = record {
  each = each_moves old locked tree ready.locks moved taken moves ready.moves_are ready.named way.each;
  gone = gone kind moved taken old locked tree t moves ready way taken refl ready.moves_are ready.records ready.named;
  others = others kind moved taken old locked tree t moves ready way.others;
  folders = folders;
}

-- ---- in the end

module _ (m : MovedName) (old locked new : Tree) (made : Move) (puts : PutsName m locked made) (named : is_name m.name ≡ true) (locks : SameButLocks old locked) (is : contents made new ≡ moved_by made.act (contents made locked)) where
  put_so : contents made new ≡ moved_by (Put puts.line) (contents made locked)
  put_so = is ∙ ap (λ act. moved_by act (contents made locked)) puts.act

  log_so : file_at new (log_place m.name) ≡ noted puts.line (file_at locked (log_path_of made))
  log_so = log_now m old locked new made puts named locks ∙ ap (λ (c : Contents). c.log) put_so

  appended : (l : Option (Vec ℕ Global)) → IsLineFor m l → m.entry.before ≢ m.entry.after → noted l (file_at locked (log_path_of made)) ≡ Some (bytes_at old (log_place m.name) ++ log_line m.entry)
  appended None told differ = absurd (differ told)
  appended (Some l) told differ = grown m old locked new made puts named locks l.items ∙ ap (λ t. Some (bytes_at old (log_place m.name) ++ t)) told.1

  unmoved : (l : Option (Vec ℕ Global)) → IsLineFor m l → m.entry.before ≡ m.entry.after → noted l (file_at locked (log_path_of made)) ≡ file_at old (log_place m.name)
  unmoved None told same = log_was m old locked new made puts named locks
  unmoved (Some l) told same = absurd (told.0 same)

  one_moved : NameMoved old new m
  one_moved = record {
    here = here_now m old locked new made puts named locks ∙ ap (λ (c : Contents). c.file) put_so ∙ new_text m old locked new made puts named locks;
    appended = λ differ. log_so ∙ appended puts.line puts.told differ;
    unmoved = λ same. log_so ∙ unmoved puts.line puts.told same;
  }

abbrev Made : Tree → Tree → Move → Type 0
Made locked new made = contents made new ≡ moved_by made.act (contents made locked)

module _ (old locked new : Tree) (locks : SameButLocks old locked) where
  each_moved : (moved : List MovedName) (taken : Option Bytes) (moves : List Move) → AreMovesOf moved taken locked moves → AllByRecursion (λ name. is_name name ≡ true) (edited_names moved taken)
      → AllByRecursion (Made locked new) moves → AllByRecursion (NameMoved old new) moved
  each_moved [] taken moves are named each = tt
  each_moved (m ∷ moved) taken [] are named each = absurd are
  each_moved (m ∷ moved) taken (made ∷ moves) are named each = (one_moved m old locked new made are.0 named.0 locks each.0, each_moved moved taken moves are.1 named.1 each.1)

  last_gone : (moved : List MovedName) (name : Bytes) (moves : List Move) → AreMovesOf moved (Some name) locked moves → AllByRecursion (Made locked new) moves
      → (file_at new name ≡ None) × (file_at new (log_place name) ≡ None)
  last_gone [] name [] are each = absurd are
  last_gone [] name (made ∷ moves) are each =
      let gone_so : contents made new ≡ moved_by Remove (contents made locked) = each.0 ∙ ap (λ act. moved_by act (contents made locked)) are.0.act in
      (ap (file_at new) (sym are.0.place) ∙ ap (λ (c : Contents). c.file) gone_so, ap (file_at new) (sym are.0.log) ∙ ap (λ (c : Contents). c.log) gone_so)
  last_gone (m ∷ moved) name [] are each = absurd are
  last_gone (m ∷ moved) name (made ∷ moves) are each = last_gone moved name moves are.1 each.1

module _ (kind : Kind) (moved : List MovedName) (taken : Option Bytes) (old locked new : Tree) (t : Option Transaction) (moves : List Move) (ready : IsReady kind moved taken old locked t moves) (done : IsCommitted t moves locked new) where
  has_gone : (o : Option Bytes) → AreMovesOf moved o locked moves → RecordsGo kind o old locked t → HasGone kind o old new
  has_gone None are records = unlocked kind moved taken old locked new t moves ready done.others records
  has_gone (Some name) are records =
      let both = last_gone old locked new ready.locks moved name moves are done.each in
      record {
        here = both.0;
        log = both.1;
        packed = subst (LacksRecord kind name (file_at old packed_place)) (sym (ended kind moved taken old locked new t moves ready done.others done.packed)) records;
      }

pub commit_makes : CommitMakes
commit_makes kind moved taken old locked new t moves ready done no_locks folders = record {
  each = each_moved old locked new ready.locks moved taken moves ready.moves_are ready.named done.each;
  gone = has_gone kind moved taken old locked new t moves ready done taken ready.moves_are ready.records;
  others = λ path names logs apart. elim (either (is_lock_file path)) [
    | inl lock ↦ no_locks path lock
    | inr plain ↦ others kind moved taken old locked new t moves ready done.others path names logs apart plain
  ];
  folders = folders;
}
