-- A commit of a pack, moment by moment.
use Rattle.std.proofs.Common.{◌≡◌, ◌≢◌, ◌⊎◌, inl, inr, true, false, ◌||◌, ◌<◌, length, List, [], ◌∷◌, ◌++◌, map, refl, sym, ◌∙◌, ap, subst, Option, Some, None, bytes_eq, arith}
use Rattle.std.specs.List.{AllByRecursion, AllZip, list_any}
use Rattle.std.proofs.lemmas.Bool.{or_from, or_parts}
use Rattle.gix_ref_file.specs.Tree.{Tree}
use Rattle.gix_ref_file.proofs.Histories.{adds_both, adds_weaker}
use Rattle.gix_ref_lock.specs.PackedEdits as packed
use Rattle.gix_ref_lock.specs.declared.packed.Transaction.{Transaction}
use Rattle.gix_ref_lock.specs.Committing.{OnTheWay, IsCommitted, EachOf, FileStays, PackedStays, PackedIsNew, commit_paths}
use Rattle.gix_ref_lock.specs.Contents.{Contents, IsBetween, act_line, contents, moved as moved_by, place_of, lock_path_of, log_path_of}
use Rattle.gix_ref_lock.specs.Moments.{SameButLocks}
use Rattle.gix_ref_lock.specs.Moves.{IsNone, all_paths, lock_paths}
use Rattle.gix_ref_lock.specs.Needs.{log_paths, noted_logs}
use Rattle.gix_ref_lock.specs.declared.act.Act.TheVariants.{Pack}
use Rattle.gix_ref_lock.specs.declared.act.Move.{Move}
use Rattle.gix_ref_transaction.specs.Paths.{places_of}
use Rattle.gix_ref_transaction.specs.Plans.{FoldersOfEdits}
use Rattle.gix_ref_transaction.specs.Rollback.{SameFilesBut, all_locks}
use Rattle.gix_ref_way.specs.Ways.{FoldersOnlyOf}
use Rattle.history_model.specs.Bytes.{Bytes}
use Rattle.history_model.specs.Forms.{is_name, is_private}
use Rattle.history_model.specs.Places.{file_at, packed_place, log_place, is_lock_file, is_log_place}
use Rattle.history_model.specs.Repository.{Repository, stands}
use Rattle.history_model.proofs.NameLemmas.{name-log, name-lock, log-lock}
use Rattle.history_model.proofs.PlaceLemmas.{apart_texts, one_text, texts_apart}
use Rattle.history_model.proofs.WholeLists.{either}
use Rattle.history_layout.specs.PackSteps.{HasPacked, PacksAll, PacksNames, PacksOnTheWay, WritesAll, WritesPacked}
use Rattle.history_layout.proofs.TreeMoves.{packed_apart}
use Rattle.history_edits.specs.Bridges.{records_end, root_base}
use Rattle.history_edits.specs.EditCommits.{HasNameFolders, IsOfRecords}
use Rattle.history_edits.specs.PackPlans.{IsPackReady, PackCommits, PackIsMade, PackPrepares, PacksName, WritesRecords, still}
use Rattle.history_edits.proofs.CommitMoments.{lock_is, no_lock, none_of_all, records_apart}
use Rattle.history_edits.proofs.EditChanges.{edits_named, folders_of_edits, none_locked, now_too, plain_apart}
use Rattle.history_edits.proofs.EditsReady.{none_of_locks}
use Rattle.history_edits.proofs.NamePlaces.{formed, no_lock_stands}
use Rattle.history_edits.proofs.PackPlanned.{packs_fit}
use Rattle.history_edits.proofs.Unsplit.{unsplit_stay}

-- ---- while the edits are prepared

pub pack_prepares : PackPrepares
pack_prepares r read kept wanted edits old mid all same only = (
  adds_weaker old mid (adds_both old mid same only) (λ t (stays, folders). passes t stays (named t folders)),
  now_too HasNameFolders old mid (adds_weaker old mid only named) all.holds.folders,
)
  where
    passes : (tree : Tree) → SameButLocks old.tree tree → HasNameFolders tree → PacksOnTheWay r old.tree tree
    passes tree stays folders = record {
      packed = inl (stays packed_place refl);
      here = λ name there. inl (stays name (name-lock name (formed r old.tree all.holds name there)));
      others = λ path away apart plain. stays path plain;
      folders = folders;
    }

    named : (t : Tree) → FoldersOfEdits read (root_base r.kind) edits old.tree t → HasNameFolders t
    named t (split, is_split, folders) =
        let fit = packs_fit r old.tree kept wanted edits all in
        folders_of_edits r.kind edits old.tree t (edits_named (map still all.asks.asked) None edits fit.0.named fit.1)
        (subst (λ es. FoldersOnlyOf (places_of (root_base r.kind) es) old.tree t) (unsplit_stay read edits split fit.2 is_split) folders) all.holds.folders

-- ---- the moves

module _ (locked tree : Tree) where
  -- the name's file is as before, or gone
  file_of : (names : List Bytes) (moves : List Move) (name : Bytes) → AllZip PacksName names moves → EachOf IsBetween moves locked tree → list_any (bytes_eq name) names ≡ true → (file_at tree name ≡ file_at locked name) ⊎ (file_at tree name ≡ None)
  file_of [] moves name are each among = cc
  file_of (n ∷ names) [] name are each among = absurd are
  file_of (n ∷ names) (made ∷ moves) name are each among = elim (either (bytes_eq name n)) [
    | inl e ↦ let at : name ≡ place_of made = one_text name n e ∙ sym are.0.place in
        elim (subst (λ act. IsBetween act (contents made locked) (contents made tree)) are.0.act each.0).file [
          | inl same ↦ inl (ap (file_at tree) at ∙ same ∙ ap (file_at locked) (sym at))
          | inr gone ↦ inr (ap (file_at tree) at ∙ gone.0)
        ]
    | inr e ↦ file_of names moves name are.1 each.1 (subst (λ b. (b || list_any (bytes_eq name) names) ≡ true) e among)
  ]

  stays_of : (names : List Bytes) (moves : List Move) (name : Bytes) → AllZip PacksName names moves → EachOf FileStays moves locked tree → list_any (bytes_eq name) names ≡ true → file_at tree name ≡ file_at locked name
  stays_of [] moves name are each among = cc
  stays_of (n ∷ names) [] name are each among = absurd are
  stays_of (n ∷ names) (made ∷ moves) name are each among = elim (either (bytes_eq name n)) [
    | inl e ↦ let at : name ≡ place_of made = one_text name n e ∙ sym are.0.place in
        ap (file_at tree) at ∙ subst (λ act. FileStays act (contents made locked) (contents made tree)) are.0.act each.0 ∙ ap (file_at locked) (sym at)
    | inr e ↦ stays_of names moves name are.1 each.1 (subst (λ b. (b || list_any (bytes_eq name) names) ≡ true) e among)
  ]

  -- the logs are as before
  log_of : (names : List Bytes) (moves : List Move) (path : Bytes) → AllZip PacksName names moves → EachOf IsBetween moves locked tree → list_any (bytes_eq path) (map log_place names) ≡ true → file_at tree path ≡ file_at locked path
  log_of [] moves path are each among = cc
  log_of (n ∷ names) [] path are each among = absurd are
  log_of (n ∷ names) (made ∷ moves) path are each among = elim (either (bytes_eq path (log_place n))) [
    | inl e ↦ let at : path ≡ log_path_of made = one_text path (log_place n) e ∙ sym are.0.log in
        ap (file_at tree) at ∙ (subst (λ act. IsBetween act (contents made locked) (contents made tree)) are.0.act each.0).log ∙ ap (file_at locked) (sym at)
    | inr e ↦ log_of names moves path are.1 each.1 (subst (λ b. (b || list_any (bytes_eq path) (map log_place names)) ≡ true) e among)
  ]

  abbrev Made : Move → Type 0
  Made made = contents made tree ≡ moved_by made.act (contents made locked)

  made_of : (made : Move) (name : Bytes) → PacksName name made → Made made → contents made tree ≡ moved_by (Pack None) (contents made locked)
  made_of made name packs is = is ∙ ap (λ act. moved_by act (contents made locked)) packs.act

  gone_of : (names : List Bytes) (moves : List Move) (name : Bytes) → AllZip PacksName names moves → AllByRecursion Made moves → list_any (bytes_eq name) names ≡ true → file_at tree name ≡ None
  gone_of [] moves name are each among = cc
  gone_of (n ∷ names) [] name are each among = absurd are
  gone_of (n ∷ names) (made ∷ moves) name are each among = elim (either (bytes_eq name n)) [
    | inl e ↦ ap (file_at tree) (one_text name n e ∙ sym are.0.place) ∙ ap (λ (c : Contents). c.file) (made_of made n are.0 each.0)
    | inr e ↦ gone_of names moves name are.1 each.1 (subst (λ b. (b || list_any (bytes_eq name) names) ≡ true) e among)
  ]

  kept_of : (names : List Bytes) (moves : List Move) (path : Bytes) → AllZip PacksName names moves → AllByRecursion Made moves → list_any (bytes_eq path) (map log_place names) ≡ true → file_at tree path ≡ file_at locked path
  kept_of [] moves path are each among = cc
  kept_of (n ∷ names) [] path are each among = absurd are
  kept_of (n ∷ names) (made ∷ moves) path are each among = elim (either (bytes_eq path (log_place n))) [
    | inl e ↦ let at : path ≡ log_path_of made = one_text path (log_place n) e ∙ sym are.0.log in
        ap (file_at tree) at ∙ ap (λ (c : Contents). c.log) (made_of made n are.0 each.0) ∙ ap (file_at locked) (sym at)
    | inr e ↦ kept_of names moves path are.1 each.1 (subst (λ b. (b || list_any (bytes_eq path) (map log_place names)) ≡ true) e among)
  ]

  unlocked_of : (names : List Bytes) (moves : List Move) (path : Bytes) → AllZip PacksName names moves → AllByRecursion Made moves → list_any (bytes_eq path) (lock_paths moves) ≡ true → file_at tree path ≡ None
  unlocked_of names [] path are each among = cc
  unlocked_of [] (made ∷ moves) path are each among = absurd are
  unlocked_of (n ∷ names) (made ∷ moves) path are each among = elim (either (bytes_eq path (lock_path_of made))) [
    | inl e ↦ ap (file_at tree) (one_text path (lock_path_of made) e) ∙ ap (λ (c : Contents). c.lock) (made_of made n are.0 each.0)
    | inr e ↦ unlocked_of names moves path are.1 each.1 (subst (λ b. (b || list_any (bytes_eq path) (lock_paths moves)) ≡ true) e among)
  ]

-- a path of none of the names is none of the moves'
none_of_moves : (path : Bytes) (names : List Bytes) (moves : List Move) → AllZip PacksName names moves → is_lock_file path ≡ false → list_any (bytes_eq path) names ≡ false → list_any (bytes_eq path) (map log_place names) ≡ false → IsNone path (all_paths moves)
none_of_moves path [] [] are plain own logs = tt
none_of_moves path [] (made ∷ moves) are plain own logs = absurd are
none_of_moves path (n ∷ names) [] are plain own logs = absurd are
none_of_moves path (n ∷ names) (made ∷ moves) are plain own logs =
    let names_apart = or_parts (bytes_eq path n) (list_any (bytes_eq path) names) own in
    let logs_apart = or_parts (bytes_eq path (log_place n)) (list_any (bytes_eq path) (map log_place names)) logs in (
      λ same. apart_texts path n names_apart.0 (same ∙ are.0.place),
      (
        no_lock path (lock_path_of made) plain (lock_is made),
        (
          λ same. apart_texts path (log_place n) logs_apart.0 (same ∙ are.0.log),
          none_of_moves path names moves are.1 plain names_apart.1 logs_apart.1,
        ),
      ),
    )

-- a lock's path that is none of these is none of the moves'
none_of_locked : (path : Bytes) (names : List Bytes) (moves : List Move) → AllZip PacksName names moves → AllByRecursion (λ name. is_name name ≡ true) names → is_lock_file path ≡ true → list_any (bytes_eq path) (lock_paths moves) ≡ false → IsNone path (all_paths moves)
none_of_locked path [] [] are named is_lock none = tt
none_of_locked path [] (made ∷ moves) are named is_lock none = absurd are
none_of_locked path (n ∷ names) [] are named is_lock none = absurd are
none_of_locked path (n ∷ names) (made ∷ moves) are named is_lock none =
    let parts = or_parts (bytes_eq path (lock_path_of made)) (list_any (bytes_eq path) (lock_paths moves)) none in (
      λ same. plain_apart path n is_lock (name-lock n named.0) (same ∙ are.0.place),
      (
        apart_texts path (lock_path_of made) parts.0,
        (λ same. plain_apart path (log_place n) is_lock (log-lock n named.0) (same ∙ are.0.log), none_of_locked path names moves are.1 named.1 is_lock parts.1),
      ),
    )

-- no log gets a line
none_logged : (names : List Bytes) (moves : List Move) → AllZip PacksName names moves → log_paths moves ≡ []
none_logged [] [] are = refl
none_logged [] (made ∷ moves) are = absurd are
none_logged (n ∷ names) [] are = absurd are
none_logged (n ∷ names) (made ∷ moves) are = ap (λ act. noted_logs (act_line act) (log_path_of made) ++ log_paths moves) are.0.act ∙ none_logged names moves are.1

-- ---- what is ready

module _ (r : Repository) (names : List Bytes) (old locked tree : Tree) (t : Option Transaction) (moves : List Move) (ready : IsPackReady r names old locked t moves) where
  named_each : (ns : List Bytes) → AllByRecursion (λ name. stands r name ≡ true) ns → AllByRecursion (λ name. is_name name ≡ true) ns
  named_each [] all = tt
  named_each (n ∷ ns) all = (formed r old ready.holds n all.0, named_each ns all.1)

  named : AllByRecursion (λ name. is_name name ≡ true) names
  named = named_each names ready.stood

  locks : SameButLocks old locked
  locks path plain = ready.files path (none_of_locks path plain t moves)

  stood_each : (ns : List Bytes) (name : Bytes) → AllByRecursion (λ n. stands r n ≡ true) ns → stands r name ≡ false → list_any (bytes_eq name) ns ≡ false
  stood_each [] name all away = refl
  stood_each (n ∷ ns) name all away = or_from (bytes_eq name n) (list_any (bytes_eq name) ns)
      (texts_apart name n (λ same. absurd (cc (sym away ∙ ap (stands r) same ∙ all.0)))) (stood_each ns name all.1 away)

  -- what is none of the names
  not_named : (path : Bytes) → stands r path ≡ false → list_any (bytes_eq path) names ≡ false
  not_named path away = stood_each names path ready.stood away

  module _ (rest : (path : Bytes) → IsNone path (commit_paths t moves) → file_at tree path ≡ file_at locked path) where
    -- if records aren't locked they are as before
    unlocked : t ≡ None → file_at tree packed_place ≡ file_at old packed_place
    unlocked none =
        let apart = records_apart old locked tree locks names named in
        rest packed_place (subst (λ o. IsNone packed_place (commit_paths o moves)) (sym none) (none_of_moves packed_place names moves ready.moves_are refl apart.0 apart.1)) ∙ locks packed_place refl

    stayed : PackedStays t locked tree → file_at tree packed_place ≡ file_at old packed_place
    stayed stays = go t refl ready.at_records stays
      where
        go : (o : Option Transaction) → t ≡ o → IsOfRecords o → PackedStays o locked tree → file_at tree packed_place ≡ file_at old packed_place
        go None is at h = unlocked is
        go (Some x) is at h = ap (file_at tree) (sym at) ∙ h ∙ ap (file_at locked) at ∙ locks packed_place refl

    ended : PackedIsNew t locked tree → file_at tree packed_place ≡ records_end old locked t
    ended new = go t refl ready.at_records new
      where
        go : (o : Option Transaction) → t ≡ o → IsOfRecords o → PackedIsNew o locked tree → file_at tree packed_place ≡ records_end old locked o
        go None is at h = unlocked is
        go (Some x) is at h = ap (file_at tree) (sym at) ∙ h

    has : PackedIsNew t locked tree → HasPacked r tree
    has new = subst (PacksAll r) (sym (ended new)) ready.records

    -- a path of none of the moves
    elsewhere : (path : Bytes) → list_any (bytes_eq path) names ≡ false → list_any (bytes_eq path) (map log_place names) ≡ false → path ≢ packed_place → is_lock_file path ≡ false → file_at tree path ≡ file_at old path
    elsewhere path own logs apart plain =
        rest path (none_of_all old locked tree locks path t moves ready.at_records plain apart (none_of_moves path names moves ready.moves_are plain own logs)) ∙ locks path plain

    -- what doesn't exist is as before, if logs are
    others : ((path : Bytes) → list_any (bytes_eq path) (map log_place names) ≡ true → file_at tree path ≡ file_at locked path) → (path : Bytes) → stands r path ≡ false → path ≢ packed_place → is_lock_file path ≡ false → file_at tree path ≡ file_at old path
    others logs path away apart plain = elim (either (list_any (bytes_eq path) (map log_place names))) [
      | inl among ↦ logs path among ∙ locks path plain
      | inr none ↦ elsewhere path (not_named path away) none apart plain
    ]

    -- a name that isn't asked for is as before
    no_log : (name : Bytes) → is_name name ≡ true → list_any (bytes_eq name) (map log_place names) ≡ false
    no_log name is = go names
      where
        go : (ns : List Bytes) → list_any (bytes_eq name) (map log_place ns) ≡ false
        go [] = refl
        go (n ∷ ns) = or_from (bytes_eq name (log_place n)) (list_any (bytes_eq name) (map log_place ns))
            (texts_apart name (log_place n) (λ same. let wrong : false ≡ true = sym (name-log name is) ∙ ap is_log_place same in absurd (cc wrong))) (go ns)

    left : (name : Bytes) → stands r name ≡ true → list_any (bytes_eq name) names ≡ false → file_at tree name ≡ file_at old name
    left name there away =
        let is = formed r old ready.holds name there in
        elsewhere name away (no_log name is) (λ same. packed_apart name is (sym same)) (name-lock name is)

-- ---- on the way

module _ (r : Repository) (names : List Bytes) (old locked tree : Tree) (t : Option Transaction) (moves : List Move) (ready : IsPackReady r names old locked t moves) (way : OnTheWay t moves locked tree) (folders : HasNameFolders tree) where
  is_plain : (name : Bytes) → stands r name ≡ true → is_lock_file name ≡ false
  is_plain name there = name-lock name (formed r old ready.holds name there)

  goes : (name : Bytes) → stands r name ≡ true → list_any (bytes_eq name) names ≡ true → (file_at tree name ≡ file_at old name) ⊎ ((file_at tree name ≡ None) × (is_private name ≡ false) × HasPacked r tree)
  goes name there among = elim way.records [
    | inl stays ↦ inl (stays_of locked tree names moves name ready.moves_are stays among ∙ locks r names old locked tree t moves ready name (is_plain name there))
    | inr new ↦ elim (file_of locked tree names moves name ready.moves_are way.each among) [
      | inl same ↦ inl (same ∙ locks r names old locked tree t moves ready name (is_plain name there))
      | inr gone ↦ inr (gone, ready.public name there, has r names old locked tree t moves ready way.others new)
    ]
  ]

  on_the_way : PacksOnTheWay r old tree
  on_the_way = record {
    packed = elim way.packed [
      | inl stays ↦ inl (stayed r names old locked tree t moves ready way.others stays)
      | inr new ↦ inr (has r names old locked tree t moves ready way.others new)
    ];
    here = λ name there. elim (either (list_any (bytes_eq name) names)) [
      | inl among ↦ goes name there among
      | inr away ↦ inl (left r names old locked tree t moves ready way.others name there away)
    ];
    others = others r names old locked tree t moves ready way.others (λ path among. log_of locked tree names moves path ready.moves_are way.each among);
    folders = folders;
  }

pub pack_commits : PackCommits
pack_commits r names old mid new t moves ready before way only = (
  adds_weaker mid new (adds_both mid new way only) (λ x (on, folders). on_the_way r names old mid.tree x t moves ready on (named_now x folders)),
  now_too HasNameFolders mid new (adds_weaker mid new only named_now) before,
)
  where
    named_now : (x : Tree) → FoldersOnlyOf (log_paths moves) mid.tree x → HasNameFolders x
    named_now x folders path is = elim (folders.came path is) [
      | inl was ↦ before path was
      | inr (other, (k, lt, at), above) ↦ let under : k < 0 = subst (λ (ls : List Bytes). k < length ls) (none_logged names moves ready.moves_are) lt in
          let none : ⊥ = omega (arith, under) in
          absurd none
    ]

-- ---- in the end

module _ (r : Repository) (names : List Bytes) (old locked new : Tree) (t : Option Transaction) (moves : List Move) (ready : IsPackReady r names old locked t moves) (done : IsCommitted t moves locked new) where
  none_old : (path : Bytes) → is_lock_file path ≡ true → file_at old path ≡ None
  none_old path is_lock = no_lock_stands r old ready.holds path is_lock

  other : (path : Bytes) → is_lock_file path ≡ true → list_any (bytes_eq path) (lock_paths moves) ≡ false → (o : Option Transaction) → IsOfRecords o → IsCommitted o moves locked new → SameFilesBut (all_locks o moves) old locked → file_at new path ≡ None
  other path is_lock apart None at end same =
      end.others path (none_of_locked path names moves ready.moves_are (named r names old locked new t moves ready) is_lock apart) ∙ same path (none_locked path moves apart) ∙ none_old path is_lock
  other path is_lock apart (Some x) at end same = elim (either (bytes_eq path (packed.lock_path_of x))) [
    | inl e ↦ ap (file_at new) (one_text path (packed.lock_path_of x) e) ∙ end.unlocked
    | inr e ↦ let differ = apart_texts path (packed.lock_path_of x) e in
        end.others path (λ is. plain_apart path packed_place is_lock refl (is ∙ at), (differ, none_of_locked path names moves ready.moves_are (named r names old locked new t moves ready) is_lock apart))
        ∙ same path (differ, none_locked path moves apart) ∙ none_old path is_lock
  ]

  lock_gone : (path : Bytes) → is_lock_file path ≡ true → file_at new path ≡ None
  lock_gone path is_lock = elim (either (list_any (bytes_eq path) (lock_paths moves))) [
    | inl some ↦ unlocked_of locked new names moves path ready.moves_are done.each some
    | inr apart ↦ other path is_lock apart t ready.at_records done ready.files
  ]

  made_new : file_at new packed_place ≡ records_end old locked t
  made_new = ended r names old locked new t moves ready done.others done.packed

  written : WritesPacked r old new
  written = go t refl ready.written made_new
    where
      go : (o : Option Transaction) → t ≡ o → WritesRecords r old locked o → file_at new packed_place ≡ records_end old locked o → WritesPacked r old new
      go None is was at = inl (was, at)
      go (Some x) is (name, there, text) at = inr (name, there, subst (WritesAll r) (sym at) text)

  made : HasNameFolders new → PacksNames r old new
  made folders = record {
    packed = has r names old locked new t moves ready done.others done.packed;
    written = written;
    gone = λ name there public. elim (either (list_any (bytes_eq name) names)) [
      | inl among ↦ gone_of locked new names moves name ready.moves_are done.each among
      | inr away ↦ left r names old locked new t moves ready done.others name there away ∙ ready.others name there away
    ];
    private = λ name there private. absurd (cc (sym private ∙ ready.public name there));
    others = λ path away apart. elim (either (is_lock_file path)) [
      | inl lock ↦ lock_gone path lock ∙ sym (none_old path lock)
      | inr plain ↦ others r names old locked new t moves ready done.others (λ p among. kept_of locked new names moves p ready.moves_are done.each among) path away apart plain
    ];
    folders = folders;
  }

pub pack_is_made : PackIsMade
pack_is_made r names old locked new t moves ready done folders = made r names old locked new t moves ready done folders
