-- A change of names by a transaction: its moments, and its end.
use Rattle.std.proofs.Common.{◌≡◌, ◌≢◌, inl, inr, true, false, zero, suc, ◌<◌, length, List, [], ◌∷◌, ◌++◌, ◌||◌, refl, sym, ◌∙◌, ap, subst, Option, Some, None, bytes_eq, arith, ℕ, Vec}
use Rattle.std.specs.Prelude.{Contains}
use Rattle.std.specs.List.{AllByRecursion, list_any}
use Rattle.std.specs.declared.alloc.Global.{Global}
use Rattle.std.proofs.lemmas.Bool.{or_parts}
use Rattle.gix_hash.specs.declared.kind.Kind.{Kind}
use Rattle.gix_ref_file.specs.History.{Adds, History}
use Rattle.gix_ref_file.specs.Tree.{Tree}
use Rattle.gix_ref_file.proofs.Histories.{adds_both, adds_weaker}
use Rattle.gix_ref_file.proofs.Rooted.{adds_now}
use Rattle.gix_ref_edit.specs.declared.change.RefEdit.{RefEdit}
use Rattle.gix_ref_lock.specs.PackedEdits as packed
use Rattle.gix_ref_lock.specs.declared.packed.Transaction.{Transaction}
use Rattle.gix_ref_lock.specs.Committing.{IsCommitted}
use Rattle.gix_ref_lock.specs.Contents.{Contents, contents, moved as moved_by, act_line, lock_path_of, log_path_of}
use Rattle.gix_ref_lock.specs.Moves.{IsNone, all_paths, lock_paths}
use Rattle.gix_ref_lock.specs.Needs.{log_paths, noted_logs}
use Rattle.gix_ref_lock.specs.declared.act.Move.{Move}
use Rattle.gix_ref_transaction.specs.Paths.{places_of}
use Rattle.gix_ref_transaction.specs.Plans.{FoldersOfEdits}
use Rattle.gix_ref_transaction.specs.Rollback.{SameFilesBut, all_locks}
use Rattle.gix_ref_way.specs.Ways.{FoldersOnlyOf, IsAbove}
use Rattle.history_model.specs.Bytes.{Bytes}
use Rattle.history_model.specs.Forms.{is_name}
use Rattle.history_model.specs.Places.{file_at, packed_place, log_place, is_lock_file}
use Rattle.history_model.proofs.NameLemmas.{name-lock, log-lock}
use Rattle.history_model.proofs.PlaceLemmas.{apart_texts, one_text}
use Rattle.history_model.proofs.WholeLists.{either}
use Rattle.history_layout.specs.EditSteps.{MovedName, edited_names}
use Rattle.history_edits.specs.Bridges.{root_base}
use Rattle.history_edits.specs.EditCommits.{AreMovesOf, HasNameFolders, IsOfRecords, LocksAsBefore}
use Rattle.history_edits.specs.EditChanges.{PreparingPasses, CommittingPasses, CommittingMakes}
use Rattle.history_edits.specs.EditPlans.{AreEdits}
use Rattle.history_edits.proofs.CommitMoments.{commit_makes, commit_passes, readying_passes}
use Rattle.history_edits.proofs.NameFolders.{log_above, name_above}
use Rattle.history_edits.proofs.NamePlaces.{no_lock_stands}
use Rattle.history_edits.proofs.Unsplit.{unsplit_stay}
use Rattle.history_edits.proofs.WholeReads.{names_stand_in_place}

-- ---- folders

abbrev IsOneName : RefEdit → Type 0
IsOneName edit = is_name edit.name ≡ true

-- each edit is of a name
pub edits_named : (moved : List MovedName) (taken : Option Bytes) (edits : List RefEdit) → AllByRecursion (λ name. is_name name ≡ true) (edited_names moved taken) → AreEdits moved taken edits → AllByRecursion IsOneName edits
edits_named [] None edits named asks = subst (AllByRecursion IsOneName) (sym asks) tt
edits_named [] (Some name) [] named asks = absurd asks
edits_named [] (Some name) (edit ∷ edits) named asks = (ap is_name asks.0.name_is ∙ named.0, subst (AllByRecursion IsOneName) (sym asks.1) tt)
edits_named (m ∷ moved) taken [] named asks = absurd asks
edits_named (m ∷ moved) taken (edit ∷ edits) named asks = (ap is_name asks.0.name ∙ named.0, edits_named moved taken edits named.1 asks.1)

-- the file of an edit is that of its name
placed : (kind : Kind) (edits : List RefEdit) (path : Bytes) → AllByRecursion IsOneName edits → Contains (places_of (root_base kind) edits) path → is_name path ≡ true
placed kind [] path named (k, lt, is) = let none : ⊥ = omega (arith, lt) in absurd none
placed kind (edit ∷ edits) path named (zero, lt, is) = ap is_name (sym is ∙ (names_stand_in_place kind edit.name named.0).file) ∙ named.0
placed kind (edit ∷ edits) path named (suc k, lt, is) = placed kind edits path named.1 (k, omega (arith, lt), is)

pub folders_of_edits : (kind : Kind) (edits : List RefEdit) (old tree : Tree) → AllByRecursion IsOneName edits → FoldersOnlyOf (places_of (root_base kind) edits) old tree → HasNameFolders old → HasNameFolders tree
folders_of_edits kind edits old tree named only before path is = elim (only.came path is) [
  | inl was ↦ before path was
  | inr (other, among, above) ↦ name_above other path (placed kind edits other named among) above
]

-- the log of a move is that of a name
abbrev IsLogOfName : Bytes → Type 0
IsLogOfName path = (name : Bytes) × (is_name name ≡ true) × (path ≡ log_place name)

noted : (name log path : Bytes) (line : Option (Vec ℕ Global)) (rest : List Bytes) → is_name name ≡ true → log ≡ log_place name → Contains (noted_logs line log ++ rest) path → (Contains rest path → IsLogOfName path) → IsLogOfName path
noted name log path None rest named at among later = later among
noted name log path (Some line) rest named at (zero, lt, is) later = (name, named, sym is ∙ at)
noted name log path (Some line) rest named at (suc k, lt, is) later = later (k, omega (arith, lt), is)

logged_at : (moved : List MovedName) (taken : Option Bytes) (locked : Tree) (moves : List Move) (path : Bytes) → AllByRecursion (λ name. is_name name ≡ true) (edited_names moved taken) → AreMovesOf moved taken locked moves → Contains (log_paths moves) path → IsLogOfName path
logged_at [] None locked [] path named are (k, lt, is) = let none : ⊥ = omega (arith, lt) in absurd none
logged_at [] None locked (made ∷ moves) path named are among = cc
logged_at [] (Some name) locked [] path named are among = absurd are
logged_at [] (Some name) locked (made ∷ moves) path named are among =
    noted name (log_path_of made) path (act_line made.act) (log_paths moves) named.0 are.0.log among
    (λ (k, lt, is). let under : k < 0 = subst (λ (ms : List Move). k < length (log_paths ms)) are.1 lt in
    let none : ⊥ = omega (arith, under) in
    absurd none)
logged_at (m ∷ moved) taken locked [] path named are among = absurd are
logged_at (m ∷ moved) taken locked (made ∷ moves) path named are among =
    noted m.name (log_path_of made) path (act_line made.act) (log_paths moves) named.0 are.0.log among (λ later. logged_at moved taken locked moves path named.1 are.1 later)

folders_of_logs : (moved : List MovedName) (taken : Option Bytes) (locked tree : Tree) (moves : List Move) → AllByRecursion (λ name. is_name name ≡ true) (edited_names moved taken) → AreMovesOf moved taken locked moves
    → FoldersOnlyOf (log_paths moves) locked tree → HasNameFolders locked → HasNameFolders tree
folders_of_logs moved taken locked tree moves named are only before path is = elim (only.came path is) [
  | inl was ↦ before path was
  | inr (other, among, above) ↦ let log = logged_at moved taken locked moves other named are among in log_above log.0 path log.1 (subst (IsAbove path) log.2 above)
]

-- what each moment has the present has
pub now_too : (P : Tree → Type 0) (old new : History) → Adds P old new → P old.tree → P new.tree
now_too P old new adds before = elim (adds_now P old new adds) [ inl same ↦ subst P (sym same) before | inr now ↦ now ]

-- ---- while they are prepared

pub preparing_passes : PreparingPasses
preparing_passes r read committer moved taken edits old mid holds asked same only = (
  adds_weaker old mid (adds_both old mid same only) (λ t (stays, folders). readying_passes r.kind moved taken old.tree t asked.named stays (named t folders)),
  now_too HasNameFolders old mid (adds_weaker old mid only named) holds.folders,
)
  where
    named : (t : Tree) → FoldersOfEdits read (root_base r.kind) edits old.tree t → HasNameFolders t
    named t (split, is_split, folders) =
        folders_of_edits r.kind edits old.tree t (edits_named moved taken edits asked.named asked.asks)
        (subst (λ es. FoldersOnlyOf (places_of (root_base r.kind) es) old.tree t) (unsplit_stay read edits split asked.plain is_split) folders) holds.folders

-- ---- while they are committed

pub committing_passes : CommittingPasses
committing_passes r moved taken old mid new t moves ready before way only = (
  adds_weaker mid new (adds_both mid new way only) (λ x (on, folders). commit_passes r.kind moved taken old mid.tree x t moves ready on (named x folders)),
  now_too HasNameFolders mid new (adds_weaker mid new only named) before,
)
  where
    named : (x : Tree) → FoldersOnlyOf (log_paths moves) mid.tree x → HasNameFolders x
    named x folders = folders_of_logs moved taken mid.tree x moves ready.named ready.moves_are folders before

-- ---- in the end

pub plain_apart : (path other : Bytes) → is_lock_file path ≡ true → is_lock_file other ≡ false → path ≢ other
plain_apart path other is_lock plain same = let wrong : true ≡ false = sym is_lock ∙ ap is_lock_file same ∙ plain in absurd (cc wrong)

module _ (locked new : Tree) where
  abbrev Made : Move → Type 0
  Made made = contents made new ≡ moved_by made.act (contents made locked)

  -- a lock of the moves is gone
  gone_of : (moved : List MovedName) (taken : Option Bytes) (moves : List Move) (path : Bytes) → AreMovesOf moved taken locked moves → AllByRecursion Made moves → list_any (bytes_eq path) (lock_paths moves) ≡ true → file_at new path ≡ None
  gone_of [] None [] path are each some = cc
  gone_of [] None (made ∷ moves) path are each some = cc
  gone_of [] (Some name) [] path are each some = absurd are
  gone_of [] (Some name) (made ∷ moves) path are each some = elim (either (bytes_eq path (lock_path_of made))) [
    | inl e ↦ ap (file_at new) (one_text path (lock_path_of made) e) ∙ ap (λ (c : Contents). c.lock) (each.0 ∙ ap (λ act. moved_by act (contents made locked)) are.0.act)
    | inr e ↦ let none : list_any (bytes_eq path) (lock_paths moves) ≡ false = ap (λ (ms : List Move). list_any (bytes_eq path) (lock_paths ms)) are.1 in cc
  ]
  gone_of (m ∷ moved) taken [] path are each some = absurd are
  gone_of (m ∷ moved) taken (made ∷ moves) path are each some = elim (either (bytes_eq path (lock_path_of made))) [
    | inl e ↦ ap (file_at new) (one_text path (lock_path_of made) e) ∙ ap (λ (c : Contents). c.lock) (each.0 ∙ ap (λ act. moved_by act (contents made locked)) are.0.act)
    | inr e ↦ gone_of moved taken moves path are.1 each.1 (subst (λ b. (b || list_any (bytes_eq path) (lock_paths moves)) ≡ true) e some)
  ]

  -- a lock's path that is none of these is none of the moves'
  none_of : (moved : List MovedName) (taken : Option Bytes) (moves : List Move) (path : Bytes) → AreMovesOf moved taken locked moves → AllByRecursion (λ name. is_name name ≡ true) (edited_names moved taken) → is_lock_file path ≡ true
      → list_any (bytes_eq path) (lock_paths moves) ≡ false → IsNone path (all_paths moves)
  none_of [] None [] path are named is_lock none = tt
  none_of [] None (made ∷ moves) path are named is_lock none = cc
  none_of [] (Some name) [] path are named is_lock none = absurd are
  none_of [] (Some name) (made ∷ moves) path are named is_lock none = (
    λ same. plain_apart path name is_lock (name-lock name named.0) (same ∙ are.0.place),
    (
      apart_texts path (lock_path_of made) (or_parts (bytes_eq path (lock_path_of made)) (list_any (bytes_eq path) (lock_paths moves)) none).0,
      (λ same. plain_apart path (log_place name) is_lock (log-lock name named.0) (same ∙ are.0.log), subst (λ ms. IsNone path (all_paths ms)) (sym are.1) tt),
    ),
  )
  none_of (m ∷ moved) taken [] path are named is_lock none = absurd are
  none_of (m ∷ moved) taken (made ∷ moves) path are named is_lock none =
      let parts = or_parts (bytes_eq path (lock_path_of made)) (list_any (bytes_eq path) (lock_paths moves)) none in (
        λ same. plain_apart path m.name is_lock (name-lock m.name named.0) (same ∙ are.0.place),
        (
          apart_texts path (lock_path_of made) parts.0,
          (λ same. plain_apart path (log_place m.name) is_lock (log-lock m.name named.0) (same ∙ are.0.log), none_of moved taken moves path are.1 named.1 is_lock parts.1),
        ),
      )

pub none_locked : (path : Bytes) (moves : List Move) → list_any (bytes_eq path) (lock_paths moves) ≡ false → IsNone path (lock_paths moves)
none_locked path [] none = tt
none_locked path (made ∷ moves) none =
    let parts = or_parts (bytes_eq path (lock_path_of made)) (list_any (bytes_eq path) (lock_paths moves)) none in
    (apart_texts path (lock_path_of made) parts.0, none_locked path moves parts.1)

pub committing_makes : CommittingMakes
committing_makes r moved taken old locked new t moves holds ready files done folders = commit_makes r.kind moved taken old locked new t moves ready done locks folders
  where
    none : (path : Bytes) → is_lock_file path ≡ true → file_at old path ≡ None
    none path is_lock = no_lock_stands r old holds path is_lock

    other : (path : Bytes) → is_lock_file path ≡ true → list_any (bytes_eq path) (lock_paths moves) ≡ false → (o : Option Transaction) → IsOfRecords o → IsCommitted o moves locked new → SameFilesBut (all_locks o moves) old locked
        → file_at new path ≡ None
    other path is_lock apart None at end same =
        end.others path (none_of locked new moved taken moves path ready.moves_are ready.named is_lock apart) ∙ same path (none_locked path moves apart) ∙ none path is_lock
    other path is_lock apart (Some x) at end same = elim (either (bytes_eq path (packed.lock_path_of x))) [
      | inl e ↦ ap (file_at new) (one_text path (packed.lock_path_of x) e) ∙ end.unlocked
      | inr e ↦ let differ = apart_texts path (packed.lock_path_of x) e in
          end.others path (λ is. plain_apart path packed_place is_lock refl (is ∙ at), (differ, none_of locked new moved taken moves path ready.moves_are ready.named is_lock apart))
          ∙ same path (differ, none_locked path moves apart) ∙ none path is_lock
    ]

    gone : (path : Bytes) → is_lock_file path ≡ true → file_at new path ≡ None
    gone path is_lock = elim (either (list_any (bytes_eq path) (lock_paths moves))) [
      | inl some ↦ gone_of locked new moved taken moves path ready.moves_are done.each some
      | inr apart ↦ other path is_lock apart t ready.at_records done files
    ]

    locks : LocksAsBefore old new
    locks path is_lock = gone path is_lock ∙ sym (none path is_lock)
