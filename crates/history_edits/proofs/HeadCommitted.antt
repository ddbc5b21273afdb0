-- What is prepared of a switch can be committed, and HEAD then names the branch.
use Rattle.std.proofs.Common.{◌≡◌, inl, inr, true, List, [], ◌∷◌, refl, sym, ◌∙◌, ap, subst, Option, Some, None, bytes_eq, ◌++◌, ◌<◌, zero, suc, length, arith, Bool, false, ◌||◌, ◌==◌}
use Rattle.std.specs.Prelude.{Contains, is_some}
use Rattle.gix_ref_file.specs.Tree.{Tree, IsRooted}
use Rattle.gix_ref_file.specs.Changes.{is_file_at}
use Rattle.gix_ref_file.proofs.Rooted.{file_room}
use Rattle.std.proofs.lemmas.List.Folds.{list_any-append}
use Rattle.gix_hash.specs.declared.kind.Kind.{Kind}
use Rattle.gix_ref_edit.specs.declared.change.RefEdit.{RefEdit}
use Rattle.gix_ref_lock.specs.Locks.{lock_of}
use Rattle.gix_ref_lock.specs.declared.packed.Transaction.{Transaction}
use Rattle.gix_ref_lock.specs.Committing.{IsCommitted, OnTheWay}
use Rattle.gix_ref_lock.specs.Contents.{Contents, act_line, contents, moved as moved_by, place_of, lock_path_of, log_path_of}
use Rattle.gix_ref_lock.specs.Moments.{SameButLocks}
use Rattle.gix_ref_lock.specs.Needs.{AreBeside, CanCommit, CanNote, log_paths, noted_logs}
use Rattle.gix_ref_lock.specs.declared.act.Move.{Move}
use Rattle.gix_ref_store.specs.Places as store
use Rattle.gix_ref_transaction.specs.Paths.{places_of}
use Rattle.gix_ref_way.specs.Ways.{FoldersOnlyOf, IsAbove}
use Rattle.history_model.specs.Bytes.{Bytes, has_byte}
use Rattle.history_model.specs.Places.{file_at, head_place, log_place, is_lock_file}
use Rattle.history_model.proofs.WholeLists.{either}
use Rattle.history_model.proofs.PlaceLemmas.{apart_texts, one_text}
use Rattle.history_edits.specs.Bridges.{root_base}
use Rattle.history_edits.specs.EditCommits.{HasNameFolders, LocksAsBefore}
use Rattle.history_edits.specs.SwitchPlans.{AsksHead, IsHeadReady, HeadCommits, HeadPrepares, HeadSwitches, HeadSwitched}
use Rattle.history_edits.proofs.CommitMoments.{lock_is, no_lock}
use Rattle.history_edits.proofs.HeadPut.{switch_commit_makes, switch_commit_passes}
use Rattle.history_edits.proofs.NamePlaces.{beside, no_lock_stands}

pub head_prepares : HeadPrepares
head_prepares to old tree same folders = record { here = inl (same head_place refl); others = λ path apart plain. same path plain; folders = folders }

-- ---- folders

-- nothing is above HEAD
pub none_above : (place : Bytes) → IsAbove place head_place → ⊥
none_above place (rest, is) = wrong (ap (λ t. has_byte 47 t) is ∙ list_any-append (λ b. b == 47) place (47 ∷ rest) ∙ or_true (has_byte 47 place))
  where
    or_true : (b : Bool) → (b || true) ≡ true
    or_true true = refl
    or_true false = refl

    wrong : false ≡ true → ⊥
    wrong e = cc

pub only_one : {A : Type 0} (x y : A) → Contains (x ∷ []) y → x ≡ y
only_one x y (zero, lt, is) = is
only_one x y (suc k, lt, is) = let none : ⊥ = omega (arith, lt) in absurd none

-- none comes while HEAD's edit is prepared
pub folders_while : (kind : Kind) (from to : Bytes) (edit : RefEdit) (old tree : Tree) → AsksHead from to edit → FoldersOnlyOf (places_of (root_base kind) (edit ∷ [])) old tree → HasNameFolders old → HasNameFolders tree
folders_while kind from to edit old tree asks only named path is = elim (only.came path is) [
  | inl was ↦ named path was
  | inr (other, among, above) ↦ absurd (none_above path (subst (IsAbove path) (sym (only_one (store.place (root_base kind) edit.name) other among) ∙ ap (store.place (root_base kind)) asks.name) above))
]

-- ---- what is ready

module _ (to : Bytes) (old locked : Tree) (t : Option Transaction) (moves : List Move) (ready : IsHeadReady to old locked t moves) where
  abbrev made : Move
  made = ready.made

  place : place_of made ≡ head_place
  place = ready.puts.place

  lock : lock_path_of made ≡ lock_of head_place
  lock = made.lock.beside ∙ ap lock_of place

  as_one : (P : Option Transaction → List Move → Type 0) → P None (made ∷ []) → P t moves
  as_one P one = subst (λ o. P o moves) (sym ready.unpacked) (subst (P None) (sym ready.only) one)

  of_one : (P : Option Transaction → List Move → Type 0) → P t moves → P None (made ∷ [])
  of_one P all = subst (λ o. P o (made ∷ [])) ready.unpacked (subst (P t) ready.only all)

  pub can_commit : (branch : Bytes) → IsRooted locked → file_at locked head_place ≡ Some branch → CanCommit t moves locked
  can_commit branch rooted there = as_one (λ o ms. CanCommit o ms locked) (record {
    each = (
      record {
        held = ap is_some ready.puts.text;
        place = file_room locked (place_of made) rooted (ap (is_file_at locked) place ∙ ap is_some there);
        log = subst (λ act. CanNote (act_line act) (log_path_of made) locked) (sym ready.puts.act) tt;
      },
      tt,
    );
    packed = tt;
    apart = subst AreBeside (λ i. sym place i ∷ sym lock i ∷ sym ready.log i ∷ []) (beside (head_place ∷ lock_of head_place ∷ log_place head_place ∷ []) refl);
  })

  same : SameButLocks old locked
  same path plain = ready.files path (no_lock path (lock_path_of made) plain (lock_is made))

-- none comes while it is committed
pub folders_then : (to : Bytes) (old locked tree : Tree) (t : Option Transaction) (moves : List Move) → IsHeadReady to old locked t moves → FoldersOnlyOf (log_paths moves) locked tree → HasNameFolders locked → HasNameFolders tree
folders_then to old locked tree t moves ready only named path is = elim (only.came path is) [
  | inl was ↦ named path was
  | inr (other, (k, lt, at), above) ↦ let under : k < 0 = subst (λ (ls : List Bytes). k < length ls) none_logged lt in
      let none : ⊥ = omega (arith, under) in
      absurd none
]
  where
    none_logged : log_paths moves ≡ []
    none_logged = ap log_paths ready.only ∙ ap (λ act. noted_logs (act_line act) (log_path_of ready.made) ++ []) ready.puts.act

pub head_commits : HeadCommits
head_commits r to old locked t moves holds ready rooted = can_commit to old locked t moves ready _ rooted (same to old locked t moves ready head_place refl ∙ holds.head)

pub head_switches : HeadSwitches
head_switches to old locked tree t moves ready way folders =
    switch_commit_passes to old locked tree ready.made ready.puts (same to old locked t moves ready) (of_one to old locked t moves ready (λ o ms. OnTheWay o ms locked tree) way) folders

pub head_switched : HeadSwitched
head_switched r to old locked new t moves holds ready done folders =
    switch_commit_makes to old locked new ready.made ready.puts (same to old locked t moves ready) one locks folders
  where
    one : IsCommitted None (ready.made ∷ []) locked new
    one = of_one to old locked t moves ready (λ o ms. IsCommitted o ms locked new) done

    none : (path : Bytes) → is_lock_file path ≡ true → file_at old path ≡ None
    none path is_lock = no_lock_stands r old holds path is_lock

    gone : (path : Bytes) → is_lock_file path ≡ true → file_at new path ≡ None
    gone path is_lock = elim (either (bytes_eq path (lock_path_of ready.made))) [
      | inl e ↦ ap (file_at new) (one_text path (lock_path_of ready.made) e) ∙ ap (λ (c : Contents). c.lock) (one.each.0 ∙ ap (λ act. moved_by act (contents ready.made locked)) ready.puts.act)
      | inr e ↦ let other = apart_texts path (lock_path_of ready.made) e in
          one.others path (λ same_place. absurd (cc (is_lock, ap is_lock_file (same_place ∙ ready.puts.place))), (other, (λ same_log. absurd (cc (is_lock, ap is_lock_file (same_log ∙ ready.log))), tt)))
          ∙ ready.files path other ∙ none path is_lock
    ]

    locks : LocksAsBefore old new
    locks path is_lock = gone path is_lock ∙ sym (none path is_lock)
