-- A commit that replaces HEAD, moment by moment.
use Rattle.std.proofs.Common.{◌≡◌, ◌≢◌, inl, inr, false, [], ◌∷◌, refl, sym, ◌∙◌, ap, subst, Some, None, unwrap_or, bytes_eq}
use Rattle.gix_ref_file.specs.Tree.{Tree}
use Rattle.gix_ref_lock.specs.Committing.{OnTheWay, IsCommitted}
use Rattle.gix_ref_lock.specs.Contents.{Contents, IsBetween, contents, moved as moved_by, place_of, lock_path_of, log_path_of}
use Rattle.gix_ref_lock.specs.Moments.{SameButLocks}
use Rattle.gix_ref_lock.specs.Moves.{IsNone, all_paths}
use Rattle.gix_ref_lock.specs.declared.act.Act.TheVariants.{Put}
use Rattle.gix_ref_lock.specs.declared.act.Move.{Move}
use Rattle.history_model.specs.Bytes.{Bytes}
use Rattle.history_model.specs.Places.{file_at, head_place, is_lock_file}
use Rattle.history_model.specs.StandsFor.{head_text}
use Rattle.history_model.proofs.PlaceLemmas.{apart_texts, one_text}
use Rattle.history_model.proofs.WholeLists.{either}
use Rattle.history_layout.specs.SwitchSteps.{HeadOnTheWay, NamesBranch}
use Rattle.history_edits.specs.EditCommits.{HasNameFolders, LocksAsBefore}
use Rattle.history_edits.specs.SwitchPlans.{PutsHead}
use Rattle.history_edits.proofs.CommitMoments.{lock_is, no_lock}

module _ (branch : Bytes) (old locked tree : Tree) (made : Move) (puts : PutsHead branch locked made) (locks : SameButLocks old locked) where
  head_was : file_at locked (place_of made) ≡ file_at old head_place
  head_was = ap (file_at locked) puts.place ∙ locks head_place refl

  head_now : file_at tree head_place ≡ file_at tree (place_of made)
  head_now = ap (file_at tree) (sym puts.place)

  new_text : Some (unwrap_or (file_at locked (lock_path_of made)) []) ≡ Some (head_text branch)
  new_text = ap (λ o. Some (unwrap_or o [])) puts.text

  rest : file_at tree (log_path_of made) ≡ file_at locked (log_path_of made) → ((path : Bytes) → IsNone path (all_paths (made ∷ [])) → file_at tree path ≡ file_at locked path)
      → (path : Bytes) → path ≢ head_place → is_lock_file path ≡ false → file_at tree path ≡ file_at old path
  rest log others path apart plain = elim (either (bytes_eq path (log_path_of made))) [
    | inl e ↦ let one = one_text path (log_path_of made) e in ap (file_at tree) one ∙ log ∙ ap (file_at locked) (sym one) ∙ locks path plain
    | inr e ↦ others path (λ same. apart (same ∙ puts.place), (no_lock path (lock_path_of made) plain (lock_is made), (λ same. apart_texts path (log_path_of made) e same, tt))) ∙ locks path plain
  ]

  between : OnTheWay None (made ∷ []) locked tree → IsBetween (Put None) (contents made locked) (contents made tree)
  between way = subst (λ act. IsBetween act (contents made locked) (contents made tree)) puts.act way.each.0

  put_so : IsCommitted None (made ∷ []) locked tree → contents made tree ≡ moved_by (Put None) (contents made locked)
  put_so done = done.each.0 ∙ ap (λ act. moved_by act (contents made locked)) puts.act

pub switch_commit_passes : (branch : Bytes) (old locked tree : Tree) (made : Move) → PutsHead branch locked made → SameButLocks old locked → OnTheWay None (made ∷ []) locked tree → HasNameFolders tree → HeadOnTheWay branch old tree
switch_commit_passes branch old locked tree made puts locks way folders = record {
  here = elim (between branch old locked tree made puts locks way).file [
    | inl same ↦ inl (head_now branch old locked tree made puts locks ∙ same ∙ head_was branch old locked tree made puts locks)
    | inr new ↦ inr (head_now branch old locked tree made puts locks ∙ new.0 ∙ new_text branch old locked tree made puts locks)
  ];
  others = rest branch old locked tree made puts locks (between branch old locked tree made puts locks way).log way.others;
  folders = folders;
}

pub switch_commit_makes : (branch : Bytes) (old locked new : Tree) (made : Move) → PutsHead branch locked made → SameButLocks old locked → IsCommitted None (made ∷ []) locked new → LocksAsBefore old new → HasNameFolders new
    → NamesBranch branch old new
switch_commit_makes branch old locked new made puts locks done no_locks folders = record {
  here = head_now branch old locked new made puts locks ∙ ap (λ (c : Contents). c.file) (put_so branch old locked new made puts locks done) ∙ new_text branch old locked new made puts locks;
  others = λ path apart. elim (either (is_lock_file path)) [
    | inl lock ↦ no_locks path lock
    | inr plain ↦ rest branch old locked new made puts locks (ap (λ (c : Contents). c.log) (put_so branch old locked new made puts locks done)) done.others path apart plain
  ];
  folders = folders;
}
